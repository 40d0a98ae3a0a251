-- The cases of a subdivision, refusal by refusal, and what each test leaves for the next.
-- `standing-ready`, `centre-inner`, `ready-whole` what is known past 4 and 5, and past 7 and 8 · `vertex-4` .. `vertex-0` the outcome in each case ·
-- `call-1`, `call-3`, `call-looked`, `call-vertex` the call's · `looked-standing` a vertex as it is looked up.
-- Assumes nothing.
use Rattle.std.specs.Prelude.{◌≡◌, refl, Bool, true, false, ◌&&◌, List, ℕ, ◌≤◌, ◌<◌, ltb, ℤ, Option, Some, None}
use Rattle.std.proofs.Common.{sym, ◌∙◌, arith, lt-ltb, le-ltb, eq-eqb, ne_eqb}
use Rattle.std.proofs.Math.Path.{ap}
use Rattle.std.proofs.Math.Bool.{cond, not}
use Rattle.laws.specs.Each.{not-both, upto-each}
use Rattle.laws.specs.Rules.{upto}
use Rattle.laws.specs.Choices.{of-true}
use Rattle.lattice.specs.Patterns.{six}
use Rattle.lattice.specs.Subdivision.{centre_of, new_of}
use Rattle.lattice.specs.Records.{valid_of}
use Rattle.geometry.specs.SubdivisionLaws.{centre-valid}
use Rattle.lattice.specs.RecordLaws.{Inner, inner, valid-level}
use Rattle.lattice.specs.Points.{normal_of}
use Rattle.table.specs.Entries.{look_up, is_held, replace_of}
use Rattle.table.specs.MapLaws.{lookup-point, lookup-valid}
use Rattle.table.specs.Order.{InOrder, in_order_of}
use Rattle.table.specs.Slots.{free_slots}
use Rattle.lattice.specs.declared.points.Point.{Point}
use Rattle.lattice.specs.declared.records.Record.{Record}
use Rattle.mesh.specs.SubdivideLaws.{Ready, Intact}
use Rattle.mesh.specs.WriteLaws.{Standing}
use Rattle.mesh.specs.Subdivide.{adjacent_fits, new_fits, torn, subdivided, MeshAfter, mesh_after, subdivide_vertex, subdivide_looked}
use Rattle.mesh.specs.Subdivide.{subdivide_of, renewed_to, entered_to}

module _ (t : List ℕ) (v : Record) where
  pub standing-valid : Standing t v → valid_of v ≡ true
  standing-valid s = lookup-valid t s.order v.at v s.held

  -- past 4 and 5
  pub standing-ready : Standing t v → v.d ≡ 6 → (v.n.0 ≡ 12 → ⊥) → Ready t v
  standing-ready s six n = let l = valid-level v (of-true (standing-valid s)) in record { order = s.order; held = s.held; six = six; below = omega arith }

  pub centre-inner : Ready t v → Inner (centre_of v)
  centre-inner r =
      let six = r.six in
      inner (centre_of v) (centre-valid v (of-true (lookup-valid t r.order v.at v r.held)) six r.below) (omega arith)

  absent-looked : (l : Option Record) → not (is_held l) ≡ true → l ≡ None
  absent-looked None h = refl
  absent-looked (Some r) h = absurd (not-both h refl)

  -- past 7 and 8
  pub ready-whole : Ready t v → upto 6 (adjacent_fits t v) ≡ true → upto 6 (new_fits t v) ≡ true → 6 ≤ free_slots t → Intact t v
  ready-whole r a n f =
      record {
        ready = r;
        fits = λ j h. upto-each (adjacent_fits t v) 6 j a h;
        fresh = λ j h. absent-looked (look_up t (new_of v j).at) (upto-each (new_fits t v) 6 j n h);
        room = f;
      }

  -- ---- the outcome
  pub vertex-4 : (v.d ≡ 6 → ⊥) → mesh_after 4 t ≡ subdivide_vertex t v
  vertex-4 h = rw (ne_eqb v.d 6 h)

  module _ (six : v.d ≡ 6) where
    pub vertex-5 : v.n.0 ≡ 12 → mesh_after 5 t ≡ subdivide_vertex t v
    vertex-5 h = rw (eq-eqb v.d 6 six, eq-eqb v.n.0 12 h)

    module _ (low : v.n.0 ≡ 12 → ⊥) where
      past : subdivide_vertex t v ≡ cond (torn t v) (mesh_after 7 t) (cond (ltb (free_slots t) 6) (mesh_after 8 t) (mesh_after 0 (subdivided t v)))
      past = rw (eq-eqb v.d 6 six, ne_eqb v.n.0 12 low)

      torn-old : upto 6 (adjacent_fits t v) ≡ false → torn t v ≡ true
      unfolding torn
      torn-old h = ap (λ (b : Bool). not (b && upto 6 (new_fits t v))) h

      pub vertex-7-old : upto 6 (adjacent_fits t v) ≡ false → mesh_after 7 t ≡ subdivide_vertex t v
      vertex-7-old h =
          sym (past ∙ ap (λ (b : Bool). cond b (mesh_after 7 t) (cond (ltb (free_slots t) 6) (mesh_after 8 t) (mesh_after 0 (subdivided t v)))) (torn-old h))

      module _ (old : upto 6 (adjacent_fits t v) ≡ true) where
        torn-is : (b : Bool) → upto 6 (new_fits t v) ≡ b → torn t v ≡ not b
        unfolding torn
        torn-is b h = λ i. not (old i && h i)

        after : (b : Bool) → upto 6 (new_fits t v) ≡ b
            → subdivide_vertex t v ≡ cond (not b) (mesh_after 7 t) (cond (ltb (free_slots t) 6) (mesh_after 8 t) (mesh_after 0 (subdivided t v)))
        after b h = past ∙ ap (λ (x : Bool). cond x (mesh_after 7 t) (cond (ltb (free_slots t) 6) (mesh_after 8 t) (mesh_after 0 (subdivided t v)))) (torn-is b h)

        pub vertex-7-new : upto 6 (new_fits t v) ≡ false → mesh_after 7 t ≡ subdivide_vertex t v
        vertex-7-new h = sym (after false h)

        module _ (new : upto 6 (new_fits t v) ≡ true) where
          pub vertex-8 : free_slots t < 6 → mesh_after 8 t ≡ subdivide_vertex t v
          vertex-8 h = sym (after true new ∙ ap (λ (x : Bool). cond x (mesh_after 8 t) (mesh_after 0 (subdivided t v))) (lt-ltb (free_slots t) 6 h))

          pub vertex-0 : 6 ≤ free_slots t → mesh_after 0 (subdivided t v) ≡ subdivide_vertex t v
          vertex-0 h = sym (after true new ∙ ap (λ (x : Bool). cond x (mesh_after 8 t) (mesh_after 0 (subdivided t v))) (le-ltb (free_slots t) 6 h))

-- ---- the call
module _ (t : List ℕ) (a b : ℤ) (m : ℕ) where
  pub call-1 : in_order_of t ≡ false → mesh_after 1 t ≡ subdivide_of t a b m
  unfolding subdivide_of
  call-1 h = ap (λ (x : Bool). cond x (subdivide_looked t (look_up t (normal_of a b m))) (mesh_after 1 t)) (sym h)

  pub call-looked : in_order_of t ≡ true → (l : Option Record) → look_up t (normal_of a b m) ≡ l → subdivide_looked t l ≡ subdivide_of t a b m
  unfolding subdivide_of
  call-looked h l e = ap (subdivide_looked t) (sym e) ∙ ap (λ (x : Bool). cond x (subdivide_looked t (look_up t (normal_of a b m))) (mesh_after 1 t)) (sym h)

  pub call-3 : in_order_of t ≡ true → look_up t (normal_of a b m) ≡ None → mesh_after 3 t ≡ subdivide_of t a b m
  call-3 h e = call-looked h None e

  pub call-vertex : in_order_of t ≡ true → (v : Record) → look_up t (normal_of a b m) ≡ Some v → subdivide_vertex t v ≡ subdivide_of t a b m
  call-vertex h v e = call-looked h (Some v) e

-- a vertex as it is looked up
pub looked-standing : (t : List ℕ) → InOrder t → (p : Point) (v : Record) → look_up t p ≡ Some v → Standing t v
looked-standing t o p v e = record { order = o; held = ap (look_up t) (lookup-point t o p v e) ∙ e }

pub after-parts : {x y : MeshAfter} → x ≡ y → (x.number ≡ y.number) × (x.bytes ≡ y.bytes)
after-parts e = (ap (λ (o : MeshAfter). o.number) e, ap (λ (o : MeshAfter). o.bytes) e)

pub subdivided-is : (t : List ℕ) (v : Record) → entered_to (renewed_to (replace_of t (centre_of v)) v 6) (centre_of v) 6 ≡ subdivided t v
unfolding subdivided
subdivided-is t v = refl
