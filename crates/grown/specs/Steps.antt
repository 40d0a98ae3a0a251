-- A subdivision that document 01's call accepts is a step of the model, and a step of the model is accepted wherever six slots are free.
-- `Accepted`, `accepted` what an accepted subdivision was and what it left · `vertex-accepted`, `vertex-short` a whole subdivision is
-- accepted, or wants slots · `whole-accepted`, `whole-step` the same, asked by the record's own point.
-- Assumes nothing.
use Rattle.std.specs.Prelude.{◌≡◌, refl, true, not, List, ℕ, ◌+◌, ◌≤◌, ◌<◌, ℤ, Option, Some, None}
use Rattle.std.proofs.Common.{sym, ◌∙◌, ap, subst, arith}
use Rattle.laws.specs.Each.{each-upto}
use Rattle.laws.specs.Rules.{upto}
use Rattle.laws.specs.Choices.{is_true, of-true}
use Rattle.lattice.specs.Points.{normal_of}
use Rattle.lattice.specs.Stars.{adjacent_at}
use Rattle.lattice.specs.Subdivision.{new_of, back_of, accepts_of}
use Rattle.lattice.specs.declared.records.Record.{Record}
use Rattle.growth.specs.Sheets.{UntornAt, Step}
use Rattle.table.specs.Entries.{look_up, is_held}
use Rattle.table.specs.MapLaws.{order-test}
use Rattle.table.specs.Order.{InOrder}
use Rattle.table.specs.Slots.{free_slots}
use Rattle.mesh.specs.Subdivide.{fits_at, adjacent_fits, new_fits, subdivided, MeshAfter, subdivide_vertex, subdivide_of}
use Rattle.mesh.specs.SubdivideLaws.{old, subdivided-order, subdivided-free, subdivided-centre, subdivided-new, subdivided-old, subdivided-rest}
use Rattle.mesh.specs.CallLaws.{vertex-0, vertex-8, call-vertex}
use Rattle.mesh.specs.CaseLaws.{refused, made, Subdivision, subdivision}
use Rattle.mesh.specs.StepLaws.{own-looked}
use Rattle.local.specs.Sheet.{as_option, sheet_of}
use Rattle.mesh.specs.SubdivideLaws as table

-- ---- what a table holds, and what its sheet says
pub sheet-held : (l : Option Record) (r : Record) → as_option l ≡ Some r → l ≡ Some r
sheet-held None r e = absurd (let z : ◌≡◌ {A = ℕ} 0 1 = cc in omega arith)
sheet-held (Some q) r e = let x : q ≡ r = cc in ap Some x

pub sheet-absent : (l : Option Record) → as_option l ≡ None → l ≡ None
sheet-absent None e = refl
sheet-absent (Some q) e = absurd (let z : ◌≡◌ {A = ℕ} 0 1 = cc in omega arith)

-- ---- a table's subdivision as the model's
module _ (t : List ℕ) (v : Record) (w : table.Intact t v) where
  whole-sheet : UntornAt (sheet_of t) v
  whole-sheet =
      record {
        there = λ j h. (let (u, l, a) = old t v w j h in (u, ap as_option l, of-true a));
        free = λ j h. ap as_option (w.fresh j h);
      }

  step-sheet : Step (sheet_of t) v (sheet_of (subdivided t v))
  step-sheet =
      record {
        centre = ap as_option (subdivided-centre t v w);
        new = λ j h. ap as_option (subdivided-new t v w j h);
        old = λ j h u e. ap as_option (subdivided-old t v w j h u (sheet-held (look_up t (adjacent_at v j)) u e));
        rest = λ p c n a. ap as_option (subdivided-rest t v w p c n a);
      }

-- ---- an accepted one
pub record Accepted (t : List ℕ) (a b : ℤ) (m : ℕ) : Type 0 where
  pub vertex : Record
  pub order : InOrder t
  pub looked : look_up t (normal_of a b m) ≡ Some vertex
  pub held : look_up t vertex.at ≡ Some vertex
  pub six : vertex.d ≡ 6
  pub below : vertex.n.0 < 12
  pub whole : UntornAt (sheet_of t) vertex
  pub room : 6 ≤ free_slots t
  -- and the table after it
  pub step : Step (sheet_of t) vertex (sheet_of (subdivide_of t a b m).bytes)
  pub kept : InOrder (subdivide_of t a b m).bytes
  pub free : free_slots (subdivide_of t a b m).bytes + 6 ≡ free_slots t

pub accepted : (t : List ℕ) (a b : ℤ) (m : ℕ) → (subdivide_of t a b m).number ≡ 0 → Accepted t a b m
accepted t a b m z = go (subdivision t a b m)
  where
    go : Subdivision t a b m → Accepted t a b m
    go (refused x n e) = absurd (n (ap (λ (o : MeshAfter). o.number) e ∙ z))
    go (made v o l w e) =
        let s : subdivided t v ≡ (subdivide_of t a b m).bytes = ap (λ (o : MeshAfter). o.bytes) e in
        record {
          vertex = v;
          order = w.ready.order;
          looked = l;
          held = w.ready.held;
          six = w.ready.six;
          below = w.ready.below;
          whole = whole-sheet t v w;
          room = w.room;
          step = subst (λ (u : List ℕ). Step (sheet_of t) v (sheet_of u)) s (step-sheet t v w);
          kept = subst InOrder s (subdivided-order t v w);
          free = subst (λ (u : List ℕ). free_slots u + 6 ≡ free_slots t) s (subdivided-free t v w);
        }

-- ---- back: a whole one is accepted
module _ (t : List ℕ) (o : InOrder t) (a b : ℤ) (m : ℕ) (v : Record)
    (e : look_up t (normal_of a b m) ≡ Some v) (six : v.d ≡ 6) (low : v.n.0 < 12) (w : UntornAt (sheet_of t) v) where
  not_top : v.n.0 ≡ 12 → ⊥
  not_top h = omega arith

  fits : upto 6 (adjacent_fits t v) ≡ true
  fits = each-upto (adjacent_fits t v) 6 (λ j h. each j h)
    where
      each : (j : ℕ) → j < 6 → adjacent_fits t v j ≡ true
      each j h =
          let (u, l, f) = w.there j h in
          ap (fits_at v j) (sheet-held (look_up t (adjacent_at v j)) u l) ∙ is_true (accepts_of (back_of v.k j) v.n.0 u) f

  fresh : upto 6 (new_fits t v) ≡ true
  fresh = each-upto (new_fits t v) 6 (λ j h. ap (λ (l : Option Record). not (is_held l)) (sheet-absent (look_up t (new_of v j).at) (w.free j h)))

  ends : {x : MeshAfter} → x ≡ subdivide_vertex t v → x.number ≡ (subdivide_of t a b m).number
  ends h = ap (λ (x : MeshAfter). x.number) (h ∙ call-vertex t a b m (order-test t o) v e)

  pub vertex-accepted : 6 ≤ free_slots t → (subdivide_of t a b m).number ≡ 0
  vertex-accepted room = sym (ends (vertex-0 t v six not_top fits fresh room))

  pub vertex-short : free_slots t < 6 → (subdivide_of t a b m).number ≡ 8
  vertex-short few = sym (ends (vertex-8 t v six not_top fits fresh few))

-- ---- asked by its own point
module _ (t : List ℕ) (o : InOrder t) (v : Record) (e : look_up t v.at ≡ Some v) where
  module _ (six : v.d ≡ 6) (low : v.n.0 < 12) (w : UntornAt (sheet_of t) v) (room : 6 ≤ free_slots t) where
    pub whole-accepted : (subdivide_of t v.at.a v.at.b v.at.m.0).number ≡ 0
    whole-accepted = vertex-accepted t o v.at.a v.at.b v.at.m.0 v (own-looked t o v e) six low w room

    -- and the step is of that record
    pub whole-step : Step (sheet_of t) v (sheet_of (subdivide_of t v.at.a v.at.b v.at.m.0).bytes)
    whole-step =
        let x = accepted t v.at.a v.at.b v.at.m.0 whole-accepted in
        let same : x.vertex ≡ v = sheet-same (sym x.looked ∙ own-looked t o v e) in
        subst (λ (u : Record). Step (sheet_of t) u (sheet_of (subdivide_of t v.at.a v.at.b v.at.m.0).bytes)) same x.step
      where
        sheet-same : {x y : Record} → Some x ≡ Some y → x ≡ y
        sheet-same {x} {y} h = cc
