-- A vertex brought to degree 6, step by step, by what each step leaves of number, table and free slots alone: no word of where its records stand, which
-- mesh's StepLaws and ChainLaws have besides.
-- `After` what a step leaves: number and table as the definition has them, in order, its free slots: `after-here`, `given-after`, `after_same`,
-- `after_then` · `held-refused`, `held-made` a vertex's subdivision as a step · `near-stop`, `near_on` one neighbour · `Turning`, `turning-..` the places
-- in turn · `tried-on`, `tried-back` all or nothing.
-- Assumes nothing.
use Rattle.std.specs.Prelude.{◌≡◌, Bool, true, false, cond, List, length, Some}
use Rattle.std.proofs.Math.Path.{refl, ap}
use Rattle.std.proofs.Common.{sym, ◌∙◌, subst}
use Prim.Native.Nat.{ℕ, zero, suc, ◌+◌, ◌-◌, ◌≤◌, ◌<◌}
use native.Mathlib.Omega.{arith}
use Rattle.lattice.specs.Stars.{adjacent_at}
use Rattle.lattice.specs.declared.points.Point.{Point}
use Rattle.lattice.specs.declared.records.Record.{Record}
use Rattle.table.specs.Entries.{look_up}
use Rattle.table.specs.Order.{InOrder}
use Rattle.table.specs.Slots.{free_slots}
use Rattle.table.specs.MapLaws.{table_same}
use Rattle.mesh.specs.Subdivide.{MeshAfter, mesh_after, subdivided, subdivide_vertex, all_or}
use Rattle.mesh.specs.SubdivideLaws.{subdivided-order, subdivided-free}
use Rattle.mesh.specs.WriteLaws.{Standing, subdivided-length}
use Rattle.mesh.specs.StepLaws.{Given, Divided, denied, done, divided, then-on, then-stop, all_made, all_back}
use Rattle.bring.specs.Bring.{places_of, each_of, raised_at, near_of, is_six, ends_at, bring_of}
use Rattle.bring.specs.ChainLaws.{run, places-first, near-lower, bring-is}
use Rattle.bring.specs.CallLaws.{RequestLeaves, comes-same}

-- what a step that comes to o leaves of the table t: the number x, the table t' and its free slots
pub record After (t : List ℕ) (o : MeshAfter) (x f : ℕ) (t' : List ℕ) : Type 0 where
  pub number : x ≡ o.number
  pub bytes : t' ≡ o.bytes
  pub order : InOrder t'
  pub free : f ≡ free_slots t'
  pub long : length t' ≡ length t

module _ {t : List ℕ} {n f : ℕ} (g : Given t n f) where
  -- refused where it stands
  pub after-here : {o : MeshAfter} (x : ℕ) → mesh_after x t ≡ o → After t o x f t
  after-here x e =
      record { number = ap (λ (o : MeshAfter). o.number) e; bytes = ap (λ (o : MeshAfter). o.bytes) e; order = g.order; free = g.free; long = refl }

  -- what follows is given the table after
  pub given-after : {o : MeshAfter} {x f' : ℕ} {t' : List ℕ} → After t o x f' t' → Given t' n f'
  given-after {o} {x} {f'} {t'} a = record { table = table_same t t' n a.long g.table; order = a.order; free = a.free }

-- the same under another name
pub after_same : {t : List ℕ} {o p : MeshAfter} {x f : ℕ} {t' : List ℕ} → o ≡ p → After t o x f t' → After t p x f t'
after_same {t} {o} {p} {x} {f} {t'} e a = subst (λ (q : MeshAfter). After t q x f t') e a

-- one step after another
pub after_then : {t t₁ : List ℕ} {o : MeshAfter} {x f : ℕ} {t' : List ℕ} → length t₁ ≡ length t → After t₁ o x f t' → After t o x f t'
after_then l a = record { number = a.number; bytes = a.bytes; order = a.order; free = a.free; long = a.long ∙ l }

-- ---- one subdivision
module _ {t : List ℕ} {n f : ℕ} (g : Given t n f) (v : Record) (s : Standing t v) where
  pub held-refused : (x : ℕ) (t' : List ℕ) → (x ≡ 0 → ⊥) → x ≡ (subdivide_vertex t v).number → t' ≡ (subdivide_vertex t v).bytes
      → After t (subdivide_vertex t v) x f t'
  held-refused x t' nz e b = go (divided t v s)
    where
      go : Divided t v → After t (subdivide_vertex t v) x f t'
      go (denied y k h) =
          let z : t' ≡ t = b ∙ sym (ap (λ (o : MeshAfter). o.bytes) h) in
          record { number = e; bytes = b; order = subst InOrder (sym z) g.order; free = g.free ∙ ap free_slots (sym z); long = ap length z }
      go (done w h) = absurd (nz (e ∙ sym (ap (λ (o : MeshAfter). o.number) h)))

  pub held-made : (x : ℕ) (t' : List ℕ) → x ≡ 0 → x ≡ (subdivide_vertex t v).number → t' ≡ (subdivide_vertex t v).bytes
      → (6 ≤ f) × After t (subdivide_vertex t v) 0 (f - 6) t'
  held-made x t' zz e b = go (divided t v s)
    where
      go : Divided t v → (6 ≤ f) × After t (subdivide_vertex t v) 0 (f - 6) t'
      go (denied y k h) = absurd (k (ap (λ (o : MeshAfter). o.number) h ∙ sym e ∙ zz))
      go (done w h) =
          let z : subdivided t v ≡ t' = ap (λ (o : MeshAfter). o.bytes) h ∙ sym b in
          let fr = subdivided-free t v w in
          let more = ap free_slots z in
          let is = g.free in
          let order = subst InOrder z (subdivided-order t v w) in
          let long = ap length (sym z) ∙ subdivided-length t v in
          (omega arith, record { number = sym zz ∙ e; bytes = b; order = order; free = omega arith; long = long })

-- ---- one neighbour
module _ (n : ℕ) (t : List ℕ) (p : Point) where
  module _ (u : Record) (e : look_up t p ≡ Some u) where
    module _ (rim : u.d ≡ 0 → ⊥) where
      module _ (less : u.d ≡ 6 → ⊥) where
        -- it could not be brought
        pub near-stop : u.n.0 + 1 ≡ n → (x f : ℕ) (t' : List ℕ) → After t (bring_of u.n.0 t u) x f t' → (x ≡ 0 → ⊥) → After t (near_of n t p) x f t'
        near-stop l x f t' a nz = after_same (then-stop (bring_of u.n.0 t u) (λ s. raised_at s (look_up s u.at)) (λ z. nz (a.number ∙ z)) ∙ near-lower n t p u e rim less l) a

        -- it was, and is subdivided
        pub near_on : u.n.0 + 1 ≡ n → (x f : ℕ) (t' : List ℕ) → After t (bring_of u.n.0 t u) x f t' → x ≡ 0
            → (y h : ℕ) (t'' : List ℕ) → After t' (raised_at t' (look_up t' u.at)) y h t'' → After t (near_of n t p) y h t''
        near_on l x f t' a z y h t'' b =
            after_then a.long
            (after_same
            (ap (λ (s : List ℕ). raised_at s (look_up s u.at)) a.bytes
            ∙ then-on (bring_of u.n.0 t u) (λ s. raised_at s (look_up s u.at)) (sym a.number ∙ z) ∙ near-lower n t p u e rim less l)
            b)

-- ---- the places in turn
module _ (near : List ℕ → Point → MeshAfter) (v : Record) (t : List ℕ) (j : ℕ) where
  each_none : mesh_after 0 t ≡ each_of near v t (run j 0)
  unfolding each_of run
  each_none = refl

  each_more : (k : ℕ) → 0 < k → (near t (adjacent_at v j)).number ≡ 0
      → each_of near v (near t (adjacent_at v j)).bytes (run (j + 1) (k - 1)) ≡ each_of near v t (run j k)
  unfolding each_of run
  each_more zero h e = absurd (omega arith)
  each_more (suc k) h e =
      let p : suc k - 1 ≡ k = omega arith in
      ap (λ (i : ℕ). each_of near v (near t (adjacent_at v j)).bytes (run (j + 1) i)) p
      ∙ then-on (near t (adjacent_at v j)) (λ u. each_of near v u (run (j + 1) k)) e

  each-stop : (k : ℕ) → 0 < k → ((near t (adjacent_at v j)).number ≡ 0 → ⊥) → near t (adjacent_at v j) ≡ each_of near v t (run j k)
  unfolding each_of run
  each-stop zero h e = absurd (omega arith)
  each-stop (suc k) h e = then-stop (near t (adjacent_at v j)) (λ u. each_of near v u (run (j + 1) k)) e

-- the places of v gone through as far as place j: t is the table then, f of its n slots are free
pub record Turning (t₀ : List ℕ) (v : Record) (n : ℕ) (t : List ℕ) (f j : ℕ) : Type 0 where
  pub within : j ≤ 6 - v.d
  pub given : Given t n f
  pub long : length t ≡ length t₀
  pub left : each_of (near_of v.n.0) v t (run j (6 - v.d - j)) ≡ each_of (near_of v.n.0) v t₀ (places_of v.d)

pub turning-start : (t : List ℕ) (v : Record) (n f : ℕ) → 3 ≤ v.d → v.d ≤ 6 → Given t n f → Turning t v n t f 0
turning-start t v n f l h g =
    let z : 6 - v.d - 0 ≡ 6 - v.d = omega arith in
    record {
      within = omega arith;
      given = g;
      long = refl;
      left = ap (λ (k : ℕ). each_of (near_of v.n.0) v t (run 0 k)) z ∙ ap (each_of (near_of v.n.0) v t) (sym (places-first v.d l h));
    }

module _ (t₀ : List ℕ) (v : Record) (n : ℕ) (t : List ℕ) (f j : ℕ) (g : Turning t₀ v n t f j) where
  -- what is left, once all are done
  turned : (each_of (near_of v.n.0) v t₀ (places_of v.d)).number ≡ 0 → (t' : List ℕ) → t' ≡ (each_of (near_of v.n.0) v t₀ (places_of v.d)).bytes
      → ends_at t' (look_up t' v.at) ≡ bring_of v.n.0 t₀ v
  turned z t' b =
      ap (λ (s : List ℕ). ends_at s (look_up s v.at)) b ∙ then-on (each_of (near_of v.n.0) v t₀ (places_of v.d)) (λ s. ends_at s (look_up s v.at)) z
      ∙ bring-is v.n.0 t₀ v

  ended : 6 - v.d ≤ j → mesh_after 0 t ≡ each_of (near_of v.n.0) v t₀ (places_of v.d)
  ended h =
      let z : 0 ≡ 6 - v.d - j = omega (arith, g.within) in each_none (near_of v.n.0) v t j ∙ ap (λ (k : ℕ). each_of (near_of v.n.0) v t (run j k)) z
      ∙ g.left

  ends : 6 - v.d ≤ j → ends_at t (look_up t v.at) ≡ bring_of v.n.0 t₀ v
  ends h = let e = ended h in turned (sym (ap (λ (o : MeshAfter). o.number) e)) t (ap (λ (o : MeshAfter). o.bytes) e)

  here : {x : ℕ} → mesh_after x t ≡ bring_of v.n.0 t₀ v → After t₀ (bring_of v.n.0 t₀ v) x f t
  here {x} e = after_then g.long (after-here g.given x e)

  pub turning-six : 6 - v.d ≤ j → is_six (look_up t v.at) ≡ true → After t₀ (bring_of v.n.0 t₀ v) 0 f t
  turning-six h e = here (ap (λ (b : Bool). cond b (mesh_after 0 t) (mesh_after 7 t)) (sym e) ∙ ends h)

  pub turning-short : 6 - v.d ≤ j → is_six (look_up t v.at) ≡ false → After t₀ (bring_of v.n.0 t₀ v) 7 f t
  turning-short h e = here (ap (λ (b : Bool). cond b (mesh_after 0 t) (mesh_after 7 t)) (sym e) ∙ ends h)

  module _ (h : j < 6 - v.d) (x f' : ℕ) (t' : List ℕ) (a : After t (near_of v.n.0 t (adjacent_at v j)) x f' t') where
    pub turning-stop : (x ≡ 0 → ⊥) → After t₀ (bring_of v.n.0 t₀ v) x f' t'
    turning-stop nz =
        let e = each-stop (near_of v.n.0) v t j (6 - v.d - j) (omega arith) (λ z. nz (a.number ∙ z)) ∙ g.left in
        let ne : (each_of (near_of v.n.0) v t₀ (places_of v.d)).number ≡ 0 → ⊥ = λ z. nz (a.number ∙ ap (λ (o : MeshAfter). o.number) e ∙ z) in
        after_then g.long
        (after_same (e ∙ then-stop (each_of (near_of v.n.0) v t₀ (places_of v.d)) (λ s. ends_at s (look_up s v.at)) ne ∙ bring-is v.n.0 t₀ v) a)

    pub turning-more : x ≡ 0 → Turning t₀ v n t' f' (j + 1)
    turning-more z =
        let k : 6 - v.d - (j + 1) ≡ 6 - v.d - j - 1 = omega arith in
        record {
          within = omega arith;
          given = given-after g.given a;
          long = a.long ∙ g.long;
          left =
              (λ i. each_of (near_of v.n.0) v (a.bytes i) (run (j + 1) (k i)))
              ∙ each_more (near_of v.n.0) v t j (6 - v.d - j) (omega arith) (sym a.number ∙ z) ∙ g.left;
        }

-- ---- all or nothing
module _ (t s s' : List ℕ) (l : length s' ≡ length s) (o : MeshAfter) (x f : ℕ) (t' : List ℕ) (a : After t o x f t') where
  pub tried-on : x ≡ 0 → RequestLeaves (all_or t o) s x t' s'
  tried-on z = comes-same (all_made t o (sym a.number ∙ z)) (record { number = a.number; bytes = a.bytes; long = l })

  pub tried-back : (x ≡ 0 → ⊥) → (t'' : List ℕ) → t'' ≡ t → RequestLeaves (all_or t o) s x t'' s'
  tried-back n t'' e = comes-same (all_back t o (λ z. n (a.number ∙ z))) (record { number = a.number; bytes = e; long = l })
