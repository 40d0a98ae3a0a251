-- A vertex brought to degree 6, step by step, as the code goes (mesh's StepLaws): `Locates`, `located` where a vertex stands · `Taken`, `slot_is` a slot
-- where a search ends · `places-first` the places are the first 6 - d · `near-..` one neighbour by cases · `Turning`, `turning-..` the places in turn.
-- Assumes nothing.
use Rattle.std.specs.Prelude.{◌≡◌, Bool, true, false, cond, List, [], ◌∷◌, length, Option, Some, None}
use Rattle.std.proofs.Math.Path.{refl, ap}
use Rattle.std.proofs.Common.{sym, ◌∙◌}
use Prim.Native.Nat.{ℕ, zero, suc, ◌+◌, ◌-◌, ◌≤◌, ◌<◌}
use native.Mathlib.Omega.{arith}
use borrow.Author.Tests.{eq-eqb, ne_eqb}
use Rattle.lattice.specs.RefusalLaws.{number-some}
use Rattle.laws.specs.Choices.{of-true}
use Rattle.lattice.specs.Patterns.{rows_of, pattern_of}
use Rattle.lattice.specs.Stars.{adjacent_at}
use Rattle.lattice.specs.RecordLaws.{Inner, inner}
use Rattle.lattice.specs.declared.points.Point.{Point}
use Rattle.lattice.specs.declared.records.Record.{Record}
use Rattle.table.specs.Entries.{held_in, looked_at, look_up}
use Rattle.table.specs.Order.{InOrder}
use Rattle.table.specs.Search.{same_point, find_of}
use Rattle.table.specs.Slots.{slot_at}
use Rattle.table.specs.MapLaws.{lookup-point, lookup-valid}
use Rattle.table.specs.declared.probe.Found.TheVariants as found
use Rattle.mesh.specs.Subdivide.{MeshAfter, mesh_after, subdivide_vertex, and_then}
use Rattle.mesh.specs.WriteLaws.{Standing}
use Rattle.mesh.specs.Met.{InSlot}
use Rattle.mesh.specs.CallLaws.{looked-standing}
use Rattle.mesh.specs.StepLaws.{Given, Stays, After, after-here, given-after, after_same, after_then, then-on, then-stop, Leaves, leaves_same, leaves_then}
use Rattle.lattice.specs.Refusals.{number_of}
use Rattle.lattice.specs.declared.refusals.Refusal.{Refusal}
use Rattle.table.specs.Slots.{free_slots}
use Rattle.std.specs.Prelude.{Option, Result, MatchOption}
use Rattle.bring.specs.Bring.{sixty_at, no_sixty, places_below, places_of, each_of, raised_at, near_vertex, near_looked, near_of}
use Rattle.bring.specs.Bring.{lower_of, is_six, ends_at, brought_by, bring_of}

-- where the vertex at p stands
abbrev pub Locates : List ℕ → Point → Option (Record × ℕ) → Type 0
Locates t p l = MatchOption l (look_up t p ≡ None) (λ w. (look_up t p ≡ Some w.0) × (find_of t p ≡ found.At w.1))

pub located : {t : List ℕ} → InOrder t → (p : Point) (u : Record) (i : ℕ) → (look_up t p ≡ Some u) × (find_of t p ≡ found.At i)
    → Standing t u × InSlot t u i
located {t} o p u i w = (looked-standing t o p u w.0, ap (find_of t) (lookup-point t o p u w.0) ∙ w.1)

-- what stands where a search ended is what it looked for
pub slot_is : (t : List ℕ) (p : Point) (i : ℕ) → find_of t p ≡ found.At i → held_in (slot_at t i) ≡ look_up t p
unfolding look_up
slot_is t p i e = sym (ap (looked_at t) e)

-- a search ends at slot i
pub record Taken (t : List ℕ) (i : ℕ) : Type 0 where
  pub point : Point
  pub ends : find_of t point ≡ found.At i

pub standing-inner : {t : List ℕ} {u : Record} → Standing t u → (u.d ≡ 0 → ⊥) → Inner u
standing-inner {t} {u} s n = inner u (of-true (lookup-valid t s.order u.at u s.held)) n

-- ---- the places
unfoldable pub run : ℕ → ℕ → List ℕ
run j zero = []
run j (suc k) = j ∷ run (j + 1) k

-- "an edge that has no 60 degree angle at the vertex": d 3 places 0, 1, 2; d 4 places 0, 1; d 5 place 0; d 6 none
places-table : (places_of 3 ≡ run 0 3) × (places_of 4 ≡ run 0 2) × (places_of 5 ≡ run 0 1) × (places_of 6 ≡ run 0 0)
unfolding places_of places_below no_sixty sixty_at pattern_of rows_of same_point run
places-table = (refl, refl, refl, refl)

pub places-first : (d : ℕ) → 3 ≤ d → d ≤ 6 → places_of d ≡ run 0 (6 - d)
places-first (suc (suc (suc zero))) l h = places-table.0
places-first (suc (suc (suc (suc zero)))) l h = places-table.1
places-first (suc (suc (suc (suc (suc zero))))) l h = places-table.2
places-first (suc (suc (suc (suc (suc (suc zero)))))) l h = places-table.3
places-first zero l h = absurd (omega arith)
places-first (suc zero) l h = absurd (omega arith)
places-first (suc (suc zero)) l h = absurd (omega arith)
places-first (suc (suc (suc (suc (suc (suc (suc d))))))) l h = absurd (omega arith)

-- ---- one neighbour, by cases
module _ (n : ℕ) (t : List ℕ) (p : Point) where
  near-looked : (l : Option Record) → look_up t p ≡ l → near_looked (lower_of n) n t l ≡ near_of n t p
  near-looked l e = ap (near_looked (lower_of n) n t) (sym e)

  pub near-absent : look_up t p ≡ None → mesh_after 7 t ≡ near_of n t p
  near-absent e = near-looked None e

  module _ (u : Record) (e : look_up t p ≡ Some u) where
    pub near-rim : u.d ≡ 0 → mesh_after 16 t ≡ near_of n t p
    near-rim z = at ∙ near-looked (Some u) e
      where
        at : mesh_after 16 t ≡ near_vertex (lower_of n) n t u
        at = unfold near_vertex in rw (eq-eqb u.d 0 z)

    module _ (rim : u.d ≡ 0 → ⊥) where
      pub near-six : u.d ≡ 6 → u.n.0 ≡ n → subdivide_vertex t u ≡ near_of n t p
      near-six s l = at ∙ near-looked (Some u) e
        where
          at : subdivide_vertex t u ≡ near_vertex (lower_of n) n t u
          at = unfold near_vertex in rw (ne_eqb u.d 0 rim, eq-eqb u.d 6 s, eq-eqb u.n.0 n l)

      pub near-other : u.d ≡ 6 → (u.n.0 ≡ n → ⊥) → mesh_after 7 t ≡ near_of n t p
      near-other s l = at ∙ near-looked (Some u) e
        where
          at : mesh_after 7 t ≡ near_vertex (lower_of n) n t u
          at = unfold near_vertex in rw (ne_eqb u.d 0 rim, eq-eqb u.d 6 s, ne_eqb u.n.0 n l)

      module _ (less : u.d ≡ 6 → ⊥) where
        pub near-far : (u.n.0 + 1 ≡ n → ⊥) → mesh_after 7 t ≡ near_of n t p
        near-far l = at ∙ near-looked (Some u) e
          where
            at : mesh_after 7 t ≡ near_vertex (lower_of n) n t u
            at = unfold near_vertex in rw (ne_eqb u.d 0 rim, ne_eqb u.d 6 less, ne_eqb (u.n.0 + 1) n l)

        lower-is : u.n.0 + 1 ≡ n → lower_of n t u ≡ bring_of u.n.0 t u
        lower-is l = ap (λ (i : ℕ). lower_of i t u) (sym l ∙ one) ∙ at
          where
            one : u.n.0 + 1 ≡ suc u.n.0
            one = omega arith

            at : lower_of (suc u.n.0) t u ≡ bring_of u.n.0 t u
            at = unfold lower_of in refl

        pub near-lower : u.n.0 + 1 ≡ n → and_then (bring_of u.n.0 t u) (λ s. raised_at s (look_up s u.at)) ≡ near_of n t p
        near-lower l = ap (λ (o : MeshAfter). and_then o (λ s. raised_at s (look_up s u.at))) (sym (lower-is l)) ∙ at ∙ near-looked (Some u) e
          where
            at : and_then (lower_of n t u) (λ s. raised_at s (look_up s u.at)) ≡ near_vertex (lower_of n) n t u
            at = unfold near_vertex in rw (ne_eqb u.d 0 rim, ne_eqb u.d 6 less, eq-eqb (u.n.0 + 1) n l)

        -- it could not be brought
        pub near-stop : u.n.0 + 1 ≡ n → (why : Refusal) (t' : List ℕ) → After t (bring_of u.n.0 t u) (number_of why) (free_slots t') t'
            → After t (near_of n t p) (number_of why) (free_slots t') t'
        near-stop l why t' a =
            after_same (then-stop (bring_of u.n.0 t u) (λ s. raised_at s (look_up s u.at)) (λ z. number-some why (a.number ∙ z)) ∙ near-lower l) a

        -- it was, and is subdivided
        pub near_on : u.n.0 + 1 ≡ n → (f : ℕ) (t' : List ℕ) → After t (bring_of u.n.0 t u) 0 f t'
            → (r : Result ℕ Refusal) (t'' : List ℕ) → Leaves t' (raised_at t' (look_up t' u.at)) r t'' → Leaves t (near_of n t p) r t''
        near_on l f t' a r t'' b =
            leaves_then t t' (near_of n t p) r t'' a.long a.stays
            (leaves_same t' (raised_at t' (look_up t' u.at)) (near_of n t p) r t''
            (ap (λ (s : List ℕ). raised_at s (look_up s u.at)) a.bytes
            ∙ then-on (bring_of u.n.0 t u) (λ s. raised_at s (look_up s u.at)) (sym a.number) ∙ near-lower l)
            b)

-- ---- the places in turn
pub bring-is : (n : ℕ) (t : List ℕ) (v : Record) → brought_by (near_of n) t v ≡ bring_of n t v
unfolding bring_of lower_of
bring-is zero t v = refl
bring-is (suc n) t v = refl

module _ (near : List ℕ → Point → MeshAfter) (v : Record) (t : List ℕ) (j : ℕ) where
  each_none : mesh_after 0 t ≡ each_of near v t (run j 0)
  unfolding each_of run
  each_none = refl

  each_more : (k : ℕ) → 0 < k → (near t (adjacent_at v j)).number ≡ 0
      → each_of near v (near t (adjacent_at v j)).bytes (run (j + 1) (k - 1)) ≡ each_of near v t (run j k)
  unfolding each_of run
  each_more zero h e = absurd (omega arith)
  each_more (suc k) h e =
      let p : suc k - 1 ≡ k = omega arith in
      ap (λ (i : ℕ). each_of near v (near t (adjacent_at v j)).bytes (run (j + 1) i)) p
      ∙ then-on (near t (adjacent_at v j)) (λ u. each_of near v u (run (j + 1) k)) e

  each-stop : (k : ℕ) → 0 < k → ((near t (adjacent_at v j)).number ≡ 0 → ⊥) → near t (adjacent_at v j) ≡ each_of near v t (run j k)
  unfolding each_of run
  each-stop zero h e = absurd (omega arith)
  each-stop (suc k) h e = then-stop (near t (adjacent_at v j)) (λ u. each_of near v u (run (j + 1) k)) e

-- the places of v gone through as far as place j: t is the table then, f of its n slots are free
pub record Turning (t₀ : List ℕ) (v : Record) (n : ℕ) (t : List ℕ) (f j : ℕ) : Type 0 where
  pub within : j ≤ 6 - v.d
  pub given : Given t n f
  pub long : length t ≡ length t₀
  pub stays : Stays t₀ t
  pub left : each_of (near_of v.n.0) v t (run j (6 - v.d - j)) ≡ each_of (near_of v.n.0) v t₀ (places_of v.d)

pub turning-start : (t : List ℕ) (v : Record) (n f : ℕ) → 3 ≤ v.d → v.d ≤ 6 → Given t n f → Turning t v n t f 0
turning-start t v n f l h g =
    let z : 6 - v.d - 0 ≡ 6 - v.d = omega arith in
    record {
      within = omega arith;
      given = g;
      long = refl;
      stays = λ p i h. h;
      left = ap (λ (k : ℕ). each_of (near_of v.n.0) v t (run 0 k)) z ∙ ap (each_of (near_of v.n.0) v t) (sym (places-first v.d l h));
    }

module _ (t₀ : List ℕ) (v : Record) (n : ℕ) (t : List ℕ) (f j : ℕ) (g : Turning t₀ v n t f j) where
  -- what is left, once all are done
  turned : (each_of (near_of v.n.0) v t₀ (places_of v.d)).number ≡ 0 → (t' : List ℕ) → t' ≡ (each_of (near_of v.n.0) v t₀ (places_of v.d)).bytes
      → ends_at t' (look_up t' v.at) ≡ bring_of v.n.0 t₀ v
  turned z t' b =
      ap (λ (s : List ℕ). ends_at s (look_up s v.at)) b ∙ then-on (each_of (near_of v.n.0) v t₀ (places_of v.d)) (λ s. ends_at s (look_up s v.at)) z
      ∙ bring-is v.n.0 t₀ v

  ended : 6 - v.d ≤ j → mesh_after 0 t ≡ each_of (near_of v.n.0) v t₀ (places_of v.d)
  ended h =
      let z : 0 ≡ 6 - v.d - j = omega (arith, g.within) in each_none (near_of v.n.0) v t j ∙ ap (λ (k : ℕ). each_of (near_of v.n.0) v t (run j k)) z
      ∙ g.left

  ends : 6 - v.d ≤ j → ends_at t (look_up t v.at) ≡ bring_of v.n.0 t₀ v
  ends h = let e = ended h in turned (sym (ap (λ (o : MeshAfter). o.number) e)) t (ap (λ (o : MeshAfter). o.bytes) e)

  here : {x : ℕ} → mesh_after x t ≡ bring_of v.n.0 t₀ v → After t₀ (bring_of v.n.0 t₀ v) x f t
  here {x} e = after_then g.long g.stays (after-here g.given x e)

  pub turning-six : 6 - v.d ≤ j → is_six (look_up t v.at) ≡ true → After t₀ (bring_of v.n.0 t₀ v) 0 f t
  turning-six h e = here (ap (λ (b : Bool). cond b (mesh_after 0 t) (mesh_after 7 t)) (sym e) ∙ ends h)

  pub turning-short : 6 - v.d ≤ j → is_six (look_up t v.at) ≡ false → After t₀ (bring_of v.n.0 t₀ v) 7 f t
  turning-short h e = here (ap (λ (b : Bool). cond b (mesh_after 0 t) (mesh_after 7 t)) (sym e) ∙ ends h)

  module _ (h : j < 6 - v.d) (t' : List ℕ) where
    pub turning-stop : (why : Refusal) → After t (near_of v.n.0 t (adjacent_at v j)) (number_of why) (free_slots t') t'
        → After t₀ (bring_of v.n.0 t₀ v) (number_of why) (free_slots t') t'
    turning-stop why a =
        let e = each-stop (near_of v.n.0) v t j (6 - v.d - j) (omega arith) (λ z. number-some why (a.number ∙ z)) ∙ g.left in
        let ne : (each_of (near_of v.n.0) v t₀ (places_of v.d)).number ≡ 0 → ⊥ =
        λ z. number-some why (a.number ∙ ap (λ (o : MeshAfter). o.number) e ∙ z) in
        after_then g.long g.stays
        (after_same (e ∙ then-stop (each_of (near_of v.n.0) v t₀ (places_of v.d)) (λ s. ends_at s (look_up s v.at)) ne ∙ bring-is v.n.0 t₀ v) a)

    pub turning-more : (f' : ℕ) → After t (near_of v.n.0 t (adjacent_at v j)) 0 f' t' → Turning t₀ v n t' f' (j + 1)
    turning-more f' a =
        let k : 6 - v.d - (j + 1) ≡ 6 - v.d - j - 1 = omega arith in
        record {
          within = omega arith;
          given = given-after g.given a;
          long = a.long ∙ g.long;
          stays = λ p i h. a.stays p i (g.stays p i h);
          left =
              (λ i. each_of (near_of v.n.0) v (a.bytes i) (run (j + 1) (k i)))
              ∙ each_more (near_of v.n.0) v t j (6 - v.d - j) (omega arith) (sym a.number) ∙ g.left;
        }
