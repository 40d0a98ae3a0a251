-- The ways through the functions. A corner of another star: `corner-first`, `corner-second`, `corner-third`. A face: `before-second`, `before-third`,
-- `before-fourth`. Plain corners: `inners-none`, `plain-none`, `plain-face`, `plain-free`, `plain-holds`.
-- Assumes nothing.
use Rattle.std.specs.Prelude.{◌≡◌, Bool, not, ◌&&◌, ◌||◌, List, ℕ, Option, Some, None}
use Rattle.std.proofs.Math.Path.{refl, sym, ap}
use Rattle.std.proofs.Common.{◌∙◌, arith}
use Rattle.std.proofs.Math.Bool.{true, false, or-true}
use borrow.Author.Tests.{ltb-false}
use Rattle.std.proofs.Math.Dec.{ltb}
use Rattle.laws.specs.Each.{and-false, never}
use Rattle.laws.specs.Rules.{among}
use Rattle.lattice.specs.Stars.{adjacent_at}
use Rattle.lattice.specs.declared.points.Point.{Point}
use Rattle.lattice.specs.declared.records.Record.{Record}
use Rattle.table.specs.Slots.{slot_at}
use Rattle.table.specs.Search.{same_point}
use Rattle.table.specs.Entries.{holds}
use Rattle.queries.specs.Queries.{chosen_at}
use Rattle.firsts.specs.Faces.{next_place, turned}
use Rattle.firsts.specs.Earlier.{slot_in, spot_is, corner_is, face_seen, face_before, face_on, earlier_in, held_and, names_face, face_in, inner_in, inners_before}
use Rattle.firsts.specs.Earlier.{plain_with, plain_at, plain_star, plain_in, plain_slot}
use Rattle.firsts.specs.declared.faces.Face.{Face}

-- ---- corners

module _ (t : List ℕ) (u : Record) (f : Face) (i : ℕ) where
  pub corner-first : same_point (adjacent_at u i) f.adjacent ≡ false → false ≡ corner_is t u f i
  unfolding corner_is
  corner-first e = ap (λ (b : Bool). b && (same_point (adjacent_at u (next_place u.d i)) f.next && spot_is (chosen_at t u i) f.opposite)) (sym e)

  pub corner-second : same_point (adjacent_at u (next_place u.d i)) f.next ≡ false → false ≡ corner_is t u f i
  unfolding corner_is
  corner-second e =
      sym (and-false (same_point (adjacent_at u i) f.adjacent))
      ∙ ap (λ (b : Bool). same_point (adjacent_at u i) f.adjacent && (b && spot_is (chosen_at t u i) f.opposite)) (sym e)

  pub corner-third : same_point (adjacent_at u i) f.adjacent ≡ true → same_point (adjacent_at u (next_place u.d i)) f.next ≡ true
      → spot_is (chosen_at t u i) f.opposite ≡ corner_is t u f i
  unfolding corner_is
  corner-third e h =
      ap (λ (b : Bool). b && spot_is (chosen_at t u i) f.opposite) (sym h)
      ∙ ap (λ (b : Bool). b && (same_point (adjacent_at u (next_place u.d i)) f.next && spot_is (chosen_at t u i) f.opposite)) (sym e)

-- ---- plain corners

module _ (t : List ℕ) (k : ℕ) where
  -- a vertex without a star names nothing
  inner-names : (f : Face) (s : ℕ) → inner_in t k s ≡ false → face_in t k f s ≡ false
  unfolding inner_in face_in names_face
  inner-names f s h = go (earlier_in t k s) h
    where
      go : (l : Option Record) → held_and (λ u. ltb 0 u.d) l ≡ false → held_and (names_face t f) l ≡ false
      go None e = refl
      go (Some u) e = let z : u.d ≡ 0 = omega (arith, ltb-false 0 u.d e) in ap (λ (d : ℕ). among d (corner_is t u f)) z

  pub inners-none : (f : Face) → inners_before t k f ≡ false → face_before t k f ≡ false
  unfolding face_before
  inners-none f h =
      let a = inner_in t k (slot_in t f.adjacent) in
      let b = inner_in t k (slot_in t f.opposite) in
      let c = inner_in t k (slot_in t f.next) in
      let x = neither a (b || c) h in
      let y = neither b c x.1 in
      λ i.
      inner-names (turned f) (slot_in t f.adjacent) x.0 i
      || (inner-names (turned (turned f)) (slot_in t f.opposite) y.0 i || inner-names (turned (turned (turned f))) (slot_in t f.next) y.1 i)
    where
      neither : (b c : Bool) → b || c ≡ false → (b ≡ false) × (c ≡ false)
      neither true c e = absurd (never (sym e))
      neither false c e = (refl, e)

  module _ (v : Record) (j : ℕ) where
    pub plain-none : chosen_at t v j ≡ None → false ≡ plain_at t k v j
    unfolding plain_at
    plain-none e = ap (plain_with t k v j) (sym e)

    pub plain-face : (o : Point) → chosen_at t v j ≡ Some o → (f : Face) → f ≡ face_on v j o → (x y z : Bool) → x ≡ holds t (adjacent_at v j)
        → y ≡ inners_before t k f → z ≡ face_before t k f → x && (not y || z) ≡ plain_at t k v j
    unfolding plain_at
    plain-face o e f g x y z hx hy hz =
        (λ i. hx i && (not (hy i) || hz i)) ∙ ap (λ (f : Face). holds t (adjacent_at v j) && (not (inners_before t k f) || face_before t k f)) g
        ∙ ap (plain_with t k v j) (sym e)

  pub plain-free : slot_at t k ≡ None → true ≡ plain_slot t k
  unfolding plain_slot
  plain-free e = ap (plain_in t k) (sym e)

  pub plain-holds : (v : Record) → slot_at t k ≡ Some v → plain_star t k v ≡ plain_slot t k
  unfolding plain_slot
  plain-holds v e = ap (plain_in t k) (sym e)

-- ---- the three other vertices of a face

module _ (t : List ℕ) (k : ℕ) (f : Face) where
  pub before-second : face_seen t k (turned f) ≡ true → true ≡ face_before t k f
  unfolding face_before
  before-second e = ap (λ (b : Bool). b || (face_seen t k (turned (turned f)) || face_seen t k (turned (turned (turned f))))) (sym e)

  pub before-third : face_seen t k (turned (turned f)) ≡ true → true ≡ face_before t k f
  unfolding face_before
  before-third e =
      sym (or-true (face_seen t k (turned f))) ∙ ap (λ (b : Bool). face_seen t k (turned f) || (b || face_seen t k (turned (turned (turned f))))) (sym e)

  pub before-fourth : face_seen t k (turned f) ≡ false → face_seen t k (turned (turned f)) ≡ false → face_seen t k (turned (turned (turned f))) ≡ face_before t k f
  unfolding face_before
  before-fourth e h = λ i. sym e i || (sym h i || face_seen t k (turned (turned (turned f))))
