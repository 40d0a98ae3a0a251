-- The ways through the functions. Loops that sum: `Summed`, `summed-start`, `summed-more`. The places of a star: `wrapped`,
-- `wrapped-first`, `wrapped-below`. A bool's number: `bit-from`, `from-most`. A side at a vertex: `faced-first`, `faced-second`,
-- `near_none`, `near-counted`. One across from it: `far-first`, `far-second`, `far-neither`, `narrow-first` .. `narrow_rest`, `across-left` ..
-- `across-narrow`, `far-ended`, `far-across`, `far_none`, `far-counted`. A corner: `corner-none`, `corner-counted`; all are plain: `all_more`.
-- A slot: `sides-free`, `sides-holds`, `faces-free`, `faces-holds`, `degree-counts`.
-- Assumes nothing.
use Rattle.std.specs.Prelude.{◌≡◌, true, false, ◌&&◌, ◌||◌, List, ℕ, suc, ◌+◌, ◌*◌, ◌≤◌, ◌<◌, eqb, Some, None}
use Rattle.std.specs.Int.{from_bool}
use Rattle.std.proofs.Math.Path.{sym, ap, refl}
use Rattle.std.proofs.Common.{◌∙◌, mul-add, arith, lit≤, ne_eqb}
use Rattle.std.proofs.Math.Bool.{Bool, cond, not, and_comm}
use Rattle.laws.specs.Rules.{upto}
use Rattle.lattice.specs.Stars.{adjacent_at}
use Rattle.lattice.specs.declared.points.Point.{Point}
use Rattle.lattice.specs.declared.records.Record.{Record}
use Rattle.table.specs.Slots.{slots_of, slot_at}
use Rattle.table.specs.Search.{same_point}
use Rattle.queries.specs.Queries.{chosen_at, is_point}
use Rattle.across.specs.Across.{apex_of}
use Rattle.firsts.specs.Faces.{bit, next_place}
use Rattle.firsts.specs.Earlier.{sum_below, slot_sum, slot_in, prev_place, faced, near_in, near_before, far_is, end_has, spot_is, face_before, face_on, face_count}
use Rattle.firsts.specs.Earlier.{corner_count, star_faces, slot_faces}
use Rattle.firsts.specs.DifferentLaws.{sum-none, sum_more}
use Rattle.firsts.specs.declared.faces.Face.{Face}
use Rattle.counts.specs.Counted.{near_count, far_before, apex_seen, narrow_else, across_else, far_one, far_at, far_count, star_sides, slot_sides, degree_at}
use Rattle.counts.specs.Counted.{slot_degree}

-- ---- loops that sum: none of the numbers summed is over w

pub record Summed (f : ℕ → ℕ) (w i sum : ℕ) : Type 0 where
  pub is : sum ≡ sum_below f i
  pub most : sum ≤ w * i

pub summed-start : (f : ℕ → ℕ) (w : ℕ) → Summed f w 0 0
summed-start f w = record { is = sym (sum-none f); most = omega arith }

pub summed-more : (f : ℕ → ℕ) (w i sum x : ℕ) → Summed f w i sum → x ≡ f i → x ≤ w → Summed f w (i + 1) (sum + x)
summed-more f w i sum x s e h =
    let d = mul-add w i 1 in
    record { is = omega (arith, s.is, sum_more f i, e); most = omega (arith, s.most, d) }

-- ---- the places of a star: past the last comes the first

abbrev pub wrapped : ℕ → ℕ → ℕ
wrapped d j = cond (eqb j d) 0 j

pub wrapped-first : (d : ℕ) → 0 ≡ wrapped d 0
wrapped-first d = go (eqb 0 d)
  where
    go : (b : Bool) → ◌≡◌ {A = ℕ} 0 (cond b 0 0)
    go true = refl
    go false = refl

pub wrapped-below : (d j : ℕ) → j < d → wrapped d j ≡ j
wrapped-below d j h = ap (λ (b : Bool). cond b 0 j) (ne_eqb j d (λ e. omega arith))

-- ---- a bool's number, as the code has it

pub bit-from : (b : Bool) → from_bool b ≡ bit b
bit-from true = refl
bit-from false = refl

pub from-most : (b : Bool) → from_bool b ≤ 1
from-most true = lit≤ tt
from-most false = lit≤ tt

-- ---- sides

module _ (t : List ℕ) (u : Record) (i : ℕ) where
  pub faced-first : is_point (chosen_at t u i) ≡ true → true ≡ faced t u i
  unfolding faced
  faced-first e = ap (λ (x : Bool). x || is_point (chosen_at t u (prev_place u.d i))) (sym e)

  pub faced-second : is_point (chosen_at t u i) ≡ false → is_point (chosen_at t u (prev_place u.d i)) ≡ faced t u i
  unfolding faced
  faced-second e = ap (λ (x : Bool). x || is_point (chosen_at t u (prev_place u.d i))) (sym e)

module _ (t : List ℕ) (k : ℕ) (v : Record) (j : ℕ) where
  pub near_none : faced t v j ≡ false → 0 ≡ near_count t k v j
  unfolding near_count
  near_none e = ap (λ (x : Bool). bit (x && not (near_before t k v.at (adjacent_at v j)))) (sym e)

  pub near-counted : faced t v j ≡ true → (s : ℕ) → s ≡ slot_in t (adjacent_at v j) → (b : Bool) → near_in t k v.at s ≡ b → bit (not b) ≡ near_count t k v j
  unfolding near_count
  near-counted f s e b h =
      ap (λ (x : Bool). bit (not x)) (sym h ∙ ap (near_in t k v.at) e)
      ∙ ap (λ (x : Bool). bit (x && not (near_before t k v.at (adjacent_at v j)))) (sym f)

module _ (t : List ℕ) (p q : Point) (u : Record) (i : ℕ) where
  pub far-first : same_point (adjacent_at u i) p ≡ true → spot_is (chosen_at t u i) q ≡ far_is t p q u i
  unfolding far_is
  far-first e = ap (λ (x : Bool). (x || same_point (adjacent_at u (next_place u.d i)) p) && spot_is (chosen_at t u i) q) (sym e)

  pub far-second : same_point (adjacent_at u i) p ≡ false → same_point (adjacent_at u (next_place u.d i)) p ≡ true → spot_is (chosen_at t u i) q ≡ far_is t p q u i
  unfolding far_is
  far-second e h = λ z. (sym e z || sym h z) && spot_is (chosen_at t u i) q

  pub far-neither : same_point (adjacent_at u i) p ≡ false → same_point (adjacent_at u (next_place u.d i)) p ≡ false → false ≡ far_is t p q u i
  unfolding far_is
  far-neither e h = λ z. (sym e z || sym h z) && spot_is (chosen_at t u i) q

module _ (t : List ℕ) (k : ℕ) (p q : Point) where
  pub narrow-first : apex_seen t (slots_of t) p q (apex_of p q) ≡ true → true ≡ narrow_else t k p q
  unfolding narrow_else
  narrow-first e = ap (λ (b : Bool). b || (apex_seen t (slots_of t) p q (apex_of q p) || (far_before t k p q || far_before t k q p))) (sym e)

  pub narrow-second : apex_seen t (slots_of t) p q (apex_of p q) ≡ false → apex_seen t (slots_of t) p q (apex_of q p) ≡ true → true ≡ narrow_else t k p q
  unfolding narrow_else
  narrow-second e h = λ i. sym e i || (sym h i || (far_before t k p q || far_before t k q p))

  pub narrow_rest : apex_seen t (slots_of t) p q (apex_of p q) ≡ false → apex_seen t (slots_of t) p q (apex_of q p) ≡ false → (b : Bool) → far_before t k p q ≡ b
      → b || far_before t k q p ≡ narrow_else t k p q
  unfolding narrow_else
  narrow_rest e h b g = λ i. sym e i || (sym h i || (sym g i || far_before t k q p))

module _ (t : List ℕ) (k : ℕ) (v p q : Point) where
  pub across-left : same_point v (apex_of p q) ≡ true → apex_seen t k p q (apex_of q p) ≡ across_else t k v p q
  unfolding across_else
  across-left e = ap (λ (b : Bool). cond b right (cond (same_point v (apex_of q p)) left (narrow_else t k p q))) (sym e)
    where
      left : Bool
      left = apex_seen t k p q (apex_of p q)

      right : Bool
      right = apex_seen t k p q (apex_of q p)

  pub across-right : same_point v (apex_of p q) ≡ false → same_point v (apex_of q p) ≡ true → apex_seen t k p q (apex_of p q) ≡ across_else t k v p q
  unfolding across_else
  across-right e h = λ i. cond (sym e i) (apex_seen t k p q (apex_of q p)) (cond (sym h i) (apex_seen t k p q (apex_of p q)) (narrow_else t k p q))

  pub across-narrow : same_point v (apex_of p q) ≡ false → same_point v (apex_of q p) ≡ false → narrow_else t k p q ≡ across_else t k v p q
  unfolding across_else
  across-narrow e h = λ i. cond (sym e i) (apex_seen t k p q (apex_of q p)) (cond (sym h i) (apex_seen t k p q (apex_of p q)) (narrow_else t k p q))

  pub far-ended : end_has t p q ≡ true → 0 ≡ far_one t k v p q
  unfolding far_one
  far-ended e = ap (λ (b : Bool). bit (not (b || across_else t k v p q))) (sym e)

  pub far-across : end_has t p q ≡ false → (b : Bool) → across_else t k v p q ≡ b → bit (not b) ≡ far_one t k v p q
  unfolding far_one
  far-across e b h = λ i. bit (not (sym e i || sym h i))

module _ (t : List ℕ) (k : ℕ) (v : Record) (j : ℕ) where
  pub far_none : chosen_at t v j ≡ None → 0 ≡ far_count t k v j
  unfolding far_count
  far_none e = ap (far_at t k v j) (sym e)

  pub far-counted : (o : Point) → chosen_at t v j ≡ Some o → far_at t k v j (Some o) ≡ far_count t k v j
  unfolding far_count
  far-counted o e = ap (far_at t k v j) (sym e)

-- ---- corners

module _ (t : List ℕ) (k : ℕ) (v : Record) (j : ℕ) where
  pub corner-none : chosen_at t v j ≡ None → 0 ≡ corner_count t k v j
  unfolding corner_count
  corner-none e = ap (face_count t k v j) (sym e)

  pub corner-counted : (o : Point) → chosen_at t v j ≡ Some o → (f : Face) → f ≡ face_on v j o → (b : Bool) → face_before t k f ≡ b
      → bit (not b) ≡ corner_count t k v j
  unfolding corner_count
  corner-counted o e f g b h = ap (λ (x : Bool). bit (not x)) (sym h ∙ ap (face_before t k) g) ∙ ap (face_count t k v j) (sym e)

pub all_more : (f : ℕ → Bool) (i : ℕ) (p b : Bool) → p ≡ upto i f → b ≡ f i → p && b ≡ upto (i + 1) f
all_more f i p b e h = let z : i + 1 ≡ suc i = omega arith in and_comm p b ∙ (λ i. h i && e i) ∙ ap (λ (n : ℕ). upto n f) (sym z)

-- ---- slots

module _ (t : List ℕ) (k : ℕ) where
  pub sides-free : slot_at t k ≡ None → 0 ≡ slot_sides t k
  unfolding slot_sides
  sides-free e = ap (slot_sum (star_sides t k)) (sym e)

  pub sides-holds : (v : Record) → slot_at t k ≡ Some v → star_sides t k v ≡ slot_sides t k
  unfolding slot_sides
  sides-holds v e = ap (slot_sum (star_sides t k)) (sym e)

  pub faces-free : slot_at t k ≡ None → 0 ≡ slot_faces t k
  unfolding slot_faces
  faces-free e = ap (slot_sum (star_faces t k)) (sym e)

  pub faces-holds : (v : Record) → slot_at t k ≡ Some v → star_faces t k v ≡ slot_faces t k
  unfolding slot_faces
  faces-holds v e = ap (slot_sum (star_faces t k)) (sym e)

-- ---- degrees

pub degree-counts : (t : List ℕ) (k d e r : ℕ) → d ≡ degree_at (slot_at t k) → r ≡ bit (eqb d e) → r ≡ slot_degree t e k
unfolding slot_degree
degree-counts t k d e r h x = x ∙ ap (λ (n : ℕ). bit (eqb n e)) h
