-- What the functions below `survey` promise: each side is counted at the first of the vertices that have it, in the order of slots (EdgeLaws), first those
-- at their ends, then those that no end has. `near_count` the sides at a vertex · `far_before`, `across_else`, `far_count` those across · `slot_sides`,
-- `slot_degree` what a slot adds · `degrees_of` records by degree · `faces_and_sides` what is counted of corners.
-- Assumes nothing.
use Rattle.std.specs.Prelude.{◌≡◌, Bool, true, false, cond, not, ◌&&◌, ◌||◌, List, ℕ, ◌+◌, eqb, Option, Some, None}
use Rattle.laws.specs.Rules.{among}
use Rattle.lattice.specs.Stars.{adjacent_at}
use Rattle.lattice.specs.declared.points.Point.{Point}
use Rattle.lattice.specs.declared.records.Record.{Record}
use Rattle.table.specs.Slots.{slots_of, slot_at}
use Rattle.table.specs.Search.{same_point}
use Rattle.queries.specs.Queries.{chosen_at}
use Rattle.across.specs.Across.{factor_of, across_of, apex_of}
use Rattle.firsts.specs.Faces.{bit, next_place}
use Rattle.firsts.specs.Earlier.{sum_below, slot_sum, earlier_of, held_and, faced, near_before, has_far, end_has}
use Rattle.counts.specs.Counts.{degree_in}
use Rattle.counts.specs.declared.corners.Counted.{Counted}
use Rattle.counts.specs.declared.degrees.Degrees.{Degrees}

-- ---- the sides at a vertex, "near"
-- 1 where the side of v, in slot k, to its adjacent point j is counted there
unfoldable pub near_count : List ℕ → ℕ → Record → ℕ → ℕ
near_count t k v j = bit (faced t v j && not (near_before t k v.at (adjacent_at v j)))

-- ---- the sides across from a vertex, "far"
-- the vertex across at place c of the eight stands before slot k, and has the side
unfoldable pub far_seen : List ℕ → ℕ → Point → Point → ℕ → Bool
far_seen t k p q c = held_and (has_far t p q) (earlier_of t k (across_of (factor_of c) p q))

-- some vertex before slot k has the side from its adjacent point p to the opposite q
unfoldable pub far_before : List ℕ → ℕ → Point → Point → Bool
far_before t k p q = among 8 (far_seen t k p q)

-- a vertex at a, before slot k, has the side of p and q, whichever of them is the opposite
unfoldable pub has_either : List ℕ → Point → Point → Record → Bool
has_either t p q u = has_far t p q u || has_far t q p u

unfoldable pub apex_seen : List ℕ → ℕ → Point → Point → Point → Bool
apex_seen t k p q a = held_and (has_either t p q) (earlier_of t k a)

-- "wide": the vertex stands at an apex of p and q
abbrev pub is_wide : Point → Point → Point → Bool
is_wide v p q = same_point v (apex_of p q) || same_point v (apex_of q p)

-- a vertex at an apex has the side, in whatever slot, or one across from it before slot k
unfoldable pub narrow_else : List ℕ → ℕ → Point → Point → Bool
narrow_else t k p q =
    apex_seen t (slots_of t) p q (apex_of p q) || (apex_seen t (slots_of t) p q (apex_of q p) || (far_before t k p q || far_before t k q p))

-- a side that no end has is counted elsewhere than at v, in slot k: where v stands at an apex, by a vertex at the other one before slot k
unfoldable pub across_else : List ℕ → ℕ → Point → Point → Point → Bool
across_else t k v p q =
    cond (same_point v (apex_of p q)) (apex_seen t k p q (apex_of q p)) (cond (same_point v (apex_of q p)) (apex_seen t k p q (apex_of p q)) (narrow_else t k p q))

-- 1 where the side of p and q, across from the vertex at v in slot k, is counted there
unfoldable pub far_one : List ℕ → ℕ → Point → Point → Point → ℕ
far_one t k v p q = bit (not (end_has t p q || across_else t k v p q))

-- where the face was counted before, its sides across that are not wide need not be looked at: an end has them, or they are counted elsewhere
abbrev pub Spared : List ℕ → ℕ → Point → Point → Point → Bool → Type 0
Spared t k v p q seen = seen ≡ true → is_wide v p q ≡ false → end_has t p q || narrow_else t k p q ≡ true

abbrev pub SparedAcross : List ℕ → ℕ → Point → Point → Point → Bool → Type 0
SparedAcross t k v p q seen = seen ≡ true → is_wide v p q ≡ false → narrow_else t k p q ≡ true

abbrev pub far_at : List ℕ → ℕ → Record → ℕ → Option Point → ℕ
far_at t k v j (Some o) = far_one t k v.at (adjacent_at v j) o + far_one t k v.at (adjacent_at v (next_place v.d j)) o
far_at t k v j None = 0

-- how many of the two sides across corner j of v, in slot k, are counted there
unfoldable pub far_count : List ℕ → ℕ → Record → ℕ → ℕ
far_count t k v j = far_at t k v j (chosen_at t v j)

-- ---- all
abbrev pub side_count : List ℕ → ℕ → Record → ℕ → ℕ
side_count t k v j = near_count t k v j + far_count t k v j

abbrev pub star_sides : List ℕ → ℕ → Record → ℕ
star_sides t k v = sum_below (side_count t k v) v.d

unfoldable pub slot_sides : List ℕ → ℕ → ℕ
slot_sides t k = slot_sum (star_sides t k) (slot_at t k)

-- ---- degrees
-- no record has it
abbrev pub no_degree : ℕ
no_degree = 255

-- the degree of a slot's record, if there is one
abbrev pub degree_at : Option Record → ℕ
degree_at None = no_degree
degree_at (Some v) = v.d

-- 1 where slot k holds a record of degree d
unfoldable pub slot_degree : List ℕ → ℕ → ℕ → ℕ
slot_degree t d k = bit (eqb (degree_at (slot_at t k)) d)

abbrev pub degrees : ℕ → ℕ → ℕ → ℕ → ℕ → Degrees
degrees d0 d3 d4 d5 d6 = record { d0 = d0; d3 = d3; d4 = d4; d5 = d5; d6 = d6 }

-- how many records of a table have each
abbrev pub degrees_of : List ℕ → Degrees
degrees_of t = degrees (degree_in 0 t) (degree_in 3 t) (degree_in 4 t) (degree_in 5 t) (degree_in 6 t)

-- ---- faces, sides and plainness together
abbrev pub faces_and_sides : ℕ → ℕ → Bool → Counted
faces_and_sides f s p = record { faces = f; sides = s; plain = p }
