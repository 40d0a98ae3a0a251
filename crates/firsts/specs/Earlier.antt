-- What the functions of this floor promise, and what those of the floors above do by it: each face is taken at the first of the vertices that name it, in
-- the order of slots (FaceLaws). `sum_below` a sum · `earlier_of` the record at a point, if it stands before a slot · `faced`, `has_near`, `near_before`,
-- `end_has` the sides at a vertex, `has_far` those across · `corner_is`, `names_face`, `face_before`, `corner_count` its faces, `slot_faces` what a slot adds ·
-- `inners_before` vertices with a star before a slot, `plain_at`, `plain_of` plain corners.
-- Assumes nothing.
use Rattle.std.specs.Prelude.{◌≡◌, Bool, true, false, cond, not, ◌&&◌, ◌||◌, List, ℕ, zero, suc, ◌+◌, ◌-◌, eqb, ltb, Option, Some, None}
use Rattle.laws.specs.Rules.{among, upto}
use Rattle.lattice.specs.Stars.{adjacent_at}
use Rattle.lattice.specs.declared.points.Point.{Point}
use Rattle.lattice.specs.declared.records.Record.{Record}
use Rattle.table.specs.Slots.{slots_of, slot_at}
use Rattle.table.specs.Search.{same_point, find_of}
use Rattle.table.specs.Entries.{held_in, holds, slot_found}
use Rattle.queries.specs.Queries.{chosen_at, is_point}
use Rattle.firsts.specs.Faces.{bit, next_place, face, turned}
use Rattle.firsts.specs.declared.earlier.Placed.{Placed}
use Rattle.firsts.specs.declared.faces.Face.{Face}

-- f 0 + f 1 + .. of the numbers below n
unfoldable pub sum_below : (ℕ → ℕ) → ℕ → ℕ
sum_below f zero = 0
sum_below f (suc n) = sum_below f n + f n

-- what the record in slot i gives
abbrev pub slot_sum : (Record → ℕ) → Option Record → ℕ
slot_sum f None = 0
slot_sum f (Some v) = f v

-- ---- the slot of a point, past the last where it has none; the record in a slot, if that comes before slot k
unfoldable pub slot_in : List ℕ → Point → ℕ
slot_in t p = slot_found (slots_of t) (find_of t p)

-- a point and its slot
abbrev pub placed_of : List ℕ → Point → Placed
placed_of t p = record { at = p; slot = slot_in t p }

unfoldable pub earlier_in : List ℕ → ℕ → ℕ → Option Record
earlier_in t k s = cond (ltb s k) (held_in (slot_at t s)) None

-- the record at a point, if it stands before slot k
abbrev pub earlier_of : List ℕ → ℕ → Point → Option Record
earlier_of t k p = earlier_in t k (slot_in t p)

abbrev pub held_and : (Record → Bool) → Option Record → Bool
held_and f None = false
held_and f (Some u) = f u

abbrev pub spot_is : Option Point → Point → Bool
spot_is (Some o) p = same_point o p
spot_is None p = false

-- ---- the sides at a vertex, "near": from it to an adjacent point, in the corner after that place or in the one before
abbrev pub prev_place : ℕ → ℕ → ℕ
prev_place d j = cond (eqb j 0) (d - 1) (j - 1)

-- one of the two corners at place i of u has a face
unfoldable pub faced : List ℕ → Record → ℕ → Bool
faced t u i = is_point (chosen_at t u i) || is_point (chosen_at t u (prev_place u.d i))

-- place i of u has the side to p in a face
abbrev pub near_is : List ℕ → Point → Record → ℕ → Bool
near_is t p u i = same_point (adjacent_at u i) p && faced t u i

-- some place does
unfoldable pub has_near : List ℕ → Point → Record → Bool
has_near t p u = among u.d (near_is t p u)

-- the vertex in slot s stands before slot k, and has the side to p
unfoldable pub near_in : List ℕ → ℕ → Point → ℕ → Bool
near_in t k p s = held_and (has_near t p) (earlier_in t k s)

-- the vertex at q does
abbrev pub near_before : List ℕ → ℕ → Point → Point → Bool
near_before t k p q = near_in t k p (slot_in t q)

-- ---- the sides across from a vertex, "far": from an adjacent point to the opposite of one of its two corners
-- corner i of u has the side from its adjacent point p to the opposite q
unfoldable pub far_is : List ℕ → Point → Point → Record → ℕ → Bool
far_is t p q u i = (same_point (adjacent_at u i) p || same_point (adjacent_at u (next_place u.d i)) p) && spot_is (chosen_at t u i) q

-- some corner does
unfoldable pub has_far : List ℕ → Point → Point → Record → Bool
has_far t p q u = among u.d (far_is t p q u)

-- one of the ends of p and q has the side, in whatever slot it stands
unfoldable pub end_has : List ℕ → Point → Point → Bool
end_has t p q = near_before t (slots_of t) q p || near_before t (slots_of t) p q

-- a, o and b are the other three vertices of the face of corner j of v
pub record Round (t : List ℕ) (v : Record) (j : ℕ) (a o b : Placed) : Type 0 where
  pub adjacent : a ≡ placed_of t (adjacent_at v j)
  pub chosen : chosen_at t v j ≡ Some o.at
  pub opposite : o.slot ≡ slot_in t o.at
  pub next : b ≡ placed_of t (adjacent_at v (next_place v.d j))

-- ---- faces
-- corner i of u makes the face f, if that is read from u on
unfoldable pub corner_is : List ℕ → Record → Face → ℕ → Bool
corner_is t u f i =
    same_point (adjacent_at u i) f.adjacent && (same_point (adjacent_at u (next_place u.d i)) f.next && spot_is (chosen_at t u i) f.opposite)

-- some corner does
unfoldable pub names_face : List ℕ → Face → Record → Bool
names_face t f u = among u.d (corner_is t u f)

-- the vertex in slot s stands before slot k, and names f
unfoldable pub face_in : List ℕ → ℕ → Face → ℕ → Bool
face_in t k f s = held_and (names_face t f) (earlier_in t k s)

-- the first vertex of f does
abbrev pub face_seen : List ℕ → ℕ → Face → Bool
face_seen t k f = face_in t k f (slot_in t f.at)

-- one of its three others does
unfoldable pub face_before : List ℕ → ℕ → Face → Bool
face_before t k f = face_seen t k (turned f) || (face_seen t k (turned (turned f)) || face_seen t k (turned (turned (turned f))))

-- the face of corner j of v with opposite o
abbrev pub face_on : Record → ℕ → Point → Face
face_on v j o = face v.at (adjacent_at v j) o (adjacent_at v (next_place v.d j))

abbrev pub face_count : List ℕ → ℕ → Record → ℕ → Option Point → ℕ
face_count t k v j (Some o) = bit (not (face_before t k (face_on v j o)))
face_count t k v j None = 0

-- 1 where the face of corner j of v, in slot k, is counted there
unfoldable pub corner_count : List ℕ → ℕ → Record → ℕ → ℕ
corner_count t k v j = face_count t k v j (chosen_at t v j)

abbrev pub star_faces : List ℕ → ℕ → Record → ℕ
star_faces t k v = sum_below (corner_count t k v) v.d

unfoldable pub slot_faces : List ℕ → ℕ → ℕ
slot_faces t k = slot_sum (star_faces t k) (slot_at t k)

-- ---- plain corners
-- the vertex in slot s stands before slot k, and has a star
unfoldable pub inner_in : List ℕ → ℕ → ℕ → Bool
inner_in t k s = held_and (λ u. ltb 0 u.d) (earlier_in t k s)

abbrev pub inners_in : List ℕ → ℕ → ℕ → ℕ → ℕ → Bool
inners_in t k a o b = inner_in t k a || (inner_in t k o || inner_in t k b)

-- one of the three others of a face does
abbrev pub inners_before : List ℕ → ℕ → Face → Bool
inners_before t k f = inners_in t k (slot_in t f.adjacent) (slot_in t f.opposite) (slot_in t f.next)

-- corner j of v, in slot k, is whole, and if a vertex with a star stands before slot k in its face, one that names the face does
abbrev pub plain_with : List ℕ → ℕ → Record → ℕ → Option Point → Bool
plain_with t k v j (Some o) = holds t (adjacent_at v j) && (not (inners_before t k (face_on v j o)) || face_before t k (face_on v j o))
plain_with t k v j None = false

unfoldable pub plain_at : List ℕ → ℕ → Record → ℕ → Bool
plain_at t k v j = plain_with t k v j (chosen_at t v j)

abbrev pub plain_star : List ℕ → ℕ → Record → Bool
plain_star t k v = upto v.d (plain_at t k v)

abbrev pub plain_in : List ℕ → ℕ → Option Record → Bool
plain_in t k None = true
plain_in t k (Some v) = plain_star t k v

unfoldable pub plain_slot : List ℕ → ℕ → Bool
plain_slot t k = plain_in t k (slot_at t k)

-- all corners are
unfoldable pub plain_of : List ℕ → Bool
plain_of t = upto (slots_of t) (plain_slot t)
