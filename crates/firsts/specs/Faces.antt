-- Faces and their sides. Document 01, "Census program": "F the different faces". Document 02, ticket 2: "An edge is from now on a side of a face, taken once
-- whichever way it runs."
-- `different` how many different ones a list has · `faces_at` the faces of a vertex, `sides_of` the sides of a face, `same_face`, `same_side` which are the
-- same · `faces_in` the different faces of a table.
-- Assumes nothing.
use Rattle.std.specs.Prelude.{Bool, true, false, cond, not, ◌&&◌, ◌||◌, List, [], ◌∷◌, ◌++◌, ℕ, zero, suc, ◌+◌, eqb, Option, Some, None}
use Rattle.laws.specs.Some.{some_of}
use Rattle.lattice.specs.Stars.{adjacent_at}
use Rattle.lattice.specs.declared.points.Point.{Point}
use Rattle.lattice.specs.declared.records.Record.{Record}
use Rattle.table.specs.Search.{same_point}
use Rattle.table.specs.Entries.{records_of}
use Rattle.queries.specs.Queries.{chosen_at}
use Rattle.firsts.specs.declared.faces.Face.{Face}

-- ---- "the different": those of a list with no same one before them

abbrev pub bit : Bool → ℕ
bit true = 1
bit false = 0

-- `seen` are the ones before
unfoldable pub different_after : {A : Type 0} → (A → A → Bool) → List A → List A → ℕ
different_after same seen [] = 0
different_after same seen (x ∷ xs) = bit (not (some_of (same x) seen)) + different_after same (seen ++ x ∷ []) xs

abbrev pub different : {A : Type 0} → (A → A → Bool) → List A → ℕ
different same xs = different_after same [] xs

-- what the places 0, 1, .. below d give, one after the other
unfoldable pub gather : {A : Type 0} → ℕ → (ℕ → List A) → List A
gather zero f = []
gather (suc d) f = gather d f ++ f d

-- what the elements of a list give, one after the other
unfoldable pub each : {A B : Type 0} → (A → List B) → List A → List B
each g [] = []
each g (v ∷ vs) = g v ++ each g vs

-- ---- "Corner j lies between adjacent j and the next, the last before the first. Its face is v, adjacent j, opposite j, next adjacent."

abbrev pub next_place : ℕ → ℕ → ℕ
next_place d j = cond (eqb (j + 1) d) 0 (j + 1)

abbrev pub face : Point → Point → Point → Point → Face
face v a o b = record { at = v; adjacent = a; opposite = o; next = b }

-- the face of corner j with this opposite; a corner with no opposite in the table has none
abbrev pub face_with : Record → ℕ → Option Point → List Face
face_with v j (Some o) = face v.at (adjacent_at v j) o (adjacent_at v (next_place v.d j)) ∷ []
face_with v j None = []

-- "The opposite is the first one if that is in the table, else the second.": `chosen_at`
abbrev pub faces_at : List ℕ → Record → List Face
faces_at t v = gather v.d (λ j. face_with v j (chosen_at t v j))

-- the face read from its next vertex on
abbrev pub turned : Face → Face
turned f = face f.adjacent f.opposite f.next f.at

-- the same four points in the same places
unfoldable pub fits : Face → Face → Bool
fits f g = same_point f.at g.at && (same_point f.adjacent g.adjacent && (same_point f.opposite g.opposite && same_point f.next g.next))

-- one is the other, read from one of its vertices on
unfoldable pub same_face : Face → Face → Bool
unfolding fits
same_face f g = fits f g || (fits (turned f) g || (fits (turned (turned f)) g || fits (turned (turned (turned f))) g))

-- ---- "a side of a face": two vertices that follow each other round it

pub record Side : Type 0 where
  pub one : Point
  pub other : Point

abbrev pub side : Point → Point → Side
side p q = record { one = p; other = q }

-- the four of a face, in their order round
abbrev pub sides_of : Face → List Side
sides_of f = side f.at f.adjacent ∷ side f.adjacent f.opposite ∷ side f.opposite f.next ∷ side f.next f.at ∷ []

-- "taken once whichever way it runs"
unfoldable pub same_side : Side → Side → Bool
same_side s z = same_point s.one z.one && same_point s.other z.other || same_point s.one z.other && same_point s.other z.one

abbrev pub faces_in : List ℕ → ℕ
faces_in t = different same_face (each (faces_at t) (records_of t))
