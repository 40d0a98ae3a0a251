-- Document 02, ticket 5: the numbers of vertices in a viewer's file. What the promises cite: `number_of` a vertex's number, by `how_many`.
-- Assumes nothing.
use Rattle.std.specs.Prelude.{Bool, List, [], ◌∷◌, ℕ, ◌+◌}
use Rattle.lattice.specs.declared.points.Point.{Point}
use Rattle.table.specs.Entries.{records_of}
use Rattle.firsts.specs.Faces.{bit}
use Rattle.text.specs.LineOrder.{earlier}

-- how many elements of a list pass a test
unfoldable pub how_many : {A : Type 0} → (A → Bool) → List A → ℕ
how_many test [] = 0
how_many test (x ∷ xs) = bit (test x) + how_many test xs

-- "Numbers run from 0 in full-file order": how many vertices come earlier in the full file
abbrev pub number_of : List ℕ → Point → ℕ
number_of t p = how_many (λ r. earlier r.at p) (records_of t)
