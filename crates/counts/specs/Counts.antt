-- Document 01, "Census program": "V is records; .. F the different faces; then records by degree." Document 02, ticket 2: "An edge is from now on a side
-- of a face, taken once whichever way it runs. .. This replaces Document 01's E." What the promise cites: `counts_of`.
-- `edges_in`, `degree_in` those of a table; faces and sides, which are the same, and `faces_in` stand on the floor below, in Faces.
-- Assumes nothing.
use Rattle.std.specs.Prelude.{List, [], ◌∷◌, ℕ, ◌+◌, eqb, length}
use Rattle.lattice.specs.declared.records.Record.{Record}
use Rattle.table.specs.Entries.{records_of}
use Rattle.firsts.specs.Faces.{bit, different, each, faces_at, sides_of, same_side, faces_in}
use Rattle.counts.specs.declared.Counts.{Counts}

-- ---- the numbers

-- the sides of the faces that F counts
abbrev pub edges_in : List ℕ → ℕ
edges_in t = different same_side (each sides_of (each (faces_at t) (records_of t)))

-- how many records of a list have degree d
unfoldable pub of_degree : ℕ → List Record → ℕ
of_degree d [] = 0
of_degree d (r ∷ rs) = bit (eqb r.d d) + of_degree d rs

abbrev pub degree_in : ℕ → List ℕ → ℕ
degree_in d t = of_degree d (records_of t)

-- "V E F d0 d3 d4 d5 d6"
abbrev pub numbers : ℕ → ℕ → ℕ → ℕ → ℕ → ℕ → ℕ → ℕ → Counts
numbers v e f d0 d3 d4 d5 d6 = record { vertices = v; edges = e; faces = f; d0 = d0; d3 = d3; d4 = d4; d5 = d5; d6 = d6 }

unfoldable pub counts_of : List ℕ → Counts
counts_of t = numbers (length (records_of t)) (edges_in t) (faces_in t) (degree_in 0 t) (degree_in 3 t) (degree_in 4 t) (degree_in 5 t) (degree_in 6 t)
