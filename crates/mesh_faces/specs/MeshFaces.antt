-- Document 02, ticket 5: "each face", the different ones of the vertices, as the census counts them; and the vertices of which the faces query answers 7.
-- What the promises of the viewer's files cite: `mesh_faces`, `torn_of`. `once_after` those of a list with no same one before them · `torn_at` of one vertex.
-- Assumes nothing.
use Rattle.std.specs.Prelude.{Bool, cond, not, ◌&&◌, List, [], ◌∷◌, ◌++◌, ℕ}
use Rattle.laws.specs.Some.{some_of}
use Rattle.lattice.specs.declared.records.Record.{Record}
use Rattle.table.specs.Entries.{records_of}
use Rattle.queries.specs.Queries.{adjacents_there, corners_there}
use Rattle.firsts.specs.Faces.{each, faces_at, same_face}
use Rattle.firsts.specs.declared.faces.Face.{Face}

-- those of a list with no same one before them; `seen` are the ones before
unfoldable pub once_after : {A : Type 0} → (A → A → Bool) → List A → List A → List A
once_after same seen [] = []
once_after same seen (x ∷ xs) = cond (some_of (same x) seen) [] (x ∷ []) ++ once_after same (seen ++ x ∷ []) xs

-- "each face": the different faces of the vertices, as the census counts them
abbrev pub mesh_faces : List ℕ → List Face
mesh_faces t = once_after same_face [] (each (faces_at t) (records_of t))

-- the faces query at a vertex is torn: an adjacent is absent, or a corner has no opposite in the table; a boundary vertex has neither
abbrev pub torn_at : List ℕ → Record → Bool
torn_at t r = not (adjacents_there t r && corners_there t r)

unfoldable pub torn_of : List ℕ → Bool
torn_of t = some_of (torn_at t) (records_of t)
