-- Document 02, ticket 5: "OFF files for the viewer", and OBJ files. What the promises cite: `write_off_of`, `write_obj_of`, which
-- are `view_of` at `off_style` and at `obj_style`.
-- What the two formats share is said once, over a `Style`: a head or none, `v` before a vertex or nothing, what stands before a face, the first number.
-- `viewer_file` the file · `view_of` what the call does. The lines, and the faces' in their order: `viewer_lines`' ViewerLines. A vertex's number: `numbering`'s
-- Numbering. Each face once, and which vertex is torn: `mesh_faces`' MeshFaces.
-- Assumes nothing.
use Rattle.std.specs.Prelude.{true, false, not, List, ◌++◌, ℕ}
use Rattle.laws.specs.Choices.{unless}
use Rattle.table.specs.Order.{in_order_of}
use Rattle.table.specs.Entries.{records_of}
use Rattle.counts.specs.Counts.{counts_of}
use Rattle.mesh_faces.specs.MeshFaces.{torn_of}
use Rattle.writers.specs.Files.{sorted, OutputAfter, output_after, put_of}
use Rattle.viewer_lines.specs.ViewerLines.{face_corners, head_text, vertex_text, face_text, texts}
use Rattle.viewer_lines.specs.declared.styles.Style.{Style}

-- ---- the two formats

-- the bytes of `4` and `f`
abbrev pub digit4 : ℕ
digit4 = 52

abbrev pub letter_f : ℕ
letter_f = 102

-- "`OFF`, the counts ..", "each face as 4 and four vertex numbers", "Numbers run from 0"
abbrev pub off_style : Style
off_style = record { head = true; marked = false; face = digit4; first = 0 }

-- "OBJ has the same lines with `v` before the coordinates and `f` for the 4, no head, numbers from 1"
abbrev pub obj_style : Style
obj_style = record { head = false; marked = true; face = letter_f; first = 1 }

-- ---- the file

-- "then each vertex .., then each face"
unfoldable pub viewer_file : Style → List ℕ → List ℕ
viewer_file s t = head_text s (counts_of t) ++ (texts (vertex_text s) (sorted (records_of t)) ++ texts (face_text s) (face_corners t))

-- ---- the call

-- "Refusals: 1, 7, 13."
unfoldable pub view_of : Style → List ℕ → List ℕ → OutputAfter
view_of s t out = unless (in_order_of t) (output_after 1 0 out) (unless (not (torn_of t)) (output_after 7 0 out) (put_of (viewer_file s t) out))

abbrev pub write_off_of : List ℕ → List ℕ → OutputAfter
write_off_of t out = view_of off_style t out

abbrev pub write_obj_of : List ℕ → List ℕ → OutputAfter
write_obj_of t out = view_of obj_style t out
