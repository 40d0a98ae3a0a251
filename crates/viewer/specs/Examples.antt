-- The files of one hexagon and of an empty table, and each refusal of both calls: by computing, from the table's bytes.
-- Assumes nothing.
use Rattle.std.specs.Prelude.{◌≡◌, refl, true, false, List, [], ◌∷◌, ◌++◌, ℕ, ℤ, pos, negsuc, replicate}
use Rattle.std.proofs.Common.{sym, ap, ◌∙◌}
use Rattle.laws.specs.Words.{word_at}
use Rattle.sorting.specs.Sorting.{insert_by, sort_by}
use Rattle.lattice.specs.Points.{pt, normal_of, turns}
use Rattle.lattice.specs.Patterns.{three, four, five, six, rows_of, pattern_of, orient}
use Rattle.lattice.specs.declared.records.Record.{Record}
use Rattle.table.specs.Slots.{slots_in, free_at, record_at, slot_at, record_bytes, put_slot}
use Rattle.table.specs.Search.{home_of, same_point, search_from, find_of}
use Rattle.table.specs.Order.{placed_at, all_placed, in_order_of}
use Rattle.table.specs.Entries.{look_up, enter_of, records_below, records_of}
use Rattle.queries.specs.Queries.{adjacents_there, chosen_at, corners_there}
use Rattle.firsts.specs.Faces.{different_after, gather, each, fits, same_face, same_side}
use Rattle.counts.specs.Counts.{of_degree, numbers, counts_of}
use Rattle.text.specs.Decimal.{digits_by, digits}
use Rattle.text.specs.LineOrder.{earlier}
use Rattle.writers.specs.Files.{sorted, output_after, put_of}
use Rattle.mesh_faces.specs.MeshFaces.{once_after, torn_of}
use Rattle.coordinates.specs.Coordinates.{root_from, root_of, near_x, near_y, decimals, coordinate, position_text}
use Rattle.numbering.specs.Numbering.{how_many}
use Rattle.viewer_lines.specs.ViewerLines.{least_first, rises, head_text, vertex_text, face_text, texts}
use Rattle.viewer.specs.Viewer.{viewer_file, view_of}
use Rattle.viewer_lines.specs.ViewerLines.{corners, face_corners}
use Rattle.viewer.specs.Viewer.{off_style, obj_style, write_off_of, write_obj_of}
use Rattle.viewer.specs.CallLaws.{view-whole}
use Rattle.viewer_lines.specs.declared.styles.Style.{Style}
use Rattle.viewer_lines.specs.declared.corners.Corners.{Corners}

-- [a, b, 0], of degree d, at level 0
vertex : ℤ → ℤ → ℕ → Record
vertex a b d = record { at = pt a b 0; d = d; k = 0; n = record { 0 = 0 } }

entered : List ℕ → List Record → List ℕ
entered t [] = t
entered t (r ∷ rs) = entered (enter_of t r) rs

empty : List ℕ
empty = replicate 192 255

one : List ℕ
one =
    entered empty
    (vertex (pos 0) (pos 0) 3
    ∷ vertex (pos 1) (pos 0) 0
    ∷ vertex (pos 0) (pos 1) 0
    ∷ vertex (negsuc 0) (pos 1) 0
    ∷ vertex (negsuc 0) (pos 0) 0
    ∷ vertex (pos 0) (negsuc 0) 0
    ∷ vertex (pos 1) (negsuc 0) 0
    ∷ [])

-- "OFF", "7 3 9" vertices, faces and edges, then each vertex, from "-1.0000 0.0000 0.0000" on, and each face: "4 0 2 3 1", "4 1 3 6 4", "4 2 5 6 3",
-- counter-clockwise, smallest first
off : List ℕ
off =
    79 ∷ 70 ∷ 70 ∷ 10
    ∷ 55 ∷ 32 ∷ 51 ∷ 32 ∷ 57 ∷ 10
    ∷ 45 ∷ 49 ∷ 46 ∷ 48 ∷ 48 ∷ 48 ∷ 48 ∷ 32 ∷ 48 ∷ 46 ∷ 48 ∷ 48 ∷ 48 ∷ 48 ∷ 32 ∷ 48 ∷ 46 ∷ 48 ∷ 48 ∷ 48 ∷ 48 ∷ 10
    ∷ 45 ∷ 48 ∷ 46 ∷ 53 ∷ 48 ∷ 48 ∷ 48 ∷ 32 ∷ 48 ∷ 46 ∷ 56 ∷ 54 ∷ 54 ∷ 48 ∷ 32 ∷ 48 ∷ 46 ∷ 48 ∷ 48 ∷ 48 ∷ 48 ∷ 10
    ∷ 45 ∷ 48 ∷ 46 ∷ 53 ∷ 48 ∷ 48 ∷ 48 ∷ 32 ∷ 45 ∷ 48 ∷ 46 ∷ 56 ∷ 54 ∷ 54 ∷ 48 ∷ 32 ∷ 48 ∷ 46 ∷ 48 ∷ 48 ∷ 48 ∷ 48 ∷ 10
    ∷ 48 ∷ 46 ∷ 48 ∷ 48 ∷ 48 ∷ 48 ∷ 32 ∷ 48 ∷ 46 ∷ 48 ∷ 48 ∷ 48 ∷ 48 ∷ 32 ∷ 48 ∷ 46 ∷ 48 ∷ 48 ∷ 48 ∷ 48 ∷ 10
    ∷ 48 ∷ 46 ∷ 53 ∷ 48 ∷ 48 ∷ 48 ∷ 32 ∷ 48 ∷ 46 ∷ 56 ∷ 54 ∷ 54 ∷ 48 ∷ 32 ∷ 48 ∷ 46 ∷ 48 ∷ 48 ∷ 48 ∷ 48 ∷ 10
    ∷ 48 ∷ 46 ∷ 53 ∷ 48 ∷ 48 ∷ 48 ∷ 32 ∷ 45 ∷ 48 ∷ 46 ∷ 56 ∷ 54 ∷ 54 ∷ 48 ∷ 32 ∷ 48 ∷ 46 ∷ 48 ∷ 48 ∷ 48 ∷ 48 ∷ 10
    ∷ 49 ∷ 46 ∷ 48 ∷ 48 ∷ 48 ∷ 48 ∷ 32 ∷ 48 ∷ 46 ∷ 48 ∷ 48 ∷ 48 ∷ 48 ∷ 32 ∷ 48 ∷ 46 ∷ 48 ∷ 48 ∷ 48 ∷ 48 ∷ 10
    ∷ 52 ∷ 32 ∷ 48 ∷ 32 ∷ 50 ∷ 32 ∷ 51 ∷ 32 ∷ 49 ∷ 10
    ∷ 52 ∷ 32 ∷ 49 ∷ 32 ∷ 51 ∷ 32 ∷ 54 ∷ 32 ∷ 52 ∷ 10
    ∷ 52 ∷ 32 ∷ 50 ∷ 32 ∷ 53 ∷ 32 ∷ 54 ∷ 32 ∷ 51 ∷ 10
    ∷ []

-- no head, "v -1.0000 0.0000 0.0000" and the other vertices, "f 1 3 4 2", "f 2 4 7 5", "f 3 6 7 4"
obj : List ℕ
obj =
    118 ∷ 32 ∷ 45 ∷ 49 ∷ 46 ∷ 48 ∷ 48 ∷ 48 ∷ 48 ∷ 32 ∷ 48 ∷ 46 ∷ 48 ∷ 48 ∷ 48 ∷ 48 ∷ 32 ∷ 48 ∷ 46 ∷ 48 ∷ 48 ∷ 48 ∷ 48 ∷ 10
    ∷ 118 ∷ 32 ∷ 45 ∷ 48 ∷ 46 ∷ 53 ∷ 48 ∷ 48 ∷ 48 ∷ 32 ∷ 48 ∷ 46 ∷ 56 ∷ 54 ∷ 54 ∷ 48 ∷ 32 ∷ 48 ∷ 46 ∷ 48 ∷ 48 ∷ 48 ∷ 48 ∷ 10
    ∷ 118 ∷ 32 ∷ 45 ∷ 48 ∷ 46 ∷ 53 ∷ 48 ∷ 48 ∷ 48 ∷ 32 ∷ 45 ∷ 48 ∷ 46 ∷ 56 ∷ 54 ∷ 54 ∷ 48 ∷ 32 ∷ 48 ∷ 46 ∷ 48 ∷ 48 ∷ 48 ∷ 48 ∷ 10
    ∷ 118 ∷ 32 ∷ 48 ∷ 46 ∷ 48 ∷ 48 ∷ 48 ∷ 48 ∷ 32 ∷ 48 ∷ 46 ∷ 48 ∷ 48 ∷ 48 ∷ 48 ∷ 32 ∷ 48 ∷ 46 ∷ 48 ∷ 48 ∷ 48 ∷ 48 ∷ 10
    ∷ 118 ∷ 32 ∷ 48 ∷ 46 ∷ 53 ∷ 48 ∷ 48 ∷ 48 ∷ 32 ∷ 48 ∷ 46 ∷ 56 ∷ 54 ∷ 54 ∷ 48 ∷ 32 ∷ 48 ∷ 46 ∷ 48 ∷ 48 ∷ 48 ∷ 48 ∷ 10
    ∷ 118 ∷ 32 ∷ 48 ∷ 46 ∷ 53 ∷ 48 ∷ 48 ∷ 48 ∷ 32 ∷ 45 ∷ 48 ∷ 46 ∷ 56 ∷ 54 ∷ 54 ∷ 48 ∷ 32 ∷ 48 ∷ 46 ∷ 48 ∷ 48 ∷ 48 ∷ 48 ∷ 10
    ∷ 118 ∷ 32 ∷ 49 ∷ 46 ∷ 48 ∷ 48 ∷ 48 ∷ 48 ∷ 32 ∷ 48 ∷ 46 ∷ 48 ∷ 48 ∷ 48 ∷ 48 ∷ 32 ∷ 48 ∷ 46 ∷ 48 ∷ 48 ∷ 48 ∷ 48 ∷ 10
    ∷ 102 ∷ 32 ∷ 49 ∷ 32 ∷ 51 ∷ 32 ∷ 52 ∷ 32 ∷ 50 ∷ 10
    ∷ 102 ∷ 32 ∷ 50 ∷ 32 ∷ 52 ∷ 32 ∷ 55 ∷ 32 ∷ 53 ∷ 10
    ∷ 102 ∷ 32 ∷ 51 ∷ 32 ∷ 54 ∷ 32 ∷ 55 ∷ 32 ∷ 52 ∷ 10
    ∷ []

-- ---- the hexagon's parts, each computed once

hexagon-whole : (in_order_of one ≡ true) × (torn_of one ≡ false)
unfolding vertex entered empty one torn_of records_below adjacents_there chosen_at corners_there turns normal_of pattern_of rows_of three four five six orient look_up
    enter_of find_of search_from in_order_of all_placed placed_at slot_at free_at record_at put_slot record_bytes slots_in home_of same_point word_at
hexagon-whole = (refl, refl)

hexagon-counts : counts_of one ≡ numbers 7 9 3 6 1 0 0 0
unfolding vertex entered empty one counts_of different_after of_degree records_below chosen_at each gather fits same_face same_side turns normal_of pattern_of rows_of
    three four five six orient look_up enter_of find_of search_from slot_at free_at record_at put_slot record_bytes slots_in home_of same_point word_at
hexagon-counts = refl

records : List Record
records =
    vertex (negsuc 0) (pos 0) 0
    ∷ vertex (negsuc 0) (pos 1) 0
    ∷ vertex (pos 0) (negsuc 0) 0
    ∷ vertex (pos 0) (pos 0) 3
    ∷ vertex (pos 0) (pos 1) 0
    ∷ vertex (pos 1) (negsuc 0) 0
    ∷ vertex (pos 1) (pos 0) 0
    ∷ []

hexagon-records : sorted (records_of one) ≡ records
unfolding vertex entered empty one records insert_by sort_by earlier records_below turns normal_of enter_of find_of search_from slot_at free_at record_at put_slot
    record_bytes slots_in home_of same_point word_at
hexagon-records = refl

faces : List Corners
faces = corners 0 2 3 1 ∷ corners 1 3 6 4 ∷ corners 2 5 6 3 ∷ []

hexagon-faces : face_corners one ≡ faces
unfolding vertex entered empty one faces how_many once_after least_first rises insert_by sort_by earlier records_below chosen_at each gather fits same_face turns
    normal_of pattern_of rows_of three four five six orient look_up enter_of find_of search_from slot_at free_at record_at put_slot record_bytes slots_in home_of same_point
    word_at
hexagon-faces = refl

-- the file of these, in a style
file : Style → List ℕ
file s = head_text s (numbers 7 9 3 6 1 0 0 0) ++ (texts (vertex_text s) records ++ texts (face_text s) faces)

texts-are : (file off_style ≡ off) × (file obj_style ≡ obj)
unfolding vertex records faces off obj file head_text vertex_text face_text texts digits_by digits root_from root_of near_x near_y
    Rattle.coordinates.specs.Coordinates.four decimals coordinate position_text
texts-are = (refl, refl)

written : (s : Style) (out : List ℕ) → view_of s one out ≡ put_of (file s) out
unfolding viewer_file file
written s out =
    sym (view-whole s one out hexagon-whole.0 hexagon-whole.1)
    ∙ (λ i. put_of (head_text s (hexagon-counts i) ++ (texts (vertex_text s) (hexagon-records i) ++ texts (face_text s) (hexagon-faces i))) out)

off-put : (out : List ℕ) → write_off_of one out ≡ put_of off out
off-put out = written off_style out ∙ ap (λ (f : List ℕ). put_of f out) texts-are.0

obj-put : (out : List ℕ) → write_obj_of one out ≡ put_of obj out
obj-put out = written obj_style out ∙ ap (λ (f : List ℕ). put_of f out) texts-are.1

-- ---- the hexagon's files

-- bytes past them stay
hexagon-files : (write_off_of one (replicate 194 7) ≡ output_after 0 192 (off ++ (7 ∷ 7 ∷ []))) ×
    (write_obj_of one (replicate 198 7) ≡ output_after 0 196 (obj ++ (7 ∷ 7 ∷ [])))
unfolding off obj put_of
hexagon-files = (off-put (replicate 194 7), obj-put (replicate 198 7))

-- an output one byte short: 13, and no byte is changed
short : (write_off_of one (replicate 191 7) ≡ output_after 13 0 (replicate 191 7)) × (write_obj_of one (replicate 195 7) ≡ output_after 13 0 (replicate 195 7))
unfolding off obj put_of
short = (off-put (replicate 191 7), obj-put (replicate 195 7))

-- the empty table: "OFF" and three zeros, and no byte at all
empty-files : (write_off_of empty (replicate 11 7) ≡ output_after 0 10 (79 ∷ 70 ∷ 70 ∷ 10 ∷ 48 ∷ 32 ∷ 48 ∷ 32 ∷ 48 ∷ 10 ∷ 7 ∷ [])) ×
    (write_obj_of empty [] ≡ output_after 0 0 [])
unfolding empty view_of torn_of viewer_file head_text texts put_of counts_of different_after of_degree how_many once_after sort_by records_below each digits_by digits
    in_order_of all_placed placed_at slot_at free_at slots_in
empty-files = (refl, refl)

-- ---- refused before a line is made: no byte is changed

-- a record of degree 1 is not valid: 1, though an output is short too
disordered : List ℕ
disordered = enter_of empty (vertex (pos 0) (pos 0) 1)

-- a vertex of degree 3 without its adjacent ones: 7, though an output is short too
torn : List ℕ
torn = enter_of empty (vertex (pos 0) (pos 0) 3)

refused-early : (write_off_of disordered (7 ∷ []) ≡ output_after 1 0 (7 ∷ [])) ×
    (write_obj_of disordered (7 ∷ []) ≡ output_after 1 0 (7 ∷ [])) ×
    (write_off_of torn (7 ∷ []) ≡ output_after 7 0 (7 ∷ [])) ×
    (write_obj_of torn (7 ∷ []) ≡ output_after 7 0 (7 ∷ []))
unfolding vertex empty disordered torn view_of torn_of records_below adjacents_there chosen_at corners_there turns normal_of pattern_of rows_of three four five six
    orient look_up enter_of find_of search_from in_order_of all_placed placed_at slot_at free_at record_at put_slot record_bytes slots_in home_of same_point word_at
refused-early = (refl, refl, refl, refl)
