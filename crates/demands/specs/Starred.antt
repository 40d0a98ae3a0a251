-- Document 01's starred bench examples, its two censuses with document 02's E: one table, `starred`, and one statement, `starred-hold`: what the
-- promises' definitions compute is what the documents say. They stand nowhere else.
-- Assumes nothing.
use Rattle.std.specs.Prelude.{◌≡◌, refl, Bool, true, false, cond, List, [], ◌∷◌, ◌++◌, map, ℕ, zero, suc, ◌*◌, eqb, ℤ, pos, negsuc, length, replicate, Option, Some, None}
use Rattle.laws.specs.Words.{word_at}
use Rattle.lattice.specs.Points.{pt, normal_of, turns}
use Rattle.lattice.specs.Patterns.{adjacent_of, orient, pattern_of, rows_of, three, four, five, six}
use Rattle.lattice.specs.Subdivision.{new_of, update_of, accepts_of}
use Rattle.lattice.specs.declared.points.Point.{Point}
use Rattle.lattice.specs.declared.records.Record.{Record}
use Rattle.table.specs.Slots.{slot_width, slot_at, free_at, record_at, put_slot, record_bytes, slots_in, free_below}
use Rattle.table.specs.Search.{home_of, same_point, search_from, find_of}
use Rattle.table.specs.Order.{in_order_of, all_placed, placed_at}
use Rattle.table.specs.Entries.{look_up, enter_of, replace_of, records_of, records_below}
use Rattle.base.specs.Base.{base_of, first_bad, laid_of, lay_all, lay_hexagon, hexagon_of, corner_record, internal, listed_in}
use Rattle.mesh.specs.Subdivide.{subdivide_of, subdivided, torn, renewed_to, entered_to}
use Rattle.queries.specs.Queries.{neighbours_of, adjacents_there, chosen_at}
use Rattle.sorting.specs.Sorting.{insert_by, sort_by}
use Rattle.text.specs.LineOrder.{earlier}
use Rattle.writers.specs.Files.{redundant, leave_out, reduced_file}
use Rattle.text.specs.Decimal.{digits, digits_by}
use Rattle.text.specs.Line.{point_text, star_text, line_of, lines}
use Rattle.text.specs.LineCount.{lines_in}
use Rattle.firsts.specs.Faces.{different_after, gather, each, same_side, fits, same_face}
use Rattle.counts.specs.Counts.{of_degree, counts_of}
use Rattle.counts.specs.declared.Counts.{Counts}

-- ---- what is compared: whole numbers
pub record Example : Type 0 where
  pub computed : List ℤ
  pub said : List ℤ

infix 70 ◌is◌
abbrev ◌is◌ : List ℤ → List ℤ → Example
x is y = record { computed = x; said = y }

abbrev of_point : Point → List ℤ
of_point p = p.a ∷ p.b ∷ pos p.m.0 ∷ []

-- d, k, n
abbrev of_star : Record → List ℤ
of_star r = pos r.d ∷ pos r.k ∷ pos r.n.0 ∷ []

abbrev of_looked : Option Record → List ℤ
of_looked None = []
of_looked (Some r) = of_point r.at ++ of_star r

abbrev star_at : List ℕ → ℤ → ℤ → ℕ → List ℤ
star_at t a b m = of_looked (look_up t (pt a b m))

abbrev number : ℕ → List ℤ
number n = pos n ∷ []

abbrev of_counts : Counts → List ℤ
of_counts c = pos c.vertices ∷ pos c.edges ∷ pos c.faces ∷ pos c.d0 ∷ pos c.d3 ∷ pos c.d4 ∷ pos c.d5 ∷ pos c.d6 ∷ []

-- the points of degree 6
sixes : List Record → List ℤ
sixes [] = []
sixes (r ∷ rs) = cond (eqb r.d 6) (of_point r.at ++ sixes rs) (sixes rs)

-- "Three" is the base [0,0], [1,1], [2,-1]
three_centres : List ℤ
three_centres = pos 0 ∷ pos 0 ∷ pos 1 ∷ pos 1 ∷ pos 2 ∷ negsuc 0 ∷ []

-- one hexagon
mesh_one : List ℕ
mesh_one = (base_of (replicate (slot_width * 16) 255) (pos 0 ∷ pos 0 ∷ [])).bytes

mesh_three : List ℕ
mesh_three = (base_of (replicate (slot_width * 40) 255) three_centres).bytes

-- the same after [3,0,1] was subdivided once, and twice
once : List ℕ
once = (subdivide_of mesh_three (pos 3) (pos 0) 1).bytes

twice : List ℕ
twice = (subdivide_of once (pos 3) (pos 0) 1).bytes

-- how many lines the reduced file has
reduced_lines : List ℕ → ℕ
reduced_lines t = lines_in (reduced_file t)

-- [1, 0, 0] as it is at level 0, and at level 1
six0 : Record
six0 = record { at = pt (pos 1) (pos 0) 0; d = 6; k = 0; n = record { 0 = 0 } }

six1 : Record
six1 = record { at = pt (pos 1) (pos 0) 0; d = 6; k = 1; n = record { 0 = 1 } }

abbrev flag : Bool → List ℤ
flag true = number 1
flag false = number 0

-- a vertex at [0, 0, 0] of degree 4, orientation 2
four2 : Record
four2 = record { at = pt (pos 0) (pos 0) 0; d = 4; k = 2; n = record { 0 = 0 } }

-- ---- the table
pub starred : List Example
unfolding different_after gather each same_side fits same_face of_degree counts_of chosen_at sixes three_centres six0 six1 mesh_one mesh_three once
    twice reduced_lines lines line_of point_text star_text digits digits_by earlier insert_by sort_by four2 redundant leave_out neighbours_of
    adjacents_there subdivide_of subdivided torn renewed_to entered_to update_of accepts_of base_of first_bad laid_of lay_all lay_hexagon
    hexagon_of corner_record internal listed_in normal_of turns orient pattern_of rows_of in_order_of all_placed placed_at look_up enter_of replace_of
    records_below find_of search_from slot_at free_at record_at put_slot record_bytes slots_in home_of same_point word_at free_below
starred =
    -- "The three normalisations under Points."
    of_point (normal_of (pos 3) (pos 0) 1) is (pos 1 ∷ pos 0 ∷ pos 0 ∷ [])
    ∷ of_point (normal_of (pos 9) (negsuc 17) 3) is (pos 1 ∷ negsuc 1 ∷ pos 1 ∷ [])
    ∷ of_point (normal_of (pos 0) (pos 0) 6) is (pos 0 ∷ pos 0 ∷ pos 0 ∷ [])
    -- "d 6, orientation 1 begins [1,1,1], [-1,2,1], [-2,1,1]."
    ∷ of_point (adjacent_of 6 1 0) is (pos 1 ∷ pos 1 ∷ pos 1 ∷ [])
    ∷ of_point (adjacent_of 6 1 1) is (negsuc 0 ∷ pos 2 ∷ pos 1 ∷ [])
    ∷ of_point (adjacent_of 6 1 2) is (negsuc 1 ∷ pos 1 ∷ pos 1 ∷ [])
    -- "Three has 16 records; [1,0,0] is its only degree 6. .. Reduced file: 13 lines."
    ∷ number (length (records_of mesh_three)) is number 16
    ∷ sixes (records_of mesh_three) is (pos 1 ∷ pos 0 ∷ pos 0 ∷ [])
    ∷ number (reduced_lines mesh_three) is number 13
    -- document 02, ticket 2: "The census of the single hexagon reads 7 9 3 6 1 0 0 0, that of the three 16 24 9 12 3 0 0 1."
    ∷ of_counts (counts_of mesh_one) is (pos 7 ∷ pos 9 ∷ pos 3 ∷ pos 6 ∷ pos 1 ∷ pos 0 ∷ pos 0 ∷ pos 0 ∷ [])
    ∷ of_counts (counts_of mesh_three) is (pos 16 ∷ pos 24 ∷ pos 9 ∷ pos 12 ∷ pos 3 ∷ pos 0 ∷ pos 0 ∷ pos 1 ∷ [])
    ∷ number (base_of (replicate (slot_width * 40) 255) three_centres).number is number 0
    -- "Subdividing [3,0,1] in Three enters [4,1,1], [2,2,1], [1,1,1], [2,-1,1], [4,-2,1], [5,-1,1] with k 3, 1, 3, 1, 3, 1.":
    -- in this order, where none was before
    ∷ number (subdivide_of mesh_three (pos 3) (pos 0) 1).number is number 0
    ∷ star_at mesh_three (pos 1) (pos 0) 0 is (of_point six0.at ++ of_star six0)
    ∷ of_point (new_of six0 0).at is (pos 4 ∷ pos 1 ∷ pos 1 ∷ [])
    ∷ of_point (new_of six0 1).at is (pos 2 ∷ pos 2 ∷ pos 1 ∷ [])
    ∷ of_point (new_of six0 2).at is (pos 1 ∷ pos 1 ∷ pos 1 ∷ [])
    ∷ of_point (new_of six0 3).at is (pos 2 ∷ negsuc 0 ∷ pos 1 ∷ [])
    ∷ of_point (new_of six0 4).at is (pos 4 ∷ negsuc 1 ∷ pos 1 ∷ [])
    ∷ of_point (new_of six0 5).at is (pos 5 ∷ negsuc 0 ∷ pos 1 ∷ [])
    ∷ star_at mesh_three (pos 4) (pos 1) 1 is []
    ∷ star_at mesh_three (pos 2) (pos 2) 1 is []
    ∷ star_at mesh_three (pos 1) (pos 1) 1 is []
    ∷ star_at mesh_three (pos 2) (negsuc 0) 1 is []
    ∷ star_at mesh_three (pos 4) (negsuc 1) 1 is []
    ∷ star_at mesh_three (pos 5) (negsuc 0) 1 is []
    ∷ star_at once (pos 4) (pos 1) 1 is (pos 4 ∷ pos 1 ∷ pos 1 ∷ pos 3 ∷ pos 3 ∷ pos 1 ∷ [])
    ∷ star_at once (pos 2) (pos 2) 1 is (pos 2 ∷ pos 2 ∷ pos 1 ∷ pos 3 ∷ pos 1 ∷ pos 1 ∷ [])
    ∷ star_at once (pos 1) (pos 1) 1 is (pos 1 ∷ pos 1 ∷ pos 1 ∷ pos 3 ∷ pos 3 ∷ pos 1 ∷ [])
    ∷ star_at once (pos 2) (negsuc 0) 1 is (pos 2 ∷ negsuc 0 ∷ pos 1 ∷ pos 3 ∷ pos 1 ∷ pos 1 ∷ [])
    ∷ star_at once (pos 4) (negsuc 1) 1 is (pos 4 ∷ negsuc 1 ∷ pos 1 ∷ pos 3 ∷ pos 3 ∷ pos 1 ∷ [])
    ∷ star_at once (pos 5) (negsuc 0) 1 is (pos 5 ∷ negsuc 0 ∷ pos 1 ∷ pos 3 ∷ pos 1 ∷ pos 1 ∷ [])
    -- "After it [1,1], [0,0], [2,-1] are d 4 with k 0, 4, 8; 22 records, reduced 16."
    ∷ star_at once (pos 1) (pos 1) 0 is (pos 1 ∷ pos 1 ∷ pos 0 ∷ pos 4 ∷ pos 0 ∷ pos 0 ∷ [])
    ∷ star_at once (pos 0) (pos 0) 0 is (pos 0 ∷ pos 0 ∷ pos 0 ∷ pos 4 ∷ pos 4 ∷ pos 0 ∷ [])
    ∷ star_at once (pos 2) (negsuc 0) 0 is (pos 2 ∷ negsuc 0 ∷ pos 0 ∷ pos 4 ∷ pos 8 ∷ pos 0 ∷ [])
    ∷ number (length (records_of once)) is number 22
    ∷ number (reduced_lines once) is number 16
    -- "A second time enters [4,0,1] first, k 2, level 2; [4,1,1] becomes d 4, k 11, level 1."
    ∷ number (subdivide_of once (pos 3) (pos 0) 1).number is number 0
    ∷ star_at once (pos 1) (pos 0) 0 is (of_point six1.at ++ of_star six1)
    ∷ of_point (new_of six1 0).at is (pos 4 ∷ pos 0 ∷ pos 1 ∷ [])
    ∷ star_at twice (pos 4) (pos 0) 1 is (pos 4 ∷ pos 0 ∷ pos 1 ∷ pos 3 ∷ pos 2 ∷ pos 2 ∷ [])
    ∷ star_at twice (pos 4) (pos 1) 1 is (pos 4 ∷ pos 1 ∷ pos 1 ∷ pos 4 ∷ pos 11 ∷ pos 1 ∷ [])
    -- "In Three: subdivide [0,0,0] gives 4; [5,5,0] gives 3; neighbours of [2,0,0] give 14."
    ∷ number (subdivide_of mesh_three (pos 0) (pos 0) 0).number is number 4
    ∷ number (subdivide_of mesh_three (pos 5) (pos 5) 0).number is number 3
    ∷ number (neighbours_of mesh_three (pos 2) (pos 0) 0).number is number 14
    -- "d 4 with k = k' = 2 gives d 5 k 6; with k = 2, k' = 6 gives d 5 k 2."
    ∷ flag (accepts_of 2 0 four2) is number 1
    ∷ flag (accepts_of 6 0 four2) is number 1
    ∷ of_star (update_of 2 four2) is (pos 5 ∷ pos 6 ∷ pos 0 ∷ [])
    ∷ of_star (update_of 6 four2) is (pos 5 ∷ pos 2 ∷ pos 0 ∷ [])
    ∷ []

abbrev computed_of : List Example → List (List ℤ)
computed_of [] = []
computed_of (e ∷ es) = e.computed ∷ computed_of es

abbrev said_of : List Example → List (List ℤ)
said_of [] = []
said_of (e ∷ es) = e.said ∷ said_of es

pub starred-hold : computed_of starred ≡ said_of starred
unfolding starred different_after gather each same_side fits same_face of_degree counts_of chosen_at sixes three_centres six0 six1 mesh_one mesh_three
    once twice reduced_lines lines line_of point_text star_text digits digits_by earlier insert_by sort_by four2 redundant leave_out neighbours_of
    adjacents_there subdivide_of subdivided torn renewed_to entered_to update_of accepts_of base_of first_bad laid_of lay_all lay_hexagon
    hexagon_of corner_record internal listed_in normal_of turns orient pattern_of rows_of three four five six in_order_of all_placed placed_at look_up
    enter_of replace_of records_below find_of search_from slot_at free_at record_at put_slot record_bytes slots_in home_of same_point word_at free_below
starred-hold = refl
