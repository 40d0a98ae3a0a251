-- The order in which records enter, and in which lines and faces rise: by tables so full that any other order leaves other slots, computed.
-- `base-slots` "centre first, then corners", "in list order": two hexagons in 21 slots · `divided-slots` "in the order of v's new star": Three in 30 ·
-- `list-stops` ours, a list of points · `read-slots` "Records enter in file order" · `restored-slots` "the degree 6 records in file order .., j
-- rising" · `lines-rise` by m, then a, then b · `faces-rise` by the first number, then the second, third and fourth.
-- Assumes nothing.
use Rattle.std.specs.Prelude.{◌≡◌, refl, true, false, List, [], ◌∷◌, ℕ, ◌*◌, ℤ, pos, negsuc, replicate}
use Rattle.laws.specs.Words.{word_at}
use Rattle.lattice.specs.Points.{pt, normal_of, turns}
use Rattle.lattice.specs.Patterns.{orient, pattern_of, rows_of, six}
use Rattle.lattice.specs.Subdivision.{update_of, accepts_of}
use Rattle.lattice.specs.declared.records.Record.{Record}
use Rattle.table.specs.Slots.{slot_width, slot_at, free_at, record_at, put_slot, record_bytes, slots_in, free_below}
use Rattle.table.specs.Search.{home_of, same_point, search_from, find_of}
use Rattle.table.specs.Order.{in_order_of, all_placed, placed_at}
use Rattle.table.specs.Entries.{look_up, enter_of, replace_of, records_of, records_below}
use Rattle.base.specs.Base.{base_of, first_bad, laid_of, lay_all, lay_hexagon, hexagon_of, corner_record, internal, listed_in}
use Rattle.mesh.specs.Subdivide.{subdivide_of, subdivided, torn, renewed_to, entered_to, Many, subdivide_triple, subdivide_from, subdivide_all_of}
use Rattle.sorting.specs.Sorting.{insert_by, sort_by}
use Rattle.text.specs.Decimal.{digits, digits_by}
use Rattle.text.specs.Reading.{run, value, number_at, signed_at}
use Rattle.text.specs.Line.{point_text, star_text, line_of, lines, place_at, star_at, spelled_at, line_at}
use Rattle.text.specs.LineOrder.{earlier}
use Rattle.writers.specs.Files.{sorted}
use Rattle.readers.specs.Readers.{Lines, Read, Fault, lines_from, read_lines, Restored, With, Stopped, restore_to, restore_all}
use Rattle.viewer_lines.specs.ViewerLines.{corners, rises}

-- [a, b, m], of degree d and orientation k, at level n
abbrev vertex : ℤ → ℤ → ℕ → ℕ → ℕ → ℕ → Record
vertex a b m d k n = record { at = pt a b m; d = d; k = k; n = record { 0 = n } }

abbrev clear : ℕ → List ℕ
clear n = replicate (slot_width * n) 255

-- "Three" is the base [0,0], [1,1], [2,-1]
abbrev three : List ℤ
three = pos 0 ∷ pos 0 ∷ pos 1 ∷ pos 1 ∷ pos 2 ∷ negsuc 0 ∷ []

-- [3,3] and [-3,0], slot after slot: each order of a hexagon's seven records, and of the two, has slots of its own
pub base-slots : records_of (base_of (clear 21) (pos 3 ∷ pos 3 ∷ negsuc 2 ∷ pos 0 ∷ [])).bytes
    ≡ vertex (negsuc 3) (pos 0) 0 0 0 0 ∷ vertex (negsuc 2) (negsuc 0) 0 0 0 0 ∷ vertex (negsuc 1) (negsuc 0) 0 0 0 0 ∷
    vertex (pos 2) (pos 3) 0 0 0 0 ∷ vertex (pos 3) (pos 2) 0 0 0 0 ∷ vertex (pos 3) (pos 3) 0 3 0 0 ∷ vertex (pos 2) (pos 4) 0 0 0 0 ∷
    vertex (pos 4) (pos 3) 0 0 0 0 ∷ vertex (pos 3) (pos 4) 0 0 0 0 ∷ vertex (pos 4) (pos 2) 0 0 0 0 ∷ vertex (negsuc 2) (pos 0) 0 3 0 0 ∷
    vertex (negsuc 1) (pos 0) 0 0 0 0 ∷ vertex (negsuc 2) (pos 1) 0 0 0 0 ∷ vertex (negsuc 3) (pos 1) 0 0 0 0 ∷ []
unfolding base_of first_bad laid_of lay_all lay_hexagon hexagon_of corner_record internal listed_in normal_of turns enter_of records_below find_of search_from slot_at
    free_at record_at put_slot record_bytes slots_in home_of same_point word_at
base-slots = refl

-- Three in 30 slots, [1,0,0] subdivided twice: each order of the six has slots of its own
pub divided-slots : records_of (subdivided (subdivided (base_of (clear 30) three).bytes (vertex (pos 1) (pos 0) 0 6 0 0)) (vertex (pos 1) (pos 0) 0 6 1 1))
    ≡ vertex (pos 0) (pos 0) 0 4 4 0 ∷ vertex (pos 0) (pos 1) 0 0 0 0 ∷ vertex (negsuc 0) (pos 1) 0 0 0 0 ∷ vertex (negsuc 0) (pos 0) 0 0 0 0 ∷
    vertex (pos 0) (negsuc 0) 0 0 0 0 ∷ vertex (pos 1) (negsuc 0) 0 0 0 0 ∷ vertex (pos 1) (pos 2) 0 0 0 0 ∷ vertex (pos 0) (pos 2) 0 0 0 0 ∷
    vertex (pos 2) (pos 0) 0 0 0 0 ∷ vertex (pos 2) (negsuc 0) 0 4 8 0 ∷ vertex (pos 3) (negsuc 0) 0 0 0 0 ∷ vertex (pos 2) (negsuc 1) 0 0 0 0 ∷
    vertex (pos 3) (negsuc 1) 0 0 0 0 ∷ vertex (pos 2) (pos 2) 1 4 1 1 ∷ vertex (pos 1) (pos 1) 1 4 3 1 ∷ vertex (pos 2) (negsuc 0) 1 4 5 1 ∷
    vertex (pos 4) (negsuc 1) 1 4 7 1 ∷ vertex (pos 5) (negsuc 0) 1 4 9 1 ∷ vertex (pos 4) (pos 0) 1 3 2 2 ∷ vertex (pos 3) (pos 1) 1 3 0 2 ∷
    vertex (pos 2) (pos 1) 1 3 2 2 ∷ vertex (pos 2) (pos 0) 1 3 0 2 ∷ vertex (pos 3) (negsuc 0) 1 3 2 2 ∷ vertex (pos 4) (negsuc 0) 1 3 0 2 ∷
    vertex (pos 4) (pos 1) 1 4 11 1 ∷ vertex (pos 2) (pos 1) 0 0 0 0 ∷ vertex (pos 1) (pos 1) 0 4 0 0 ∷ vertex (pos 1) (pos 0) 0 6 0 2 ∷ []
unfolding subdivided renewed_to entered_to update_of base_of first_bad laid_of lay_all lay_hexagon hexagon_of corner_record internal listed_in normal_of turns orient
    pattern_of rows_of six look_up enter_of replace_of records_below find_of search_from slot_at free_at record_at put_slot record_bytes slots_in home_of same_point word_at
divided-slots = refl

-- ours, a list of points a, b, m: [3,0,1] is made, and [0,0,0] refused, of degree 4 by then; what follows is not looked at
abbrev many : Many
many = subdivide_all_of (base_of (clear 22) three).bytes (pos 3 ∷ pos 0 ∷ pos 1 ∷ pos 0 ∷ pos 0 ∷ pos 0 ∷ pos 5 ∷ pos 5 ∷ pos 0 ∷ [])

pub list-stops : (many.number ≡ 4) × (many.done ≡ 1)
unfolding subdivide_all_of subdivide_from subdivide_triple subdivide_of subdivided torn renewed_to entered_to update_of accepts_of base_of first_bad laid_of lay_all
    lay_hexagon hexagon_of corner_record internal listed_in normal_of turns orient pattern_of rows_of six in_order_of all_placed placed_at look_up enter_of
    replace_of find_of search_from slot_at free_at record_at put_slot record_bytes slots_in home_of same_point word_at free_below
list-stops = (refl, refl)

-- ---- readers

abbrev table_read : Lines → List Record
table_read (Read rs t) = records_of t
table_read (Fault n i) = []

abbrev table_restored : Restored → List Record
table_restored (With t) = records_of t
table_restored (Stopped n) = []

-- the lines of Three, read into 16 slots: other slots than the base's
pub read-slots : table_read (read_lines (lines (sorted (records_of (base_of (clear 16) three).bytes))) (clear 16))
    ≡ vertex (pos 0) (pos 0) 0 3 0 0 ∷ vertex (negsuc 0) (pos 0) 0 0 0 0 ∷ vertex (pos 0) (pos 2) 0 0 0 0 ∷ vertex (pos 1) (pos 2) 0 0 0 0 ∷
    vertex (pos 3) (negsuc 0) 0 0 0 0 ∷ vertex (pos 2) (negsuc 0) 0 3 0 0 ∷ vertex (pos 1) (negsuc 0) 0 0 0 0 ∷ vertex (pos 0) (negsuc 0) 0 0 0 0 ∷
    vertex (pos 1) (pos 1) 0 3 0 0 ∷ vertex (pos 0) (pos 1) 0 0 0 0 ∷ vertex (negsuc 0) (pos 1) 0 0 0 0 ∷ vertex (pos 2) (pos 1) 0 0 0 0 ∷
    vertex (pos 2) (negsuc 1) 0 0 0 0 ∷ vertex (pos 3) (negsuc 1) 0 0 0 0 ∷ vertex (pos 2) (pos 0) 0 0 0 0 ∷ vertex (pos 1) (pos 0) 0 6 0 0 ∷ []
unfolding lines_from line_at spelled_at place_at star_at signed_at number_at run value lines line_of point_text star_text digits digits_by earlier insert_by sort_by
    base_of first_bad laid_of lay_all lay_hexagon hexagon_of corner_record internal listed_in normal_of turns enter_of records_below find_of search_from slot_at
    free_at record_at put_slot record_bytes slots_in home_of same_point word_at
read-slots = refl

-- two vertices of degree 6, at levels 3 and 0, restored in 18 slots: each order of a star's six, and of the two, has slots of its own
abbrev pair : List Record
pair = vertex (pos 1) (pos 0) 0 6 1 3 ∷ vertex (pos 4) (pos 1) 1 6 0 0 ∷ []

pub restored-slots : table_restored (restore_all pair (With (enter_of (enter_of (clear 18) (vertex (pos 1) (pos 0) 0 6 1 3)) (vertex (pos 4) (pos 1) 1 6 0 0))))
    ≡ vertex (pos 7) (pos 1) 2 3 3 3 ∷ vertex (pos 10) (negsuc 1) 2 3 3 3 ∷ vertex (pos 4) (pos 1) 1 6 0 0 ∷ vertex (pos 7) (pos 1) 1 3 2 0 ∷
    vertex (pos 8) (pos 2) 2 3 1 3 ∷ vertex (pos 11) (negsuc 0) 2 3 1 3 ∷ vertex (pos 4) (pos 4) 1 3 0 0 ∷ vertex (pos 8) (negsuc 0) 2 3 1 3 ∷
    vertex (pos 1) (pos 4) 1 3 2 0 ∷ vertex (pos 1) (pos 1) 1 3 0 0 ∷ vertex (pos 4) (negsuc 1) 1 3 2 0 ∷ vertex (pos 7) (negsuc 1) 1 3 0 0 ∷
    vertex (pos 10) (pos 1) 2 3 3 3 ∷ vertex (pos 1) (pos 0) 0 6 1 3 ∷ []
unfolding restore_all restore_to normal_of orient pattern_of rows_of six enter_of records_below find_of search_from slot_at free_at record_at put_slot record_bytes
    slots_in home_of same_point word_at
restored-slots = refl

-- ---- lines and faces

-- "Lines rise strictly by m, then a, then b.": each number against those after it, both ways; a line does not rise above itself
pub lines-rise : (earlier (pt (pos 7) (pos 8) 1) (pt (negsuc 6) (negsuc 7) 2) ≡ true) × (earlier (pt (negsuc 6) (negsuc 7) 2) (pt (pos 7) (pos 8) 1) ≡ false) ×
    (earlier (pt (negsuc 1) (pos 8) 1) (pt (pos 1) (negsuc 7) 1) ≡ true) × (earlier (pt (pos 1) (negsuc 7) 1) (pt (negsuc 1) (pos 8) 1) ≡ false) ×
    (earlier (pt (pos 1) (negsuc 1) 1) (pt (pos 1) (pos 1) 1) ≡ true) × (earlier (pt (pos 1) (pos 1) 1) (pt (pos 1) (negsuc 1) 1) ≡ false) ×
    (earlier (pt (pos 1) (pos 1) 1) (pt (pos 1) (pos 1) 1) ≡ false)
unfolding earlier
lines-rise = (refl, refl, refl, refl, refl, refl, refl)

-- "faces rise by their numbers": as numbers, 2 before 10
pub faces-rise : (rises (corners 2 9 9 9) (corners 10 0 0 0) ≡ true) × (rises (corners 10 0 0 0) (corners 2 9 9 9) ≡ false) ×
    (rises (corners 2 3 9 9) (corners 2 10 0 0) ≡ true) × (rises (corners 2 10 0 0) (corners 2 3 9 9) ≡ false) ×
    (rises (corners 2 3 4 9) (corners 2 3 10 0) ≡ true) × (rises (corners 2 3 10 0) (corners 2 3 4 9) ≡ false) ×
    (rises (corners 2 3 4 5) (corners 2 3 4 10) ≡ true) × (rises (corners 2 3 4 10) (corners 2 3 4 5) ≡ false) ×
    (rises (corners 2 3 4 5) (corners 2 3 4 5) ≡ false)
unfolding rises
faces-rise = (refl, refl, refl, refl, refl, refl, refl, refl, refl)
