-- Document 01's file of one hexagon, written from the table's bytes, and a table whose reduced file is shorter: each by computing.
-- Assumes nothing.
use Rattle.std.specs.Prelude.{◌≡◌, refl, List, [], ◌∷◌, ◌++◌, ℕ, ℤ, pos, negsuc, replicate}
use Rattle.laws.specs.Words.{word_at}
use Rattle.sorting.specs.Sorting.{insert_by, sort_by}
use Rattle.text.specs.LineOrder.{earlier}
use Rattle.lattice.specs.Points.{pt, normal_of, turns}
use Rattle.lattice.specs.Patterns.{pattern_of, orient}
use Rattle.lattice.specs.declared.records.Record.{Record}
use Rattle.table.specs.Slots.{slots_in, free_at, record_at, slot_at, record_bytes, put_slot}
use Rattle.table.specs.Search.{home_of, same_point, search_from, find_of}
use Rattle.table.specs.Order.{placed_at, all_placed, in_order_of}
use Rattle.table.specs.Entries.{enter_of, records_below, records_of}
use Rattle.text.specs.Decimal.{digits_by, digits}
use Rattle.text.specs.Line.{point_text, star_text, line_of, lines}
use Rattle.writers.specs.Files.{sorted, redundant, leave_out, output_after, put_of, write_of, write_full_of, write_reduced_of}

-- [a, b, 0], of degree d and orientation k, at level 0
vertex : ℤ → ℤ → ℕ → ℕ → Record
vertex a b d k = record { at = pt a b 0; d = d; k = k; n = record { 0 = 0 } }

entered : List ℕ → List Record → List ℕ
entered t [] = t
entered t (r ∷ rs) = entered (enter_of t r) rs

empty : List ℕ
empty = replicate 192 255

hexagon : List Record
hexagon =
    vertex (pos 0) (pos 0) 3 0
    ∷ vertex (pos 1) (pos 0) 0 0
    ∷ vertex (pos 0) (pos 1) 0 0
    ∷ vertex (negsuc 0) (pos 1) 0 0
    ∷ vertex (negsuc 0) (pos 0) 0 0
    ∷ vertex (pos 0) (negsuc 0) 0 0
    ∷ vertex (pos 1) (negsuc 0) 0 0
    ∷ []

one : List ℕ
one = entered empty hexagon

-- "One hexagon at [0, 0] gives this full file (blanks stand for tabs)"
file : List ℕ
file =
    45 ∷ 49 ∷ 9 ∷ 48 ∷ 9 ∷ 48 ∷ 9 ∷ 48 ∷ 9 ∷ 48 ∷ 9 ∷ 48 ∷ 10
    ∷ 45 ∷ 49 ∷ 9 ∷ 49 ∷ 9 ∷ 48 ∷ 9 ∷ 48 ∷ 9 ∷ 48 ∷ 9 ∷ 48 ∷ 10
    ∷ 48 ∷ 9 ∷ 45 ∷ 49 ∷ 9 ∷ 48 ∷ 9 ∷ 48 ∷ 9 ∷ 48 ∷ 9 ∷ 48 ∷ 10
    ∷ 48 ∷ 9 ∷ 48 ∷ 9 ∷ 48 ∷ 9 ∷ 51 ∷ 9 ∷ 48 ∷ 9 ∷ 48 ∷ 10
    ∷ 48 ∷ 9 ∷ 49 ∷ 9 ∷ 48 ∷ 9 ∷ 48 ∷ 9 ∷ 48 ∷ 9 ∷ 48 ∷ 10
    ∷ 49 ∷ 9 ∷ 45 ∷ 49 ∷ 9 ∷ 48 ∷ 9 ∷ 48 ∷ 9 ∷ 48 ∷ 9 ∷ 48 ∷ 10
    ∷ 49 ∷ 9 ∷ 48 ∷ 9 ∷ 48 ∷ 9 ∷ 48 ∷ 9 ∷ 48 ∷ 9 ∷ 48 ∷ 10
    ∷ []

-- "and its reduced file is the same"; two bytes past the file stay
hexagon-written : (write_full_of one (replicate 90 7) ≡ output_after 0 88 (file ++ (7 ∷ 7 ∷ []))) ×
    (write_reduced_of one (replicate 90 7) ≡ output_after 0 88 (file ++ (7 ∷ 7 ∷ [])))
unfolding vertex entered empty hexagon one file earlier redundant leave_out put_of write_of insert_by sort_by word_at normal_of turns slots_in free_at record_at
    slot_at record_bytes put_slot home_of same_point search_from find_of placed_at all_placed in_order_of enter_of records_below digits_by digits point_text star_text
    line_of lines
hexagon-written = (refl, refl)

-- refused: an output one byte short, and a table that is not in order
refused : (write_full_of one (replicate 87 7) ≡ output_after 13 0 (replicate 87 7)) × (write_reduced_of (255 ∷ one) [] ≡ output_after 1 0 [])
unfolding vertex entered empty hexagon one earlier redundant leave_out put_of write_of insert_by sort_by word_at normal_of turns slots_in free_at record_at slot_at
    record_bytes put_slot home_of same_point search_from find_of placed_at all_placed in_order_of enter_of records_below digits_by digits point_text star_text line_of lines
refused = (refl, refl)

-- a vertex of degree 6 and its six adjacent ones, one of them a boundary vertex: five records of degree 3 go, whatever their level
six : List ℕ
six =
    entered empty
    (vertex (pos 1) (pos 0) 6 0
    ∷ vertex (pos 2) (pos 0) 0 0
    ∷ vertex (pos 1) (pos 1) 3 0
    ∷ vertex (pos 0) (pos 1) 3 2
    ∷ vertex (pos 0) (pos 0) 3 0
    ∷ vertex (pos 1) (negsuc 0) 3 2
    ∷ record { at = pt (pos 2) (negsuc 0) 0; d = 3; k = 1; n = record { 0 = 5 } }
    ∷ vertex (pos 3) (pos 0) 3 0
    ∷ [])

six-reduced : sorted (leave_out (redundant six) (records_of six)) ≡ vertex (pos 1) (pos 0) 6 0 ∷ vertex (pos 2) (pos 0) 0 0 ∷ vertex (pos 3) (pos 0) 3 0 ∷ []
unfolding vertex entered empty six earlier redundant leave_out insert_by sort_by word_at normal_of turns slots_in free_at record_at slot_at record_bytes put_slot
    home_of same_point search_from find_of enter_of records_below orient pattern_of
six-reduced = refl
