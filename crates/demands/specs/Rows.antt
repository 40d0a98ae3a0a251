-- Which number stands where, by rows whose numbers are all different, computed: the bytes of a slot, the fields of a line, the nineteen numbers of a star.
-- `slot-bytes` a record in its slot · `line-written`, `line-parsed` its line · `star-rows` a count and six points, at every degree and refused. The rows
-- of the queries: `queries/specs/Examples`; the C names' own: `flaskbloom/specs/Examples`.
-- Assumes nothing.
use Rattle.std.specs.Prelude.{◌≡◌, refl, List, [], ◌∷◌, ◌++◌, ℕ, ℤ, pos, negsuc, replicate, Some}
use Rattle.laws.specs.Words.{word_at}
use Rattle.lattice.specs.Points.{pt, normal_of}
use Rattle.lattice.specs.Patterns.{orient, pattern_of, rows_of, three, four, five, six}
use Rattle.lattice.specs.Stars.{star_of}
use Rattle.lattice.specs.AnswerRows.{points_numbers, answer_numbers}
use Rattle.lattice.specs.declared.records.Record.{Record}
use Rattle.table.specs.Slots.{slot_at, free_at, record_at, put_slot, record_bytes, slots_in}
use Rattle.table.specs.Search.{home_of, same_point, search_from, find_of}
use Rattle.table.specs.Entries.{enter_of}
use Rattle.text.specs.Decimal.{digits, digits_by}
use Rattle.text.specs.Reading.{run, value, number_at, signed_at}
use Rattle.text.specs.Line.{point_text, star_text, line_of, place_at, star_at, spelled_at, line_at}
use Rattle.text.specs.declared.line.Line.TheVariants.{Good}

-- [a, b, m], of degree d and orientation k, at level n
abbrev vertex : ℤ → ℤ → ℕ → ℕ → ℕ → ℕ → Record
vertex a b m d k n = record { at = pt a b m; d = d; k = k; n = record { 0 = n } }

-- "a and b as signed 32-bit, low byte first, then m, d, k, n": [-2, 300, 1] in the last of 16 slots, its home
abbrev table : List ℕ
table = replicate 180 255 ++ (254 ∷ 255 ∷ 255 ∷ 255 ∷ 44 ∷ 1 ∷ 0 ∷ 0 ∷ 1 ∷ 4 ∷ 9 ∷ 3 ∷ [])

pub slot-bytes : (enter_of (replicate 192 255) (vertex (negsuc 1) (pos 300) 1 4 9 3) ≡ table) × (slot_at table 15 ≡ Some (vertex (negsuc 1) (pos 300) 1 4 9 3))
unfolding enter_of find_of search_from slot_at free_at record_at put_slot record_bytes slots_in home_of same_point word_at
slot-bytes = (refl, refl)

-- "One record a line: a, b, m, d, k, n in decimal": -1234, 567, 2, 5, 10, 4
abbrev line : List ℕ
line = 45 ∷ 49 ∷ 50 ∷ 51 ∷ 52 ∷ 9 ∷ 53 ∷ 54 ∷ 55 ∷ 9 ∷ 50 ∷ 9 ∷ 53 ∷ 9 ∷ 49 ∷ 48 ∷ 9 ∷ 52 ∷ 10 ∷ []

pub line-written : line_of (vertex (negsuc 1233) (pos 567) 2 5 10 4) ≡ line
unfolding line_of point_text star_text digits digits_by
line-written = refl

pub line-parsed : line_at line 0 ≡ Good (vertex (negsuc 1233) (pos 567) 2 5 10 4) 19
unfolding line_at spelled_at place_at star_at signed_at number_at run value
line-parsed = refl

-- the nineteen numbers of a record's star
abbrev star_row : Record → List ℤ
star_row r = answer_numbers (star_of r)

-- "a count, which is d, and six points, unused ones [0, 0, 0]: .. adjacent points in star order. Refused, count 0 and all zeros."
pub star-rows :
    (star_row (vertex (pos 4) (pos 1) 1 3 3 1)
    ≡ pos 3 ∷ pos 1 ∷ pos 1 ∷ pos 0 ∷ pos 1 ∷ pos 0 ∷ pos 0 ∷ pos 2 ∷ pos 0 ∷ pos 0 ∷ pos 0 ∷ pos 0 ∷ pos 0 ∷ pos 0 ∷ pos 0 ∷ pos 0 ∷ pos 0 ∷ pos 0 ∷
    pos 0 ∷ []) ×
    (star_row (vertex (pos 5) (negsuc 6) 2 4 9 5)
    ≡ pos 4 ∷ pos 16 ∷ negsuc 22 ∷ pos 3 ∷ pos 16 ∷ negsuc 19 ∷ pos 3 ∷ pos 14 ∷ negsuc 19 ∷ pos 3 ∷ pos 14 ∷ negsuc 20 ∷ pos 3 ∷ pos 0 ∷ pos 0 ∷
    pos 0 ∷ pos 0 ∷ pos 0 ∷ pos 0 ∷ []) ×
    (star_row (vertex (negsuc 3) (pos 10) 3 5 6 8)
    ≡ pos 5 ∷ negsuc 12 ∷ pos 30 ∷ pos 4 ∷ negsuc 34 ∷ pos 88 ∷ pos 5 ∷ negsuc 33 ∷ pos 89 ∷ pos 5 ∷ negsuc 34 ∷ pos 91 ∷ pos 5 ∷ negsuc 36 ∷ pos 92 ∷
    pos 5 ∷ pos 0 ∷ pos 0 ∷ pos 0 ∷ []) ×
    (star_row (vertex (pos 2) (pos 5) 1 6 1 3)
    ≡ pos 6 ∷ pos 7 ∷ pos 16 ∷ pos 2 ∷ pos 5 ∷ pos 17 ∷ pos 2 ∷ pos 4 ∷ pos 16 ∷ pos 2 ∷ pos 5 ∷ pos 14 ∷ pos 2 ∷ pos 7 ∷ pos 13 ∷ pos 2 ∷ pos 8 ∷
    pos 14 ∷ pos 2 ∷ []) ×
    (star_row (vertex (pos 100) (negsuc 199) 0 6 0 12)
    ≡ pos 6 ∷ pos 72901 ∷ negsuc 145799 ∷ pos 6 ∷ pos 72900 ∷ negsuc 145798 ∷ pos 6 ∷ pos 72899 ∷ negsuc 145798 ∷ pos 6 ∷ pos 72899 ∷ negsuc 145799 ∷
    pos 6 ∷ pos 72900 ∷ negsuc 145800 ∷ pos 6 ∷ pos 72901 ∷ negsuc 145800 ∷ pos 6 ∷ []) ×
    (star_row (vertex (pos 4) (pos 1) 1 0 0 0) ≡ replicate 19 (pos 0)) ×
    (star_row (vertex (pos 4) (pos 1) 1 3 4 2) ≡ replicate 19 (pos 0))
unfolding star_of answer_numbers points_numbers normal_of orient pattern_of rows_of three four five six
star-rows = (refl, refl, refl, refl, refl, refl, refl)
