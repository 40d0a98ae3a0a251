-- A whole call of salvage, computed: Three, whose file lacks its centres, has the degree 6 vertex spelled as 3 over 3 with orientation 8, and twice again, a
-- line that is none and a cut last one. `mended-three` number, both files and every lent byte, tables and outputs lent with other bytes.
-- Assumes nothing.
use Rattle.std.specs.Prelude.{◌≡◌, refl, true, List, [], ◌∷◌, ◌++◌, ℕ, ◌*◌, ℤ, pos, negsuc, replicate}
use Rattle.laws.specs.Choices.{unless}
use Rattle.laws.specs.Words.{word_at}
use Rattle.lattice.specs.Points.{normal_of, turns}
use Rattle.lattice.specs.Patterns.{orient, pattern_of, rows_of, six}
use Rattle.table.specs.Slots.{slot_width, slot_at, free_at, record_at, put_slot, record_bytes, slots_in}
use Rattle.table.specs.Search.{home_of, same_point, search_from, find_of}
use Rattle.table.specs.Entries.{look_up, enter_of, records_below}
use Rattle.base.specs.Base.{base_of, first_bad, laid_of, lay_all, lay_hexagon, hexagon_of, corner_record, internal, listed_in}
use Rattle.base.specs.BaseLaws.{base-order}
use Rattle.mesh.specs.Grown.{laid}
use Rattle.grown.specs.Grown.{is_grown, grown-is}
use Rattle.sorting.specs.Sorting.{insert_by, sort_by}
use Rattle.text.specs.Decimal.{digits, digits_by}
use Rattle.text.specs.Reading.{run, value, number_at, signed_at}
use Rattle.text.specs.Line.{point_text, star_text, line_of, lines, place_at, star_at, spelled_at}
use Rattle.text.specs.LineOrder.{earlier}
use Rattle.writers.specs.Files.{leave_out, full_file}
use Rattle.readers.specs.Readers.{restore_to, restore_all}
use Rattle.salvage_lines.specs.OldLines.{orientation_of, tidied, same_record, line_span, past_line, piece_at, salvaged_from, salvaged, kept, clashes}
use Rattle.salvage.specs.Salvage.{once_after, enter_all, filled, change, changes_at, changes_from, restored_changes, changes}
use Rattle.salvage.specs.Salvage.{refusal, salvage_after, write_both, salvage_of}

-- 24 slots, in which the records of Three have homes of their own
abbrev pub clear : List ℕ
clear = replicate (slot_width * 24) 255

abbrev pub centres : List ℤ
centres = pos 0 ∷ pos 0 ∷ pos 1 ∷ pos 1 ∷ pos 2 ∷ negsuc 0 ∷ []

abbrev pub three : List ℕ
three = (base_of clear centres).bytes

abbrev pub old : List ℕ
old =
    51 ∷ 9 ∷ 48 ∷ 9 ∷ 49 ∷ 9 ∷ 54 ∷ 9 ∷ 56 ∷ 9 ∷ 48 ∷ 10 ∷ 48 ∷ 9 ∷ 49 ∷ 9 ∷ 48 ∷ 9 ∷ 48 ∷ 9 ∷ 48 ∷ 9 ∷ 48 ∷ 10
    ∷ 45 ∷ 49 ∷ 9 ∷ 49 ∷ 9 ∷ 48 ∷ 9 ∷ 48 ∷ 9 ∷ 48 ∷ 9 ∷ 48 ∷ 10 ∷ 45 ∷ 49 ∷ 9 ∷ 48 ∷ 9 ∷ 48 ∷ 9 ∷ 48 ∷ 9 ∷ 48 ∷ 9 ∷ 48 ∷ 10
    ∷ 48 ∷ 9 ∷ 45 ∷ 49 ∷ 9 ∷ 48 ∷ 9 ∷ 48 ∷ 9 ∷ 48 ∷ 9 ∷ 48 ∷ 10 ∷ 49 ∷ 9 ∷ 45 ∷ 49 ∷ 9 ∷ 48 ∷ 9 ∷ 48 ∷ 9 ∷ 48 ∷ 9 ∷ 48 ∷ 10
    ∷ 50 ∷ 9 ∷ 49 ∷ 9 ∷ 48 ∷ 9 ∷ 48 ∷ 9 ∷ 48 ∷ 9 ∷ 48 ∷ 10 ∷ 120 ∷ 10 ∷ 49 ∷ 9 ∷ 50 ∷ 9 ∷ 48 ∷ 9 ∷ 48 ∷ 9 ∷ 48 ∷ 9 ∷ 48 ∷ 10
    ∷ 48 ∷ 9 ∷ 50 ∷ 9 ∷ 48 ∷ 9 ∷ 48 ∷ 9 ∷ 48 ∷ 9 ∷ 48 ∷ 10 ∷ 50 ∷ 9 ∷ 48 ∷ 9 ∷ 48 ∷ 9 ∷ 48 ∷ 9 ∷ 48 ∷ 9 ∷ 48 ∷ 10
    ∷ 51 ∷ 9 ∷ 45 ∷ 49 ∷ 9 ∷ 48 ∷ 9 ∷ 48 ∷ 9 ∷ 48 ∷ 9 ∷ 48 ∷ 10 ∷ 50 ∷ 9 ∷ 45 ∷ 50 ∷ 9 ∷ 48 ∷ 9 ∷ 48 ∷ 9 ∷ 48 ∷ 9 ∷ 48 ∷ 10
    ∷ 51 ∷ 9 ∷ 45 ∷ 50 ∷ 9 ∷ 48 ∷ 9 ∷ 48 ∷ 9 ∷ 48 ∷ 9 ∷ 48 ∷ 10 ∷ 49 ∷ 9 ∷ 48 ∷ 9 ∷ 48 ∷ 9 ∷ 54 ∷ 9 ∷ 48 ∷ 9 ∷ 48 ∷ 10
    ∷ 51 ∷ 9 ∷ 48 ∷ 9 ∷ 49 ∷ 9 ∷ 54 ∷ 9 ∷ 50 ∷ 9 ∷ 48 ∷ 10 ∷ 48 ∷ 9 ∷ 48 ∷ 9 ∷ 48 ∷ 9 ∷ 51
    ∷ []

-- "the full file"
abbrev pub file : List ℕ
file =
    45 ∷ 49 ∷ 9 ∷ 48 ∷ 9 ∷ 48 ∷ 9 ∷ 48 ∷ 9 ∷ 48 ∷ 9 ∷ 48 ∷ 10 ∷ 45 ∷ 49 ∷ 9 ∷ 49 ∷ 9 ∷ 48 ∷ 9 ∷ 48 ∷ 9 ∷ 48 ∷ 9 ∷ 48 ∷ 10
    ∷ 48 ∷ 9 ∷ 45 ∷ 49 ∷ 9 ∷ 48 ∷ 9 ∷ 48 ∷ 9 ∷ 48 ∷ 9 ∷ 48 ∷ 10 ∷ 48 ∷ 9 ∷ 48 ∷ 9 ∷ 48 ∷ 9 ∷ 51 ∷ 9 ∷ 48 ∷ 9 ∷ 48 ∷ 10
    ∷ 48 ∷ 9 ∷ 49 ∷ 9 ∷ 48 ∷ 9 ∷ 48 ∷ 9 ∷ 48 ∷ 9 ∷ 48 ∷ 10 ∷ 48 ∷ 9 ∷ 50 ∷ 9 ∷ 48 ∷ 9 ∷ 48 ∷ 9 ∷ 48 ∷ 9 ∷ 48 ∷ 10
    ∷ 49 ∷ 9 ∷ 45 ∷ 49 ∷ 9 ∷ 48 ∷ 9 ∷ 48 ∷ 9 ∷ 48 ∷ 9 ∷ 48 ∷ 10 ∷ 49 ∷ 9 ∷ 48 ∷ 9 ∷ 48 ∷ 9 ∷ 54 ∷ 9 ∷ 48 ∷ 9 ∷ 48 ∷ 10
    ∷ 49 ∷ 9 ∷ 49 ∷ 9 ∷ 48 ∷ 9 ∷ 51 ∷ 9 ∷ 48 ∷ 9 ∷ 48 ∷ 10 ∷ 49 ∷ 9 ∷ 50 ∷ 9 ∷ 48 ∷ 9 ∷ 48 ∷ 9 ∷ 48 ∷ 9 ∷ 48 ∷ 10
    ∷ 50 ∷ 9 ∷ 45 ∷ 50 ∷ 9 ∷ 48 ∷ 9 ∷ 48 ∷ 9 ∷ 48 ∷ 9 ∷ 48 ∷ 10 ∷ 50 ∷ 9 ∷ 45 ∷ 49 ∷ 9 ∷ 48 ∷ 9 ∷ 51 ∷ 9 ∷ 48 ∷ 9 ∷ 48 ∷ 10
    ∷ 50 ∷ 9 ∷ 48 ∷ 9 ∷ 48 ∷ 9 ∷ 48 ∷ 9 ∷ 48 ∷ 9 ∷ 48 ∷ 10 ∷ 50 ∷ 9 ∷ 49 ∷ 9 ∷ 48 ∷ 9 ∷ 48 ∷ 9 ∷ 48 ∷ 9 ∷ 48 ∷ 10
    ∷ 51 ∷ 9 ∷ 45 ∷ 50 ∷ 9 ∷ 48 ∷ 9 ∷ 48 ∷ 9 ∷ 48 ∷ 9 ∷ 48 ∷ 10 ∷ 51 ∷ 9 ∷ 45 ∷ 49 ∷ 9 ∷ 48 ∷ 9 ∷ 48 ∷ 9 ∷ 48 ∷ 9 ∷ 48 ∷ 10
    ∷ []

-- 1 normalised, 8 dropped, 15 repeat, 16 normalised, 16 repeat, 17 dropped, and three times 0 restored
abbrev pub list : List ℕ
list =
    49 ∷ 9 ∷ 110 ∷ 111 ∷ 114 ∷ 109 ∷ 97 ∷ 108 ∷ 105 ∷ 115 ∷ 101 ∷ 100 ∷ 10 ∷ 56 ∷ 9 ∷ 100 ∷ 114 ∷ 111 ∷ 112 ∷ 112 ∷ 101 ∷ 100 ∷ 10
    ∷ 49 ∷ 53 ∷ 9 ∷ 114 ∷ 101 ∷ 112 ∷ 101 ∷ 97 ∷ 116 ∷ 10 ∷ 49 ∷ 54 ∷ 9 ∷ 110 ∷ 111 ∷ 114 ∷ 109 ∷ 97 ∷ 108 ∷ 105 ∷ 115 ∷ 101 ∷ 100 ∷ 10
    ∷ 49 ∷ 54 ∷ 9 ∷ 114 ∷ 101 ∷ 112 ∷ 101 ∷ 97 ∷ 116 ∷ 10 ∷ 49 ∷ 55 ∷ 9 ∷ 100 ∷ 114 ∷ 111 ∷ 112 ∷ 112 ∷ 101 ∷ 100 ∷ 10
    ∷ 48 ∷ 9 ∷ 114 ∷ 101 ∷ 115 ∷ 116 ∷ 111 ∷ 114 ∷ 101 ∷ 100 ∷ 10 ∷ 48 ∷ 9 ∷ 114 ∷ 101 ∷ 115 ∷ 116 ∷ 111 ∷ 114 ∷ 101 ∷ 100 ∷ 10
    ∷ 48 ∷ 9 ∷ 114 ∷ 101 ∷ 115 ∷ 116 ∷ 111 ∷ 114 ∷ 101 ∷ 100 ∷ 10
    ∷ []

accepted : (base_of clear centres).number ≡ 0
unfolding base_of first_bad laid_of lay_all lay_hexagon hexagon_of corner_record internal listed_in normal_of turns enter_of find_of search_from slot_at free_at record_at
    put_slot record_bytes slots_in home_of same_point word_at
accepted = refl

grown : is_grown three ≡ true
grown = grown-is three (record { order = base-order clear centres accepted; table = three; reached = laid clear centres accepted; same = λ p. refl })

-- outputs a byte longer than their files
abbrev pub out : List ℕ
out = replicate 201 0

abbrev pub room : List ℕ
room = replicate 102 1

abbrev pub lent : ℕ → List ℕ
lent b = replicate (slot_width * 24) b

pub mended-three : salvage_of (lent 7) (lent 8) old out room ≡ salvage_after 0 200 101 three clear (file ++ 0 ∷ []) (list ++ 1 ∷ [])
unfolding salvage_of filled enter_all restore_all restore_to orient pattern_of rows_of six look_up records_below salvaged_from piece_at past_line line_span tidied
    orientation_of same_record kept clashes once_after change changes_at changes_from restored_changes changes leave_out sort_by insert_by earlier spelled_at
    place_at star_at number_at signed_at run value lines line_of point_text star_text digits digits_by base_of first_bad laid_of lay_all lay_hexagon hexagon_of
    corner_record internal listed_in normal_of turns enter_of find_of search_from slot_at free_at record_at put_slot record_bytes slots_in home_of same_point word_at
mended-three = λ i. unless (grown i) (refusal 11 (lent 7) (lent 8) out room)
    (write_both (lent 7) (lent 8) out room three (full_file three) (changes (salvaged old) three))
