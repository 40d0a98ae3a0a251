-- The counts of a mesh of several subdivisions, its eight numbers all different, in each row that has them, computed: six hexagons, [1, 0, 0] and [-1, 1, 0]
-- subdivided. `counted` the counts · `count-row` as `count` gives them, `count-refused` · `census-row` as the census writes them · `inner-corner` an
-- inner corner of the base.
-- Assumes nothing.
use Rattle.std.specs.Prelude.{◌≡◌, refl, true, List, [], ◌∷◌, ℕ, ◌*◌, ℤ, pos, negsuc, replicate, Some}
use Rattle.std.proofs.Common.{ap, ◌∙◌}
use Rattle.laws.specs.Choices.{unless}
use Rattle.laws.specs.Words.{word_at}
use Rattle.lattice.specs.Points.{pt, normal_of, turns}
use Rattle.lattice.specs.Patterns.{orient, pattern_of, rows_of, three, four, five, six}
use Rattle.lattice.specs.Subdivision.{update_of}
use Rattle.lattice.specs.declared.records.Record.{Record}
use Rattle.table.specs.Slots.{slot_width, slot_at, free_at, record_at, put_slot, record_bytes, slots_in}
use Rattle.table.specs.Search.{home_of, same_point, search_from, find_of}
use Rattle.table.specs.Order.{in_order_of, all_placed, placed_at}
use Rattle.table.specs.Entries.{look_up, enter_of, replace_of, records_below}
use Rattle.base.specs.Base.{base_of, first_bad, laid_of, lay_all, lay_hexagon, hexagon_of, corner_record, internal, listed_in}
use Rattle.mesh.specs.Subdivide.{subdivided, renewed_to, entered_to}
use Rattle.queries.specs.Queries.{chosen_at}
use Rattle.firsts.specs.Faces.{different_after, gather, each, same_side, fits, same_face}
use Rattle.counts.specs.Counts.{of_degree, numbers, counts_of}
use Rattle.counts.specs.declared.Counts.{Counts}
use Rattle.tally.specs.Count.{row_of, counts_after, count_of}
use Rattle.text.specs.Decimal.{digits, digits_by}
use Rattle.readers.specs.Readers.{tables_after}
use Rattle.census_text.specs.Census.{tabbed, header, counts_text, text_of}

-- [a, b, 0], of degree d and orientation k, at level 0
abbrev vertex : ℤ → ℤ → ℕ → ℕ → Record
vertex a b d k = record { at = pt a b 0; d = d; k = k; n = record { 0 = 0 } }

pub based : List ℕ
unfolding base_of
based =
    (base_of (replicate (slot_width * 48) 255)
    (pos 0 ∷ pos 0 ∷ pos 1 ∷ pos 1 ∷ pos 2 ∷ negsuc 0 ∷ negsuc 0 ∷ pos 2 ∷ negsuc 1 ∷ pos 1 ∷ pos 0 ∷ pos 3 ∷ [])).bytes

-- "leaving 2, d 3, k 2"
pub inner-corner : look_up based (pt (pos 0) (pos 1) 0) ≡ Some (vertex (pos 0) (pos 1) 3 2)
unfolding based base_of first_bad laid_of lay_all lay_hexagon hexagon_of corner_record internal listed_in turns normal_of look_up enter_of find_of search_from slot_at
    free_at record_at put_slot record_bytes slots_in home_of same_point word_at
inner-corner = refl

pub twice : List ℕ
twice = subdivided (subdivided based (vertex (pos 1) (pos 0) 6 0)) (vertex (negsuc 0) (pos 1) 6 0)

pub counted : counts_of twice ≡ numbers 40 69 30 18 13 4 2 3
unfolding counts_of different_after gather each same_side fits same_face of_degree records_below chosen_at twice based base_of first_bad laid_of lay_all lay_hexagon
    hexagon_of corner_record internal listed_in turns normal_of pattern_of rows_of three four five six orient look_up enter_of find_of search_from slot_at
    free_at record_at put_slot record_bytes slots_in home_of same_point word_at subdivided renewed_to entered_to replace_of update_of
counted = refl

in_order : in_order_of twice ≡ true
unfolding in_order_of all_placed placed_at twice based base_of first_bad laid_of lay_all lay_hexagon hexagon_of corner_record internal listed_in turns normal_of pattern_of
    rows_of three four five six orient look_up enter_of find_of search_from slot_at free_at record_at put_slot record_bytes slots_in home_of same_point word_at subdivided
    renewed_to entered_to replace_of update_of
in_order = refl

pub count-row : count_of twice ≡ counts_after 0 (40 ∷ 69 ∷ 30 ∷ 18 ∷ 13 ∷ 4 ∷ 2 ∷ 3 ∷ [])
unfolding count_of
count-row = λ i. unless (in_order i) (counts_after 1 (replicate 8 0)) (counts_after 0 (row_of (counted i)))

-- "1, as of any call on a table that is not in order, and then all zeros"
pub count-refused : count_of [] ≡ counts_after 1 (0 ∷ 0 ∷ 0 ∷ 0 ∷ 0 ∷ 0 ∷ 0 ∷ 0 ∷ [])
unfolding count_of in_order_of
count-refused = refl

-- "a header line `V E F d0 d3 d4 d5 d6` and one line of those numbers"
pub census-row : (s : List ℕ)
    → text_of (tables_after 0 0 twice s)
    ≡ 86 ∷ 9 ∷ 69 ∷ 9 ∷ 70 ∷ 9 ∷ 100 ∷ 48 ∷ 9 ∷ 100 ∷ 51 ∷ 9 ∷ 100 ∷ 52 ∷ 9 ∷ 100 ∷ 53 ∷ 9 ∷ 100 ∷ 54 ∷ 10
    ∷ 52 ∷ 48 ∷ 9 ∷ 54 ∷ 57 ∷ 9 ∷ 51 ∷ 48 ∷ 9 ∷ 49 ∷ 56 ∷ 9 ∷ 49 ∷ 51 ∷ 9 ∷ 52 ∷ 9 ∷ 50 ∷ 9 ∷ 51 ∷ 10 ∷ []
unfolding text_of tabbed header digits digits_by
census-row s = ap (λ (c : Counts). counts_text c) counted ∙ refl
