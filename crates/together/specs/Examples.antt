-- The counts of one hexagon, of document 01's mesh "Three", and of Three after one subdivision, of [1,0,0], computed from the bytes of their tables: 3H + 6S
-- faces, the base's edges and 12S. The tally of Three.
-- Assumes nothing.
use Rattle.std.specs.Prelude.{◌≡◌, refl, List, [], ◌∷◌, ℕ, ◌*◌, pos, negsuc, replicate}
use Rattle.laws.specs.Words.{word_at}
use Rattle.lattice.specs.Points.{normal_of, turns}
use Rattle.lattice.specs.Subdivision.{update_of}
use Rattle.lattice.specs.Patterns.{three, four, five, six, rows_of, pattern_of, orient}
use Rattle.table.specs.Slots.{slot_width, slots_in, free_at, record_at, slot_at, record_bytes, put_slot}
use Rattle.table.specs.Search.{home_of, same_point, search_from, find_of}
use Rattle.table.specs.Entries.{look_up, enter_of, replace_of, records_below}
use Rattle.base.specs.Base.{listed_in, first_bad, internal, corner_record, hexagon_of, lay_hexagon, lay_all, laid_of, base_of}
use Rattle.mesh.specs.Subdivide.{renewed_to, entered_to, subdivided}
use Rattle.queries.specs.Queries.{chosen_at}
use Rattle.growth.specs.Sheets.{vertex}
use Rattle.lattice.specs.Points.{pt}
use Rattle.firsts.specs.Faces.{different_after, gather, each, same_side, fits, same_face}
use Rattle.firsts.specs.Earlier.{sum_below}
use Rattle.counts.specs.Counts.{of_degree, numbers, counts_of}
use Rattle.together.specs.Tally.{hexagons_in, ground_in, pairs_in, beside_of}

abbrev clear : ℕ → List ℕ
clear n = replicate (slot_width * n) 255

hexagon : List ℕ
unfolding base_of
hexagon = (base_of (clear 16) (pos 0 ∷ pos 0 ∷ [])).bytes

threes : List ℕ
unfolding base_of
threes = (base_of (clear 32) (pos 0 ∷ pos 0 ∷ pos 1 ∷ pos 1 ∷ pos 2 ∷ negsuc 0 ∷ [])).bytes

hexagon-counts : counts_of hexagon ≡ numbers 7 9 3 6 1 0 0 0
unfolding counts_of different_after gather each same_side fits same_face of_degree records_below chosen_at hexagon base_of first_bad laid_of lay_all lay_hexagon
    hexagon_of corner_record internal listed_in turns normal_of pattern_of rows_of three four five six orient look_up enter_of find_of search_from slot_at
    free_at record_at put_slot record_bytes slots_in home_of same_point word_at
hexagon-counts = refl

threes-counts : counts_of threes ≡ numbers 16 24 9 12 3 0 0 1
unfolding counts_of different_after gather each same_side fits same_face of_degree records_below chosen_at threes base_of first_bad laid_of lay_all lay_hexagon
    hexagon_of corner_record internal listed_in turns normal_of pattern_of rows_of three four five six orient look_up enter_of find_of search_from slot_at
    free_at record_at put_slot record_bytes slots_in home_of same_point word_at
threes-counts = refl

divided-counts : counts_of (subdivided threes (vertex (pt (pos 1) (pos 0) 0) 6 0 0)) ≡ numbers 22 36 15 12 6 3 0 1
unfolding counts_of different_after gather each same_side fits same_face of_degree records_below chosen_at threes base_of first_bad laid_of lay_all lay_hexagon
    hexagon_of corner_record internal listed_in turns normal_of pattern_of rows_of three four five six orient look_up enter_of find_of search_from slot_at
    free_at record_at put_slot record_bytes slots_in home_of same_point word_at subdivided renewed_to entered_to replace_of update_of
divided-counts = refl

-- three hexagons, each beside the two others
threes-tally : (hexagons_in threes ≡ 3) × (ground_in threes ≡ 16) × (pairs_in threes ≡ 3)
unfolding hexagons_in ground_in pairs_in beside_of sum_below threes base_of first_bad laid_of lay_all lay_hexagon hexagon_of corner_record internal listed_in turns
    normal_of pattern_of rows_of three four five six orient look_up enter_of find_of search_from slot_at free_at record_at put_slot record_bytes slots_in home_of
    same_point word_at
threes-tally = (refl, refl, refl)
