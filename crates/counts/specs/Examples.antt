-- The counts of two hexagons side by side, and of a vertex with no faces, computed from the bytes of their tables. Those of one hexagon and of three
-- stand in demands.
-- Assumes nothing.
use Rattle.std.specs.Prelude.{◌≡◌, refl, List, [], ◌∷◌, ℕ, ◌*◌, ℤ, pos, replicate}
use Rattle.laws.specs.Words.{word_at}
use Rattle.lattice.specs.Points.{pt, normal_of, turns}
use Rattle.lattice.specs.Patterns.{three, four, five, six, rows_of, pattern_of, orient}
use Rattle.table.specs.Slots.{slot_width, slots_in, free_at, record_at, slot_at, record_bytes, put_slot}
use Rattle.table.specs.Search.{home_of, same_point, search_from, find_of}
use Rattle.table.specs.Entries.{look_up, enter_of, records_below}
use Rattle.base.specs.Base.{listed_in, first_bad, internal, corner_record, hexagon_of, lay_hexagon, lay_all, laid_of, base_of}
use Rattle.queries.specs.Queries.{chosen_at}
use Rattle.firsts.specs.Faces.{different_after, gather, each, same_side, fits, same_face}
use Rattle.counts.specs.Counts.{of_degree, numbers, counts_of}

-- the base of these centres, in 16 slots
laid : List ℤ → List ℕ
unfolding base_of
laid cs = (base_of (replicate (slot_width * 16) 255) cs).bytes

-- the side between two hexagons, both its ends on the rim, is a side of two faces and one edge
two-counts : counts_of (laid (pos 0 ∷ pos 0 ∷ pos 1 ∷ pos 1 ∷ [])) ≡ numbers 12 17 6 10 2 0 0 0
unfolding counts_of different_after gather each same_side fits same_face of_degree records_below chosen_at laid base_of first_bad laid_of lay_all lay_hexagon
    hexagon_of corner_record internal listed_in turns normal_of pattern_of rows_of three four five six orient look_up enter_of find_of search_from slot_at
    free_at record_at put_slot record_bytes slots_in home_of same_point word_at
two-counts = refl

-- a corner with no opposite in the table has no face, and no sides
lone-counts : counts_of (enter_of (replicate (slot_width * 16) 255) (record { at = pt (pos 1) (pos 0) 0; d = 6; k = 0; n = record { 0 = 0 } }))
    ≡ numbers 1 0 0 0 0 0 0 1
unfolding counts_of different_after gather each same_side fits same_face of_degree records_below chosen_at normal_of turns pattern_of rows_of three four five six
    orient look_up enter_of find_of search_from slot_at free_at record_at put_slot record_bytes slots_in home_of same_point word_at
lone-counts = refl
