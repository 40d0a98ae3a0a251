-- How many free slots a subdivision of "Three" needs, and where its new vertices would go, computed from the definitions. Document 01's starred
-- examples are in `demands`.
-- Assumes nothing.
use Rattle.std.specs.Prelude.{◌≡◌, refl, List, [], ◌∷◌, ℕ, ◌*◌, pos, negsuc, replicate}
use Rattle.laws.specs.Words.{word_at}
use Rattle.base.specs.Base.{listed_in, first_bad, internal, corner_record, hexagon_of, lay_hexagon, lay_all, laid_of, base_of}
use Rattle.lattice.specs.Patterns.{rows_of, pattern_of, orient}
use Rattle.lattice.specs.Subdivision.{update_of, accepts_of}
use Rattle.lattice.specs.Points.{pt, normal_of, turns}
use Rattle.table.specs.Search.{home_of, same_point, search_from, find_of}
use Rattle.table.specs.Entries.{look_up, enter_of, replace_of}
use Rattle.table.specs.Order.{placed_at, all_placed, in_order_of}
use Rattle.table.specs.Slots.{slot_width, slots_in, free_at, record_at, slot_at, record_bytes, put_slot, free_below}
use Rattle.table.specs.declared.probe.Found.TheVariants as found
use Rattle.mesh.specs.Subdivide.{torn, renewed_to, entered_to, subdivided, subdivide_of}

three : ℕ → List ℕ
three n = (base_of (replicate (slot_width * n) 255) (pos 0 ∷ pos 0 ∷ pos 1 ∷ pos 1 ∷ pos 2 ∷ negsuc 0 ∷ [])).bytes

-- "Six free slots suffice, five give 8."
refusals :
    ((subdivide_of (three 22) (pos 1) (pos 0) 0).number ≡ 0)
    × ((subdivide_of (three 21) (pos 1) (pos 0) 0).number ≡ 8)
    × ((subdivide_of [] (pos 1) (pos 0) 0).number ≡ 1)
unfolding three subdivide_of subdivided torn renewed_to entered_to update_of accepts_of base_of first_bad laid_of lay_all lay_hexagon hexagon_of
    corner_record internal listed_in normal_of turns orient pattern_of rows_of in_order_of all_placed placed_at look_up enter_of replace_of find_of search_from
    slot_at free_at record_at put_slot record_bytes slots_in home_of same_point word_at free_below
refusals = (refl, refl, refl)

-- the searches for three of the six new points of [1, 0, 0] stop at one slot: each slot told serves one of them only
one-slot :
    (find_of (three 22) (pt (pos 1) (pos 1) 1) ≡ found.Free 15)
    × (find_of (three 22) (pt (pos 2) (negsuc 0) 1) ≡ found.Free 15)
    × (find_of (three 22) (pt (pos 5) (negsuc 0) 1) ≡ found.Free 15)
unfolding three base_of first_bad laid_of lay_all lay_hexagon hexagon_of corner_record internal listed_in enter_of find_of search_from slot_at free_at record_at
    put_slot record_bytes slots_in home_of same_point word_at normal_of turns
one-slot = (refl, refl, refl)
