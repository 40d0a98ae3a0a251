-- A base that fills its table, and bases that are refused, computed from the definitions. Document 01's starred examples are in `demands`.
-- Assumes nothing.
use Rattle.std.specs.Prelude.{◌≡◌, refl, List, [], ◌∷◌, ℕ, ◌*◌, ℤ, pos, negsuc, replicate}
use Rattle.laws.specs.Words.{word_at}
use Rattle.lattice.specs.Points.{normal_of, turns}
use Rattle.table.specs.Search.{home_of, same_point, search_from, find_of}
use Rattle.table.specs.Entries.{enter_of}
use Rattle.table.specs.Slots.{slot_width, slots_in, free_at, record_at, slot_at, record_bytes, put_slot, free_below, free_slots}
use Rattle.base.specs.Base.{listed_in, first_bad, internal, corner_record, hexagon_of, lay_hexagon, lay_all, laid_of, base_of}

empty : ℕ → List ℕ
empty n = replicate (slot_width * n) 255

three : List ℤ
three = pos 0 ∷ pos 0 ∷ pos 1 ∷ pos 1 ∷ pos 2 ∷ negsuc 0 ∷ []

-- "Three has 16 records": a table of 16 slots may be filled to the last
three-laid : ((base_of (empty 16) three).number ≡ 0) × (free_slots (base_of (empty 16) three).bytes ≡ 0)
unfolding empty three base_of first_bad laid_of lay_all lay_hexagon hexagon_of corner_record internal listed_in normal_of turns enter_of find_of search_from
    slot_at free_at record_at put_slot record_bytes slots_in home_of same_point word_at free_below
three-laid = (refl, refl)

-- a table before the call: no slot of it is free
used : ℕ → List ℕ
used n = replicate (slot_width * n) 0

-- "Centre 250 passes, 251 fails." Refused besides: too few slots; a length that doesn't fit, the table untouched; an odd list; a wrong remainder,
-- though there is no room either; a centre twice, of which the later one is bad
refused :
    ((base_of (used 16) (pos 250 ∷ pos 250 ∷ [])).number ≡ 0)
    × (base_of (used 16) (pos 0 ∷ pos 0 ∷ pos 251 ∷ negsuc 0 ∷ []) ≡ record { number = 2; place = 1; bytes = empty 16 })
    × (base_of (used 16) (pos 0 ∷ pos 0 ∷ pos 30 ∷ pos 0 ∷ pos 60 ∷ pos 0 ∷ []) ≡ record { number = 8; place = 0; bytes = empty 16 })
    × (base_of (used 15) three ≡ record { number = 1; place = 0; bytes = used 15 })
    × (base_of (used 16) (pos 0 ∷ []) ≡ record { number = 2; place = 0; bytes = empty 16 })
    × (base_of (used 16) (pos 0 ∷ pos 0 ∷ pos 30 ∷ pos 0 ∷ pos 60 ∷ pos 0 ∷ pos 1 ∷ pos 0 ∷ []) ≡ record { number = 2; place = 3; bytes = empty 16 })
    × (base_of (used 16) (pos 0 ∷ pos 0 ∷ pos 3 ∷ pos 0 ∷ pos 0 ∷ pos 0 ∷ []) ≡ record { number = 2; place = 2; bytes = empty 16 })
unfolding empty used three base_of first_bad laid_of lay_all lay_hexagon hexagon_of corner_record internal listed_in normal_of turns enter_of find_of search_from
    slot_at free_at record_at put_slot record_bytes slots_in home_of same_point word_at
refused = (refl, refl, refl, refl, refl, refl, refl)
