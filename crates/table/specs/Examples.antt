-- Worked examples, computed from the bytes: one hexagon in a table of 16 slots.
-- Assumes nothing.
use Rattle.std.specs.Prelude.{◌≡◌, refl, true, false, List, [], ◌∷◌, ℕ, replicate, ℤ, pos, negsuc, Some, None}
use Rattle.laws.specs.Words.{word_at}
use Rattle.lattice.specs.Points.{pt}
use Rattle.lattice.specs.declared.records.Record.{Record}
use Rattle.table.specs.Slots.{slots_in, slot_at, free_at, record_at, put_slot, record_bytes, free_below, free_slots}
use Rattle.table.specs.Search.{home_of, same_point, search_from, find_of}
use Rattle.table.specs.Order.{placed_at, all_placed, in_order_of}
use Rattle.table.specs.Entries.{look_up, enter_of, replace_of}
use Rattle.table.specs.declared.probe.Found.TheVariants as found

-- [a, b, 0], of degree d, k = n = 0
vertex : ℤ → ℤ → ℕ → Record
vertex a b d = record { at = pt a b 0; d = d; k = 0; n = record { 0 = 0 } }

entered : List ℕ → List Record → List ℕ
entered t [] = t
entered t (r ∷ rs) = entered (enter_of t r) rs

hexagon : List Record
hexagon =
    vertex (pos 0) (pos 0) 3 ∷ vertex (pos 1) (pos 0) 0 ∷ vertex (pos 0) (pos 1) 0 ∷ vertex (negsuc 0) (pos 1) 0
    ∷ vertex (negsuc 0) (pos 0) 0 ∷ vertex (pos 0) (negsuc 0) 0 ∷ vertex (pos 1) (negsuc 0) 0 ∷ []

empty : List ℕ
empty = replicate 192 255

one : List ℕ
one = entered empty hexagon

-- lengths that fit, and lengths that don't
lengths : (slots_in 192 ≡ 16) × (slots_in 786432 ≡ 65536) × (slots_in 180 ≡ 0) × (slots_in 786444 ≡ 0) × (slots_in 193 ≡ 0)
unfolding slots_in
lengths = (refl, refl, refl, refl, refl)

-- the home of a sum past 32 bits, and the homes of negative sums
homes : (home_of (pt (pos 182979) (pos 182979) 6) 5461 ≡ 1558) × (home_of (pt (negsuc 0) (pos 0) 0) 16 ≡ 1) × (home_of (pt (pos 0) (negsuc 0) 0) 16 ≡ 7)
unfolding home_of
homes = (refl, refl, refl)

-- a cleared table is in order, and so is one hexagon's: seven records, each found
in_order : (in_order_of empty ≡ true) × (in_order_of one ≡ true) × (free_slots one ≡ 9)
unfolding in_order_of all_placed placed_at find_of entered hexagon vertex empty one slots_in slot_at free_at record_at word_at put_slot record_bytes home_of
    same_point search_from enter_of free_below
in_order = (refl, refl, refl)

found-there : (find_of one (pt (negsuc 0) (pos 1) 0) ≡ found.At 10) × (look_up one (pt (pos 0) (pos 0) 0) ≡ Some (vertex (pos 0) (pos 0) 3)) ×
    (look_up one (pt (pos 2) (pos 0) 0) ≡ None)
unfolding find_of look_up entered hexagon vertex empty one slots_in slot_at free_at record_at word_at put_slot record_bytes home_of same_point search_from enter_of
found-there = (refl, refl, refl)

-- a record put in place of the centre's
replaced : look_up (replace_of one (vertex (pos 0) (pos 0) 6)) (pt (pos 0) (pos 0) 0) ≡ Some (vertex (pos 0) (pos 0) 6)
unfolding find_of look_up entered hexagon vertex empty one slots_in slot_at free_at record_at word_at put_slot record_bytes home_of same_point search_from enter_of replace_of
replaced = refl

-- the same point twice, a free slot between a record and its home, a length that doesn't fit: none is in order
not-in-order : (in_order_of (put_slot one 3 (vertex (pos 0) (pos 0) 3)) ≡ false) × (in_order_of (put_slot empty 3 (vertex (pos 0) (pos 0) 3)) ≡ false) ×
    (in_order_of (255 ∷ empty) ≡ false)
unfolding in_order_of all_placed placed_at find_of entered hexagon vertex empty one slots_in slot_at free_at record_at word_at put_slot record_bytes home_of
    same_point search_from enter_of
not-in-order = (refl, refl, refl)
