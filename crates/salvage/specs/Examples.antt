-- Repeats dropped and sorted, and what the list says: each by computing.
-- Assumes nothing.
use Rattle.std.specs.Prelude.{◌≡◌, refl, true, false, [], ◌∷◌, ℕ, ℤ, pos}
use Rattle.lattice.specs.Points.{pt}
use Rattle.lattice.specs.declared.records.Record.{Record}
use Rattle.table.specs.Search.{same_point}
use Rattle.table.specs.Slots.{slots_in}
use Rattle.table.specs.Entries.{records_below}
use Rattle.text.specs.Decimal.{digits_by, digits}
use Rattle.text.specs.Line.{rec}
use Rattle.text.specs.LineOrder.{earlier}
use Rattle.sorting.specs.Sorting.{insert_by, sort_by}
use Rattle.writers.specs.Files.{leave_out}
use Rattle.salvage_lines.specs.OldLines.{same_record, Dropped, Kept, kept}
use Rattle.salvage.specs.Salvage.{once_after, sorted_lines, change, changes_at, changes_from, restored_changes, changes}

-- the record of six numbers
abbrev of : ℤ → ℤ → ℕ → ℕ → ℕ → ℕ → Record
of a b m d k n = rec (pt a b m) d k n

-- repeats go, the rest is sorted
sorting : sorted_lines (Kept (of (pos 2) (pos 0) 0 0 0 0) false ∷ Dropped ∷ Kept (of (pos 1) (pos 0) 0 0 0 0) true ∷ Kept (of (pos 2) (pos 0) 0 0 0 0) true ∷ [])
    ≡ of (pos 1) (pos 0) 0 0 0 0 ∷ of (pos 2) (pos 0) 0 0 0 0 ∷ []
unfolding kept once_after same_record same_point sort_by insert_by earlier
sorting = refl

-- what is listed: line 1 `normalised`; 2 `dropped`; 3 both `normalised` and `repeat`; 4, a third copy, `repeat`
listing : changes_from 1 [] (Kept (of (pos 2) (pos 0) 0 0 0 0) true ∷ Dropped ∷ Kept (of (pos 2) (pos 0) 0 0 0 0) true
    ∷ Kept (of (pos 2) (pos 0) 0 0 0 0) false ∷ Kept (of (pos 1) (pos 0) 0 0 0 0) false ∷ [])
    ≡ 49 ∷ 9 ∷ 110 ∷ 111 ∷ 114 ∷ 109 ∷ 97 ∷ 108 ∷ 105 ∷ 115 ∷ 101 ∷ 100 ∷ 10
    ∷ 50 ∷ 9 ∷ 100 ∷ 114 ∷ 111 ∷ 112 ∷ 112 ∷ 101 ∷ 100 ∷ 10
    ∷ 51 ∷ 9 ∷ 110 ∷ 111 ∷ 114 ∷ 109 ∷ 97 ∷ 108 ∷ 105 ∷ 115 ∷ 101 ∷ 100 ∷ 10
    ∷ 51 ∷ 9 ∷ 114 ∷ 101 ∷ 112 ∷ 101 ∷ 97 ∷ 116 ∷ 10
    ∷ 52 ∷ 9 ∷ 114 ∷ 101 ∷ 112 ∷ 101 ∷ 97 ∷ 116 ∷ 10
    ∷ []
unfolding changes_from changes_at change same_record same_point digits digits_by
listing = refl

-- the first line is 1
first : changes (Dropped ∷ []) [] ≡ 49 ∷ 9 ∷ 100 ∷ 114 ∷ 111 ∷ 112 ∷ 112 ∷ 101 ∷ 100 ∷ 10 ∷ []
unfolding changes changes_from changes_at change restored_changes kept records_below slots_in leave_out sort_by digits digits_by
first = refl

-- a restored record: `0 restored`
restoring : restored_changes (of (pos 1) (pos 1) 1 3 3 1 ∷ []) ≡ 48 ∷ 9 ∷ 114 ∷ 101 ∷ 115 ∷ 116 ∷ 111 ∷ 114 ∷ 101 ∷ 100 ∷ 10 ∷ []
unfolding restored_changes change digits digits_by
restoring = refl
