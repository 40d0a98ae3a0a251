-- The slots that a subdivision's searches met, as the code keeps them: in rows of six, one a place.
-- `InSlot` the search for v's point ends at a slot · `OldIn` those for the old adjacent points do · `StoppedAt` those for the new ones stopped at free
-- slots · `ComeTo` they come as far as slots, which they still do when more have entered (`enter-reaches`).
-- Assumes nothing.
use Rattle.std.specs.Prelude.{◌≡◌, List, ℕ, ◌<◌, get_or}
use Rattle.lattice.specs.Stars.{adjacent_at}
use Rattle.lattice.specs.declared.records.Record.{Record}
use Rattle.table.specs.Search.{find_of}
use Rattle.table.specs.Told.{Reaches}
use Rattle.table.specs.declared.probe.Found.TheVariants as found

-- the search for v's point ends at slot i
abbrev pub InSlot : List ℕ → Record → ℕ → Type 0
InSlot t v i = find_of t v.at ≡ found.At i

-- the searches for the first k old adjacent points end at these slots
abbrev pub OldIn : List ℕ → Record → List ℕ → ℕ → Type 0
OldIn t v slots k = (j : ℕ) → j < k → find_of t (adjacent_at v j) ≡ found.At (get_or slots j 0)

-- the searches for the first k points of the star of c stopped at these slots, which are free
abbrev pub StoppedAt : List ℕ → Record → List ℕ → ℕ → Type 0
StoppedAt t c slots k = (j : ℕ) → j < k → find_of t (adjacent_at c j) ≡ found.Free (get_or slots j 0)

-- they come as far as these slots
abbrev pub ComeTo : List ℕ → Record → List ℕ → ℕ → Type 0
ComeTo t c slots k = (j : ℕ) → j < k → Reaches t (adjacent_at c j) (get_or slots j 0)
