-- The table as a map from points to records. Document 01: "A new record takes the first free slot so met."
-- `look_up` the record at a point · `enter_of` a record entered · `replace_of` one put in place of that at its point · `records_of` all of them · `holds`
-- a point is there · `slot_found` in which slot.
-- Assumes nothing.
use Rattle.std.specs.Prelude.{Bool, true, false, List, [], ◌∷◌, ◌++◌, ℕ, zero, suc, Option, Some, None}
use Rattle.lattice.specs.declared.points.Point.{Point}
use Rattle.lattice.specs.declared.records.Record.{Record}
use Rattle.table.specs.Slots.{slots_of, slot_at, put_slot}
use Rattle.table.specs.Search.{find_of}
use Rattle.table.specs.declared.probe.Found.{Found}
use Rattle.table.specs.declared.probe.Found.TheVariants as found

-- the record that a slot holds
abbrev pub held_in : Option Record → Option Record
held_in None = None
held_in (Some r) = Some r

-- the record where a search has ended
abbrev pub looked_at : List ℕ → Found → Option Record
looked_at t (found.At i) = held_in (slot_at t i)
looked_at t (found.Free i) = None
looked_at t found.Full = None

-- the record at a point
unfoldable pub look_up : List ℕ → Point → Option Record
look_up t p = looked_at t (find_of t p)

-- "A new record takes the first free slot so met."
abbrev pub enter_at : List ℕ → Record → Found → List ℕ
enter_at t r (found.At i) = t
enter_at t r (found.Free i) = put_slot t i r
enter_at t r found.Full = t

-- a record entered: as it was, where its point is there already or no slot is free
unfoldable pub enter_of : List ℕ → Record → List ℕ
enter_of t r = enter_at t r (find_of t r.at)

abbrev pub replace_at : List ℕ → Record → Found → List ℕ
replace_at t r (found.At i) = put_slot t i r
replace_at t r (found.Free i) = t
replace_at t r found.Full = t

-- a record put in place of the one at its point: as it was, where there is none
unfoldable pub replace_of : List ℕ → Record → List ℕ
replace_of t r = replace_at t r (find_of t r.at)

-- the records of a table, in the order of their slots
abbrev pub listed : Option Record → List Record
listed None = []
listed (Some r) = r ∷ []

unfoldable pub records_below : List ℕ → ℕ → List Record
records_below t zero = []
records_below t (suc k) = records_below t k ++ listed (slot_at t k)

abbrev pub records_of : List ℕ → List Record
records_of t = records_below t (slots_of t)

-- the slot where a search has found its point, n where it has not
abbrev pub slot_found : ℕ → Found → ℕ
slot_found n (found.At i) = i
slot_found n (found.Free i) = n
slot_found n found.Full = n

-- a point is in the table
abbrev pub is_held : Option Record → Bool
is_held None = false
is_held (Some r) = true

abbrev pub holds : List ℕ → Point → Bool
holds t p = is_held (look_up t p)
