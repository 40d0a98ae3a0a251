-- What the code writes of a table, slot by slot: the records that are not marked to be left out, and their keys.
-- `kept_at` what is written of a slot · `standing` the records of the first slots · `key_for` the key of a record, `record_for` the record of a key.
-- Assumes nothing.
use Rattle.std.specs.Prelude.{◌≡◌, Bool, cond, ◌&&◌, List, [], ◌∷◌, ◌++◌, ℕ, zero, suc, ◌+◌, ◌*◌, ◌/◌, ◌%◌, eqb, Option, Some, None}
use Rattle.lattice.specs.declared.records.Record.{Record}
use Rattle.table.specs.Slots.{slot_at}
use Rattle.table.specs.Entries.{listed}
use Rattle.marks.specs.Marks.{marked_at}
use Rattle.text.specs.LineOrder.{order_of, point_of}
use Rattle.sorting.specs.Keys.{Put}

-- the slots of the greatest table: there are no more keys
abbrev pub places : ℕ
places = 65536

-- the bytes of a mark for each slot
abbrev pub mark_bytes : ℕ
mark_bytes = 8192

-- nothing of a free slot, nor of a record of degree 3 that is marked
abbrev pub kept_of : Bool → Option Record → Option Record
kept_of b None = None
kept_of b (Some r) = cond (b && eqb r.d 3) None (Some r)

unfoldable pub kept_at : List ℕ → List ℕ → ℕ → Option Record
unfolding marked_at
kept_at t m i = kept_of (marked_at m i) (slot_at t i)

-- the records of the first slots, where slot i is f i
unfoldable pub standing : (ℕ → Option Record) → ℕ → List Record
standing f zero = []
standing f (suc i) = standing f i ++ listed (f i)

-- degree, orientation and level as one number
abbrev pub shape_of : ℕ → ℕ → ℕ → ℕ
shape_of d k n = d * 256 + k * 16 + n

-- the key of a record
abbrev pub key_for : Record → ℕ
key_for r = order_of r.at * places + shape_of r.d r.k r.n.0

-- the record of a key
abbrev pub record_for : ℕ → Record
record_for v = record { at = point_of (v / places); d = v / 256 % 256; k = v / 16 % 16; n = record { 0 = v % 16 } }

-- keys vs, at most one, stored from key k on
abbrev pub Added : List ℕ → ℕ → List ℕ → List ℕ → ℕ → Type 0
Added o k [] o' k' = (o' ≡ o) × (k' ≡ k)
Added o k (v ∷ vs) o' k' = Put o k v o' × (k' ≡ k + 1)
