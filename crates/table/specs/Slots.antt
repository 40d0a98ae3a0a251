-- Document 01, "Table in memory", to "A free slot is twelve bytes of 255": the bytes of a table, slot by slot.
-- `slot_width` · `Table t n` t is a table of n slots, `slots_of` how many, `lengths_fit` two tables of one length · `slot_at` what a slot holds, `put_slot` a
-- slot written · `cleared_of` all free · `free_slots` their number.
-- Assumes nothing.
use Rattle.std.specs.Prelude.{◌≡◌, Bool, cond, ◌&&◌, List, [], ◌∷◌, ◌++◌, ℕ, zero, suc, ◌+◌, ◌*◌, ◌/◌, ◌%◌, ◌≤◌, eqb, leb, length, get_or, replicate, ℤ, Option, Some, None}
use Rattle.std.proofs.lemmas.List.Edits.{sets}
use Rattle.std.specs.Int.{w32}
use Rattle.std.proofs.Common.{to_z, of_z}
use Rattle.laws.specs.Words.{word_at, word_bytes}
use Rattle.laws.specs.Rules.{upto}
use Rattle.lattice.specs.Points.{pt}
use Rattle.lattice.specs.declared.records.Record.{Record}

-- "12 bytes a slot"
abbrev pub slot_width : ℕ
slot_width = 12

-- "12 bytes a slot, 16 to 65,536 slots": t is a table of n slots
pub record Table (t : List ℕ) (n : ℕ) : Type 0 where
  pub long : length t ≡ slot_width * n
  pub least : 16 ≤ n
  pub most : n ≤ 65536

-- the same as a test of a length
abbrev pub fits_length : ℕ → Bool
fits_length l = eqb (l % slot_width) 0 && (leb 16 (l / slot_width) && leb (l / slot_width) 65536)

-- "lent a table and a scratch table of equal length": t and s fit
abbrev pub lengths_fit : List ℕ → List ℕ → Bool
lengths_fit t s = fits_length (length t) && eqb (length s) (length t)

-- the number of slots in so many bytes, 0 where that length doesn't fit
unfoldable pub slots_in : ℕ → ℕ
slots_in l = cond (fits_length l) (l / slot_width) 0

-- the number of slots of a table
abbrev pub slots_of : List ℕ → ℕ
slots_of t = slots_in (length t)

-- "A free slot is twelve bytes of 255."
unfoldable pub free_at : List ℕ → ℕ → Bool
free_at t p = upto slot_width (λ c. eqb (get_or t (p + c) 0) 255)

-- "signed 32-bit": two's complement
abbrev pub signed : ℕ → ℤ
signed u = to_z w32 u

-- "a and b as signed 32-bit, low byte first, then m, d, k, n": the record in the bytes from p on
unfoldable pub record_at : List ℕ → ℕ → Record
record_at t p =
    record {
      at = pt (signed (word_at t p)) (signed (word_at t (p + 4))) (get_or t (p + 8) 0);
      d = get_or t (p + 9) 0;
      k = get_or t (p + 10) 0;
      n = record { 0 = get_or t (p + 11) 0 };
    }

-- what slot i holds
unfoldable pub slot_at : List ℕ → ℕ → Option Record
slot_at t i = cond (free_at t (slot_width * i)) None (Some (record_at t (slot_width * i)))

-- the bytes of a record
unfoldable pub record_bytes : Record → List ℕ
record_bytes r = word_bytes (of_z w32 r.at.a) ++ word_bytes (of_z w32 r.at.b) ++ (r.at.m.0 ∷ r.d ∷ r.k ∷ r.n.0 ∷ [])

-- the table with a record written into slot i
unfoldable pub put_slot : List ℕ → ℕ → Record → List ℕ
put_slot t i r = sets t (slot_width * i) (record_bytes r)

-- "cleared to 255"
abbrev pub cleared_of : List ℕ → List ℕ
cleared_of t = replicate (length t) 255

-- 1 for a free slot, 0 for one that holds a record
abbrev pub is_free : Option Record → ℕ
is_free None = 1
is_free (Some r) = 0

-- how many of the first k slots are free
unfoldable pub free_below : (ℕ → Option Record) → ℕ → ℕ
free_below f zero = 0
free_below f (suc k) = free_below f k + is_free (f k)

-- how many slots of a table are free
abbrev pub free_slots : List ℕ → ℕ
free_slots t = free_below (slot_at t) (slots_of t)
