-- Document 01, "Table in memory": "A table is in order when ..".
-- `InOrder` the four conditions, for the reader · `in_order_of` the same as a test that computes: OrderLaws shows that it is true where and only where they hold.
-- Assumes nothing.
use Rattle.std.specs.Prelude.{◌≡◌, Bool, true, false, cond, ◌&&◌, List, ℕ, ◌+◌, ◌-◌, ◌≤◌, ◌<◌, eqb, leb, length, Option, Some, None}
use Rattle.laws.specs.Rules.{upto}
use Rattle.lattice.specs.Records.{valid_of}
use Rattle.lattice.specs.declared.records.Record.{Record}
use Rattle.table.specs.Slots.{Table, fits_length, slots_of, slot_at}
use Rattle.table.specs.Search.{home_of, find_of}
use Rattle.table.specs.declared.probe.Found.{Found}
use Rattle.table.specs.declared.probe.Found.TheVariants as found

-- how many steps it is from slot h on to slot i, wrapping
abbrev pub steps : ℕ → ℕ → ℕ → ℕ
steps n h i = cond (leb h i) (i - h) (i + n - h)

-- slot s is one of those from slot h on to slot i, wrapping
abbrev pub OnTheWay : ℕ → ℕ → ℕ → ℕ → Type 0
OnTheWay n h i s = steps n h s ≤ steps n h i

module _ (n : ℕ) (f : ℕ → Option Record) where
  -- "each slot is free or holds a valid record"
  abbrev pub EachValid : Type 0
  EachValid = (i : ℕ) (r : Record) → i < n → f i ≡ Some r → valid_of r ≡ true

  -- "no point stands twice"
  abbrev pub NoneTwice : Type 0
  NoneTwice = (i j : ℕ) (r q : Record) → i < n → j < n → f i ≡ Some r → f j ≡ Some q → r.at ≡ q.at → i ≡ j

  -- "no slot from a record's home (itself included) on to its own slot, wrapping, is free"
  abbrev pub NoneFreeBefore : Type 0
  NoneFreeBefore = (i s : ℕ) (r : Record) → i < n → s < n → f i ≡ Some r → OnTheWay n (home_of r.at n) i s → f s ≡ None → ⊥

-- "A table is in order when its length fits, each slot is free or holds a valid record, no point stands twice, and no slot from a record's home
-- (itself included) on to its own slot, wrapping, is free."
pub record InOrder (t : List ℕ) : Type 0 where
  pub fits : Table t (slots_of t)
  pub valid : EachValid (slots_of t) (slot_at t)
  pub once : NoneTwice (slots_of t) (slot_at t)
  pub reach : NoneFreeBefore (slots_of t) (slot_at t)

-- ---- the same as a test: each record is valid, and its own search ends at it

abbrev pub is_at : Found → ℕ → Bool
is_at (found.At j) i = eqb j i
is_at (found.Free j) i = false
is_at found.Full i = false

abbrev pub placed_slot : List ℕ → ℕ → Option Record → Bool
placed_slot t i None = true
placed_slot t i (Some r) = valid_of r && is_at (find_of t r.at) i

-- slot i is free, or holds a valid record that the search for its point finds there
unfoldable pub placed_at : List ℕ → ℕ → Bool
placed_at t i = placed_slot t i (slot_at t i)

-- so are the first n slots
unfoldable pub all_placed : List ℕ → ℕ → Bool
all_placed t n = upto n (placed_at t)

unfoldable pub in_order_of : List ℕ → Bool
in_order_of t = fits_length (length t) && all_placed t (slots_of t)
