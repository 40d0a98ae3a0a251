-- Document 02, ticket 3: "A search that finds nothing shall also give the slot where the point would go, or say that the table has none."
-- `Told t p o` what a search for p tells that ends as o, of any bytes whose length fits and any point: the promise of `find` · `Reaches` a search comes
-- as far as a slot, all before it being other points'; what a search that goes on from that slot asks for · `Fills` slots that only fill.
-- Assumes nothing.
use Rattle.std.specs.Prelude.{◌≡◌, List, ℕ, ◌<◌, Option, Some, None}
use Rattle.lattice.specs.declared.points.Point.{Point}
use Rattle.lattice.specs.declared.records.Record.{Record}
use Rattle.table.specs.Slots.{slots_of, slot_at}
use Rattle.table.specs.Search.{home_of}
use Rattle.table.specs.Order.{steps}
use Rattle.table.specs.declared.probe.Found.{Found}
use Rattle.table.specs.declared.probe.Found.TheVariants as found

-- a slot holds the record of another point than p
pub record Another (c : Option Record) (p : Point) : Type 0 where
  pub rec : Record
  pub holds : c ≡ Some rec
  pub other : rec.at ≡ p → ⊥

-- a search for p in n slots, of which slot i is `f i`, comes as far as slot i: each slot before it on the way from p's home holds another point's record
pub record ComesTo (n : ℕ) (f : ℕ → Option Record) (p : Point) (i : ℕ) : Type 0 where
  pub below : i < n
  pub before : (s : ℕ) → s < n → steps n (home_of p n) s < steps n (home_of p n) i → Another (f s) p

-- so in a table
abbrev pub Reaches : List ℕ → Point → ℕ → Type 0
Reaches t p i = ComesTo (slots_of t) (slot_at t) p i

-- found, at slot i
pub record FoundAt (t : List ℕ) (p : Point) (i : ℕ) : Type 0 where
  pub way : Reaches t p i
  pub rec : Record
  pub holds : slot_at t i ≡ Some rec
  pub point : rec.at ≡ p

-- not found, and slot i is "the slot where the point would go": the first free one that its search meets
pub record GoesTo (t : List ℕ) (p : Point) (i : ℕ) : Type 0 where
  pub way : Reaches t p i
  pub free : slot_at t i ≡ None

-- not found, and "the table has none": all slots hold other points' records
abbrev pub NoSlot : List ℕ → Point → Type 0
NoSlot t p = (s : ℕ) → s < slots_of t → Another (slot_at t s) p

-- what a search for p tells, by where it ended
abbrev pub Told : List ℕ → Point → Found → Type 0
Told t p (found.At i) = FoundAt t p i
Told t p (found.Free i) = GoesTo t p i
Told t p found.Full = NoSlot t p

-- slots f have become slots g, and have only filled: where a record stood, one of the same point stands
abbrev pub Fills : ℕ → (ℕ → Option Record) → (ℕ → Option Record) → Type 0
Fills n f g = (s : ℕ) (r : Record) → s < n → f s ≡ Some r → (q : Record) × (g s ≡ Some q) × (q.at ≡ r.at)
