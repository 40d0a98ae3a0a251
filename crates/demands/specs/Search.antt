-- Document 02's ticket 3: "A search that finds nothing shall also give the slot where the point would go, or say that the table has none."
-- What the table's search tells, of any bytes whose length fits, in order or not, and any point, also one that no record can have.
-- `search-tells` all of it (Told): found, at slot i; not found, and slot i is where the point would go; not found, and no slot is free · `first-free`
-- that slot is the first free one that the search meets · `no-slot-free` none is told only where none is free · `stands-found` in a table in order what
-- stands in a slot is found · `told-taken` a record entered takes the slot told · `told-replaced` a record found is written where it was found · `resumed`
-- when more records have entered (`enter-fills`, `fills-on`), the search that goes on from the slot told ends where the search from home does.
-- Assumes nothing.
use Rattle.std.specs.Prelude.{◌≡◌, refl, List, ℕ, ◌<◌, Option, None}
use Rattle.std.proofs.Common.{sym, ap, ◌∙◌}
use Rattle.lattice.specs.declared.points.Point.{Point}
use Rattle.lattice.specs.declared.records.Record.{Record}
use Rattle.table.specs.Slots.{Table, slots_of, slot_at}
use Rattle.table.specs.Search.{home_of, find_of}
use Rattle.table.specs.Order.{steps}
use Rattle.table.specs.Told.{Another}
use Rattle.table.specs.MapLaws.{find-told}
use Rattle.table.specs.SearchLaws.{free-holds}
use Rattle.table.specs.declared.probe.Found.TheVariants as found
pub use Rattle.table.specs.Told.{Told, FoundAt, GoesTo, NoSlot, Reaches, Fills}
pub use Rattle.table.specs.MapLaws.{put-enter as told-taken, put-replace as told-replaced, enter-fills, resumed}
pub use Rattle.table.specs.MapLaws.{lookup-complete as stands-found}

another-taken : {A : Type 0} (c : Option Record) (p : Point) → Another c p → c ≡ None → A
another-taken c p a e = free-holds a.rec e a.holds

-- slots that fill, and fill again
pub fills-on : (n : ℕ) (f g h : ℕ → Option Record) → Fills n f g → Fills n g h → Fills n f h
fills-on n f g h a b s r l e =
    let x = a s r l e in
    let y = b s x.0 l x.1 in
    (y.0, y.1, y.2 ∙ x.2)

module _ (t : List ℕ) (n : ℕ) (w : Table t n) (p : Point) where
  pub search-tells : Told t p (find_of t p)
  search-tells = find-told t n w p (find_of t p) refl

  -- no slot before the one told, on the way from home, is free
  pub first-free : (i : ℕ) → find_of t p ≡ found.Free i → (s : ℕ) → s < slots_of t
      → steps (slots_of t) (home_of p (slots_of t)) s < steps (slots_of t) (home_of p (slots_of t)) i
      → slot_at t s ≡ None → ⊥
  first-free i e s h l f = another-taken (slot_at t s) p ((find-told t n w p (found.Free i) (sym e)).way.before s h l) f

  pub no-slot-free : find_of t p ≡ found.Full → (s : ℕ) → s < slots_of t → slot_at t s ≡ None → ⊥
  no-slot-free e s h f = another-taken (slot_at t s) p (find-told t n w p found.Full (sym e) s h) f
