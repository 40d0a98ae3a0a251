-- One slot of a table's bytes written, with a valid record: ChangeLaws on bytes.
-- `StandsIn` a record stands in a slot of the table · `entered-order`, `entered-new`, `entered-stands`, `entered-old`, `entered-free` the slot is the
-- free one where the search for the record's point ended · `replaced-order`, `replaced-find`, `replaced-new`, `replaced-stands`, `replaced-old`,
-- `replaced-free` it held a record of the same point.
-- Assumes nothing.
use Rattle.std.specs.Prelude.{◌≡◌, true, List, ℕ, ◌+◌, ◌*◌, ◌≤◌, ◌<◌, length, Some, None}
use Rattle.std.proofs.Common.{sym, ◌∙◌, subst, arith}
use Rattle.std.proofs.Math.Path.{ap}
use Rattle.lattice.specs.Records.{valid_of}
use Rattle.lattice.specs.declared.points.Point.{Point}
use Rattle.lattice.specs.declared.records.Record.{Record}
use Rattle.table.specs.Slots.{slot_width, Table, slots_in, slots_of, slot_at, put_slot, is_free, free_below, free_slots}
use Rattle.table.specs.Search.{seek, find_of}
use Rattle.table.specs.Order.{InOrder}
use Rattle.table.specs.Ranges.{valid-inside, inside-fits}
use Rattle.table.specs.SlotLaws.{table-slots, table_same, put_same, put_other, put-length}
use Rattle.table.specs.OrderLaws.{slots-some, Ordered, order-slots, slots-order}
use Rattle.table.specs.ChangeLaws.{Stands, enter-ordered, enter-new, enter-stands, enter-old, replace-ordered, replace-seek, replace-new}
use Rattle.table.specs.ChangeLaws.{replace-stands, replace-old, count-change}
use Rattle.table.specs.declared.probe.Found.TheVariants as found

-- record r stands in a slot of t
abbrev pub StandsIn : List ℕ → Record → Type 0
StandsIn t r = Stands (slots_of t) (slot_at t) r

pub table_of : (t : List ℕ) (n : ℕ) → Table t n → Table t (slots_of t)
table_of t n w = subst (Table t) (sym (table-slots t n w)) w

-- ---- slot j of a table in order written, with a valid record

module _ (t : List ℕ) (o : InOrder t) (r : Record) (ok : valid_of r ≡ true) (j : ℕ) (here : j < slots_of t) where
  abbrev pub written : List ℕ
  written = put_slot t j r

  in_table : slot_width * j + slot_width ≤ length t
  in_table = omega (arith, o.fits.long)

  slots_kept : slots_of written ≡ slots_of t
  slots_kept = ap slots_in (put-length t j r)

  now-held : slot_at written j ≡ Some r
  now-held = put_same t j r in_table (inside-fits r.at (valid-inside r ok))

  others-kept : (i : ℕ) → (i ≡ j → ⊥) → slot_at written i ≡ slot_at t i
  others-kept = put_other t j r in_table

  in_order : Ordered (slots_of t) (slot_at written) → InOrder written
  in_order h =
      slots-order written (table_of written (slots_of t) (table_same t written (slots_of t) (put-length t j r) o.fits))
      (subst (λ (k : ℕ). Ordered k (slot_at written)) (sym slots_kept) h)

  to-written : (q : Record) → Stands (slots_of t) (slot_at written) q → StandsIn written q
  to-written q = subst (λ (k : ℕ). Stands k (slot_at written) q) (sym slots_kept)

  of-written : (q : Record) → StandsIn written q → Stands (slots_of t) (slot_at written) q
  of-written q = subst (λ (k : ℕ). Stands k (slot_at written) q) slots_kept

  counted : free_slots written + is_free (slot_at t j) ≡ free_slots t + is_free (slot_at written j)
  counted =
      ap (λ (k : ℕ). free_below (slot_at written) k + is_free (slot_at t j)) slots_kept ∙ count-change (slot_at t) (slot_at written) j others-kept (slots_of t) here

  -- a record entered: slot j is where the search ended, and free
  module _ (gap : find_of t r.at ≡ found.Free j) where
    found-gap : seek (slots_of t) (slot_at t) r.at ≡ found.Free j
    unfolding find_of
    found-gap = gap

    pub entered-order : InOrder written
    entered-order =
        in_order (enter-ordered (slots_of t) (slots-some t (slots_of t) o.fits) (slot_at t)
        (slot_at written) j others-kept r now-held (order-slots t o) found-gap ok)

    -- what stands then: the new record, and the old ones
    pub entered-new : StandsIn written r
    entered-new =
        to-written r (enter-new (slots_of t) (slots-some t (slots_of t) o.fits) (slot_at t)
        (slot_at written) j others-kept r now-held (order-slots t o) found-gap)

    pub entered-stands : (q : Record) → StandsIn t q → StandsIn written q
    entered-stands q s =
        to-written q (enter-stands (slots_of t) (slots-some t (slots_of t) o.fits) (slot_at t)
        (slot_at written) j others-kept r now-held (order-slots t o) found-gap q s)

    pub entered-old : (q : Record) → (q.at ≡ r.at → ⊥) → StandsIn written q → StandsIn t q
    entered-old q ne s =
        enter-old (slots_of t) (slots-some t (slots_of t) o.fits) (slot_at t)
        (slot_at written) j others-kept r now-held (order-slots t o) found-gap q ne (of-written q s)

    pub entered-free : slot_at t j ≡ None → free_slots written + 1 ≡ free_slots t
    entered-free fr =
        let a : is_free (slot_at t j) ≡ 1 = ap is_free fr in
        let b : is_free (slot_at written j) ≡ 0 = ap is_free now-held in
        let c = counted in
        omega arith

  -- a record replaced: slot j holds one of the same point
  module _ (was : Record) (held : slot_at t j ≡ Some was) (same : r.at ≡ was.at) where
    pub replaced-order : InOrder written
    replaced-order =
        in_order (replace-ordered (slots_of t) (slots-some t (slots_of t) o.fits) (slot_at t)
        (slot_at written) j others-kept r now-held was held same here (order-slots t o) ok)

    pub replaced-find : (p : Point) → find_of written p ≡ find_of t p
    unfolding find_of
    replaced-find p =
        ap (λ (k : ℕ). seek k (slot_at written) p) slots_kept
        ∙ replace-seek (slots_of t) (slots-some t (slots_of t) o.fits) (slot_at t) (slot_at written) j others-kept r now-held was held same here p

    -- what stands then: the new record, and the old ones of other points
    pub replaced-new : StandsIn written r
    replaced-new =
        to-written r (replace-new (slots_of t) (slots-some t (slots_of t) o.fits) (slot_at t) (slot_at written) j others-kept r now-held was held same here)

    pub replaced-stands : (q : Record) → (q.at ≡ r.at → ⊥) → StandsIn t q → StandsIn written q
    replaced-stands q ne s =
        to-written q (replace-stands (slots_of t) (slots-some t (slots_of t) o.fits)
        (slot_at t) (slot_at written) j others-kept r now-held was held same here q ne s)

    pub replaced-old : (q : Record) → (q.at ≡ r.at → ⊥) → StandsIn written q → StandsIn t q
    replaced-old q ne s =
        replace-old (slots_of t) (slots-some t (slots_of t) o.fits) (slot_at t)
        (slot_at written) j others-kept r now-held was held same here q ne (of-written q s)

    pub replaced-free : free_slots written ≡ free_slots t
    replaced-free =
        let a : is_free (slot_at t j) ≡ 0 = ap is_free held in
        let b : is_free (slot_at written j) ≡ 0 = ap is_free now-held in
        let c = counted in
        omega arith
