-- A table in order as a map: all its records. MapLaws has the index.
-- Assumes nothing.
use Rattle.std.specs.Prelude.{◌≡◌, refl, true, ℕ, suc, ◌+◌, ◌≤◌, ◌<◌, length, Option, Some, None}
use Rattle.std.proofs.Common.{sym, ap, ◌∙◌, arith}
use mathlib.Core.List.Memᴰ
use mathlib.Core.List.{List, [], ◌∷◌, ◌++◌, Memᴰ}
use Rattle.lattice.specs.Records.{valid_of}
use Rattle.lattice.specs.declared.points.Point.{Point}
use Rattle.lattice.specs.declared.records.Record.{Record}
use Rattle.table.specs.Slots.{slots_in, slots_of, slot_at, free_slots}
use Rattle.table.specs.Order.{InOrder}
use Rattle.table.specs.Entries.{look_up, enter_of, listed, records_below, records_of}
use Rattle.table.specs.RecordLaws.{Apart, apart-fewer, listed-stands, stands-listed, counted-below, apart_below}
use Rattle.table.specs.LookLaws.{lookup-complete, lookup-stands}
use Rattle.table.specs.PutLaws.{enter-length, enter-free}

-- ---- all records

pub records-none : (t : List ℕ) → records_below t 0 ≡ []
unfolding records_below
records-none t = refl

pub records-more : (t : List ℕ) (i : ℕ) → records_below t (i + 1) ≡ records_below t i ++ listed (slot_at t i)
unfolding records_below
records-more t i = let e : i + 1 ≡ suc i = omega arith in ap (records_below t) e

module _ (t : List ℕ) where
  -- the records and the free slots make up the table
  pub records-count : length (records_of t) + free_slots t ≡ slots_of t
  records-count = counted-below t (slots_of t)

  -- the records listed are those found by their points
  pub records-looked : InOrder t → (r : Record) → Memᴰ r (records_of t) → look_up t r.at ≡ Some r
  records-looked o r m = lookup-complete t o r (listed-stands t (slots_of t) r m)

  pub looked-records : InOrder t → (p : Point) (r : Record) → look_up t p ≡ Some r → Memᴰ r (records_of t)
  looked-records o p r h = stands-listed t (slots_of t) r (lookup-stands t o p r h)

  -- no two of them have one point
  pub records-apart : InOrder t → Apart (records_of t)
  records-apart o = apart_below t o (slots_of t) (let l : slots_of t ≤ slots_of t = omega arith in l)

  -- a table all of whose slots are free holds nothing
  pub empty-absent : InOrder t → free_slots t ≡ slots_of t → (p : Point) → look_up t p ≡ None
  empty-absent o e p = go (look_up t p) refl
    where
      nothing : (rs : List Record) (r : Record) → length rs ≡ 0 → Memᴰ r rs → ⊥
      nothing [] r z m = Memᴰ.not-nil m
      nothing (x ∷ rs) r z m = omega arith

      go : (l : Option Record) → look_up t p ≡ l → look_up t p ≡ None
      go None h = h
      go (Some r) h = absurd (nothing (records_of t) r (omega (arith, records-count)) (looked-records o p r h))

-- two tables that hold the same at every point have as many records
pub records-same : (t u : List ℕ) → InOrder t → InOrder u → ((p : Point) → look_up t p ≡ look_up u p) → length (records_of t) ≡ length (records_of u)
records-same t u o v h =
    let a = fewer t u o v h in
    let b = fewer u t v o (λ p. sym (h p)) in
    omega arith
  where
    fewer : (x y : List ℕ) → InOrder x → InOrder y → ((p : Point) → look_up x p ≡ look_up y p) → length (records_of x) ≤ length (records_of y)
    fewer x y a b e =
        apart-fewer (records_of x) (records_of y) (records-apart x a) (λ r m. looked-records y b r.at r (sym (e r.at) ∙ records-looked x a r m))

-- one record more
pub enter-records : (t : List ℕ) → InOrder t → (r : Record) → valid_of r ≡ true → look_up t r.at ≡ None → 0 < free_slots t
    → length (records_of (enter_of t r)) ≡ length (records_of t) + 1
enter-records t o r ok h f =
    let a = records-count t in
    let b = records-count (enter_of t r) in
    let c = enter-free t o r ok h f in
    let d : slots_of (enter_of t r) ≡ slots_of t = ap slots_in (enter-length t r) in
    omega arith
