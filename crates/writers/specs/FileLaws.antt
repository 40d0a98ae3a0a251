-- The file depends on the set of records alone, not on where they stand in the table.
-- `sorted_rises` the records of a table rise strictly in their file, `sorted-holds`, `holds-sorted` and are the table's · `sorted-one` no other list
-- does so · `left-rises`, `left-holds`, `holds-left`, `left_one` the same of those that a test leaves · `full-same`, `reduced-same` two tables that
-- hold the same at every point have the same files.
-- Assumes nothing.
use Rattle.std.specs.Prelude.{◌≡◌, refl, ◌⊎◌, Bool, true, false, cond, ◌&&◌, ℕ, ◌<◌}
use Rattle.std.proofs.Common.{sym, ◌∙◌, inl, inr, arith, ltb-true, ltb-false, lt-ltb}
use Rattle.std.proofs.Math.Path.{ap}
use mathlib.Core.List.Memᴰ
use mathlib.Core.List.{List, [], ◌∷◌, Memᴰ}
use Rattle.std.proofs.Math.Dec.{eqb}
use Rattle.laws.specs.Each.{same_test, not-both}
use Rattle.laws.specs.Some.{some_of, some_at, at_some}
use Rattle.lattice.specs.declared.points.Point.{Point}
use Rattle.lattice.specs.declared.records.Record.{Record}
use Rattle.table.specs.Order.{InOrder}
use Rattle.table.specs.Entries.{look_up, records_of}
use Rattle.table.specs.MapLaws.{Apart, records-looked, looked-records, records-apart, lookup-valid}
use Rattle.text.specs.Line.{lines}
use Rattle.sorting.specs.SortLaws.{mem-sort, sort-mem, Rising, Decides, sort-rising, rising-one}
use Rattle.writers.specs.Files.{before, sorted, full_file, six_names, redundant, leave_out, reduced_file}
use Rattle.text.specs.LineOrder.{order_of, Close, close, order-earlier, order-one}

-- r's line stands before s's
abbrev pub Before : Record → Record → Type 0
Before r s = before r s ≡ true

-- the same by their orders
abbrev Lower : Record → Record → Type 0
Lower r s = order_of r.at < order_of s.at

abbrev pub Closes : List Record → Type 0
Closes rs = (r : Record) → Memᴰ r rs → Close r.at

rises : (rs : List Record) → Apart rs → Closes rs → Rising (Decides before Lower) rs
rises [] a c = tt
rises (r ∷ rs) a c = (λ s m. pair s m (c r (Memᴰ.head refl)) (c s (Memᴰ.tail m)), rises rs a.1 (λ s m. c s (Memᴰ.tail m)))
  where
    pair : (s : Record) → Memᴰ s rs → Close r.at → Close s.at → Decides before Lower r s
    pair s m p q = (
      λ e. ltb-true (order_of r.at) (order_of s.at) (sym (order-earlier r.at s.at p q) ∙ e),
      λ e.
          let h = ltb-false (order_of r.at) (order_of s.at) (sym (order-earlier r.at s.at p q) ∙ e) in
          let ne : order_of s.at ≡ order_of r.at → ⊥ = λ z. a.0 s m (order-one s.at r.at q p z) in
          omega arith,
    )

lower-sorted : (rs : List Record) → Apart rs → Closes rs → Rising Lower (sorted rs)
lower-sorted rs a c = sort-rising before Lower (λ x y z p q. omega arith) rs (rises rs a c)

-- so their lines rise strictly, and no other list of these records rises so
pub before-sorted : (rs : List Record) → Apart rs → Closes rs → Rising Before (sorted rs)
before-sorted rs a c = go (sorted rs) (λ r m. c r (mem-sort before rs r m)) (lower-sorted rs a c)
  where
    go : (qs : List Record) → Closes qs → Rising Lower qs → Rising Before qs
    go [] c h = tt
    go (r ∷ qs) c h = (
      λ s m. order-earlier r.at s.at (c r (Memᴰ.head refl)) (c s (Memᴰ.tail m)) ∙ lt-ltb (order_of r.at) (order_of s.at) (h.0 s m),
      go qs (λ s m. c s (Memᴰ.tail m)) h.1,
    )

pub before-one : (rs : List Record) → Apart rs → Closes rs → (qs : List Record) → Rising Before qs → ((r : Record) → Memᴰ r qs → Memᴰ r rs)
    → ((r : Record) → Memᴰ r rs → Memᴰ r qs) → qs ≡ sorted rs
before-one rs a c qs h f g =
    rising-one Lower (λ x y p q. omega arith) qs (sorted rs) (go qs (λ r m. c r (f r m)) h) (lower-sorted rs a c)
    (λ r m. sort-mem before rs r (f r m))
    (λ r m. g r (mem-sort before rs r m))
  where
    go : (xs : List Record) → Closes xs → Rising Before xs → Rising Lower xs
    go [] c h = tt
    go (r ∷ xs) c h = (
      λ s m. ltb-true (order_of r.at) (order_of s.at) (sym (order-earlier r.at s.at (c r (Memᴰ.head refl)) (c s (Memᴰ.tail m))) ∙ h.0 s m),
      go xs (λ s m. c s (Memᴰ.tail m)) h.1,
    )

-- two lists of the same records, none with two of one point, have one file
pub sorted-same : (rs qs : List Record) → Apart rs → Apart qs → Closes rs → Closes qs → ((r : Record) → Memᴰ r rs → Memᴰ r qs)
    → ((r : Record) → Memᴰ r qs → Memᴰ r rs) → sorted rs ≡ sorted qs
sorted-same rs qs a b c d f g =
    rising-one Lower (λ x y p q. omega arith) (sorted rs) (sorted qs) (lower-sorted rs a c) (lower-sorted qs b d)
    (λ r m. sort-mem before qs r (f r (mem-sort before rs r m)))
    (λ r m. sort-mem before rs r (g r (mem-sort before qs r m)))

-- ---- what is left out

pub mem-leave : (f : Record → Bool) (rs : List Record) (r : Record) → Memᴰ r (leave_out f rs) → Memᴰ r rs × (f r ≡ false)
unfolding leave_out
mem-leave f [] r m = absurd (Memᴰ.not-nil m)
mem-leave f (q ∷ rs) r m = go (f q) refl m (λ k. mem-leave f rs r k)
  where
    later : Memᴰ r rs × (f r ≡ false) → Memᴰ r (q ∷ rs) × (f r ≡ false)
    later w = (Memᴰ.tail w.0, w.1)

    first : f q ≡ false → (r ≡ q) ⊎ Memᴰ r (leave_out f rs) → (Memᴰ r (leave_out f rs) → Memᴰ r rs × (f r ≡ false))
        → Memᴰ r (q ∷ rs) × (f r ≡ false)
    first e (inl h) ih = (Memᴰ.head h, ap f h ∙ e)
    first e (inr k) ih = later (ih k)

    go : (b : Bool) → f q ≡ b → Memᴰ r (cond b (leave_out f rs) (q ∷ leave_out f rs))
        → (Memᴰ r (leave_out f rs) → Memᴰ r rs × (f r ≡ false)) → Memᴰ r (q ∷ rs) × (f r ≡ false)
    go true e k ih = later (ih k)
    go false e k ih = first e (Memᴰ.cases_cons k) ih

pub leave-mem : (f : Record → Bool) (rs : List Record) (r : Record) → Memᴰ r rs → f r ≡ false → Memᴰ r (leave_out f rs)
unfolding leave_out
leave-mem f [] r m h = absurd (Memᴰ.not-nil m)
leave-mem f (q ∷ rs) r m h = go (f q) refl (Memᴰ.cases_cons m) (λ k. leave-mem f rs r k h)
  where
    go : (b : Bool) → f q ≡ b → (r ≡ q) ⊎ Memᴰ r rs → (Memᴰ r rs → Memᴰ r (leave_out f rs))
        → Memᴰ r (cond b (leave_out f rs) (q ∷ leave_out f rs))
    go true e (inl k) ih = absurd (not-both e (sym (ap f k) ∙ h))
    go true e (inr k) ih = ih k
    go false e (inl k) ih = Memᴰ.head k
    go false e (inr k) ih = Memᴰ.tail (ih k)

leave-apart : (f : Record → Bool) (rs : List Record) → Apart rs → Apart (leave_out f rs)
unfolding leave_out
leave-apart f [] a = tt
leave-apart f (q ∷ rs) a = go (f q) (leave-apart f rs a.1)
  where
    go : (b : Bool) → Apart (leave_out f rs) → Apart (cond b (leave_out f rs) (q ∷ leave_out f rs))
    go true ih = ih
    go false ih = (λ r m. a.0 r (mem-leave f rs r m).0, ih)

some-mem : (f : Record → Bool) (rs qs : List Record) → ((r : Record) → Memᴰ r rs → Memᴰ r qs) → some_of f rs ≡ true → some_of f qs ≡ true
some-mem f rs qs h e = let (r, m, t) = some_at f rs e in at_some f qs r (h r m) t

-- ---- of tables in order

closes : (t : List ℕ) → InOrder t → Closes (records_of t)
closes t o r m = close r (lookup-valid t o r.at r (records-looked t o r m))

-- every record of the full file stands before those after it, and they are the table's
pub sorted-holds : (t : List ℕ) (r : Record) → Memᴰ r (sorted (records_of t)) → Memᴰ r (records_of t)
sorted-holds t r m = mem-sort before (records_of t) r m

pub holds-sorted : (t : List ℕ) (r : Record) → Memᴰ r (records_of t) → Memᴰ r (sorted (records_of t))
holds-sorted t r m = sort-mem before (records_of t) r m

pub sorted_rises : (t : List ℕ) → InOrder t → Rising Before (sorted (records_of t))
sorted_rises t o = before-sorted (records_of t) (records-apart t o) (closes t o)

-- no other list of the table's records rises so
pub sorted-one : (t : List ℕ) → InOrder t → (rs : List Record) → Rising Before rs → ((r : Record) → Memᴰ r rs → Memᴰ r (records_of t))
    → ((r : Record) → Memᴰ r (records_of t) → Memᴰ r rs)
    → rs ≡ sorted (records_of t)
sorted-one t o rs h f g = before-one (records_of t) (records-apart t o) (closes t o) rs h f g

-- the same of those that a test leaves
module _ (t : List ℕ) (o : InOrder t) (f : Record → Bool) where
  apart : Apart (leave_out f (records_of t))
  apart = leave-apart f (records_of t) (records-apart t o)

  near : Closes (leave_out f (records_of t))
  near r m = closes t o r (mem-leave f (records_of t) r m).0

  pub left-rises : Rising Before (sorted (leave_out f (records_of t)))
  left-rises = before-sorted (leave_out f (records_of t)) apart near

  pub left-holds : (r : Record) → Memᴰ r (sorted (leave_out f (records_of t))) → Memᴰ r (records_of t) × (f r ≡ false)
  left-holds r m = mem-leave f (records_of t) r (mem-sort before (leave_out f (records_of t)) r m)

  pub holds-left : (r : Record) → Memᴰ r (records_of t) → f r ≡ false → Memᴰ r (sorted (leave_out f (records_of t)))
  holds-left r m e = sort-mem before (leave_out f (records_of t)) r (leave-mem f (records_of t) r m e)

  pub left_one : (rs : List Record) → Rising Before rs → ((r : Record) → Memᴰ r rs → Memᴰ r (records_of t) × (f r ≡ false))
      → ((r : Record) → Memᴰ r (records_of t) → f r ≡ false → Memᴰ r rs)
      → rs ≡ sorted (leave_out f (records_of t))
  left_one rs h into from =
      before-one (leave_out f (records_of t)) apart near rs h
      (λ r m. let w = into r m in leave-mem f (records_of t) r w.0 w.1)
      (λ r m. let w = mem-leave f (records_of t) r m in from r w.0 w.1)

module _ (t u : List ℕ) (o : InOrder t) (v : InOrder u) (same : (p : Point) → look_up t p ≡ look_up u p) where
  into : (r : Record) → Memᴰ r (records_of t) → Memᴰ r (records_of u)
  into r m = looked-records u v r.at r (sym (same r.at) ∙ records-looked t o r m)

  back : (r : Record) → Memᴰ r (records_of u) → Memᴰ r (records_of t)
  back r m = looked-records t o r.at r (same r.at ∙ records-looked u v r m)

  pub full-same : full_file t ≡ full_file u
  full-same = ap lines (sorted-same (records_of t) (records_of u) (records-apart t o) (records-apart u v) (closes t o) (closes u v) into back)

  pub redundant-same : (r : Record) → redundant t r ≡ redundant u r
  unfolding redundant
  redundant-same r =
      ap (λ (b : Bool). eqb r.d 3 && b)
      (same_test (some_of (six_names r.at) (records_of t)) (some_of (six_names r.at) (records_of u))
      (some-mem (six_names r.at) (records_of t) (records_of u) into) (some-mem (six_names r.at) (records_of u) (records_of t) back))

  pub reduced-same : reduced_file t ≡ reduced_file u
  reduced-same =
      ap lines (sorted-same (leave_out (redundant t) (records_of t)) (leave_out (redundant u) (records_of u))
      (leave-apart (redundant t) (records_of t) (records-apart t o))
      (leave-apart (redundant u) (records_of u) (records-apart u v))
      (λ r m. closes t o r (mem-leave (redundant t) (records_of t) r m).0)
      (λ r m. closes u v r (mem-leave (redundant u) (records_of u) r m).0)
      (λ r m. let w = mem-leave (redundant t) (records_of t) r m in leave-mem (redundant u) (records_of u) r (into r w.0) (sym (redundant-same r) ∙ w.1))
      (λ r m. let w = mem-leave (redundant u) (records_of u) r m in leave-mem (redundant t) (records_of t) r (back r w.0) (redundant-same r ∙ w.1)))
