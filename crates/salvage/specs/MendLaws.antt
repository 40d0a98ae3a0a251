-- The sorted lines. `once-mem`, `mem-once`, `once-apart` what is left without repeats · `mended-rises`, `mended-valid`, `mended-mem`, `mem-mended` sorted ·
-- `holding-sorted` a table that holds the records has the same, sorted, `mended-same` and so has a list of the same · `once-whole`, `sorted-whole` of records
-- that rise nothing changes.
-- Assumes nothing.
use Rattle.std.specs.Prelude.{◌≡◌, refl, ◌⊎◌, Bool, true, false, cond, ℕ}
use Rattle.std.proofs.Common.{sym, ap, ◌∙◌, subst, inl, inr}
use mathlib.Core.List.Memᴰ
use mathlib.Core.List.{List, [], ◌∷◌, Memᴰ}
use Rattle.laws.specs.Some.{some_of, some_at, none-at, at_none}
use Rattle.lattice.specs.declared.records.Record.{Record}
use Rattle.table.specs.Entries.{records_of}
use Rattle.table.specs.MapLaws.{Apart, records-apart, records-looked, looked-records, lookup-valid}
use Rattle.text.specs.LineOrder.{close}
use Rattle.sorting.specs.Sorting.{insert_by, sort_by}
use Rattle.sorting.specs.SortLaws.{Rising, mem-sort, sort-mem}
use Rattle.writers.specs.Files.{before, sorted}
use Rattle.writers.specs.FileLaws.{Before, Closes, before-sorted, sorted-same}
use Rattle.readers.specs.ReadLaws.{Valid}
use Rattle.salvage_lines.specs.OldLines.{same_record}
use Rattle.salvage.specs.Salvage.{once_after, once}
use Rattle.salvage_lines.specs.ClashLaws.{record_same, other-record, Agree, Holding}

-- ---- without repeats

-- a record that stands already
again : (r : Record) (seen : List Record) → some_of (same_record r) seen ≡ true → Memᴰ r seen
again r seen e = let (q, m, h) = some_at (same_record r) seen e in subst (λ (x : Record). Memᴰ x seen) (sym (record_same r q h)) m

pub once-mem : (seen rs : List Record) (r : Record) → Memᴰ r (once_after seen rs) → Memᴰ r rs
unfolding once_after
once-mem seen [] r m = m
once-mem seen (q ∷ rs) r m = go (some_of (same_record q) seen) m (λ k. once-mem (q ∷ seen) rs r k)
  where
    first : (r ≡ q) ⊎ Memᴰ r (once_after (q ∷ seen) rs) → (Memᴰ r (once_after (q ∷ seen) rs) → Memᴰ r rs) → Memᴰ r (q ∷ rs)
    first (inl e) ih = Memᴰ.head e
    first (inr k) ih = Memᴰ.tail (ih k)

    go : (b : Bool) → Memᴰ r (cond b (once_after (q ∷ seen) rs) (q ∷ once_after (q ∷ seen) rs)) → (Memᴰ r (once_after (q ∷ seen) rs) → Memᴰ r rs)
        → Memᴰ r (q ∷ rs)
    go true k ih = Memᴰ.tail (ih k)
    go false k ih = first (Memᴰ.cases_cons k) ih

pub mem-once : (seen rs : List Record) (r : Record) → Memᴰ r rs → Memᴰ r seen ⊎ Memᴰ r (once_after seen rs)
unfolding once_after
mem-once seen [] r m = inr m
mem-once seen (q ∷ rs) r m = go (some_of (same_record q) seen) refl (Memᴰ.cases_cons m) (λ k. mem-once (q ∷ seen) rs r k)
  where
    here : (b : Bool) → some_of (same_record q) seen ≡ b → r ≡ q → Memᴰ r seen ⊎ Memᴰ r (cond b (once_after (q ∷ seen) rs) (q ∷ once_after (q ∷ seen) rs))
    here true e k = inl (subst (λ (x : Record). Memᴰ x seen) (sym k) (again q seen e))
    here false e k = inr (Memᴰ.head k)

    later : (b : Bool) → Memᴰ r (once_after (q ∷ seen) rs) → Memᴰ r (cond b (once_after (q ∷ seen) rs) (q ∷ once_after (q ∷ seen) rs))
    later true k = k
    later false k = Memᴰ.tail k

    rest : (b : Bool) → some_of (same_record q) seen ≡ b → (r ≡ q) ⊎ Memᴰ r seen
        → Memᴰ r seen ⊎ Memᴰ r (cond b (once_after (q ∷ seen) rs) (q ∷ once_after (q ∷ seen) rs))
    rest b e (inl k) = here b e k
    rest b e (inr k) = inl k

    met : (b : Bool) → some_of (same_record q) seen ≡ b → Memᴰ r (q ∷ seen) ⊎ Memᴰ r (once_after (q ∷ seen) rs)
        → Memᴰ r seen ⊎ Memᴰ r (cond b (once_after (q ∷ seen) rs) (q ∷ once_after (q ∷ seen) rs))
    met b e (inl k) = rest b e (Memᴰ.cases_cons k)
    met b e (inr k) = inr (later b k)

    go : (b : Bool) → some_of (same_record q) seen ≡ b → (r ≡ q) ⊎ Memᴰ r rs
        → (Memᴰ r rs → Memᴰ r (q ∷ seen) ⊎ Memᴰ r (once_after (q ∷ seen) rs))
        → Memᴰ r seen ⊎ Memᴰ r (cond b (once_after (q ∷ seen) rs) (q ∷ once_after (q ∷ seen) rs))
    go b e (inl k) ih = here b e k
    go b e (inr k) ih = met b e (ih k)

-- none of what is left stands already
once-new : (seen rs : List Record) (r : Record) → Memᴰ r (once_after seen rs) → Memᴰ r seen → ⊥
unfolding once_after
once-new seen [] r m k = Memᴰ.not-nil m
once-new seen (q ∷ rs) r m k = go (some_of (same_record q) seen) refl m (λ l. once-new (q ∷ seen) rs r l (Memᴰ.tail k))
  where
    first : some_of (same_record q) seen ≡ false → (r ≡ q) ⊎ Memᴰ r (once_after (q ∷ seen) rs) → (Memᴰ r (once_after (q ∷ seen) rs) → ⊥) → ⊥
    first e (inl l) ih =
        other-record q r (none-at (same_record q) seen r e k) (sym l)
    first e (inr l) ih = ih l

    go : (b : Bool) → some_of (same_record q) seen ≡ b → Memᴰ r (cond b (once_after (q ∷ seen) rs) (q ∷ once_after (q ∷ seen) rs))
        → (Memᴰ r (once_after (q ∷ seen) rs) → ⊥) → ⊥
    go true e l ih = ih l
    go false e l ih = first e (Memᴰ.cases_cons l) ih

-- of records of which those of one point are one, each point is left once
once-apart : (seen rs : List Record) → Agree rs → Apart (once_after seen rs)
unfolding once_after
once-apart seen [] a = tt
once-apart seen (q ∷ rs) a = go (some_of (same_record q) seen) (once-apart (q ∷ seen) rs (λ r s m n. a r s (Memᴰ.tail m) (Memᴰ.tail n)))
  where
    go : (b : Bool) → Apart (once_after (q ∷ seen) rs) → Apart (cond b (once_after (q ∷ seen) rs) (q ∷ once_after (q ∷ seen) rs))
    go true ih = ih
    go false ih = (
      λ r m e. once-new (q ∷ seen) rs r m (Memᴰ.head (a r q (Memᴰ.tail (once-mem (q ∷ seen) rs r m)) (Memᴰ.head refl) e)),
      ih,
    )

-- ---- sorted

module _ (rs : List Record) (a : Agree rs) (v : Valid rs) where
  apart : Apart (once rs)
  apart = once-apart [] rs a

  closes : Closes (once rs)
  closes r m = close r (v r (once-mem [] rs r m))

  pub mended-rises : Rising Before (sorted (once rs))
  mended-rises = before-sorted (once rs) apart closes

  pub mended-mem : (r : Record) → Memᴰ r (sorted (once rs)) → Memᴰ r rs
  mended-mem r m = once-mem [] rs r (mem-sort before (once rs) r m)

  pub mem-mended : (r : Record) → Memᴰ r rs → Memᴰ r (sorted (once rs))
  mem-mended r m = go (mem-once [] rs r m)
    where
      go : Memᴰ r [] ⊎ Memᴰ r (once rs) → Memᴰ r (sorted (once rs))
      go (inl k) = absurd (Memᴰ.not-nil k)
      go (inr k) = sort-mem before (once rs) r k

  pub mended-valid : Valid (sorted (once rs))
  mended-valid r m = v r (mended-mem r m)

  -- the records of a table that holds them
  pub holding-sorted : (t : List ℕ) → Holding t rs → sorted (records_of t) ≡ sorted (once rs)
  holding-sorted t h =
      let o = h.order in
      sorted-same (records_of t) (once rs) (records-apart t o) apart (λ r m. close r (lookup-valid t o r.at r (records-looked t o r m))) closes
      (λ r m. left r (mem-once [] rs r (h.only r.at r (records-looked t o r m))))
      (λ r m. looked-records t o r.at r (h.held r (once-mem [] rs r m)))
    where
      left : (r : Record) → Memᴰ r [] ⊎ Memᴰ r (once rs) → Memᴰ r (once rs)
      left r (inl k) = absurd (Memᴰ.not-nil k)
      left r (inr k) = k

-- two lists of the same records, however often each
pub mended-same : (rs qs : List Record) → Agree rs → Agree qs → Valid rs → Valid qs → ((r : Record) → Memᴰ r rs → Memᴰ r qs)
    → ((r : Record) → Memᴰ r qs → Memᴰ r rs) → sorted (once rs) ≡ sorted (once qs)
mended-same rs qs a b v w f g =
    sorted-same (once rs) (once qs) (apart rs a v) (apart qs b w) (closes rs a v) (closes qs b w)
    (λ r m. left qs r (mem-once [] qs r (f r (once-mem [] rs r m))))
    (λ r m. left rs r (mem-once [] rs r (g r (once-mem [] qs r m))))
  where
    left : (xs : List Record) (r : Record) → Memᴰ r [] ⊎ Memᴰ r (once xs) → Memᴰ r (once xs)
    left xs r (inl k) = absurd (Memᴰ.not-nil k)
    left xs r (inr k) = k

-- ---- records that rise

-- a record and those behind it, each of a point of its own: none stands before
pub new-after : (q : Record) (rs seen : List Record) → Apart (q ∷ rs) → ((r : Record) → Memᴰ r (q ∷ rs) → some_of (same_record r) seen ≡ false)
    → (r : Record) → Memᴰ r rs → some_of (same_record r) (q ∷ seen) ≡ false
new-after q rs seen a h r m = go (same_record r q) refl
  where
    go : (b : Bool) → same_record r q ≡ b → some_of (same_record r) (q ∷ seen) ≡ false
    go true e = absurd (a.0 r m (ap (λ (x : Record). x.at) (record_same r q e)))
    go false e = at_none (same_record r) (q ∷ seen) (λ x k. each x (Memᴰ.cases_cons k))
      where
        each : (x : Record) → (x ≡ q) ⊎ Memᴰ x seen → same_record r x ≡ false
        each x (inl k) = ap (same_record r) k ∙ e
        each x (inr k) = none-at (same_record r) seen x (h r (Memᴰ.tail m)) k

-- none of them stands already, and each has a point of its own: nothing is a repeat
pub once-whole : (seen rs : List Record) → Apart rs → ((r : Record) → Memᴰ r rs → some_of (same_record r) seen ≡ false) → once_after seen rs ≡ rs
unfolding once_after
once-whole seen [] a h = refl
once-whole seen (q ∷ rs) a h =
    ap (λ (b : Bool). cond b (once_after (q ∷ seen) rs) (q ∷ once_after (q ∷ seen) rs)) (h q (Memᴰ.head refl))
    ∙ ap (λ (l : List Record). q ∷ l) (once-whole (q ∷ seen) rs a.1 (λ r m. new-after q rs seen a h r m))

pub sorted-whole : (rs : List Record) → Rising Before rs → sorted rs ≡ rs
unfolding sort_by insert_by
sorted-whole [] h = refl
sorted-whole (r ∷ []) h = refl
sorted-whole (r ∷ q ∷ qs) h =
    ap (insert_by before r) (sorted-whole (q ∷ qs) h.1)
    ∙ ap (λ (b : Bool). cond b (r ∷ q ∷ qs) (q ∷ insert_by before r qs)) (h.0 q (Memᴰ.head refl))
