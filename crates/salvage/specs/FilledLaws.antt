-- What `filled` says. `Mends` the table with the sorted records, and with what was restored: `mends` · `refill-stops`, `refill-goes` the two loops, one after
-- the other · `judge-stops`, `judge-grown` and the judgement.
-- Assumes nothing.
use Rattle.std.specs.Prelude.{◌≡◌, Bool, cond, List, ℕ, ◌<◌, length}
use Rattle.std.proofs.Math.Path.{sym, ap}
use Rattle.std.proofs.Common.{◌∙◌, arith}
use Rattle.std.proofs.Math.Decide.{dec_lt}
use Rattle.lattice.specs.declared.records.Record.{Record}
use Rattle.table.specs.Slots.{Table, slots_of, cleared_of}
use Rattle.table.specs.Order.{InOrder}
use Rattle.table.specs.Entries.{records_of}
use Rattle.table.specs.MapLaws.{records-looked, lookup-valid}
use Rattle.text.specs.Line.{lines}
use Rattle.sorting.specs.SortLaws.{Rising, mem-sort}
use Rattle.writers.specs.Files.{before, sorted}
use Rattle.writers.specs.FileLaws.{Before, sorted_rises}
use Rattle.local.specs.Sheet.{passes_all}
use Rattle.grown.specs.Grown.{grown-passes}
use Rattle.readers.specs.Readers.{Restored, With, Stopped, restore_all}
use Rattle.readers.specs.Additions.{adds-slots}
use Rattle.readers.specs.ReadLaws.{Valid, Lined}
use Rattle.readers.specs.RestoreLaws.{stopped-stays, Restores, RestoredOf, restore-all}
use Rattle.readers.specs.RestoreSteps.{restored_by, by-none, by-stopped}
use Rattle.salvage.specs.Salvage.{enter_all, filled}
use Rattle.salvage.specs.KeyLaws.{judged_of}
use Rattle.salvage.specs.EnterLaws.{filled-lined, filled-short}

-- u is the table of the records rs and of what they leave out
pub record Mends (rs : List Record) (n : ℕ) (u : List ℕ) : Type 0 where
  pub first : List ℕ
  pub lined : Lined (lines rs) n rs first
  pub restored : restore_all rs (With first) ≡ With u
  pub restores : Restores (RestoredOf rs) rs first u

pub mends-order : {rs : List Record} {n : ℕ} {u : List ℕ} → Mends rs n u → InOrder u
mends-order m = m.restores.adds.order

pub mends-slots : {rs : List Record} {n : ℕ} {u : List ℕ} → Mends rs n u → slots_of u ≡ n
mends-slots {rs} {n} {u} m = adds-slots (RestoredOf rs) m.first u m.restores.adds ∙ m.lined.slots

pub mends : (t : List ℕ) (n : ℕ) → Table t n → (rs : List Record) → Rising Before rs → Valid rs → (u : List ℕ) → filled rs (cleared_of t) ≡ With u → Mends rs n u
unfolding filled
mends t n w rs rises v u e = go (dec_lt n (length rs))
  where
    go : Dec (n < length rs) → Mends rs n u
    go (yes l) =
        let x : Stopped 8 ≡ With u = sym (ap (restore_all rs) (filled-short t n w rs rises v l) ∙ stopped-stays rs 8) ∙ e in
        absurd (let z : ◌≡◌ {A = ℕ} 0 1 = cc in omega arith)
    go (no l) =
        let (f, is, lined) = filled-lined t n w rs rises v (omega arith) in
        let x : restore_all rs (With f) ≡ With u = sym (ap (restore_all rs) is) ∙ e in
        record { first = f; lined = lined; restored = x; restores = restore-all rs f u lined.order x }

-- of a table's own records
pub mends-own : (t : List ℕ) → InOrder t → (u : List ℕ) → filled (sorted (records_of t)) (cleared_of t) ≡ With u → Mends (sorted (records_of t)) (slots_of t) u
mends-own t o u e =
    mends t (slots_of t) o.fits (sorted (records_of t)) (sorted_rises t o)
    (λ r m. lookup-valid t o r.at r (records-looked t o r (mem-sort before (records_of t) r m))) u e

-- ---- one loop after the other

module _ (rs : List Record) (c : List ℕ) (x : ℕ) (u : List ℕ) (e : restored_by x u ≡ enter_all rs (With c)) where
  pub refill-stops : (x ≡ 0 → ⊥) → restored_by x u ≡ filled rs c
  unfolding filled
  refill-stops n = by-stopped x u n ∙ sym (stopped-stays rs x) ∙ ap (restore_all rs) (sym (by-stopped x u n) ∙ e)

  pub refill-goes : x ≡ 0 → (y : ℕ) (v : List ℕ) → restored_by y v ≡ restore_all rs (With u) → restored_by y v ≡ filled rs c
  unfolding filled
  refill-goes z y v h = h ∙ ap (restore_all rs) (sym (by-none x u z) ∙ e)

-- ---- and the judgement

module _ (f : Restored) (x : ℕ) (u : List ℕ) (e : restored_by x u ≡ f) where
  pub judge-stops : (x ≡ 0 → ⊥) → restored_by x u ≡ judged_of f
  judge-stops n = by-stopped x u n ∙ ap judged_of (sym (by-stopped x u n) ∙ e)

  pub judge-with : x ≡ 0 → f ≡ With u
  judge-with z = sym e ∙ by-none x u z

  pub judge-grown : x ≡ 0 → InOrder u → (b : Bool) → passes_all u ≡ b → cond b (With u) (Stopped 11) ≡ judged_of f
  judge-grown z o b h =
      ap (λ (g : Bool). cond g (With u) (Stopped 11)) (sym (grown-passes u o ∙ h)) ∙ ap judged_of (sym (judge-with z))
