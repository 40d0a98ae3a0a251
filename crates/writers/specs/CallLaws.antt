-- The calls' cases: `write-disorder`, `write-order` refused as not in order, or not · `standing-all`, `unmarked-file` with nothing marked all stands, and the
-- file is the full one.
-- Assumes nothing.
use Rattle.std.specs.Prelude.{◌≡◌, refl, Bool, true, false, ◌&&◌, List, ◌++◌, ℕ, zero, suc, eqb, replicate, Option, Some, None}
use Rattle.std.proofs.Common.{sym}
use Rattle.std.proofs.Math.Path.{ap}
use Rattle.std.proofs.Math.Bool.{cond}
use Rattle.lattice.specs.declared.records.Record.{Record}
use Rattle.table.specs.Slots.{slots_of, slot_at}
use Rattle.table.specs.Order.{in_order_of}
use Rattle.table.specs.Entries.{listed, records_below}
use Rattle.text.specs.Line.{lines}
use Rattle.marks.specs.Marks.{marked_at, marked-none}
use Rattle.writers.specs.Files.{sorted, full_file, output_after, put_of, write_of}
use Rattle.writers.specs.Kept.{mark_bytes, kept_of, kept_at, standing}
use Rattle.writers.specs.LeftLaws.{file_of}

pub out-is : {n n' b b' : ℕ} (o : List ℕ) → n ≡ n' → b ≡ b' → output_after n b o ≡ output_after n' b' o
out-is o e f = λ i. output_after (e i) (f i) o

module _ (file t o : List ℕ) where
  pub write-disorder : in_order_of t ≡ false → output_after 1 0 o ≡ write_of file t o
  unfolding write_of
  write-disorder e = ap (λ (b : Bool). cond b (put_of file o) (output_after 1 0 o)) (sym e)

  pub write-order : in_order_of t ≡ true → put_of file o ≡ write_of file t o
  unfolding write_of
  write-order e = ap (λ (b : Bool). cond b (put_of file o) (output_after 1 0 o)) (sym e)

-- ---- nothing marked

kept-all : (t m : List ℕ) (i : ℕ) → marked_at m i ≡ false → kept_at t m i ≡ slot_at t i
unfolding kept_at
kept-all t m i e = go (slot_at t i) (marked_at m i) e
  where
    go : (s : Option Record) (b : Bool) → b ≡ false → kept_of b s ≡ s
    go None b e = refl
    go (Some r) b e = ap (λ (x : Bool). cond (x && eqb r.d 3) None (Some r)) e

pub standing-all : (t m : List ℕ) (k : ℕ) → ((i : ℕ) → marked_at m i ≡ false) → standing (kept_at t m) k ≡ records_below t k
unfolding standing records_below
standing-all t m zero h = refl
standing-all t m (suc k) h = λ i. standing-all t m k h i ++ listed (kept-all t m k (h k) i)

pub unmarked-file : (t : List ℕ) → file_of t (replicate mark_bytes 0) ≡ full_file t
unmarked-file t = ap (λ (rs : List Record). lines (sorted rs)) (standing-all t (replicate mark_bytes 0) (slots_of t) (marked-none mark_bytes))
