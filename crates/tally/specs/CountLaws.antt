-- The ways to `count_of`: `count-1` not in order, `count-0` in order.
-- Assumes nothing.
use Rattle.std.specs.Prelude.{◌≡◌, Bool, true, false, List, ℕ, replicate}
use Rattle.std.proofs.Common.{sym}
use Rattle.std.proofs.Math.Path.{ap}
use Rattle.std.proofs.Math.Bool.{cond}
use Rattle.table.specs.Order.{in_order_of}
use Rattle.counts.specs.Counts.{counts_of}
use Rattle.tally.specs.Count.{row_of, CountsAfter, counts_after, count_of}
use Rattle.counts.specs.declared.Counts.{Counts}

module _ (t : List ℕ) where
  abbrev by : Bool → CountsAfter
  by b = cond b (counts_after 0 (row_of (counts_of t))) (counts_after 1 (replicate 8 0))

  pub count-1 : in_order_of t ≡ false → count_of t ≡ counts_after 1 (replicate 8 0)
  unfolding count_of
  count-1 e = ap by e

  pub count-0 : in_order_of t ≡ true → (c : Counts) → c ≡ counts_of t → count_of t ≡ counts_after 0 (row_of c)
  unfolding count_of
  count-0 e c w = λ i. cond (e i) (counts_after 0 (row_of (sym w i))) (counts_after 1 (replicate 8 0))
