-- The order asked for lies above `low`, and at `high` or below.
use Rattle.std.proofs.Common.{◌-◌, ◌<◌, ◌≤◌}
use Rattle.text.specs.LineOrder.{orders}
use Rattle.numbering.specs.Ranks.{below_of}
use Rattle.numbering.proofs.numbers.cut.Given as goal

abbrev pub invariant-loop-high : goal.invariant-loop-high
invariant-loop-high l = record {
  below : below_of l.table l.low < l.rank;
  above : l.high < orders → l.rank ≤ below_of l.table l.high;
  apart : l.low < l.high;
  most : l.high ≤ orders;
}

abbrev pub decreases-loop-high : goal.decreases-loop-high
decreases-loop-high l = l.high - l.low
