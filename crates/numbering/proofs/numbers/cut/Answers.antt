-- No order has an earlier one than 0, and each lies below `orders`.
use Rattle.std.proofs.Common.{◌≡◌, ◌+◌, arith}
use Rattle.numbering.specs.Ranks.{below-nothing, cut-made}
use Rattle.numbering.proofs.numbers.cut.Goals as goal

pub loop-high-init : goal.loop-high-init
loop-high-init c = record {
  below = omega (arith, below-nothing c.args.table.now);
  above = λ h. absurd (omega arith);
  apart = omega arith;
  most = omega arith;
}

pub returns : goal.returns
returns c =
    let e : c.loop-high.high ≡ c.loop-high.low + 1 = omega arith in
    cut-made c.args.table.now c.args.rank c.loop-high.low c.loop-high.high c.loop-high.invariant.below c.loop-high.invariant.above e
