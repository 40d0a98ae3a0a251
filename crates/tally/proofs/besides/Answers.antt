-- `tally::besides` meets its promise. Assumes nothing.
use Rattle.std.proofs.Common.{arith}
use Rattle.firsts.specs.Earlier.{sum_below}
use Rattle.together.specs.Tally.{beside_of}
use Rattle.tally.proofs.besides.Goals as goal

pub returns : goal.returns
unfolding beside_of sum_below
returns c =
    let x = c.beside.ensures in
    let y = c.beside-2.ensures in
    let z = c.beside-3.ensures in
    (omega (arith, x.0, y.0, z.0), omega (arith, x.1, y.1, z.1))
