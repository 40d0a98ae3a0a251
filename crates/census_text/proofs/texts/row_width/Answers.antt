-- `census_text::row_width` meets its promise. Assumes nothing.
use Rattle.std.proofs.Common.{arith}
use Rattle.census_text.specs.TextLaws.{measured-more, measured-all}
use Rattle.census_text.proofs.texts.row_width.Goals as goal

pub loop-n-preserved : goal.loop-n-preserved
loop-n-preserved c =
    measured-more c.args.ns.now c.loop-n.n-index c.loop-n.w c.width.result c.loop-n.invariant c.loop-n-test.true c.width.ensures.value
    (omega (arith, c.width.ensures.lower_bound))

pub returns : goal.returns
returns c =
    let i = c.loop-n.invariant in
    (measured-all c.args.ns.now c.loop-n.n-index c.loop-n.w i c.loop-n-test.false, omega (arith, i.most, i.below, c.requires))
