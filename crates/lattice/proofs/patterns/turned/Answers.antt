-- `lattice::patterns::turned` meets its promise: a turn of the loop is a turn. Assumes nothing.
use Rattle.std.proofs.Common.{sym, subst, ap, ◌∙◌}
use Rattle.lattice.specs.Bounds.{Hex, hex-turn60}
use Rattle.lattice.specs.Points.{turn60_of}
use Rattle.lattice.specs.PointLaws.{turns-suc, turns-zero}
use Rattle.lattice.proofs.patterns.turned.Goals as goal

pub loop-init : goal.loop-init
loop-init c = (turns-zero _, c.requires)

pub loop-preserved : goal.loop-preserved
loop-preserved c =
    let e = c.turn-q.ensures in
    (e ∙ ap turn60_of c.loop.invariant.0 ∙ turns-suc c.loop.counter _, subst (Hex 10) (sym e) (hex-turn60 c.loop.invariant.1))
