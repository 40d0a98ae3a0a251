-- The loop of `outlines::passes::make_all`: the points of the first i keys are subdivided. Assumes nothing.
use Rattle.outlines.specs.PassLaws.{Making}
use Rattle.outlines.proofs.passes.make_all.Given as goal

abbrev pub invariant-loop-i : goal.invariant-loop-i
invariant-loop-i l = Making l.keys l.fn.t l.n l.k l.t l.left l.i
