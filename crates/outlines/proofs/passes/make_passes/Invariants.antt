-- The loop of `outlines::passes::make_passes`: the first i passes are made. Assumes nothing.
use Rattle.outlines.specs.CallLaws.{Passing}
use Rattle.outlines.proofs.passes.make_passes.Given as goal

abbrev pub invariant-loop-i : goal.invariant-loop-i
invariant-loop-i l = Passing l.o l.level l.fn.table l.fn.scratch l.n l.count l.table l.scratch l.left l.i
