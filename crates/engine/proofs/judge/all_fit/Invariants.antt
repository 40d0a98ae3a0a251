-- The pairs so far fit. Assumes nothing.
use Rattle.std.proofs.Common.{◌≡◌, true}
use Rattle.centres.specs.Marks.{in_marks}
use Rattle.engine.specs.Engine.{judged_to}
use Rattle.engine.proofs.judge.all_fit.Given as goal

abbrev pub invariant-loop-j : goal.invariant-loop-j
invariant-loop-j l = judged_to (in_marks l.marks) l.pairs l.j ≡ true
