-- `findings::judge`: `Judging`, the lines passed are counted. Assumes nothing.
use Rattle.std.proofs.Common.{◌-◌, length}
use Rattle.findings.specs.JudgeLaws.{Judging}
use Rattle.findings.proofs.lists.judge.Given as goal

abbrev pub invariant-loop-f : goal.invariant-loop-f
invariant-loop-f l = Judging l.table l.list l.at l.line l.parts

abbrev pub decreases-loop-f : goal.decreases-loop-f
decreases-loop-f l = length l.list - l.at
