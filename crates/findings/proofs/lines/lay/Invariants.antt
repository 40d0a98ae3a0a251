-- `findings::lay`: the findings passed are laid. Assumes nothing.
use Rattle.std.proofs.Common.{◌-◌, length}
use Rattle.findings.specs.LayLaws.{Laying}
use Rattle.findings.proofs.lines.lay.Given as goal

abbrev pub invariant-loop-f : goal.invariant-loop-f
invariant-loop-f l = Laying l.table l.list l.start l.initial.out l.out l.at l.ends.keys l.ends.lost

abbrev pub decreases-loop-f : goal.decreases-loop-f
decreases-loop-f l = length l.list - l.at
