-- The invariant of `salvage_lines::rounds::gather`: the lines passed are held.
use Rattle.std.proofs.Common.{◌-◌, length}
use Rattle.salvage_lines.specs.Rounds.{Gathering}
use Rattle.salvage_lines.proofs.rounds.gather.Given as goal

abbrev pub invariant-loop-left : goal.invariant-loop-left
invariant-loop-left l = Gathering l.file l.at l.room l.initial.table l.p l.left l.table

abbrev pub decreases-loop-left : goal.decreases-loop-left
decreases-loop-left l = length l.file - l.p
