-- The invariant of `salvage_lines::rounds::has_clash`: the lines before clash with nothing.
use Rattle.std.proofs.Common.{◌-◌, length}
use Rattle.salvage_lines.specs.RoundLaws.{Searching}
use Rattle.salvage_lines.proofs.rounds.has_clash.Given as goal

abbrev pub invariant-loop-next : goal.invariant-loop-next
invariant-loop-next l = Searching l.file l.initial.table l.at l.table

abbrev pub decreases-loop-next : goal.decreases-loop-next
decreases-loop-next l = length l.file - l.at
