-- The invariant of `salvage_lines::rounds::some_against`: what is left tells what the whole does.
use Rattle.std.proofs.Common.{◌≡◌, ◌-◌, length}
use Rattle.laws.specs.Some.{some_of}
use Rattle.salvage_lines.specs.LinesOn.{records_on}
use Rattle.salvage_lines.specs.ClashLaws.{against}
use Rattle.salvage_lines.proofs.rounds.some_against.Given as goal

abbrev pub invariant-loop-next : goal.invariant-loop-next
invariant-loop-next l = some_of (against l.table) (records_on l.file l.p) ≡ some_of (against l.table) (records_on l.file l.at)

abbrev pub decreases-loop-next : goal.decreases-loop-next
decreases-loop-next l = length l.file - l.p
