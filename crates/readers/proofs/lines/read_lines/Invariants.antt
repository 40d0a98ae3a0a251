-- The invariant of `readers::read_lines`: what is read from the position on is what is read of the whole file.
use Rattle.std.proofs.Common.{◌-◌, length}
use Rattle.readers.specs.LineSteps.{line_before, Underway}
use Rattle.readers.proofs.lines.read_lines.Given as goal

abbrev pub invariant-loop-entry : goal.invariant-loop-entry
invariant-loop-entry l = Underway l.file l.initial.table l.at l.line (line_before l.line l.last) l.table

abbrev pub decreases-loop-entry : goal.decreases-loop-entry
decreases-loop-entry l = length l.file - l.at
