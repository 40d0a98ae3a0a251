-- The lines of the slots so far are counted.
use Rattle.std.proofs.Common.{◌≡◌, ◌*◌, ◌≤◌, length}
use Rattle.text.specs.Line.{lines}
use Rattle.text.specs.LineLengths.{longest}
use Rattle.writers.specs.Kept.{kept_at, standing}
use Rattle.writers.proofs.kept.file_length.Given as goal

abbrev pub invariant-loop-i : goal.invariant-loop-i
invariant-loop-i l = record { counted : l.total ≡ length (lines (standing (kept_at l.table l.marks) l.i)); most : l.total ≤ longest * l.i }
