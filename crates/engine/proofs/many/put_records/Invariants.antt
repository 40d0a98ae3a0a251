-- The rows so far, and what was lent from there on. Assumes nothing.
use Rattle.std.proofs.Common.{◌≡◌}
use Rattle.centres.specs.Marks.{in_marks}
use Rattle.engine.specs.Many.{rows_in}
use Rattle.engine.specs.ManyLaws.{row_record}
use Rattle.engine.proofs.many.put_records.Given as goal

abbrev pub invariant-loop-i : goal.invariant-loop-i
invariant-loop-i l = l.records ≡ rows_in (row_record (in_marks l.marks) l.pairs l.points) l.initial.records l.i
