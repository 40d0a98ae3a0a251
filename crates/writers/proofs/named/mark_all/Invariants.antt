-- What the first i slots name is marked.
use Rattle.marks.specs.Marks.{Marks}
use Rattle.writers.specs.Named.{table_finds}
use Rattle.writers.proofs.named.mark_all.Given as goal

abbrev pub invariant-loop-i : goal.invariant-loop-i
invariant-loop-i l = Marks l.initial.marks (table_finds l.table l.i) l.marks
