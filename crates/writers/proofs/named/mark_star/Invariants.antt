-- The first j adjacent points are marked.
use Rattle.marks.specs.Marks.{Marks}
use Rattle.writers.specs.Named.{star_finds}
use Rattle.writers.proofs.named.mark_star.Given as goal

abbrev pub invariant-loop-j : goal.invariant-loop-j
invariant-loop-j l = Marks l.initial.marks (star_finds l.table l.v l.j) l.marks
