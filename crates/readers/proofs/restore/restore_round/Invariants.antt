-- The invariant of `readers::restore_round`: the adjacent points so far are restored.
use Rattle.readers.specs.RestoreSteps.{Rounding}
use Rattle.readers.proofs.restore.restore_round.Given as goal

abbrev pub invariant-loop-j : goal.invariant-loop-j
invariant-loop-j l = Rounding l.before l.initial.table l.v l.j l.table l.kept
