-- The invariant of `readers::restore_all`: what is restored from the position on is what is restored of the whole file.
use Rattle.std.proofs.Common.{◌-◌, length}
use Rattle.readers.specs.RestoreSteps.{Restoring}
use Rattle.readers.proofs.restore.restore_all.Given as goal

abbrev pub invariant-loop-v : goal.invariant-loop-v
invariant-loop-v l = Restoring l.file l.before l.initial.table l.at l.table l.kept

abbrev pub decreases-loop-v : goal.decreases-loop-v
decreases-loop-v l = length l.file - l.at
