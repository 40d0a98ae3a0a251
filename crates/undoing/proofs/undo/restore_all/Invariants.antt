-- The loop of `undoing::restore_all`: what is left to do leads to what the whole leads to. Assumes nothing.
use Rattle.std.proofs.Common.{◌≡◌}
use Rattle.table.specs.Slots.{Table}
use Rattle.undoing.specs.Undo.{restored_to}
use Rattle.undoing.proofs.undo.restore_all.Given as goal

abbrev pub invariant-loop-j : goal.invariant-loop-j
invariant-loop-j l = record { table : Table l.t l.n; left : restored_to l.t l.v l.j ≡ restored_to l.initial.t l.v 6 }
