-- The loop of `undoing::unenter_all`: what is left to do leads to what the whole leads to. Assumes nothing.
use Rattle.std.proofs.Common.{◌≡◌}
use Rattle.table.specs.Slots.{Table}
use Rattle.undoing.specs.Undo.{unentered_to}
use Rattle.undoing.proofs.undo.unenter_all.Given as goal

abbrev pub invariant-loop-j : goal.invariant-loop-j
invariant-loop-j l = record { table : Table l.t l.n; left : unentered_to l.t l.c l.j ≡ unentered_to l.initial.t l.c 6 }
