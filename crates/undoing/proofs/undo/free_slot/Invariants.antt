-- The loop of `undoing::free_slot`: the first c bytes of the slot are 255, and all else is as it was. Assumes nothing.
use Rattle.std.proofs.Common.{◌≡◌, ◌*◌}
use Rattle.std.proofs.Math.Seq.{sets}
use Rattle.table.specs.Slots.{slot_width}
use Rattle.undoing.specs.Undo.{ones}
use Rattle.undoing.proofs.undo.free_slot.Given as goal

abbrev pub invariant-loop-c : goal.invariant-loop-c
invariant-loop-c l = l.t ≡ sets l.initial.t (slot_width * l.i) (ones l.c)
