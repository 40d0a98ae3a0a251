-- `undoing::undo::unenter` meets its promise. Assumes nothing.
use Rattle.std.proofs.Common.{sym}
use Rattle.table.specs.MapLaws.{at_room}
use Rattle.undoing.proofs.undo.unenter.Goals as goal

pub free_slot-requires : goal.free_slot-requires
free_slot-requires c = at_room c.args.t.now c.args.n c.requires c.args.p c.in-At.i (sym c.in-At.ensures.value)
