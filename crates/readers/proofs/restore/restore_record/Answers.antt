-- `readers::restore_record` meets its promise: by where the search ended. Assumes nothing.
use Rattle.std.proofs.Common.{sym, ◌∙◌, arith}
use Rattle.table.specs.MapLaws.{at_room, free-room}
use Rattle.readers.specs.RestoreSteps.{mends_there, mends-entered}
use Rattle.readers.proofs.restore.restore_record.Goals as goal

pub was_three-requires : goal.was_three-requires
was_three-requires c =
    omega (arith, at_room c.args.table.now c.args.n c.requires c.args.r.at c.in-At.i (sym c.find.ensures.value ∙ c.in-At.is))

pub write_slot-requires : goal.write_slot-requires
write_slot-requires c = free-room c.args.table.now c.args.n c.requires c.args.r.at c.in-Free.i (sym c.find.ensures.value ∙ c.in-Free.is)

pub returns-in-At : goal.returns-in-At
returns-in-At c =
    mends_there c.args.before.now c.args.table.now c.args.r c.in-At.i (sym c.find.ensures.value ∙ c.in-At.is) c.was_three.result c.was_three.ensures

pub returns-else-not-valid : goal.returns-else-not-valid
returns-else-not-valid c =
    mends-entered c.args.before.now c.args.table.now c.args.r c.in-Free.i (sym c.find.ensures.value ∙ c.in-Free.is)
    (sym c.valid.ensures ∙ c.if-not-valid.false) c.write_slot.new.t c.write_slot.ensures
