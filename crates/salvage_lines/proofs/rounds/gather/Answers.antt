-- `salvage_lines::rounds::gather` meets its promise. Assumes nothing.
use Rattle.std.proofs.Common.{sym, ap, ◌∙◌, arith}
use Rattle.table.specs.Slots.{slots_in}
use Rattle.table.specs.MapLaws.{table-slots}
use Rattle.salvage_lines.specs.Rounds.{gathering-start, gathering-all, gathering-clash, gathering-full, gathering-upto, gathering-went, went-most}
use Rattle.salvage_lines.proofs.rounds.gather.Goals as goal

pub loop-left-init : goal.loop-left-init
loop-left-init c =
    gathering-start c.args.file.now c.args.at c.args.room c.args.table.now c.args.n c.requires.table.0 c.requires.table.1 c.requires.room_nonzero.0
    c.requires.room_nonzero.1

pub take_line-requires : goal.take_line-requires
take_line-requires c =
    let w = c.loop-left.invariant in
    (w.holding.order, sym (ap slots_in w.long ∙ table-slots c.args.table.now c.args.n c.requires.table.0))

pub returns-in-Over : goal.returns-in-Over
returns-in-Over c =
    gathering-all c.args.file.now c.args.at c.args.room c.args.table.now c.loop-left.p c.loop-left.left c.loop-left.table c.loop-left.invariant
    c.take_line.new.table c.in-Over.ensures

pub returns-in-Clash : goal.returns-in-Clash
returns-in-Clash c =
    gathering-clash c.args.file.now c.args.at c.args.room c.args.table.now c.loop-left.p c.loop-left.left c.loop-left.table c.loop-left.invariant
    c.take_line.new.table c.in-Clash.ensures

pub returns-in-Full : goal.returns-in-Full
returns-in-Full c =
    gathering-full c.args.file.now c.args.at c.args.room c.args.table.now c.loop-left.p c.loop-left.left c.loop-left.table c.loop-left.invariant
    c.take_line.new.table c.in-Full.ensures

pub overflow_sub-left : goal.overflow_sub-left
overflow_sub-left c = omega (arith, went-most c.in-On.ensures.1)

pub loop-left-smaller : goal.loop-left-smaller
loop-left-smaller c = omega (arith, c.in-On.ensures.0)

pub loop-left-preserved : goal.loop-left-preserved
loop-left-preserved c =
    gathering-went c.args.file.now c.args.at c.args.room c.args.table.now c.loop-left.p c.loop-left.left c.loop-left.table c.loop-left.invariant
    c.in-On.next c.in-On.ensures.0 c.in-On.new c.take_line.new.table c.loop-left-test.true c.in-On.ensures.1

pub returns : goal.returns
returns c =
    gathering-upto c.args.file.now c.args.at c.args.room c.args.table.now c.loop-left.p c.loop-left.left c.loop-left.table c.loop-left.invariant
    (omega arith)
