-- `viewer_lines::lengths::slot_length` meets its promise: by what the slot holds. Assumes nothing.
use Rattle.std.proofs.Common.{sym, ◌∙◌, arith}
use Rattle.viewer_lines.specs.Lines.{slot-free, slot-holds}
use Rattle.viewer_lines.proofs.lengths.slot_length.Goals as goal

pub returns-in-None : goal.returns-in-None
returns-in-None c = (slot-free c.args.s c.args.t.now c.args.k (sym c.read_slot.ensures ∙ c.in-None.is), omega arith)

pub returns-in-Some : goal.returns-in-Some
returns-in-Some c =
    let e = c.star_length.ensures in
    (e.0 ∙ slot-holds c.args.s c.args.t.now c.args.k c.in-Some.v (sym c.read_slot.ensures ∙ c.in-Some.is), e.1)
