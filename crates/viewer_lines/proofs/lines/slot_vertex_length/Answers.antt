-- `viewer_lines::lines::slot_vertex_length` meets its promise: by what the slot holds. Assumes nothing.
use Rattle.std.proofs.Common.{sym, ◌∙◌}
use Rattle.text.specs.LineOrder.{close}
use Rattle.viewer_lines.proofs.lines.slot_vertex_length.Goals as goal

pub vertex_length-requires : goal.vertex_length-requires
vertex_length-requires c =
    close c.in-Some.r (c.requires.0.valid c.args.i c.in-Some.r c.requires.1 (sym c.read_slot.ensures ∙ c.in-Some.is))
