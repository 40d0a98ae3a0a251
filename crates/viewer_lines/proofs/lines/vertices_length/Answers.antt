-- `viewer_lines::lines::vertices_length` meets its promise. Assumes nothing.
use Rattle.std.proofs.Common.{arith}
use Rattle.table.specs.Slots.{slot_at}
use Rattle.viewer_lines.specs.Lines.{vertices-start, vertices-more}
use Rattle.viewer_lines.proofs.lines.vertices_length.Goals as goal

pub loop-i-init : goal.loop-i-init
loop-i-init c = let a = c.args in (vertices-start a.s (slot_at a.t.now), omega arith)

pub loop-i-preserved : goal.loop-i-preserved
loop-i-preserved c =
    let h = c.loop-i.invariant in
    let e = c.slot_vertex_length-total.ensures in
    (omega (arith, h.0, e.0, vertices-more c.args.s (slot_at c.args.t.now) c.loop-i.i), omega (arith, h.1, e.1))
