-- `viewer_lines::lengths::faces_length` meets its promise. Assumes nothing.
use Rattle.std.proofs.Common.{arith}
use Rattle.viewer_lines.specs.Lines.{slots-start, slots-more}
use Rattle.viewer_lines.proofs.lengths.faces_length.Goals as goal

pub loop-k-init : goal.loop-k-init
loop-k-init c = let a = c.args in (slots-start a.s a.t.now, omega arith)

pub loop-k-preserved : goal.loop-k-preserved
loop-k-preserved c =
    let h = c.loop-k.invariant in
    let e = c.slot_length-total.ensures in
    (omega (arith, h.0, e.0, slots-more c.args.s c.args.t.now c.loop-k.k), omega (arith, h.1, e.1))
