-- `viewer_lines::lines::vertex_length` meets its promise. Assumes nothing.
use Rattle.std.proofs.Common.{ap, arith, length}
use Rattle.viewer_lines.specs.Lines.{vertex-marked, vertex-plain}
use Rattle.viewer_lines.proofs.lines.vertex_length.Goals as goal

pub returns-then-s : goal.returns-then-s
returns-then-s c =
    (omega (arith, vertex-marked c.args.s c.args.r c.if-s.true, c.position_length-w.ensures.0), omega (arith, c.position_length-w.ensures.1))

pub returns-else-s : goal.returns-else-s
returns-else-s c =
    (omega (arith, ap length (vertex-plain c.args.s c.args.r c.if-s.false), c.position_length-w.ensures.0), omega (arith, c.position_length-w.ensures.1))
