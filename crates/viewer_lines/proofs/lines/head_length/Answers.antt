-- `viewer_lines::lines::head_length` meets its promise. Assumes nothing.
use Rattle.std.proofs.Common.{sym, ap, arith, length}
use Rattle.viewer_lines.specs.Lines.{head-long, head-none}
use Rattle.viewer_lines.proofs.lines.head_length.Goals as goal

pub returns-then-s : goal.returns-then-s
returns-then-s c = (omega (arith, head-long c.args.s c.args.c c.if-s.true), omega arith)

pub returns-else-s : goal.returns-else-s
returns-else-s c = (ap length (sym (head-none c.args.s c.args.c c.if-s.false)), omega arith)
