-- `text::line_length` meets its promise: the two halves of a line. Assumes nothing.
use Rattle.std.proofs.Common.{arith}
use Rattle.text.specs.LineLengths.{line-halves, star-long}
use Rattle.text.proofs.line.line_length.Goals as goal

pub returns : goal.returns
returns c = let r = c.args.r in omega (arith, line-halves r, star-long r.d r.k r.n.0)
