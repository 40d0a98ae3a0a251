-- `text::write_line_back` meets its contract. Assumes nothing.
use Rattle.std.proofs.Common.{arith}
use Rattle.text.specs.Line.{line_of}
use Rattle.text.specs.LineLengths.{line-halves}
use Rattle.text.specs.Back.{wrote-before}
use Rattle.text.proofs.line.write_line_back.Goals as goal

pub star_back-past_m-requires : goal.star_back-past_m-requires
star_back-past_m-requires c = (omega (arith, line-halves c.args.r, c.requires.0), c.requires.1)

pub point_back-requires : goal.point_back-requires
point_back-requires c = (omega (arith, line-halves c.args.r, c.requires.0), omega arith)

pub returns : goal.returns
unfolding line_of
returns c = wrote-before c.star_back-past_m.ensures c.point_back.ensures
