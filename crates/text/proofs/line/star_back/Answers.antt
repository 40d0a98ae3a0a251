-- `text::star_back` meets its contract. Assumes nothing.
use Rattle.std.proofs.Common.{arith}
use Rattle.text.specs.Line.{star_text}
use Rattle.text.specs.LineLengths.{star-length}
use Rattle.text.specs.Back.{wrote-before}
use Rattle.text.proofs.line.star_back.Goals as goal

pub number_back-past_k-requires : goal.number_back-past_k-requires
number_back-past_k-requires c = (omega (arith, star-length c.args.d c.args.k c.args.n, c.requires.0), c.requires.1)

pub number_back-past_d-requires : goal.number_back-past_d-requires
number_back-past_d-requires c = (omega (arith, star-length c.args.d c.args.k c.args.n, c.requires.0), omega arith)

pub number_back-requires : goal.number_back-requires
number_back-requires c = (omega (arith, star-length c.args.d c.args.k c.args.n, c.requires.0), omega arith)

pub returns : goal.returns
unfolding star_text
returns c = wrote-before (wrote-before c.number_back-past_k.ensures c.number_back-past_d.ensures) c.number_back.ensures
