-- `lattice::stars::ring` meets its promise. Assumes nothing.
use Rattle.std.proofs.Common.{arith}
use Rattle.lattice.specs.AnswerRowLaws.{row-start}
use Rattle.lattice.proofs.stars.ring.Goals as goal

pub put_regular-requires-clause-out_value : goal.put_regular-requires-clause-out_value
put_regular-requires-clause-out_value c = row-start c.args.v.d (omega (arith, c.requires.top))

pub put_each-requires-clause-out_value : goal.put_each-requires-clause-out_value
put_each-requires-clause-out_value c = row-start c.args.v.d (omega (arith, c.requires.top))
