-- `findings::texts::tail_length` meets its promise. Assumes nothing.
use Rattle.std.proofs.Common.{arith}
use Rattle.findings.specs.EntryLaws.{note-size}
use Rattle.findings.specs.TextLengths.{tail-long, tail-most}
use Rattle.findings.proofs.texts.tail_length.Goals as goal

pub overflow_sub-result : goal.overflow_sub-result
overflow_sub-result c = (note-size c.requires.0 c.args.f c.requires.1).0

pub overflow_add-result-2 : goal.overflow_add-result-2
overflow_add-result-2 c = omega (arith, tail-long c.requires.0 c.args.f c.requires.1, tail-most c.requires.0 c.args.f c.requires.1)

pub returns-clause-by_index : goal.returns-clause-by_index
returns-clause-by_index c l h = omega (arith, tail-long l c.args.f h)

pub returns-clause-upper_bound : goal.returns-clause-upper_bound
returns-clause-upper_bound c = omega (arith, tail-long c.requires.0 c.args.f c.requires.1, tail-most c.requires.0 c.args.f c.requires.1)
