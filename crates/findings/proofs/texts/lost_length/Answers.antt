-- `findings::texts::lost_length` meets its promise. Assumes nothing.
use Rattle.std.proofs.Common.{arith}
use Rattle.findings.specs.TextLengths.{lost-long}
use Rattle.findings.proofs.texts.lost_length.Goals as goal

pub returns : goal.returns
returns c l h = omega (arith, c.tail_length.ensures.by_index l h, lost-long l c.args.f)
