-- `outlines::values::value` meets its promise, by the outline's case. Assumes nothing.
use mathlib.Core.Path.{sym, ap}
use Rattle.outlines.specs.Outlines.{value_of}
use Rattle.outlines.specs.declared.values.Outline.{Outline}
use Rattle.outlines.proofs.values.value.Goals as goal

pub returns-in-Disc : goal.returns-in-Disc
unfolding value_of
returns-in-Disc c = sym (ap (λ (o : Outline). value_of o c.args.at) c.in-Disc.is)

pub returns-in-Line : goal.returns-in-Line
unfolding value_of
returns-in-Line c = sym (ap (λ (o : Outline). value_of o c.args.at) c.in-Line.is)
