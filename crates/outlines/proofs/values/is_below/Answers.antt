-- `outlines::values::is_below` meets its promise. Assumes nothing.
use mathlib.Core.Path.{ap, ◌∙◌}
use lib.Ieee.{Float, lt}
use Rattle.outlines.specs.Outlines.{value_of, nought, below_at}
use Rattle.outlines.proofs.values.is_below.Goals as goal

pub returns : goal.returns
unfolding below_at nought
returns c = ap (λ (x : Float). lt x nought) (c.value.ensures ∙ ap (value_of c.args.o) c.position_of.ensures)
