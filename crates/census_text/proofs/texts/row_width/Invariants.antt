-- The loop of `census_text::row_width`: the numbers so far are measured. Assumes nothing.
use Rattle.census_text.specs.TextLaws.{Measured}
use Rattle.census_text.proofs.texts.row_width.Given as goal

abbrev pub invariant-loop-n : goal.invariant-loop-n
invariant-loop-n l = Measured l.ns l.n-index l.w
