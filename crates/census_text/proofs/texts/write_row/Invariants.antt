-- The loop of `census_text::write_row`: the numbers so far are written. Assumes nothing.
use Rattle.census_text.specs.TextLaws.{Rowed}
use Rattle.census_text.proofs.texts.write_row.Given as goal

abbrev pub invariant-loop-i : goal.invariant-loop-i
invariant-loop-i l = Rowed l.initial.out l.at l.ns l.i l.out l.p
