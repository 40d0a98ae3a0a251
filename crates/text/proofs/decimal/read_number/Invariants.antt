-- `text::read_number`: the digits so far are read. Assumes nothing.
use Rattle.text.specs.ReadingLaws.{Scanned}
use Rattle.text.proofs.decimal.read_number.Given as goal

abbrev pub invariant-loop-i : goal.invariant-loop-i
invariant-loop-i l = Scanned l.t l.at l.most l.i l.v
