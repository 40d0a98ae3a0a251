-- What is left of the list has the first bad centre of the whole, and the marks are the centres so far. Assumes nothing.
use Rattle.std.proofs.Common.{◌≡◌, ◌-◌}
use Rattle.centres.specs.Centres.{first_bad}
use Rattle.centres.specs.Marks.{Marked}
use Rattle.centres.proofs.first_bad.Given as goal

abbrev pub invariant-loop-i : goal.invariant-loop-i
invariant-loop-i l = (first_bad l.centres l.i (l.count - l.i) ≡ first_bad l.centres 0 l.count) × Marked l.marks l.centres l.i
