-- The adjacent points so far, then zeros. Assumes nothing.
use Rattle.std.proofs.Common.{◌≡◌}
use Rattle.lattice.specs.Stars.{adjacent_at, nowhere}
use Rattle.lattice.specs.AnswerRowLaws.{six_numbers, mixed}
use Rattle.lattice.proofs.stars.put_each.Given as goal

abbrev pub invariant-loop-j : goal.invariant-loop-j
invariant-loop-j l = l.out ≡ six_numbers l.v.d (mixed (adjacent_at l.v) (λ i. nowhere) l.j)
