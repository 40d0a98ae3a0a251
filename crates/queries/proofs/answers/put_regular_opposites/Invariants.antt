-- The invariant of `queries::put_regular_opposites`: the row filled so far, and the arms of the next corner.
use Rattle.queries.specs.OppositeLaws.{OppositesPut, ArmsAt}
use Rattle.queries.proofs.answers.put_regular_opposites.Given as goal

abbrev pub invariant-loop-j : goal.invariant-loop-j
invariant-loop-j l = record { put : OppositesPut l.t l.v l.j l.out; arms : ArmsAt l.v l.j l.near l.far }
