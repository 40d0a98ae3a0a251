-- The invariant of `queries::put_each_opposite`: the row filled so far.
use Rattle.queries.specs.OppositeLaws.{OppositesPut}
use Rattle.queries.proofs.answers.put_each_opposite.Given as goal

abbrev pub invariant-loop-j : goal.invariant-loop-j
invariant-loop-j l = OppositesPut l.t l.v l.j l.out
