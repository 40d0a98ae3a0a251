-- The invariant of `queries::adjacents_there`: the adjacent points so far are there.
use Rattle.std.proofs.Common.{◌≡◌, true}
use Rattle.laws.specs.Rules.{upto}
use Rattle.lattice.specs.Stars.{adjacent_at}
use Rattle.table.specs.Entries.{holds}
use Rattle.queries.proofs.opposites.adjacents_there.Given as goal

abbrev pub invariant-loop-j : goal.invariant-loop-j
invariant-loop-j l = upto l.j (λ j. holds l.t (adjacent_at l.v j)) ≡ true
