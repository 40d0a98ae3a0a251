-- The invariant of `queries::regular_there`: the row filled so far and the arm to the next point, and the points so far are there.
use Rattle.std.proofs.Common.{◌≡◌, true}
use Rattle.laws.specs.Rules.{upto}
use Rattle.lattice.specs.ArmLaws.{ArmsPut}
use Rattle.lattice.specs.Stars.{adjacent_at}
use Rattle.table.specs.Entries.{holds}
use Rattle.queries.proofs.answers.regular_there.Given as goal

abbrev pub invariant-loop-j : goal.invariant-loop-j
invariant-loop-j l = record { put : ArmsPut l.v l.j l.out l.w; there : upto l.j (λ j. holds l.t (adjacent_at l.v j)) ≡ true }
