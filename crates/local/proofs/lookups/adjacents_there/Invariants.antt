-- The invariant of `local::adjacents_there`: the adjacents so far are there. Assumes nothing.
use Rattle.std.proofs.Common.{◌≡◌, true}
use Rattle.laws.specs.Rules.{upto}
use Rattle.lattice.specs.Stars.{adjacent_at}
use Rattle.growth.specs.Local.{there}
use Rattle.local.specs.Sheet.{sheet_of}
use Rattle.local.proofs.lookups.adjacents_there.Given as goal

abbrev pub invariant-loop-j : goal.invariant-loop-j
invariant-loop-j l = upto l.j (λ j. there (sheet_of l.t) (adjacent_at l.r j)) ≡ true
