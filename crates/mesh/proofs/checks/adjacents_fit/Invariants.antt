-- The loop of `mesh::checks::adjacents_fit`: the old adjacent vertices so far fit, and stand in the slots kept. Assumes nothing.
use Rattle.std.proofs.Common.{◌≡◌, true, length}
use Rattle.laws.specs.Rules.{upto}
use Rattle.mesh.specs.Subdivide.{adjacent_fits}
use Rattle.mesh.specs.Met.{OldIn}
use Rattle.mesh.proofs.checks.adjacents_fit.Given as goal

abbrev pub invariant-loop-j : goal.invariant-loop-j
invariant-loop-j l = record { fit : upto l.j (adjacent_fits l.t l.v) ≡ true; long : length l.slots ≡ 6; old_in : OldIn l.t l.v l.slots l.j }
