-- The loop of `mesh::writes::renew_all`: the old adjacent vertices so far are renewed. Assumes nothing.
use Rattle.std.proofs.Common.{◌≡◌}
use Rattle.mesh.specs.Subdivide.{renewed_to}
use Rattle.mesh.proofs.writes.renew_all.Given as goal

abbrev pub invariant-loop-j : goal.invariant-loop-j
invariant-loop-j l = l.t ≡ renewed_to l.initial.t l.v l.j
