-- The loop of `mesh::writes::enter_all`: the new vertices so far are entered. Assumes nothing.
use Rattle.std.proofs.Common.{◌≡◌}
use Rattle.mesh.specs.Subdivide.{entered_to}
use Rattle.mesh.proofs.writes.enter_all.Given as goal

abbrev pub invariant-loop-j : goal.invariant-loop-j
invariant-loop-j l = l.t ≡ entered_to l.initial.t l.c l.j
