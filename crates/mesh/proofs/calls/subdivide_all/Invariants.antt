-- The loop of `mesh::calls::subdivide_all`: the list gone through as far as triple i. Assumes nothing.
use Rattle.mesh.specs.CaseLaws.{Going}
use Rattle.mesh.proofs.calls.subdivide_all.Given as goal

abbrev pub invariant-loop-i : goal.invariant-loop-i
invariant-loop-i l = Going l.fn.table l.points l.n l.table l.free l.i
