-- The row filled so far, and the arm to the next point. Assumes nothing.
use Rattle.lattice.specs.ArmLaws.{ArmsPut}
use Rattle.lattice.proofs.stars.put_regular.Given as goal

abbrev pub invariant-loop-j : goal.invariant-loop-j
invariant-loop-j l = ArmsPut l.v l.j l.out l.w
