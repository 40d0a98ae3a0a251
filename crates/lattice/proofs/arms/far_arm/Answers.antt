-- `lattice::arms::far_arm` meets its promise. Assumes nothing.
use Rattle.std.proofs.Common.{sym, subst, arith}
use Rattle.lattice.specs.Bounds.{Near}
use Rattle.lattice.specs.RecordLaws.{inner-small}
use Rattle.lattice.specs.ArmLaws.{far-bounded}
use Rattle.lattice.proofs.arms.far_arm.Goals as goal

pub arm-requires : goal.arm-requires
arm-requires c =
    let v = c.args.v in
    let i = c.requires.0 in
    (inner-small i, subst (Near v.n) (sym c.farther.ensures) (far-bounded v c.requires.1 0 (omega (arith, i.low)) i))
