-- `lattice::arms::near_arm` meets its promise. Assumes nothing.
use Rattle.std.proofs.Common.{sym, subst, arith}
use Rattle.lattice.specs.Bounds.{Near}
use Rattle.lattice.specs.RecordLaws.{inner-small}
use Rattle.lattice.specs.PatternLaws.{first-near}
use Rattle.lattice.proofs.arms.near_arm.Goals as goal

pub arm-requires : goal.arm-requires
arm-requires c =
    let v = c.args.v in
    let i = c.requires in
    (inner-small i, subst (Near v.n) (sym c.first_opposite.ensures) (first-near v i 0 (omega (arith, i.low))))
