-- `lattice::arms::first_arm` meets its promise. Assumes nothing.
use Rattle.std.proofs.Common.{sym, ap, subst, ◌∙◌, arith}
use Rattle.lattice.specs.Bounds.{Near}
use Rattle.lattice.specs.RecordLaws.{inner-small}
use Rattle.lattice.specs.PatternLaws.{adjacent-near}
use Rattle.lattice.specs.Arms.{arm_by}
use Rattle.lattice.specs.ArmLaws.{foremost-adjacent}
use Rattle.lattice.proofs.arms.first_arm.Goals as goal

pub arm-requires : goal.arm-requires
arm-requires c =
    let v = c.args.v in
    let i = c.requires in
    let is = c.foremost.ensures ∙ foremost-adjacent v.d v.k i.low i.top in
    (inner-small i, subst (Near v.n) (sym is) (adjacent-near v i 0 (omega (arith, i.low))))

pub returns : goal.returns
returns c =
    let v = c.args.v in
    c.arm.ensures ∙ ap (arm_by v) (c.foremost.ensures ∙ foremost-adjacent v.d v.k c.requires.low c.requires.top)
