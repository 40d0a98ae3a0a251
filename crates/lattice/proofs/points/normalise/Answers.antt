-- `lattice::points::normalise` meets its promise: a turn of the loop is one step of normalising. Assumes nothing.
use Rattle.std.proofs.Common.{◌≡◌, ◌∙◌, ap, arith, to_z, w32, pos, SFits}
use Rattle.std.proofs.Math.Facts.{sfits_to_z}
use Rattle.std.proofs.lemmas.Int.{to_z-of_z}
use Rattle.std.proofs.lemmas.Grind.{common_steps}
use Rattle.std.specs.Int.Signed.{quot_z}
use Rattle.laws.specs.Sizes.{fits-quot}
use Rattle.lattice.specs.Points.{normal_of}
use Rattle.lattice.specs.PointLaws.{normal-step, normal-stop, normal-zero}
use Rattle.lattice.proofs.points.normalise.Goals as goal

pub loop-d-preserved : goal.loop-d-preserved
loop-d-preserved c =
    let x : SFits w32 (quot_z (to_z w32 c.loop-d.x-bits) (pos 3)) = fits-quot w32 _ 3 (sfits_to_z c.loop-d.auto.x-fits) in
    let y : SFits w32 (quot_z (to_z w32 c.loop-d.y-bits) (pos 3)) = fits-quot w32 _ 3 (sfits_to_z c.loop-d.auto.y-fits) in
    grind (arith, to_z-of_z, normal-step)

pub returns-then-not-both3 : goal.returns-then-not-both3
returns-then-not-both3 c = grind (arith, common_steps, normal-stop)

pub returns : goal.returns
returns c =
    let e : 0 ≡ c.loop-d.d = omega arith in
    normal-zero _ _ ∙ ap (normal_of _ _) e ∙ grind (arith, common_steps, c.loop-d.invariant)
