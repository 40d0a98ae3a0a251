-- `local::lowest` meets its promise. Assumes nothing.
use Rattle.std.proofs.Common.{◌∙◌, ap, ◌-◌, ◌&&◌, Bool, cond, ℤ, pos, w32}
use Rattle.std.specs.Int.Signed.{quot_z}
use mir.Facts.{to_z-of_z}
use Rattle.laws.specs.Machine.{asked₂}
use Rattle.lattice.specs.Points.{by3, normal_of}
use Rattle.local.specs.Steps.{lowest-terms}
use Rattle.local.proofs.steps.lowest.Goals as goal

abbrev third_of : Bool → ℤ → ℤ
third_of w z = cond w (quot_z z (pos 3)) z

pub returns : goal.returns
returns c =
    let w = c.both3-whole.result in
    let fx = to_z-of_z c.ranges.x in
    let fy = to_z-of_z c.ranges.y in
    let whole = asked₂ (λ a b. by3 a && by3 b) c.ranges.x c.ranges.y c.both3-whole.ensures in
    let ex = to_z-of_z {w = w32} (record { sfits = c.third_if.type_inv }) ∙ c.third_if.ensures ∙ ap (third_of w) fx in
    let ey = to_z-of_z {w = w32} (record { sfits = c.third_if-2.type_inv }) ∙ c.third_if-2.ensures ∙ ap (third_of w) fy in
    c.normalise.ensures
    ∙ (λ i. normal_of (ex i) (ey i) (c.args.m.0 - c.from.ensures i))
    ∙ lowest-terms c.args.x c.args.y c.args.m.0 w whole c.requires
