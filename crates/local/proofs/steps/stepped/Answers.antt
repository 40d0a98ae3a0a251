-- `local::stepped` meets its promise. Assumes nothing.
use Rattle.std.proofs.Common.{◌∙◌, w32}
use Rattle.laws.specs.Machine.{Mx, whole, ◌+ᵐ◌, back}
use Rattle.lattice.specs.Bounds.{summable}
use Rattle.lattice.specs.Points.{normal_of}
use Rattle.local.proofs.steps.stepped.Goals as goal

pub returns : goal.returns
returns c =
    let a = c.args in
    let x : Mx w32 = whole a.a summable c.requires.a_bound.0 +ᵐ whole a.x 10 c.requires.x_bound.0 in
    let y : Mx w32 = whole a.b summable c.requires.a_bound.1 +ᵐ whole a.y 10 c.requires.x_bound.1 in
    c.lowest.ensures ∙ (λ i. normal_of (back x tt i) (back y tt i) a.m.0)
