-- `lattice::points::added` meets its promise. Assumes nothing.
use Rattle.std.proofs.Common.{◌∙◌, w32}
use Rattle.lattice.specs.Bounds.{summable}
use Rattle.laws.specs.Machine.{Mx, back, whole, ◌+ᵐ◌}
use Rattle.lattice.specs.Points.{normal_of}
use Rattle.lattice.proofs.points.added.Goals as goal

pub returns : goal.returns
returns c =
    let w = c.args.w in
    let r = c.requires in
    let across : Mx w32 = whole w.a summable r.a +ᵐ whole w.x summable r.x in
    let up : Mx w32 = whole w.b summable r.b +ᵐ whole w.y summable r.y in
    c.normalise.ensures ∙ (λ i. normal_of (back across tt i) (back up tt i) w.m.0)
