-- `base::beside` meets its promise. Assumes nothing.
use Rattle.std.proofs.Common.{◌∙◌}
use Rattle.std.specs.Int.{w32}
use Rattle.laws.specs.Machine.{Mx, whole, ◌+ᵐ◌, back}
use Rattle.lattice.specs.Points.{pt}
use Rattle.base.specs.LayLaws.{beside-is}
use Rattle.base.proofs.hexagons.beside.Goals as goal

pub returns : goal.returns
returns c =
    let p = c.args.p in
    let s = c.args.step in
    let x : Mx w32 = whole p.a 251 c.requires.0.wide +ᵐ whole s.a 1 c.requires.1.wide in
    let y : Mx w32 = whole p.b 251 c.requires.0.high +ᵐ whole s.b 1 c.requires.1.high in
    (λ i. pt (back x tt i) (back y tt i) 0) ∙ beside-is p s c.requires.0.depth c.requires.1.depth
