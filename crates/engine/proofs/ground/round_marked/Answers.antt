-- `engine::ground::round_marked` meets its promise: the hexagon's centre is a point of depth 0. Assumes nothing.
use Rattle.std.proofs.Common.{◌≡◌, ap, ◌∙◌, cond, ◌+◌, ◌*◌}
use Rattle.lattice.specs.Points.{class_of}
use Rattle.lattice.specs.Ranks.{move_of}
use Rattle.growth.specs.Hexagons.{hexagon-centre}
use Rattle.std.specs.Prelude.{eqb}
use Rattle.lattice.specs.declared.points.Point.{Point}
use Rattle.engine.proofs.ground.round_marked.Goals as goal

pub is_marked-requires : goal.is_marked-requires
is_marked-requires c =
    let p = c.args.p in
    let t = c.args.t in
    let r = c.requires in
    let is : c.moved.result ≡ move_of p (cond (eqb (class_of p) 1) 2 0 + 4 * t) 0 = c.moved.ensures ∙ (λ i. move_of p (c.toward.ensures i + 4 * t) 0) in
    ap (λ (q : Point). q.m.0) is ∙ (hexagon-centre p r.1.0 r.1.1.0 t r.1.1.1).0
