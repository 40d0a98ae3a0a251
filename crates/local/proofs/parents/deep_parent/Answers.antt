-- `local::deep_parent` meets its promise. Assumes nothing.
use Rattle.std.proofs.Common.{◌∙◌, ap}
use mir.Facts.{to_z-of_z}
use Rattle.local.specs.Steps.{step_by}
use Rattle.local.specs.Parents.{stand_of, stand_at}
use Rattle.local.proofs.parents.deep_parent.Goals as goal

pub returns : goal.returns
returns c =
    let t = c.args.t.now in
    let r = c.ranges in
    c.stand.ensures
    ∙ ap stand_of c.look_up.ensures
    ∙ ap (stand_at t) c.stepped.ensures
    ∙ (λ i. stand_at t (step_by (to_z-of_z r.a i) (to_z-of_z r.b i) c.args.m.0 (to_z-of_z r.x i) (to_z-of_z r.y i)))
