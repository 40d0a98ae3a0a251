-- `mesh::calls::subdivide_ordered` meets its promise: it is the subdivision at the normalised point. Assumes nothing.
use Rattle.std.proofs.Common.{◌∙◌, ap}
use Rattle.laws.specs.Machine.{asked₂}
use Rattle.lattice.specs.Points.{normal_of}
use Rattle.table.specs.Entries.{look_up}
use Rattle.mesh.specs.CallLaws.{call-looked, after-parts}
use Rattle.mesh.proofs.calls.subdivide_ordered.Goals as goal

pub returns : goal.returns
returns c =
    let a = c.args in
    let point = asked₂ (λ x y. normal_of x y a.m) c.ranges.a c.ranges.b c.normalise.ensures in
    let p = after-parts (call-looked a.t.now a.a a.b a.m c.requires.1.0 _ (ap (look_up a.t.now) point)) in
    record { value = c.subdivide_at.ensures.value ∙ p.0; t_after = c.subdivide_at.ensures.t_after ∙ p.1 }
