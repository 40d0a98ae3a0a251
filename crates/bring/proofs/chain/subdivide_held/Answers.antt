-- `bring::chain::subdivide_held` meets its promise. Assumes nothing.
use Rattle.std.proofs.Common.{refl}
use Rattle.mesh.specs.StepLaws.{held-made}
use Rattle.bring.proofs.chain.subdivide_held.Goals as goal

pub returns : goal.returns
returns c =
    let e = c.in_ok-subdivide_vertex.ensures in
    (held-made c.requires.0 c.args.u c.requires.1.0 0 c.subdivide_vertex.new.t refl e.value e.t_after).1
