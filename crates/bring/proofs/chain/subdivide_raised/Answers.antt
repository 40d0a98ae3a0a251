-- `bring::chain::subdivide_raised` meets its promise. Assumes nothing.
use Rattle.std.specs.Prelude.{Some}
use Rattle.std.proofs.Common.{◌≡◌, sym, ◌∙◌, ap}
use Rattle.lattice.specs.declared.refusals.Refusal.TheVariants.{Torn}
use Rattle.table.specs.Slots.{slot_at}
use Rattle.table.specs.Entries.{look_up, held_in}
use Rattle.table.specs.MapLaws.{at_room}
use Rattle.mesh.specs.Subdivide.{subdivide_vertex}
use Rattle.mesh.specs.StepLaws.{leaves-here, leaves_same}
use Rattle.bring.specs.Bring.{raised_at}
use Rattle.bring.specs.ChainLaws.{located, slot_is}
use Rattle.bring.proofs.chain.subdivide_raised.Goals as goal

pub held_in-requires : goal.held_in-requires
held_in-requires c = at_room c.args.t.now c.args.n c.requires.0.table c.requires.1.point c.args.i c.requires.1.ends

pub returns-in_default : goal.returns-in_default
returns-in_default c =
    let t = c.args.t.now in
    leaves-here t c.args.n c.args.free c.requires.0 (raised_at t (held_in (slot_at t c.args.i))) Torn (ap (raised_at t) c.in_default.ensures)

pub subdivide_held-requires : goal.subdivide_held-requires
subdivide_held-requires c =
    let t = c.args.t.now in
    let w = c.requires.1 in
    let e : look_up t w.point ≡ Some c.in-Some.u = sym (slot_is t w.point c.args.i w.ends) ∙ sym c.in-Some.ensures in
    (c.requires.0, located c.requires.0.order w.point c.in-Some.u c.args.i (e, w.ends))

pub returns : goal.returns
returns c =
    let t = c.args.t.now in
    leaves_same t (subdivide_vertex t c.in-Some.u) (raised_at t (held_in (slot_at t c.args.i))) c.subdivide_held.result c.subdivide_held.new.t
    (ap (raised_at t) c.in-Some.ensures) c.subdivide_held.ensures
