-- `mesh::calls::subdivide_at` meets its promise: by where the search for the point ended. Assumes nothing.
use Rattle.std.specs.Prelude.{Some}
use Rattle.std.proofs.Common.{◌≡◌, sym, ◌∙◌, ap, refl}
use Rattle.table.specs.Search.{find_of}
use Rattle.table.specs.Entries.{look_up}
use Rattle.table.specs.OrderLaws.{test-order}
use Rattle.table.specs.MapLaws.{at_room, lookup-point}
use Rattle.mesh.specs.CallLaws.{looked-standing}
use Rattle.mesh.specs.MetLaws.{looked-met, looked-missed}
use Rattle.mesh.proofs.calls.subdivide_at.Goals as goal

pub returns-in_default : goal.returns-in_default
returns-in_default c =
    rw (looked-missed c.args.t.now c.args.p c.find.result c.find.ensures.value c.in_default.not-At) (record { value = refl; t_after = refl })

pub held_in-requires : goal.held_in-requires
held_in-requires c = at_room c.args.t.now c.args.n c.requires.0 c.args.p c.in-At.i (sym c.in-At.ensures.value)

pub subdivide_vertex-requires : goal.subdivide_vertex-requires
subdivide_vertex-requires c =
    let t = c.args.t.now in
    let p = c.args.p in
    let v = c.in-Some.v in
    let o = test-order t c.requires.1.0 in
    let l : look_up t p ≡ Some v = looked-met t p c.in-At.i c.in-At.ensures.value ∙ sym c.in-Some.ensures in (
      c.requires.0,
      (looked-standing t o p v l, (ap (find_of t) (lookup-point t o p v l) ∙ sym c.in-At.ensures.value, c.requires.1.1)),
    )

pub returns : goal.returns
returns c =
    let l : look_up c.args.t.now c.args.p ≡ Some c.in-Some.v = looked-met c.args.t.now c.args.p c.in-At.i c.in-At.ensures.value ∙ sym c.in-Some.ensures in
    rw l c.subdivide_vertex.ensures
