-- `bring::locate::locate` meets its promise: by where the search for the point ended. Assumes nothing.
use Rattle.std.proofs.Common.{sym, ◌∙◌}
use Rattle.table.specs.MapLaws.{at_room}
use Rattle.mesh.specs.MetLaws.{looked-met, looked-missed}
use Rattle.bring.proofs.locate.locate.Goals as goal

pub returns-in_default : goal.returns-in_default
returns-in_default c = looked-missed c.args.t.now c.args.p c.find.result c.find.ensures.value c.in_default.not-At

pub held_in-requires : goal.held_in-requires
held_in-requires c = at_room c.args.t.now c.args.n c.requires c.args.p c.in-At.i (sym c.in-At.ensures.value)

pub returns-in_default-held_in : goal.returns-in_default-held_in
returns-in_default-held_in c = looked-met c.args.t.now c.args.p c.in-At.i c.in-At.ensures.value ∙ sym c.in_default-held_in.ensures

pub returns : goal.returns
returns c =
    let e = c.in-At.ensures.value in
    (looked-met c.args.t.now c.args.p c.in-At.i e ∙ sym c.in-Some.ensures, sym e)
