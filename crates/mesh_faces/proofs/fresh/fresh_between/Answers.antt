-- `mesh_faces::fresh_between` meets its promise: by the opposite that is chosen. Assumes nothing.
use Rattle.std.proofs.Common.{sym}
use Rattle.firsts.specs.Choices.{choice-is, choice-neither}
use Rattle.mesh_faces.specs.Once.{fresh-none}
use Rattle.mesh_faces.proofs.fresh.fresh_between.Goals as goal

pub fresh_face-requires-clause-round : goal.fresh_face-requires-clause-round
fresh_face-requires-clause-round c =
    let a = c.args in
    let x = choice-is a.t.now a.v a.j c.in-Some.o (sym c.in-Some.ensures) in
    record { adjacent = c.requires.a_value.0; chosen = x.chosen; opposite = x.slot; next = c.requires.a_value.1 }

pub fresh_face-requires-clause-second_value : goal.fresh_face-requires-clause-second_value
fresh_face-requires-clause-second_value c = (choice-is c.args.t.now c.args.v c.args.j c.in-Some.o (sym c.in-Some.ensures)).spot

pub returns-in-None : goal.returns-in-None
returns-in-None c =
    let a = c.args in
    fresh-none a.t.now a.k a.v a.j (choice-neither a.t.now a.v a.j (sym c.in-None.ensures))
