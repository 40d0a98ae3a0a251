-- `firsts::face_in` meets its promise: by what stands before the slot. Assumes nothing.
use Rattle.std.proofs.Common.{sym, ◌∙◌, ap, arith}
use Rattle.firsts.specs.Earlier.{held_and, names_face, face_in}
use Rattle.firsts.specs.EarlierLaws.{earlier-valid}
use Rattle.firsts.proofs.faces.face_in.Goals as goal

pub names_face-requires-clause-u_value : goal.names_face-requires-clause-u_value
names_face-requires-clause-u_value c =
    earlier-valid c.args.t.now c.requires.0 c.args.k (omega (arith, c.requires.1.0, c.requires.1.1)) c.args.s c.in-Some.u (sym c.earlier.ensures ∙ c.in-Some.is)

pub returns-in-None : goal.returns-in-None
unfolding face_in
returns-in-None c = ap (held_and (names_face c.args.t.now c.args.f)) (sym c.in-None.is ∙ c.earlier.ensures)

pub returns-in-Some : goal.returns-in-Some
unfolding face_in
returns-in-Some c = c.names_face.ensures ∙ ap (held_and (names_face c.args.t.now c.args.f)) (sym c.in-Some.is ∙ c.earlier.ensures)
