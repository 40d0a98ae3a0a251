-- `mesh_faces::fresh_face` meets its promise: by whether an earlier vertex has the face. Assumes nothing.
use Rattle.std.proofs.Common.{true, false, sym, ◌∙◌, subst}
use Rattle.firsts.specs.Faces.{face}
use Rattle.firsts.specs.EarlierLaws.{placed_at}
use Rattle.firsts.specs.Strides.{ToldOf}
use Rattle.firsts.specs.declared.faces.Face.{Face}
use Rattle.mesh_faces.specs.Once.{fresh-face}
use Rattle.mesh_faces.proofs.fresh.fresh_face.Goals as goal

pub face_seen-requires-clause-told_of : goal.face_seen-requires-clause-told_of
face_seen-requires-clause-told_of c =
    let a = c.args in
    let t = a.t.now in
    let r = c.requires.round in
    subst (λ (g : Face). ToldOf t g a.a.slot a.o.slot a.b.slot c.fits_of-fits.result)
    (λ i. face a.v.at (sym (placed_at t _ _ r.adjacent) i) a.o.at (sym (placed_at t _ _ r.next) i)) c.fits_of-fits.ensures

pub returns-then-face_seen : goal.returns-then-face_seen
returns-then-face_seen c =
    let a = c.args in
    let r = c.requires.round in
    fresh-face a.t.now a.k a.v a.j a.o.at r.chosen (face a.v.at a.a.at a.o.at a.b.at)
    (λ i. face a.v.at (placed_at a.t.now _ _ r.adjacent i) a.o.at (placed_at a.t.now _ _ r.next i)) true (sym c.face_seen.ensures ∙ c.if-face_seen.true)

pub returns-else-face_seen : goal.returns-else-face_seen
returns-else-face_seen c =
    let a = c.args in
    let r = c.requires.round in
    fresh-face a.t.now a.k a.v a.j a.o.at r.chosen (face a.v.at a.a.at a.o.at a.b.at)
    (λ i. face a.v.at (placed_at a.t.now _ _ r.adjacent i) a.o.at (placed_at a.t.now _ _ r.next i)) false (sym c.face_seen.ensures ∙ c.if-face_seen.false)
