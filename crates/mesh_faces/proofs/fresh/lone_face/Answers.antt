-- `mesh_faces::lone_face` meets its promise: by whether the opposite stands earlier. Assumes nothing.
use Rattle.std.proofs.Common.{true, false, ◌||◌, sym, ◌∙◌}
use Rattle.firsts.specs.Faces.{face}
use Rattle.firsts.specs.Earlier.{inners_in}
use Rattle.firsts.specs.EarlierLaws.{placed_at, placed-slot}
use Rattle.mesh_faces.specs.Plain.{plain-fresh}
use Rattle.mesh_faces.proofs.fresh.lone_face.Goals as goal

pub returns-then-inner_before : goal.returns-then-inner_before
returns-then-inner_before c =
    let a = c.args in
    let t = a.t.now in
    let r = c.requires.round.0 in
    plain-fresh t a.k a.v a.j c.requires.round.1 a.o.at r.chosen (face a.v.at a.a.at a.o.at a.b.at)
    (λ i. face a.v.at (placed_at t _ _ r.adjacent i) a.o.at (placed_at t _ _ r.next i)) true
    ((λ i. inners_in t a.k (sym (placed-slot t _ _ r.adjacent) i) (sym r.opposite i) (sym (placed-slot t _ _ r.next) i))
    ∙ (λ i. c.requires.slot_value.0 i || ((sym c.inner_before.ensures ∙ c.if-inner_before.true) i || c.requires.slot_value.1 i)))

pub returns-else-inner_before : goal.returns-else-inner_before
returns-else-inner_before c =
    let a = c.args in
    let t = a.t.now in
    let r = c.requires.round.0 in
    plain-fresh t a.k a.v a.j c.requires.round.1 a.o.at r.chosen (face a.v.at a.a.at a.o.at a.b.at)
    (λ i. face a.v.at (placed_at t _ _ r.adjacent i) a.o.at (placed_at t _ _ r.next i)) false
    ((λ i. inners_in t a.k (sym (placed-slot t _ _ r.adjacent) i) (sym r.opposite i) (sym (placed-slot t _ _ r.next) i))
    ∙ (λ i. c.requires.slot_value.0 i || ((sym c.inner_before.ensures ∙ c.if-inner_before.false) i || c.requires.slot_value.1 i)))
