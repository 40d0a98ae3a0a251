-- `firsts::face_before` meets its promise: by the three other vertices, one after the other. Assumes nothing.
use Rattle.std.proofs.Common.{sym, ◌∙◌, ap}
use Rattle.firsts.specs.Earlier.{face_in}
use Rattle.firsts.specs.Faces.{turned}
use Rattle.firsts.specs.CaseLaws.{before-second, before-third, before-fourth}
use Rattle.firsts.proofs.faces.face_before.Goals as goal

pub returns-then-face_in : goal.returns-then-face_in
returns-then-face_in c =
    let a = c.args in
    before-second a.t.now a.k a.f
    ((λ i. face_in a.t.now a.k (sym c.turn-second.ensures i) (sym c.requires.adjacent_value.0 i)) ∙ sym c.face_in.ensures ∙ c.if-face_in.true)

pub returns-then-face_in-2 : goal.returns-then-face_in-2
returns-then-face_in-2 c =
    let a = c.args in
    before-third a.t.now a.k a.f
    ((λ i. face_in a.t.now a.k (sym (c.turn-third.ensures ∙ ap turned c.turn-second.ensures) i) (sym c.requires.adjacent_value.1.0 i))
    ∙ sym c.face_in-2.ensures ∙ c.if-face_in-2.true)

pub returns : goal.returns
returns c =
    let a = c.args in
    let e = c.requires.adjacent_value in
    c.face_in-3.ensures
    ∙ (λ i. face_in a.t.now a.k ((c.turn.ensures ∙ ap turned (c.turn-third.ensures ∙ ap turned c.turn-second.ensures)) i) (e.1.1 i))
    ∙ before-fourth a.t.now a.k a.f
    ((λ i. face_in a.t.now a.k (sym c.turn-second.ensures i) (sym e.0 i)) ∙ sym c.face_in.ensures ∙ c.if-face_in.false)
    ((λ i. face_in a.t.now a.k (sym (c.turn-third.ensures ∙ ap turned c.turn-second.ensures) i) (sym e.1.0 i))
    ∙ sym c.face_in-2.ensures ∙ c.if-face_in-2.false)
