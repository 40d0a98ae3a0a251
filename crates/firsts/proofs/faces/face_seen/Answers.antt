-- `firsts::face_seen` meets its promise: by what is known, else by asking. Assumes nothing.
use Rattle.std.proofs.Common.{sym, ◌∙◌, arith}
use Rattle.firsts.specs.Earlier.{inners_in}
use Rattle.firsts.specs.CaseLaws.{inners-none}
use Rattle.firsts.specs.ToldLaws.{told-before}
use Rattle.firsts.proofs.faces.face_seen.Goals as goal

pub returns-then-told_earlier : goal.returns-then-told_earlier
returns-then-told_earlier c =
    let a = c.args in
    let e = c.requires.adjacent_value in
    sym (told-before a.t.now a.k (omega arith) a.f a.adjacent a.opposite a.next a.fits c.requires.told_of e.0 e.1.0 e.1.1
    (sym c.told_earlier.ensures ∙ c.if-told_earlier.true))

pub returns-then-not-inners_before : goal.returns-then-not-inners_before
returns-then-not-inners_before c =
    let a = c.args in
    let e = c.requires.adjacent_value in
    sym (inners-none a.t.now a.k a.f
    ((λ i. inners_in a.t.now a.k (sym e.0 i) (sym e.1.0 i) (sym e.1.1 i)) ∙ sym c.inners_before.ensures ∙ c.if-not-inners_before.true))
