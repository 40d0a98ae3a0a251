-- `mesh_faces::star_torn` meets its promise: place by place. Assumes nothing.
use Rattle.std.proofs.Common.{◌≡◌, ℕ, not, ap, sym, ◌∙◌, arith}
use Rattle.laws.specs.Rules.{upto}
use Rattle.laws.specs.Each.{upto-more, upto-fails}
use Rattle.firsts.specs.EarlierLaws.{valid-inner}
use Rattle.mesh_faces.specs.Once.{whole_corner, torn-star}
use Rattle.mesh_faces.proofs.torn.star_torn.Goals as goal

pub is_whole-requires-clause-inner : goal.is_whole-requires-clause-inner
is_whole-requires-clause-inner c =
    (valid-inner c.args.v c.loop-j.j c.requires.v_value (omega (arith, c.loop-j-test.true)), omega (arith, c.loop-j-test.true))

pub returns-then-not-is_whole : goal.returns-then-not-is_whole
returns-then-not-is_whole c =
    let a = c.args in
    sym (torn-star a.t.now a.v
    ∙ ap not (upto-fails (whole_corner a.t.now a.v) c.loop-j.j a.v.d (omega (arith, c.loop-j-test.true)) (sym c.is_whole.ensures ∙ c.if-not-is_whole.true)))

pub loop-j-preserved : goal.loop-j-preserved
loop-j-preserved c =
    upto-more (whole_corner c.args.t.now c.args.v) c.loop-j.j c.loop-j.invariant (sym c.is_whole.ensures ∙ c.if-not-is_whole.false)

pub returns : goal.returns
returns c =
    let a = c.args in
    let e : c.loop-j.j ≡ a.v.d = omega arith in
    sym (torn-star a.t.now a.v ∙ ap not (ap (λ (k : ℕ). upto k (whole_corner a.t.now a.v)) (sym e) ∙ c.loop-j.invariant))
