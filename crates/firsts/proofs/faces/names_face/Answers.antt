-- `firsts::names_face` meets its promise: corner by corner. Assumes nothing.
use Rattle.std.proofs.Common.{◌≡◌, ℕ, sym, ◌∙◌, ap, arith}
use Rattle.laws.specs.Rules.{among}
use Rattle.laws.specs.Each.{at-among, among-more}
use Rattle.firsts.specs.Earlier.{corner_is, names_face}
use Rattle.firsts.specs.EarlierLaws.{valid-inner}
use Rattle.firsts.proofs.faces.names_face.Goals as goal

pub corner_is-requires-clause-inner : goal.corner_is-requires-clause-inner
corner_is-requires-clause-inner c =
    (valid-inner c.args.u c.loop-i.i c.requires.u_value (omega (arith, c.loop-i-test.true)), omega (arith, c.loop-i-test.true))

pub returns-then-corner_is : goal.returns-then-corner_is
unfolding names_face
returns-then-corner_is c =
    sym (at-among (corner_is c.args.t.now c.args.u c.args.f) c.args.u.d c.loop-i.i (omega (arith, c.loop-i-test.true))
    (sym c.corner_is.ensures ∙ c.if-corner_is.true))

pub loop-i-preserved : goal.loop-i-preserved
loop-i-preserved c = among-more (corner_is c.args.t.now c.args.u c.args.f) c.loop-i.i c.loop-i.invariant (sym c.corner_is.ensures ∙ c.if-corner_is.false)

pub returns : goal.returns
unfolding names_face
returns c =
    let e : c.loop-i.i ≡ c.args.u.d = omega arith in
    sym c.loop-i.invariant ∙ ap (λ (k : ℕ). among k (corner_is c.args.t.now c.args.u c.args.f)) e
