-- `counts::has_near` meets its promise: place by place. Assumes nothing.
use Rattle.std.proofs.Common.{◌≡◌, ℕ, sym, ◌∙◌, ap, arith}
use Rattle.laws.specs.Rules.{among}
use Rattle.laws.specs.Each.{at-among, among-more}
use Rattle.firsts.specs.Earlier.{near_is, has_near}
use Rattle.firsts.specs.EarlierLaws.{valid-inner}
use Rattle.counts.proofs.sides.has_near.Goals as goal

pub near_is-requires-clause-inner : goal.near_is-requires-clause-inner
near_is-requires-clause-inner c =
    (valid-inner c.args.u c.loop-i.i c.requires.u_value (omega (arith, c.loop-i-test.true)), omega (arith, c.loop-i-test.true))

pub returns-then-near_is : goal.returns-then-near_is
unfolding has_near
returns-then-near_is c =
    sym (at-among (near_is c.args.t.now c.args.p c.args.u) c.args.u.d c.loop-i.i (omega (arith, c.loop-i-test.true)) (sym c.near_is.ensures ∙ c.if-near_is.true))

pub loop-i-preserved : goal.loop-i-preserved
loop-i-preserved c = among-more (near_is c.args.t.now c.args.p c.args.u) c.loop-i.i c.loop-i.invariant (sym c.near_is.ensures ∙ c.if-near_is.false)

pub returns : goal.returns
unfolding has_near
returns c =
    let e : c.loop-i.i ≡ c.args.u.d = omega arith in
    sym c.loop-i.invariant ∙ ap (λ (k : ℕ). among k (near_is c.args.t.now c.args.p c.args.u)) e
