-- `counts::has_far` meets its promise: place by place. Assumes nothing.
use Rattle.std.proofs.Common.{◌≡◌, ℕ, sym, ◌∙◌, ap, arith}
use Rattle.laws.specs.Rules.{among}
use Rattle.laws.specs.Each.{at-among, among-more}
use Rattle.firsts.specs.Earlier.{far_is, has_far}
use Rattle.firsts.specs.EarlierLaws.{valid-inner}
use Rattle.counts.proofs.sides.has_far.Goals as goal

pub far_is-requires-clause-inner : goal.far_is-requires-clause-inner
far_is-requires-clause-inner c =
    (valid-inner c.args.u c.loop-i.i c.requires.u_value (omega (arith, c.loop-i-test.true)), omega (arith, c.loop-i-test.true))

pub returns-then-far_is : goal.returns-then-far_is
unfolding has_far
returns-then-far_is c =
    sym (at-among (far_is c.args.t.now c.args.p c.args.q c.args.u) c.args.u.d c.loop-i.i (omega (arith, c.loop-i-test.true)) (sym c.far_is.ensures ∙ c.if-far_is.true))

pub loop-i-preserved : goal.loop-i-preserved
loop-i-preserved c = among-more (far_is c.args.t.now c.args.p c.args.q c.args.u) c.loop-i.i c.loop-i.invariant (sym c.far_is.ensures ∙ c.if-far_is.false)

pub returns : goal.returns
unfolding has_far
returns c =
    let e : c.loop-i.i ≡ c.args.u.d = omega arith in
    sym c.loop-i.invariant ∙ ap (λ (k : ℕ). among k (far_is c.args.t.now c.args.p c.args.q c.args.u)) e
