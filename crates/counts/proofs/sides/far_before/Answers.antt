-- `counts::far_before` meets its promise: place by place. Assumes nothing.
use Rattle.std.proofs.Common.{◌≡◌, ℕ, sym, ◌∙◌, ap, arith}
use Rattle.laws.specs.Rules.{among}
use Rattle.laws.specs.Each.{at-among, among-more}
use Rattle.counts.specs.Counted.{far_seen, far_before}
use Rattle.counts.proofs.sides.far_before.Goals as goal

pub returns-then-far_seen : goal.returns-then-far_seen
unfolding far_before
returns-then-far_seen c =
    let a = c.args in
    sym (at-among (far_seen a.t.now a.k a.p a.q) 8 c.loop-c.c (omega (arith, c.loop-c-test.true)) (sym c.far_seen.ensures ∙ c.if-far_seen.true))

pub loop-c-preserved : goal.loop-c-preserved
loop-c-preserved c =
    let a = c.args in
    among-more (far_seen a.t.now a.k a.p a.q) c.loop-c.c c.loop-c.invariant (sym c.far_seen.ensures ∙ c.if-far_seen.false)

pub returns : goal.returns
unfolding far_before
returns c =
    let a = c.args in
    let e : c.loop-c.c ≡ 8 = omega arith in
    sym c.loop-c.invariant ∙ ap (λ (k : ℕ). among k (far_seen a.t.now a.k a.p a.q)) e
