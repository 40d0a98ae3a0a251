-- `counts::narrow_else` meets its promise: by the two apexes, then by the vertices across from the side, either way. Assumes nothing.
use Rattle.std.proofs.Common.{sym, ◌∙◌}
use Rattle.counts.specs.Counted.{apex_seen}
use Rattle.counts.specs.CaseLaws.{narrow-first, narrow-second, narrow_rest}
use Rattle.counts.proofs.sides.narrow_else.Goals as goal

pub returns-then-apex_seen : goal.returns-then-apex_seen
returns-then-apex_seen c =
    let a = c.args in
    let left = (λ i. apex_seen a.t.now (sym c.requires.in_order.1.0 i) a.p a.q (sym c.requires.left_value.0 i)) ∙ sym c.apex_seen.ensures in
    narrow-first a.t.now a.k a.p a.q (left ∙ c.if-apex_seen.true)

pub returns-then-apex_seen-2 : goal.returns-then-apex_seen-2
returns-then-apex_seen-2 c =
    let a = c.args in
    let left = (λ i. apex_seen a.t.now (sym c.requires.in_order.1.0 i) a.p a.q (sym c.requires.left_value.0 i)) ∙ sym c.apex_seen.ensures in
    let right = (λ i. apex_seen a.t.now (sym c.requires.in_order.1.0 i) a.p a.q (sym c.requires.left_value.1 i)) ∙ sym c.apex_seen-2.ensures in
    narrow-second a.t.now a.k a.p a.q (left ∙ c.if-apex_seen.false) (right ∙ c.if-apex_seen-2.true)

pub returns-then-far_before : goal.returns-then-far_before
returns-then-far_before c =
    let a = c.args in
    let left = (λ i. apex_seen a.t.now (sym c.requires.in_order.1.0 i) a.p a.q (sym c.requires.left_value.0 i)) ∙ sym c.apex_seen.ensures in
    let right = (λ i. apex_seen a.t.now (sym c.requires.in_order.1.0 i) a.p a.q (sym c.requires.left_value.1 i)) ∙ sym c.apex_seen-2.ensures in
    narrow_rest a.t.now a.k a.p a.q (left ∙ c.if-apex_seen.false) (right ∙ c.if-apex_seen-2.false) _ (sym c.far_before.ensures ∙ c.if-far_before.true)

pub returns : goal.returns
returns c =
    let a = c.args in
    let left = (λ i. apex_seen a.t.now (sym c.requires.in_order.1.0 i) a.p a.q (sym c.requires.left_value.0 i)) ∙ sym c.apex_seen.ensures in
    let right = (λ i. apex_seen a.t.now (sym c.requires.in_order.1.0 i) a.p a.q (sym c.requires.left_value.1 i)) ∙ sym c.apex_seen-2.ensures in
    c.far_before-2.ensures
    ∙ narrow_rest a.t.now a.k a.p a.q (left ∙ c.if-apex_seen.false) (right ∙ c.if-apex_seen-2.false) _ (sym c.far_before.ensures ∙ c.if-far_before.false)
