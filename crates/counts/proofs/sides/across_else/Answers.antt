-- `counts::across_else` meets its promise: by whether the vertex stands at an apex. Assumes nothing.
use Rattle.std.proofs.Common.{ap, sym, ◌∙◌, ◌||◌}
use Rattle.table.specs.Search.{same_point}
use Rattle.counts.specs.Counted.{apex_seen}
use Rattle.counts.specs.CaseLaws.{across-left, across-right, across-narrow}
use Rattle.counts.proofs.sides.across_else.Goals as goal

pub returns-then-same_point : goal.returns-then-same_point
returns-then-same_point c =
    let a = c.args in
    let left = ap (same_point a.v) (sym c.apex-left.ensures) ∙ sym c.same_point.ensures in
    c.apex_seen.ensures ∙ ap (apex_seen a.t.now a.k a.p a.q) c.apex-right.ensures ∙ across-left a.t.now a.k a.v a.p a.q (left ∙ c.if-same_point.true)

pub returns-then-same_point-2 : goal.returns-then-same_point-2
returns-then-same_point-2 c =
    let a = c.args in
    let left = ap (same_point a.v) (sym c.apex-left.ensures) ∙ sym c.same_point.ensures in
    let right = ap (same_point a.v) (sym c.apex-right.ensures) ∙ sym c.same_point-2.ensures in
    c.apex_seen-then-same_point-2.ensures ∙ ap (apex_seen a.t.now a.k a.p a.q) c.apex-left.ensures
    ∙ across-right a.t.now a.k a.v a.p a.q (left ∙ c.if-same_point.false) (right ∙ c.if-same_point-2.true)

pub returns-then-seen : goal.returns-then-seen
returns-then-seen c =
    let a = c.args in
    let e = ap (same_point a.v) (sym c.apex-left.ensures) ∙ sym c.same_point.ensures ∙ c.if-same_point.false in
    let h = ap (same_point a.v) (sym c.apex-right.ensures) ∙ sym c.same_point-2.ensures ∙ c.if-same_point-2.false in
    sym (c.requires.spared_across c.if-seen.true (λ i. e i || h i)) ∙ across-narrow a.t.now a.k a.v a.p a.q e h

pub returns : goal.returns
returns c =
    let a = c.args in
    let left = ap (same_point a.v) (sym c.apex-left.ensures) ∙ sym c.same_point.ensures in
    let right = ap (same_point a.v) (sym c.apex-right.ensures) ∙ sym c.same_point-2.ensures in
    c.narrow_else.ensures ∙ across-narrow a.t.now a.k a.v a.p a.q (left ∙ c.if-same_point.false) (right ∙ c.if-same_point-2.false)
