-- `counts::far_is` meets its promise: by the adjacent point before the corner, the one after it, and the opposite that is chosen. Assumes nothing.
use Rattle.std.specs.Prelude.{Option}
use Rattle.std.proofs.Common.{ap, sym, ◌∙◌}
use Rattle.lattice.specs.Stars.{adjacent_at}
use Rattle.lattice.specs.declared.points.Point.{Point}
use Rattle.table.specs.Search.{same_point}
use Rattle.firsts.specs.Earlier.{spot_is}
use Rattle.counts.specs.CaseLaws.{far-first, far-second, far-neither}
use Rattle.counts.proofs.sides.far_is.Goals as goal

pub returns-then-same_point : goal.returns-then-same_point
returns-then-same_point c =
    let a = c.args in
    let first = ap (λ (q : Point). same_point q a.p) (sym c.adjacent_of.ensures) ∙ sym c.same_point.ensures in
    c.spot_is.ensures ∙ ap (λ (x : Option Point). spot_is x a.q) c.chosen.ensures ∙ far-first a.t.now a.p a.q a.u a.i (first ∙ c.if-same_point.true)

pub returns-then-same_point-2 : goal.returns-then-same_point-2
returns-then-same_point-2 c =
    let a = c.args in
    let first = ap (λ (q : Point). same_point q a.p) (sym c.adjacent_of.ensures) ∙ sym c.same_point.ensures in
    let second =
    ap (λ (q : Point). same_point q a.p) (sym (c.adjacent_of-2.ensures ∙ ap (adjacent_at a.u) c.next_place.ensures.0)) ∙ sym c.same_point-2.ensures in
    c.spot_is-then-same_point-2.ensures ∙ ap (λ (x : Option Point). spot_is x a.q) c.chosen-then-same_point-2.ensures
    ∙ far-second a.t.now a.p a.q a.u a.i (first ∙ c.if-same_point.false) (second ∙ c.if-same_point-2.true)

pub returns : goal.returns
returns c =
    let a = c.args in
    let first = ap (λ (q : Point). same_point q a.p) (sym c.adjacent_of.ensures) ∙ sym c.same_point.ensures in
    let second =
    ap (λ (q : Point). same_point q a.p) (sym (c.adjacent_of-2.ensures ∙ ap (adjacent_at a.u) c.next_place.ensures.0)) ∙ sym c.same_point-2.ensures in
    far-neither a.t.now a.p a.q a.u a.i (first ∙ c.if-same_point.false) (second ∙ c.if-same_point-2.false)
