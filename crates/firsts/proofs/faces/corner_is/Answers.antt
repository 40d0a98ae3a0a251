-- `firsts::corner_is` meets its promise: by its adjacent point, the next, and the opposite that is chosen. Assumes nothing.
use Rattle.std.specs.Prelude.{Option}
use Rattle.std.proofs.Common.{sym, ◌∙◌, ap}
use Rattle.lattice.specs.Stars.{adjacent_at}
use Rattle.lattice.specs.declared.points.Point.{Point}
use Rattle.table.specs.Search.{same_point}
use Rattle.firsts.specs.Earlier.{spot_is}
use Rattle.firsts.specs.CaseLaws.{corner-first, corner-second, corner-third}
use Rattle.firsts.proofs.faces.corner_is.Goals as goal

pub returns-then-not-same_point : goal.returns-then-not-same_point
returns-then-not-same_point c =
    let a = c.args in
    let at = c.adjacent_of.ensures in
    corner-first a.t.now a.u a.f a.i (ap (λ (p : Point). same_point p a.f.adjacent) (sym at) ∙ sym c.same_point.ensures ∙ c.if-not-same_point.true)

pub returns-then-not-same_point-2 : goal.returns-then-not-same_point-2
returns-then-not-same_point-2 c =
    let a = c.args in
    let at = c.adjacent_of-2.ensures ∙ ap (adjacent_at a.u) c.next_place.ensures.0 in
    corner-second a.t.now a.u a.f a.i (ap (λ (p : Point). same_point p a.f.next) (sym at) ∙ sym c.same_point-2.ensures ∙ c.if-not-same_point-2.true)

pub returns : goal.returns
returns c =
    let a = c.args in
    let at = c.adjacent_of.ensures in
    let after = c.adjacent_of-2.ensures ∙ ap (adjacent_at a.u) c.next_place.ensures.0 in
    c.spot_is.ensures ∙ ap (λ (x : Option Point). spot_is x a.f.opposite) c.chosen.ensures
    ∙ corner-third a.t.now a.u a.f a.i (ap (λ (p : Point). same_point p a.f.adjacent) (sym at) ∙ sym c.same_point.ensures ∙ c.if-not-same_point.false)
    (ap (λ (p : Point). same_point p a.f.next) (sym after) ∙ sym c.same_point-2.ensures ∙ c.if-not-same_point-2.false)
