-- `counts::has_either` meets its promise: one way round, then the other. Assumes nothing.
use Rattle.std.proofs.Common.{Bool, ◌||◌, ap, sym, ◌∙◌}
use Rattle.firsts.specs.Earlier.{has_far}
use Rattle.counts.specs.Counted.{has_either}
use Rattle.counts.proofs.sides.has_either.Goals as goal

pub returns-then-has_far : goal.returns-then-has_far
unfolding has_either
returns-then-has_far c = let a = c.args in ap (λ (x : Bool). x || has_far a.t.now a.q a.p a.u) (sym c.if-has_far.true ∙ c.has_far.ensures)

pub returns : goal.returns
unfolding has_either
returns c =
    let a = c.args in
    c.has_far-2.ensures ∙ ap (λ (x : Bool). x || has_far a.t.now a.q a.p a.u) (sym c.if-has_far.false ∙ c.has_far.ensures)
