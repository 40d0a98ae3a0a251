-- `local::creator_over` meets its promise: all were subdivided, or the creator tells. Assumes nothing.
use Rattle.std.proofs.Common.{ℕ, ◌-◌, sym, ◌∙◌, ap}
use Rattle.local.specs.Parents.{split, creator_in}
use Rattle.local.specs.ParentLaws.{creator-any}
use Rattle.local.proofs.parents.creator_over.Goals as goal

pub returns-then-all_split : goal.returns-then-all_split
returns-then-all_split c =
    let a = c.args in
    creator-any a.p a.s (c.rank-b.result.0 - 2) (sym c.all_split.ensures ∙ c.if-all_split.true)
    ∙ ap (λ (b : ℕ). split (b - 2) (creator_in a.p a.s)) c.rank-b.ensures

pub returns : goal.returns
returns c = c.is_split.ensures ∙ (λ i. split (c.rank-b.ensures i - 2) (c.creator_in.ensures i))
