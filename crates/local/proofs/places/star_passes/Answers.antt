-- `local::star_passes` meets its promise: by the rank. Assumes nothing.
use Rattle.std.proofs.Common.{◌≡◌, sym, ◌∙◌, ap, arith}
use Rattle.lattice.specs.Ranks.{rank_of}
use Rattle.local.specs.Parents.{told_in}
use Rattle.local.specs.ParentLaws.{parents-star, root-star}
use Rattle.local.specs.BornLaws.{valid-depth, valid-born}
use Rattle.local.proofs.places.star_passes.Goals as goal

pub rank-requires : goal.rank-requires
rank-requires c = omega (arith, valid-depth c.args.r c.requires.1)

pub returns-then-rank-eq0 : goal.returns-then-rank-eq0
returns-then-rank-eq0 c = c.same_star.ensures ∙ root-star c.args.t.now c.args.r (sym c.rank.ensures ∙ c.if-rank-eq0.true)

pub parents_of-requires-clause-born : goal.parents_of-requires-clause-born
parents_of-requires-clause-born c =
    let n : rank_of c.args.r.at ≡ 0 → ⊥ = λ e. c.if-rank-eq0.false (c.rank.ensures ∙ e) in
    valid-born c.args.r c.requires.1 (omega arith)

pub as_told-requires : goal.as_told-requires
as_told-requires c =
    let n : rank_of c.args.r.at ≡ 0 → ⊥ = λ e. c.if-rank-eq0.false (c.rank.ensures ∙ e) in
    (valid-depth c.args.r c.requires.1, omega arith)

pub returns : goal.returns
returns c =
    c.as_told.ensures ∙ ap (told_in c.args.r) c.parents_of.ensures
    ∙ parents-star c.args.t.now c.args.r (λ e. c.if-rank-eq0.false (c.rank.ensures ∙ e))
