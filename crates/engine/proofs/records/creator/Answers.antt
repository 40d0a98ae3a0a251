-- `engine::records::creator` meets its promise: by the tests of ranks. Assumes nothing.
use Rattle.std.proofs.Common.{◌≡◌, ap, ◌∙◌, arith, ℕ, ◌-◌, ◌<◌, ◌≤◌}
use Rattle.lattice.specs.Ranks.{rank_of}
use Rattle.engine.specs.ScanLaws.{creator-first, creator-second, creator-third}
use Rattle.lattice.specs.declared.points.Point.{Point}
use Rattle.lattice.specs.RankBounds.{parent-depth}
use Rattle.engine.proofs.records.creator.Goals as goal

-- what the two tests say of the ranks that they compare
early : {x i r n : ℕ} → x ≡ r → i ≡ n → x < i - 1 → r < n - 1
early e f h = omega arith

late : {x i r n : ℕ} → x ≡ r → i ≡ n → i - 1 ≤ x → n - 1 ≤ r
late e f h = omega arith

pub rank-requires : goal.rank-requires
rank-requires c =
    omega (arith, ap (λ (q : Point). q.m.0) c.requires.first_value.0, parent-depth c.args.p 0 c.requires.m_bound.0)

pub rank-requires-2 : goal.rank-requires-2
rank-requires-2 c =
    omega (arith, ap (λ (q : Point). q.m.0) c.requires.first_value.1.0, parent-depth c.args.p 1 c.requires.m_bound.0)

pub returns-then-rank-b : goal.returns-then-rank-b
returns-then-rank-b c =
    let e = c.requires.first_value in
    e.0 ∙ creator-first c.args.p (early (c.rank.ensures ∙ ap rank_of e.0) c.rank-b.ensures c.if-rank-b.true)

pub returns-then-rank-b-2 : goal.returns-then-rank-b-2
returns-then-rank-b-2 c =
    let e = c.requires.first_value in
    e.1.0
    ∙ creator-second c.args.p (late (c.rank.ensures ∙ ap rank_of e.0) c.rank-b.ensures c.if-rank-b.false)
    (early (c.rank-2.ensures ∙ ap rank_of e.1.0) c.rank-b.ensures c.if-rank-b-2.true)

pub returns : goal.returns
returns c =
    let e = c.requires.first_value in
    e.1.1
    ∙ creator-third c.args.p (late (c.rank.ensures ∙ ap rank_of e.0) c.rank-b.ensures c.if-rank-b.false)
    (late (c.rank-2.ensures ∙ ap rank_of e.1.0) c.rank-b.ensures c.if-rank-b-2.false)
