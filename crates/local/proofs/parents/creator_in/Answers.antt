-- `local::creator_in` meets its promise: by the tests of ranks. Assumes nothing.
use Rattle.std.proofs.Common.{◌≡◌, ◌≤◌, ◌<◌, ℕ, ◌-◌, ◌∙◌, ap, arith}
use Rattle.lattice.specs.Ranks.{rank_of}
use Rattle.lattice.specs.RankBounds.{parent-depth}
use Rattle.lattice.specs.declared.points.Point.{Point}
use Rattle.local.specs.ParentLaws.{creator-first, creator-second, creator-third}
use Rattle.local.proofs.parents.creator_in.Goals as goal

-- what the two tests say of the ranks that they compare
early : {x i r n : ℕ} → x ≡ r → i ≡ n → x < i - 1 → r < n - 1
early e f h = omega arith

late : {x i r n : ℕ} → x ≡ r → i ≡ n → i - 1 ≤ x → n - 1 ≤ r
late e f h = omega arith

pub rank-requires : goal.rank-requires
rank-requires c = omega (arith, ap (λ (q : Point). q.m.0) c.parent.ensures, parent-depth c.args.p 0 c.requires.depth)

pub returns-then-rank-b : goal.returns-then-rank-b
returns-then-rank-b c = creator-first c.args.p c.args.s (early (c.rank.ensures ∙ ap rank_of c.parent.ensures) c.rank-b.ensures c.if-rank-b.true)

pub rank-requires-2 : goal.rank-requires-2
rank-requires-2 c = omega (arith, ap (λ (q : Point). q.m.0) c.parent-2.ensures, parent-depth c.args.p 1 c.requires.depth)

pub returns-then-rank-b-2 : goal.returns-then-rank-b-2
returns-then-rank-b-2 c =
    creator-second c.args.p c.args.s (late (c.rank.ensures ∙ ap rank_of c.parent.ensures) c.rank-b.ensures c.if-rank-b.false)
    (early (c.rank-2.ensures ∙ ap rank_of c.parent-2.ensures) c.rank-b.ensures c.if-rank-b-2.true)

pub returns : goal.returns
returns c =
    creator-third c.args.p c.args.s (late (c.rank.ensures ∙ ap rank_of c.parent.ensures) c.rank-b.ensures c.if-rank-b.false)
    (late (c.rank-2.ensures ∙ ap rank_of c.parent-2.ensures) c.rank-b.ensures c.if-rank-b-2.false)
