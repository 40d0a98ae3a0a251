-- `engine::records::star` meets its promise: by the rank. Assumes nothing.
use Rattle.std.proofs.Common.{sym, ◌∙◌, arith, ◌+◌, ◌-◌, ◌%◌}
use Rattle.growth.specs.Sheets.{vertex}
use Rattle.growth.specs.Model.{by_splits}
use Rattle.engine.specs.ScanLaws.{star-zero, star-more}
use Rattle.lattice.specs.RankBounds.{birth-below}
use Rattle.engine.proofs.records.star.Goals as goal

pub returns-then-b-eq0 : goal.returns-then-b-eq0
returns-then-b-eq0 c =
    let a = c.args in
    let r = c.rank-b.ensures in
    c.filled.ensures
    ∙ (λ i. vertex a.p 6 ((r i + a.s.times) % 2) (r i + a.s.times))
    ∙ star-zero a.p a.s (sym r ∙ c.if-b-eq0.true)

pub by_splits-requires : goal.by_splits-requires
by_splits-requires c = omega (arith, birth-below c.args.p, c.birth.ensures)

pub returns : goal.returns
returns c =
    let a = c.args in
    let r = c.rank-b.ensures in
    c.by_splits.ensures
    ∙ (λ i. by_splits a.p a.s.first a.s.second a.s.third (c.birth.ensures i) (r i - 1) (r i + a.s.times))
    ∙ star-more a.p a.s (λ h. c.if-b-eq0.false (r ∙ h))
