-- `local::deep_passes` meets its promise: the tests in their order, all of the parents as they were looked up. Assumes nothing.
use Rattle.std.proofs.Common.{sym, ◌∙◌, arith}
use Rattle.local.specs.Parents.{all_there, creator_over, told_in}
use Rattle.local.specs.BornLaws.{valid-depth, valid-born, rank-deep}
use Rattle.local.specs.PlaceLaws.{first-fails, second-fails, third-decides, deep-boundary, deep-by}
use Rattle.local.proofs.places.deep_passes.Goals as goal

pub returns-then-r-eq0 : goal.returns-then-r-eq0
returns-then-r-eq0 c = deep-boundary c.args.t.now c.args.r c.if-r-eq0.true

pub deep_parents-s-requires-clause-born : goal.deep_parents-s-requires-clause-born
deep_parents-s-requires-clause-born c =
    (valid-born c.args.r c.requires.table.1 (omega (arith, rank-deep c.args.r.at c.requires.m_nonzero)), c.requires.m_nonzero)

pub returns-then-not-all_there : goal.returns-then-not-all_there
returns-then-not-all_there c =
    let a = c.args in
    let s = c.deep_parents-s.result in
    let over = creator_over a.r.at s in
    let by = deep-by a.t.now a.r s c.deep_parents-s.ensures c.if-r-eq0.false c.requires.m_nonzero in
    first-fails (all_there s) over (told_in a.r s) (sym c.all_there.ensures ∙ c.if-not-all_there.true) ∙ by

pub creator_over-requires : goal.creator_over-requires
creator_over-requires c =
    (valid-born c.args.r c.requires.table.1 (omega (arith, rank-deep c.args.r.at c.requires.m_nonzero)), rank-deep c.args.r.at c.requires.m_nonzero)

pub returns-then-not-creator_over : goal.returns-then-not-creator_over
returns-then-not-creator_over c =
    let a = c.args in
    let s = c.deep_parents-s.result in
    let over = creator_over a.r.at s in
    let by = deep-by a.t.now a.r s c.deep_parents-s.ensures c.if-r-eq0.false c.requires.m_nonzero in
    second-fails (all_there s) over (told_in a.r s) (sym c.all_there.ensures ∙ c.if-not-all_there.false)
    (sym c.creator_over.ensures ∙ c.if-not-creator_over.true) ∙ by

pub as_told-requires : goal.as_told-requires
as_told-requires c = (valid-depth c.args.r c.requires.table.1, omega (arith, rank-deep c.args.r.at c.requires.m_nonzero))

pub returns : goal.returns
returns c =
    let a = c.args in
    let s = c.deep_parents-s.result in
    let over = creator_over a.r.at s in
    let by = deep-by a.t.now a.r s c.deep_parents-s.ensures c.if-r-eq0.false c.requires.m_nonzero in
    c.as_told.ensures
    ∙ third-decides (all_there s) over (told_in a.r s) (sym c.all_there.ensures ∙ c.if-not-all_there.false)
    (sym c.creator_over.ensures ∙ c.if-not-creator_over.false) ∙ by
