-- `local::centre_passes` meets its promise: the tests in their order, two of them of the parents as they were looked up. Assumes nothing.
use Rattle.std.proofs.Common.{eqb, sym, ◌∙◌, arith, eq-eqb, ne_eqb}
use Rattle.local.specs.Sheet.{sheet_of}
use Rattle.local.specs.Rings.{ring_of}
use Rattle.local.specs.Parents.{all_there, told_in}
use Rattle.local.specs.BornLaws.{valid-depth, valid-born, rank-centre}
use Rattle.local.specs.PlaceLaws.{first-fails, second-fails, third-decides, centre-boundary, centre-by}
use Rattle.local.proofs.places.centre_passes.Goals as goal

pub returns-then-r-eq0 : goal.returns-then-r-eq0
returns-then-r-eq0 c = centre-boundary c.args.t.now c.args.r c.if-r-eq0.true

pub parents_of-s-requires-clause-born : goal.parents_of-s-requires-clause-born
parents_of-s-requires-clause-born c =
    valid-born c.args.r c.requires.table.1 (omega (arith, rank-centre c.args.r.at c.requires.m_value.0 c.requires.m_value.1))

pub returns-then-not-all_there : goal.returns-then-not-all_there
returns-then-not-all_there c =
    let a = c.args in
    let s = c.parents_of-s.result in
    let whole = eqb (ring_of (sheet_of a.t.now) a.r.at 2) 3 in
    let by = centre-by a.t.now a.r s c.parents_of-s.ensures c.if-r-eq0.false c.requires.m_value.0 c.requires.m_value.1 in
    first-fails (all_there s) whole (told_in a.r s) (sym c.all_there.ensures ∙ c.if-not-all_there.true) ∙ by

pub returns-then-ring_count-ne3 : goal.returns-then-ring_count-ne3
returns-then-ring_count-ne3 c =
    let a = c.args in
    let s = c.parents_of-s.result in
    let whole = eqb (ring_of (sheet_of a.t.now) a.r.at 2) 3 in
    let by = centre-by a.t.now a.r s c.parents_of-s.ensures c.if-r-eq0.false c.requires.m_value.0 c.requires.m_value.1 in
    second-fails (all_there s) whole (told_in a.r s) (sym c.all_there.ensures ∙ c.if-not-all_there.false)
    (ne_eqb _ 3 (λ e. c.if-ring_count-ne3.true (c.ring_count.ensures.0 ∙ e))) ∙ by

pub as_told-requires : goal.as_told-requires
as_told-requires c =
    (valid-depth c.args.r c.requires.table.1, omega (arith, rank-centre c.args.r.at c.requires.m_value.0 c.requires.m_value.1))

pub returns : goal.returns
returns c =
    let a = c.args in
    let s = c.parents_of-s.result in
    let whole = eqb (ring_of (sheet_of a.t.now) a.r.at 2) 3 in
    let by = centre-by a.t.now a.r s c.parents_of-s.ensures c.if-r-eq0.false c.requires.m_value.0 c.requires.m_value.1 in
    c.as_told.ensures
    ∙ third-decides (all_there s) whole (told_in a.r s) (sym c.all_there.ensures ∙ c.if-not-all_there.false)
    (eq-eqb _ 3 (sym c.ring_count.ensures.0 ∙ c.if-ring_count-ne3.false)) ∙ by
