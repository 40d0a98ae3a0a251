-- `findings::judge` meets its promise. Assumes nothing.
use Rattle.std.proofs.Common.{sym, ◌∙◌, arith}
use Rattle.findings.specs.EntryLaws.{entry_in, entry_next}
use Rattle.findings.specs.JudgeLaws.{judging-start, judging-room, judging-good, judging-end, judging-bad}
use Rattle.findings.proofs.lists.judge.Goals as goal

pub loop-f-init : goal.loop-f-init
loop-f-init c = judging-start c.args.table.now c.args.list.now

pub returns-in-End : goal.returns-in-End
returns-in-End c =
    judging-end c.args.table.now c.args.list.now c.loop-f.at c.loop-f.line c.loop-f.parts c.loop-f.invariant (sym c.entry_at.ensures ∙ c.in-End.is)

pub returns-in-Bad : goal.returns-in-Bad
returns-in-Bad c =
    judging-bad c.args.table.now c.args.list.now c.loop-f.at c.loop-f.line c.loop-f.parts c.loop-f.invariant (sym c.entry_at.ensures ∙ c.in-Bad.is)

pub with_line-parts-requires-clause-by_index : goal.with_line-parts-requires-clause-by_index
with_line-parts-requires-clause-by_index c =
    let list = c.args.list.now in
    let good = sym c.entry_at.ensures ∙ c.in-Good.is in
    let r = judging-room c.args.table.now list c.loop-f.at c.loop-f.line c.loop-f.parts c.loop-f.invariant c.in-Good.f good in
    let m = entry_next list c.loop-f.at c.in-Good.f good in
    (list, entry_in list c.loop-f.at c.in-Good.f good, omega (arith, r.0, m.1), omega (arith, r.1, m.1))

pub loop-f-smaller : goal.loop-f-smaller
loop-f-smaller c = omega (arith, entry_next c.args.list.now c.loop-f.at c.in-Good.f (sym c.entry_at.ensures ∙ c.in-Good.is))

pub loop-f-preserved : goal.loop-f-preserved
loop-f-preserved c =
    let list = c.args.list.now in
    let good = sym c.entry_at.ensures ∙ c.in-Good.is in
    judging-good c.args.table.now list c.loop-f.at c.loop-f.line c.loop-f.parts c.loop-f.invariant c.in-Good.f good
    c.with_line-parts.result (c.with_line-parts.ensures list (entry_in list c.loop-f.at c.in-Good.f good))
