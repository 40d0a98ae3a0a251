-- `findings::line::entry_at` meets its promise. Assumes nothing.
use Rattle.std.proofs.Common.{sym, ◌∙◌}
use Rattle.findings.specs.EntryCases.{entry-end, entry-unnumbered, entry-numbered}
use Rattle.findings.proofs.line.entry_at.Goals as goal

pub returns-then-list-at : goal.returns-then-list-at
returns-then-list-at c = entry-end c.args.list.now c.args.at c.if-list-at.true

pub returns-in_default : goal.returns-in_default
returns-in_default c = entry-unnumbered c.args.list.now c.args.at c.if-list-at.false (sym c.read_number.ensures ∙ c.in_default.is)

pub returns : goal.returns
returns c =
    c.numbered.ensures
    ∙ entry-numbered c.args.list.now c.args.at c.in-Some.number c.in-Some.past c.if-list-at.false (sym c.read_number.ensures ∙ c.in-Some.is)
