-- `text::parse_line` meets its contract. Assumes nothing.
use Rattle.std.proofs.Common.{sym, ◌∙◌}
use Rattle.text.specs.Line.{line_at}
use Rattle.text.proofs.line.parse_line.Goals as goal

pub returns-in-End : goal.returns-in-End
unfolding line_at
returns-in-End c = rw (sym c.spelled.ensures ∙ c.in-End.is)

pub returns-in-Bad : goal.returns-in-Bad
unfolding line_at
returns-in-Bad c = rw (sym c.spelled.ensures ∙ c.in-Bad.is)

pub returns-then-valid : goal.returns-then-valid
unfolding line_at
returns-then-valid c = rw (sym c.spelled.ensures ∙ c.in-Good.is, sym c.valid.ensures ∙ c.if-valid.true)

pub returns-else-valid : goal.returns-else-valid
unfolding line_at
returns-else-valid c = rw (sym c.spelled.ensures ∙ c.in-Good.is, sym c.valid.ensures ∙ c.if-valid.false)
