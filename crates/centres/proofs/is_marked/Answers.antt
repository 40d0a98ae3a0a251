-- `centres::is_marked` meets its promise. Assumes nothing.
use Rattle.std.proofs.Common.{sym, ap, ◌∙◌}
use Rattle.centres.specs.MarkLaws.{marked-is, unmarked-is}
use Rattle.marks.specs.Marks.{marked_at}
use Rattle.centres.proofs.is_marked.Goals as goal

pub returns-then-is_good : goal.returns-then-is_good
returns-then-is_good c =
    c.marked.ensures
    ∙ ap (marked_at c.args.marks.now) c.number.ensures.0
    ∙ marked-is c.args.marks.now c.args.p c.requires (sym c.is_good.ensures ∙ c.if-is_good.true)

pub returns-else-is_good : goal.returns-else-is_good
returns-else-is_good c =
    c.if-is_good.false ∙ unmarked-is c.args.marks.now c.args.p (sym c.is_good.ensures ∙ c.if-is_good.false)
