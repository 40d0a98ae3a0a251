-- `salvage_lines::line::piece_at` meets its promise. Assumes nothing.
use Rattle.std.proofs.Common.{sym, ap, ◌∙◌}
use Rattle.salvage_lines.specs.LineLaws.{piece-over, piece-bad, kept-told, dropped-told}
use Rattle.salvage_lines.specs.declared.line.Piece.TheVariants as piece
use Rattle.salvage_lines.proofs.line.piece_at.Goals as goal

pub returns-then-kept : goal.returns-then-kept
returns-then-kept c =
    kept-told c.args.file.now c.args.at c.in-Good.r c.in-Good.next (sym c.spelled.ensures ∙ c.in-Good.is) c.tidy-q.result c.may_normalise.result
    c.valid.result c.tidy-q.ensures c.may_normalise.ensures c.valid.ensures c.same_record.result c.same_record.ensures c.if-kept.true

pub returns-in-End : goal.returns-in-End
returns-in-End c = piece-over c.args.file.now c.args.at (sym c.spelled.ensures ∙ c.in-End.is)

pub returns-in-Bad : goal.returns-in-Bad
returns-in-Bad c = ap piece.Dropped c.past_line.ensures ∙ piece-bad c.args.file.now c.args.at (sym c.spelled.ensures ∙ c.in-Bad.is)

pub returns-else-kept : goal.returns-else-kept
returns-else-kept c =
    dropped-told c.args.file.now c.args.at c.in-Good.r c.in-Good.next (sym c.spelled.ensures ∙ c.in-Good.is) c.tidy-q.result c.may_normalise.result
    c.valid.result c.tidy-q.ensures c.may_normalise.ensures c.valid.ensures c.if-kept.false
