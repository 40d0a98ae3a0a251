-- By what is written of the slot.
use Rattle.std.proofs.Common.{sym, ◌∙◌, arith}
use Rattle.text.specs.LineLengths.{line-most}
use Rattle.writers.specs.KeptLaws.{kept-valid, written_none, written_one}
use Rattle.writers.proofs.kept.length_at.Goals as goal

pub returns-in-None : goal.returns-in-None
returns-in-None c = (written_none _ (sym c.in-None.ensures), omega arith)

pub returns-in-Some : goal.returns-in-Some
returns-in-Some c =
    let r = c.in-Some.r in
    let most = line-most r (kept-valid c.args.table.now c.requires.0 c.args.marks.now c.args.i r c.requires.1 (sym c.in-Some.ensures)) in
    (c.line_length.ensures ∙ written_one _ r (sym c.in-Some.ensures), omega (arith, c.line_length.ensures))
