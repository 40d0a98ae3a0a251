-- `census_text::read_input` meets its promise: by the length of the input. Assumes nothing.
use Rattle.std.proofs.Common.{◌∙◌}
use Rattle.census_text.specs.InputLaws.{input-long, input-read}
use Rattle.census_text.proofs.read_input.Goals as goal

pub returns-then-input-gt-MOST_INPUT : goal.returns-then-input-gt-MOST_INPUT
returns-then-input-gt-MOST_INPUT c =
    c.refuse_long-why.ensures ∙ input-long c.args.table.now c.args.scratch.now c.args.input.now c.if-input-gt-MOST_INPUT.true

pub returns : goal.returns
returns c = c.read_full.ensures ∙ input-read c.args.table.now c.args.scratch.now c.args.input.now c.if-input-gt-MOST_INPUT.false
