-- `table::is_gap` meets its promise: the rest is asked where the first two words are ones. Assumes nothing.
use Rattle.std.proofs.Common.{◌∙◌, ne_eqb}
use Rattle.table.specs.PairLaws.{gap-rest, gap-none}
use Rattle.table.proofs.probe.is_gap.Goals as goal

pub returns-then-first-eq-TWO_ONES : goal.returns-then-first-eq-TWO_ONES
returns-then-first-eq-TWO_ONES c = gap-rest c.args.t.now c.args.s c.args.first c.requires.first c.word.result c.word.ensures c.if-first-eq-TWO_ONES.true

pub returns-else-first-eq-TWO_ONES : goal.returns-else-first-eq-TWO_ONES
returns-else-first-eq-TWO_ONES c =
    ne_eqb _ _ c.if-first-eq-TWO_ONES.false ∙ gap-none c.args.t.now c.args.s c.args.first c.requires.first c.if-first-eq-TWO_ONES.false
