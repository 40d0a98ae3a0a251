-- `readers::prepare` meets its promise. Assumes nothing.
use Rattle.std.proofs.Common.{sym, ◌∙◌}
use Rattle.readers.specs.BeginLaws.{none-unfit, other-unfit, both-fit}
use Rattle.readers.proofs.begin.prepare.Goals as goal

pub returns-then-n-eq0-clause-prepared : goal.returns-then-n-eq0-clause-prepared
returns-then-n-eq0-clause-prepared c = none-unfit c.args.table.now c.args.scratch.now (sym c.slots_of-n.ensures ∙ c.if-n-eq0.true)

pub returns-then-scratch-table-clause-prepared : goal.returns-then-scratch-table-clause-prepared
returns-then-scratch-table-clause-prepared c = other-unfit c.args.table.now c.args.scratch.now c.if-scratch-table.true

pub returns-clause-prepared : goal.returns-clause-prepared
returns-clause-prepared c =
    both-fit c.args.table.now c.args.scratch.now c.slots_of-n.result c.slots_of-n.ensures c.if-n-eq0.false c.if-scratch-table.false _ _ c.clear.ensures
    c.clear-2.ensures
