-- `lattice::rows::refuse_row` meets its promise: all zeros. Assumes nothing.
use Rattle.lattice.specs.AnswerRowLaws.{row-zeros}
use Rattle.lattice.proofs.rows.refuse_row.Goals as goal

pub returns-clause-out_after : goal.returns-clause-out_after
returns-clause-out_after c = row-zeros c.args.number
