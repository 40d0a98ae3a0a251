-- `queries::neighbours_all` meets its promise: each query's own. Assumes nothing.
use Rattle.queries.specs.Queries.{neighbours_of}
use Rattle.queries.proofs.many.neighbours_all.Goals as goal

pub returns : goal.returns
unfolding neighbours_of
returns c = record { value = c.answer_all.ensures.value; answers_after = c.answer_all.ensures.answers_after }
