-- `queries::faces_all` meets its promise: each query's own. Assumes nothing.
use Rattle.queries.specs.Queries.{faces_of}
use Rattle.queries.proofs.many.faces_all.Goals as goal

pub returns : goal.returns
unfolding faces_of
returns c = record { value = c.answer_all.ensures.value; answers_after = c.answer_all.ensures.answers_after }
