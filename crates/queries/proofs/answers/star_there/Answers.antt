-- `queries::star_there` meets its promise. Assumes nothing.
use Rattle.queries.specs.QueryLaws.{asked-inner, when_true_lem}
use Rattle.queries.proofs.answers.star_there.Goals as goal

pub ring-requires : goal.ring-requires
ring-requires c = asked-inner c.requires

pub adjacents_there-requires : goal.adjacents_there-requires
adjacents_there-requires c = record { table = c.requires.table; inner = asked-inner c.requires; row_value = c.ring.ensures }

pub returns : goal.returns
returns c = record { value = c.adjacents_there.ensures; when_true = when_true_lem c.adjacents_there.result c.ring.ensures }
