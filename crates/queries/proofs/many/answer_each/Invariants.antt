-- The invariant of `queries::answer_each`: the answers so far, and what was lent from there on.
use Rattle.std.proofs.Common.{◌≡◌}
use Rattle.queries.specs.Queries.{query_of}
use Rattle.queries.specs.Asked.{answer_at}
use Rattle.queries.specs.Many.{triple_of}
use Rattle.queries.specs.ManyLaws.{answers_in}
use Rattle.queries.proofs.many.answer_each.Given as goal

abbrev pub invariant-loop-i : goal.invariant-loop-i
invariant-loop-i l = l.answers ≡ answers_in (triple_of (query_of (answer_at l.q l.t) l.t) l.points) l.initial.answers l.i
