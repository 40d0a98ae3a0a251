-- The invariant of `table::guess_in_group`: the guess, after the slots so far.
use Rattle.std.proofs.Common.{◌≡◌, ◌+◌, ◌≤◌}
use Rattle.table.specs.Reading.{group, NoneIn}
use Rattle.table.proofs.groups.guess_in_group.Given as goal

abbrev pub invariant-loop-k : goal.invariant-loop-k
invariant-loop-k l = ((l.h ≤ l.guess) × (l.guess ≤ l.h + group)) × (l.guess ≡ l.h + group → NoneIn l.t l.a l.b l.h l.k)
