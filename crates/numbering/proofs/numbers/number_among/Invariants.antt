-- The keys before `low` come before p's, those from `high` on do not.
use Rattle.std.proofs.Common.{List, ℕ, ◌-◌, ◌≤◌}
use Rattle.numbering.specs.Ranks.{Stand, Searched}
use Rattle.numbering.proofs.numbers.number_among.Given as goal

abbrev pub invariant-loop-low : goal.invariant-loop-low
invariant-loop-low l = record { order : l.low ≤ l.high; most : l.high ≤ l.k; search : (t : List ℕ) → Stand t l.out l.k → Searched t l.x l.low l.high }

abbrev pub decreases-loop-low : goal.decreases-loop-low
decreases-loop-low l = l.high - l.low
