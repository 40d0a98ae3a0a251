-- The keys left, and the lines written.
use Rattle.std.proofs.Common.{List, ℕ, drop}
use Rattle.writers.specs.LeftLaws.{Keyed, Left}
use Rattle.writers.proofs.lines.write_lines.Given as goal

abbrev pub invariant-loop-left : goal.invariant-loop-left
invariant-loop-left l = (K : List ℕ) → Keyed K l.initial.out l.k l.total → Left K (drop l.total l.initial.out) l.out l.left l.at
