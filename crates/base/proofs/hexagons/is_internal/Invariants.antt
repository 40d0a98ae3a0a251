-- The invariant of `base::is_internal`: the hexagons so far are marked, and `step` goes to the next.
use Rattle.std.proofs.Common.{◌≡◌, true}
use Rattle.laws.specs.Rules.{upto}
use Rattle.centres.specs.Marks.{in_marks}
use Rattle.base.specs.Base.{corner_of, hexagon_listed}
use Rattle.base.specs.LayLaws.{step_to}
use Rattle.base.proofs.hexagons.is_internal.Given as goal

abbrev pub invariant-loop-j : goal.invariant-loop-j
invariant-loop-j l = record {
  step : l.step ≡ step_to l.j;
  marked : upto l.j (λ j. hexagon_listed (in_marks l.marks) (corner_of l.q j)) ≡ true;
}
