-- The invariant of `base::lay_corners`: the corners so far are laid, and `step` goes to the next.
use Rattle.std.proofs.Common.{◌≡◌}
use Rattle.centres.specs.Marks.{in_marks}
use Rattle.base.specs.Base.{Room}
use Rattle.base.specs.Laying.{lay_corners}
use Rattle.base.specs.LayLaws.{step_to}
use Rattle.base.proofs.hexagons.lay_corners.Given as goal

abbrev pub invariant-loop-j : goal.invariant-loop-j
invariant-loop-j l = record {
  step : l.step ≡ step_to l.j;
  laid : lay_corners (in_marks l.marks) l.p l.j (Room l.initial.table) ≡ Room l.table;
}
