-- The invariant of `counts::count_corners`: the slots so far are counted. Assumes nothing.
use Rattle.std.proofs.Common.{◌≡◌}
use Rattle.laws.specs.Rules.{upto}
use Rattle.firsts.specs.Earlier.{slot_faces, plain_slot}
use Rattle.counts.specs.Counted.{slot_sides}
use Rattle.counts.specs.CaseLaws.{Summed}
use Rattle.counts.proofs.corners.count_corners.Given as goal

abbrev pub invariant-loop-k : goal.invariant-loop-k
invariant-loop-k l = record {
  faces : Summed (slot_faces l.t) 6 l.k l.faces;
  sides : Summed (slot_sides l.t) 18 l.k l.sides;
  plain : l.plain ≡ upto l.k (plain_slot l.t);
}
