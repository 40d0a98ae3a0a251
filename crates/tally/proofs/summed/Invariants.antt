-- The invariant of `tally::summed`: the slots so far are added up. Assumes nothing.
use Rattle.counts.specs.CaseLaws.{Summed}
use Rattle.tally.specs.Count.{hexagon_at, ground_at, pairs_at}
use Rattle.tally.proofs.summed.Given as goal

abbrev pub invariant-loop-k : goal.invariant-loop-k
invariant-loop-k l = record {
  hexagons : Summed (hexagon_at l.t) 1 l.k l.hexagons;
  ground : Summed (ground_at l.t) 1 l.k l.ground;
  pairs : Summed (pairs_at l.t) 3 l.k l.pairs;
}
