-- The invariant of `counts::count_star`: the corners so far are counted, and a is the next adjacent point. Assumes nothing.
use Rattle.std.proofs.Common.{◌≡◌}
use Rattle.laws.specs.Rules.{upto}
use Rattle.lattice.specs.Stars.{adjacent_at}
use Rattle.firsts.specs.Earlier.{placed_of, corner_count, plain_at}
use Rattle.counts.specs.Counted.{side_count}
use Rattle.counts.specs.CaseLaws.{Summed, wrapped}
use Rattle.counts.proofs.corners.count_star.Given as goal

abbrev pub invariant-loop-j : goal.invariant-loop-j
invariant-loop-j l = record {
  faces : Summed (corner_count l.t l.k l.v) 1 l.j l.faces;
  sides : Summed (side_count l.t l.k l.v) 3 l.j l.sides;
  next : l.a ≡ placed_of l.t (adjacent_at l.v (wrapped l.v.d l.j));
  plain : l.plain ≡ upto l.j (plain_at l.t l.k l.v);
}
