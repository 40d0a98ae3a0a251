-- The cycle of calls of `bring_to_six` and `subdivide_neighbour`. The level falls: `bring_to_six` of a vertex of level n calls `subdivide_neighbour` at n,
-- which calls it of a vertex of level n - 1. The loop: the places so far are gone through. Assumes nothing.
use Rattle.std.proofs.Common.{◌+◌}
use Rattle.bring.specs.ChainLaws.{Turning}
use Rattle.bring.proofs.chain.+bring_to_six_subdivide_neighbour.Given as goal

abbrev pub decreases-bring_to_six : goal.decreases-bring_to_six
decreases-bring_to_six l = l.v.n.0 + l.v.n.0 + 1

abbrev pub decreases-subdivide_neighbour : goal.decreases-subdivide_neighbour
decreases-subdivide_neighbour l = l.level.0 + l.level.0

abbrev pub invariant-bring_to_six-loop-j : goal.invariant-bring_to_six-loop-j
invariant-bring_to_six-loop-j l = Turning l.fn.t l.v l.n l.t l.left l.j
