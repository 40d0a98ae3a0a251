-- The point, turned once for each turn of the loop, lies in the same hexagon. Assumes nothing.
use Rattle.std.proofs.Common.{◌≡◌}
use Rattle.lattice.specs.Bounds.{Hex}
use Rattle.lattice.specs.Points.{turns}
use Rattle.lattice.specs.Rows.{point_of}
use Rattle.lattice.proofs.patterns.turned.Given as goal

abbrev pub invariant-loop : goal.invariant-loop
invariant-loop l = (point_of l.q ≡ turns l.counter (point_of l.fn.p)) × Hex 10 (point_of l.q)
