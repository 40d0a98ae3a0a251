-- Points that are near enough for the machine's numbers.
-- Assumes nothing.
use Rattle.std.specs.Prelude.{◌≤◌, nat_abs}
use Rattle.lattice.specs.declared.points.Point.{Point}

pub record Located (p : Point) : Type 0 where
  pub wide : nat_abs p.a ≤ 1000000
  pub high : nat_abs p.b ≤ 1000000
  pub depth : p.m.0 ≤ 7
