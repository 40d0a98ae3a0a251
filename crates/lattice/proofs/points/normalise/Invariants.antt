-- The loop keeps the point that its numbers stand for. Assumes nothing.
use Rattle.std.proofs.Common.{◌≡◌}
use Rattle.lattice.specs.Points.{normal_of}
use Rattle.lattice.proofs.points.normalise.Given as goal

abbrev pub invariant-loop-d : goal.invariant-loop-d
invariant-loop-d l = normal_of l.x l.y l.d ≡ normal_of l.fn.a l.fn.b l.fn.m
