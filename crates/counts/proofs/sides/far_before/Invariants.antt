-- The invariant of `counts::far_before`: no place so far has a vertex with the side. Assumes nothing.
use Rattle.std.proofs.Common.{◌≡◌, false}
use Rattle.laws.specs.Rules.{among}
use Rattle.counts.specs.Counted.{far_seen}
use Rattle.counts.proofs.sides.far_before.Given as goal

abbrev pub invariant-loop-c : goal.invariant-loop-c
invariant-loop-c l = among l.c (far_seen l.t l.k l.p l.q) ≡ false
