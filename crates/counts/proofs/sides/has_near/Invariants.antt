-- The invariant of `counts::has_near`: no place so far has the side. Assumes nothing.
use Rattle.std.proofs.Common.{◌≡◌, false}
use Rattle.laws.specs.Rules.{among}
use Rattle.firsts.specs.Earlier.{near_is}
use Rattle.counts.proofs.sides.has_near.Given as goal

abbrev pub invariant-loop-i : goal.invariant-loop-i
invariant-loop-i l = among l.i (near_is l.t l.p l.u) ≡ false
