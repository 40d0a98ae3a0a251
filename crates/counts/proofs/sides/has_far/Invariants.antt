-- The invariant of `counts::has_far`: no place so far has the side. Assumes nothing.
use Rattle.std.proofs.Common.{◌≡◌, false}
use Rattle.laws.specs.Rules.{among}
use Rattle.firsts.specs.Earlier.{far_is}
use Rattle.counts.proofs.sides.has_far.Given as goal

abbrev pub invariant-loop-i : goal.invariant-loop-i
invariant-loop-i l = among l.i (far_is l.t l.p l.q l.u) ≡ false
