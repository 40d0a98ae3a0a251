-- The invariant of `firsts::names_face`: no corner so far makes the face. Assumes nothing.
use Rattle.std.proofs.Common.{◌≡◌, false}
use Rattle.laws.specs.Rules.{among}
use Rattle.firsts.specs.Earlier.{corner_is}
use Rattle.firsts.proofs.faces.names_face.Given as goal

abbrev pub invariant-loop-i : goal.invariant-loop-i
invariant-loop-i l = among l.i (corner_is l.t l.u l.f) ≡ false
