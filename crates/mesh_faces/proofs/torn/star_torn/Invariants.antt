-- The invariant of `mesh_faces::star_torn`: the places so far are whole. Assumes nothing.
use Rattle.std.proofs.Common.{◌≡◌, true}
use Rattle.laws.specs.Rules.{upto}
use Rattle.mesh_faces.specs.Once.{whole_corner}
use Rattle.mesh_faces.proofs.torn.star_torn.Given as goal

abbrev pub invariant-loop-j : goal.invariant-loop-j
invariant-loop-j l = upto l.j (whole_corner l.t l.v) ≡ true
