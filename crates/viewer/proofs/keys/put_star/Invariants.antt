-- The loop of `viewer::keys::put_star`: the keys of the corners so far are stored, and a is the next adjacent point. Assumes nothing.
use Rattle.std.proofs.Common.{◌≡◌, ℕ, cond, eqb}
use Rattle.lattice.specs.Stars.{adjacent_at}
use Rattle.firsts.specs.Faces.{gather}
use Rattle.firsts.specs.Earlier.{placed_of}
use Rattle.mesh_faces.specs.Once.{fresh_at}
use Rattle.viewer.specs.BodyLaws.{FacesIn}
use Rattle.viewer.proofs.keys.put_star.Given as goal

-- past the last place comes the first
abbrev pub round : ℕ → ℕ → ℕ
round d j = cond (eqb j d) 0 j

abbrev pub invariant-loop-j : goal.invariant-loop-j
invariant-loop-j l = FacesIn l.t l.initial.out l.from (gather l.j (fresh_at l.t l.k l.v)) l.out l.at × (l.a ≡ placed_of l.t (adjacent_at l.v (round l.v.d l.j)))
