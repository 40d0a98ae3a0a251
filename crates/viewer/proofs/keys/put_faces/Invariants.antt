-- The loop of `viewer::keys::put_faces`: the keys of the slots so far are stored. Assumes nothing.
use Rattle.mesh_faces.specs.Once.{fresh_below}
use Rattle.viewer.specs.BodyLaws.{FacesIn}
use Rattle.viewer.proofs.keys.put_faces.Given as goal

abbrev pub invariant-loop-k : goal.invariant-loop-k
invariant-loop-k l = FacesIn l.t l.initial.out l.vertices (fresh_below l.t l.k) l.out l.at
