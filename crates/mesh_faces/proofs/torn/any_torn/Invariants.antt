-- The invariant of `mesh_faces::any_torn`: no vertex of the slots so far is torn. Assumes nothing.
use Rattle.std.proofs.Common.{◌≡◌, false}
use Rattle.laws.specs.Some.{some_of}
use Rattle.table.specs.Entries.{records_below}
use Rattle.mesh_faces.specs.MeshFaces.{torn_at}
use Rattle.mesh_faces.proofs.torn.any_torn.Given as goal

abbrev pub invariant-loop-i : goal.invariant-loop-i
invariant-loop-i l = some_of (torn_at l.t) (records_below l.t l.i) ≡ false
