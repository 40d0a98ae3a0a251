-- `mesh_faces::slot_torn` meets its promise: by what the slot holds. Assumes nothing.
use Rattle.std.proofs.Common.{◌∙◌, ap}
use Rattle.mesh_faces.specs.Once.{torn_in, slot_torn}
use Rattle.mesh_faces.proofs.torn.slot_torn.Goals as goal

pub returns-in-None : goal.returns-in-None
unfolding slot_torn
returns-in-None c = ap (torn_in c.args.t.now) c.in-None.ensures

pub returns-in-Some : goal.returns-in-Some
unfolding slot_torn
returns-in-Some c = c.star_torn.ensures ∙ ap (torn_in c.args.t.now) c.in-Some.ensures
