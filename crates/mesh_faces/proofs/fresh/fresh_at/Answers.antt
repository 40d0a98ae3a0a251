-- `mesh_faces::fresh_at` meets its promise: with the adjacent points and their slots. Assumes nothing.
use Rattle.std.proofs.Common.{ap, ◌∙◌}
use Rattle.lattice.specs.Stars.{adjacent_at}
use Rattle.firsts.specs.Earlier.{placed_of}
use Rattle.mesh_faces.proofs.fresh.fresh_at.Goals as goal

pub fresh_between-requires-clause-a_value : goal.fresh_between-requires-clause-a_value
fresh_between-requires-clause-a_value c =
    let t = c.args.t.now in (
      c.with_slot-a.ensures ∙ ap (placed_of t) c.adjacent_of.ensures,
      c.with_slot-b.ensures ∙ ap (placed_of t) (c.adjacent_of-2.ensures ∙ ap (adjacent_at c.args.v) c.next_place.ensures.0),
    )
