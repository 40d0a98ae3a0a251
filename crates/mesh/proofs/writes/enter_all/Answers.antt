-- `mesh::writes::enter_all` meets its promise. Assumes nothing.
use Rattle.std.proofs.Common.{◌∙◌, get_or}
use Rattle.lattice.specs.Stars.{adjacent_at}
use Rattle.table.specs.Told.{Reaches}
use Rattle.mesh.specs.WriteLaws.{entered-more, entered-none, entered-table, entered-come}
use Rattle.mesh.specs.Subdivide.{entered_to}
use Rattle.mesh.proofs.writes.enter_all.Goals as goal

pub loop-j-init : goal.loop-j-init
loop-j-init c = entered-none c.args.t.now c.args.c

pub enter_from-requires : goal.enter_from-requires
enter_from-requires c =
    let a = c.args in
    let j = c.loop-j.j in
    let slot = get_or a.slots.now j 0 in
    let come : Reaches (entered_to a.t.now a.c j) (adjacent_at a.c j) slot =
    entered-come a.t.now a.c j a.n c.requires.0 _ slot (c.requires.1.1.1.1 j c.loop-j-test.true) in
    rw (c.loop-j.invariant, c.from.ensures, c.born_at-r.ensures) (entered-table a.t.now a.c j a.n c.requires.0, come)

pub loop-j-preserved : goal.loop-j-preserved
loop-j-preserved c =
    rw (c.loop-j.invariant, c.born_at-r.ensures) at c.enter_from.ensures.t_after ∙ entered-more c.args.t.now c.args.c c.loop-j.j
