-- `mesh::writes::divide` meets its promise. Assumes nothing.
use Rattle.std.proofs.Common.{◌∙◌, arith}
use Rattle.lattice.specs.Subdivision.{centre_of}
use Rattle.table.specs.Entries.{replace_of}
use Rattle.table.specs.MapLaws.{replace-table, put-replace, at_room}
use Rattle.mesh.specs.WriteLaws.{whole-renewable, old-met, new-met, ready-turn, renewed-table}
use Rattle.mesh.specs.CallLaws.{centre-inner, subdivided-is}
use Rattle.mesh.proofs.writes.divide.Goals as goal

pub centre-c-requires : goal.centre-c-requires
centre-c-requires c = let r = c.requires.table.1.0.ready in let b = r.below in (ready-turn r, omega arith)

pub write_slot-requires : goal.write_slot-requires
write_slot-requires c = at_room c.args.t.now c.args.n c.requires.table.0 c.args.v.at c.args.i c.requires.table.1.1

pub renew_all-requires : goal.renew_all-requires
renew_all-requires c =
    let a = c.args in
    let w = c.requires.table.1.0 in
    rw (c.write_slot.ensures, c.centre-c.ensures, put-replace a.t.now (centre_of a.v) a.i c.requires.table.1.1)
    (whole-renewable w, old-met w a.stand.now c.requires.old_in)

pub enter_all-requires : goal.enter_all-requires
enter_all-requires c =
    let a = c.args in
    let w = c.requires.table.1.0 in
    let t = replace_of a.t.now (centre_of a.v) in
    rw (c.renew_all.ensures, c.write_slot.ensures, c.centre-c.ensures, put-replace a.t.now (centre_of a.v) a.i c.requires.table.1.1) (
      renewed-table t a.v 6 a.n (replace-table a.t.now (centre_of a.v) a.n c.requires.table.0),
      (centre-inner a.t.now a.v w.ready, (w.ready.six, (c.requires.value.0, new-met w a.told.now c.requires.value.1))),
    )

pub returns : goal.returns
returns c =
    let a = c.args in
    rw (c.renew_all.ensures, c.write_slot.ensures, c.centre-c.ensures, put-replace a.t.now (centre_of a.v) a.i c.requires.table.1.1) at c.enter_all.ensures
    ∙ subdivided-is a.t.now a.v
