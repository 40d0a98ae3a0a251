-- `undoing::undo::restore` meets its promise: by where the search ended. Assumes nothing.
use Rattle.std.proofs.Common.{◌≡◌, sym, ◌∙◌, arith}
use Rattle.lattice.specs.Stars.{adjacent_at}
use Rattle.table.specs.Search.{find_of}
use Rattle.table.specs.MapLaws.{at_room, table_of}
use Rattle.table.specs.declared.probe.Found.TheVariants as found
use Rattle.mesh.specs.MetLaws.{looked-missed}
use Rattle.undoing.specs.UndoLaws.{restore-at, restore-absent}
use Rattle.undoing.proofs.undo.restore.Goals as goal

pub restore_slot-requires : goal.restore_slot-requires
restore_slot-requires c =
    let a = c.args in
    let e : found.At c.in-At.i ≡ find_of a.t.now (adjacent_at a.v a.j) = rw c.adjacent_of.ensures at c.in-At.ensures.value in
    (at_room a.t.now a.n c.requires.0 (adjacent_at a.v a.j) c.in-At.i (sym e), omega (arith, c.back-b.ensures))

pub returns-in-At : goal.returns-in-At
returns-in-At c =
    let a = c.args in
    let e : found.At c.in-At.i ≡ find_of a.t.now (adjacent_at a.v a.j) = rw c.adjacent_of.ensures at c.in-At.ensures.value in
    rw c.back-b.ensures at c.restore_slot.ensures ∙ restore-at a.t.now (table_of a.t.now a.n c.requires.0) a.v a.j c.in-At.i (sym e)

pub returns-in_default : goal.returns-in_default
returns-in_default c =
    let a = c.args in
    let e : c.find.result ≡ find_of a.t.now (adjacent_at a.v a.j) = rw c.adjacent_of.ensures at c.find.ensures.value in
    restore-absent a.t.now (table_of a.t.now a.n c.requires.0) a.v a.j
    (looked-missed a.t.now (adjacent_at a.v a.j) c.find.result e c.in_default.not-At)
