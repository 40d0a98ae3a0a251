-- `undoing::undo_at` meets its promise: the writes one after the other. Assumes nothing.
use Rattle.std.proofs.Common.{◌∙◌}
use Rattle.undoing.specs.UndoLaws.{undone-is}
use Rattle.undoing.proofs.undo.undo_at.Goals as goal

pub returns : goal.returns
returns c =
    rw (c.restore_all.ensures, c.unenter_all.ensures, c.formerly-v.ensures) at c.replace.ensures ∙ undone-is c.args.t.now c.args.c
