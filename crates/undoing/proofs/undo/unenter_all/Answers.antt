-- `undoing::unenter_all` meets its promise. Assumes nothing.
use Rattle.std.proofs.Common.{◌∙◌, arith}
use Rattle.undoing.specs.UndoLaws.{unentered-more, unentered-none, unenter-table}
use Rattle.undoing.proofs.undo.unenter_all.Goals as goal

pub loop-j-preserved : goal.loop-j-preserved
loop-j-preserved c =
    let l = c.loop-j in
    record {
      table = rw c.unenter.ensures (unenter-table l.t c.adjacent_of.result c.args.n l.invariant.table);
      left = rw (c.unenter.ensures, c.adjacent_of.ensures) (unentered-more l.t c.args.c l.j c.loop-j-test.true ∙ l.invariant.left);
    }

pub returns : goal.returns
returns c = unentered-none c.loop-j.t c.args.c c.loop-j.j (omega arith) ∙ c.loop-j.invariant.left
