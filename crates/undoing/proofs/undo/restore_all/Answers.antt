-- `undoing::restore_all` meets its promise. Assumes nothing.
use Rattle.std.proofs.Common.{◌∙◌, ◌-◌, arith}
use Rattle.undoing.specs.UndoLaws.{restored-more, restored-none, restore-table}
use Rattle.undoing.proofs.undo.restore_all.Goals as goal

pub loop-j-preserved : goal.loop-j-preserved
loop-j-preserved c =
    let l = c.loop-j in
    record {
      table = rw c.restore.ensures (restore-table l.t c.args.v (l.j - 1) c.args.n l.invariant.table);
      left = rw c.restore.ensures (restored-more l.t c.args.v l.j c.loop-j-test.true ∙ l.invariant.left);
    }

pub returns : goal.returns
returns c = restored-none c.loop-j.t c.args.v c.loop-j.j (omega arith) ∙ c.loop-j.invariant.left
