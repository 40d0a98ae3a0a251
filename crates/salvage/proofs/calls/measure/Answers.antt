-- `salvage::calls::measure` meets its promise. Assumes nothing.
use Rattle.std.proofs.Common.{◌≡◌, subst, ℕ, ◌+◌, length, arith}
use Rattle.salvage_lines.specs.OldLines.{salvaged}
use Rattle.salvage.specs.Salvage.{changes}
use Rattle.salvage.specs.NoteLaws.{Capped}
use Rattle.salvage.proofs.calls.measure.Goals as goal

pub returns : goal.returns
returns c =
    let xs = changes (salvaged c.args.file.now) c.args.table.now in
    let e : 0 + length xs ≡ length xs = omega arith in
    subst (λ (n : ℕ). Capped c.args.room n c.put_changes.result) e c.put_changes.ensures.past
