-- Nothing is marked.
use Rattle.std.proofs.Common.{ℕ, List, ap, ◌∙◌}
use Rattle.table.specs.MapLaws.{test-order}
use Rattle.writers.specs.Files.{full_file, put_of}
use Rattle.writers.specs.CallLaws.{write-disorder, write-order, unmarked-file}
use Rattle.writers.proofs.write_full.Goals as goal

pub returns-in_default : goal.returns-in_default
returns-in_default c = write-disorder _ _ _ c.in_default.ensures

pub write_kept-requires-clause-in_order : goal.write_kept-requires-clause-in_order
write_kept-requires-clause-in_order c = (test-order c.args.table.now c.in-Some.ensures.0, c.slots_of-n.ensures)

pub returns : goal.returns
returns c =
    let t = c.args.table.now in
    let o = c.args.out.now in
    c.write_kept.ensures ∙ ap (λ (x : List ℕ). put_of x o) (unmarked-file t) ∙ write-order (full_file t) t o c.in-Some.ensures.0
