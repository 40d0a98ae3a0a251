-- The redundant records are marked.
use Rattle.std.proofs.Common.{ℕ, List, ap, ◌∙◌}
use Rattle.table.specs.MapLaws.{test-order}
use Rattle.writers.specs.Files.{reduced_file, put_of}
use Rattle.writers.specs.CallLaws.{write-disorder, write-order}
use Rattle.writers.specs.ReducedLaws.{marked-file, marks-are}
use Rattle.writers.proofs.write_reduced.Goals as goal

pub returns-in_default : goal.returns-in_default
returns-in_default c = write-disorder _ _ _ c.in_default.ensures

pub mark_all-requires : goal.mark_all-requires
mark_all-requires c = (test-order c.args.table.now c.in-Some.ensures.0, c.slots_of-n.ensures)

pub write_kept-requires-clause-in_order : goal.write_kept-requires-clause-in_order
write_kept-requires-clause-in_order c = (test-order c.args.table.now c.in-Some.ensures.0, c.slots_of-n.ensures)

pub returns : goal.returns
returns c =
    let t = c.args.table.now in
    let o = c.args.out.now in
    let marked = marks-are t c.mark_all.new.marks c.slots_of-n.result c.slots_of-n.ensures c.mark_all.ensures in
    c.write_kept.ensures ∙ ap (λ (x : List ℕ). put_of x o) (marked-file t (test-order t c.in-Some.ensures.0) _ marked)
    ∙ write-order (reduced_file t) t o c.in-Some.ensures.0
