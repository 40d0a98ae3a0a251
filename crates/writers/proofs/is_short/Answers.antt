-- By the longest lines, else by their own lengths.
use Rattle.std.proofs.Common.{sym, ap, ltb, length, arith, le-ltb}
use Rattle.writers.specs.LeftLaws.{file_of, counted-all, file-most}
use Rattle.writers.proofs.is_short.Goals as goal

pub overflow_sub-n : goal.overflow_sub-n
overflow_sub-n c = let most = file-most c.args.table.now c.requires.in_order.0 c.args.marks.now in omega arith

pub returns-then-n-free : goal.returns-then-n-free
returns-then-n-free c =
    let most = file-most c.args.table.now c.requires.in_order.0 c.args.marks.now in
    sym (le-ltb c.args.room (length (file_of c.args.table.now c.args.marks.now)) (omega (arith, c.if-n-free.true)))

pub returns : goal.returns
returns c = ap (ltb c.args.room) (counted-all c.args.table.now c.args.marks.now c.args.n c.requires.in_order.1 c.file_length.ensures)
