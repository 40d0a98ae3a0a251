-- `outlines::passes::pass` meets its promise. Assumes nothing.
use Rattle.outlines.specs.CallLaws.{pass-leaves}
use Rattle.outlines.proofs.passes.pass.Goals as goal

pub returns : goal.returns
returns c =
    let a = c.args in
    pass-leaves a.o a.level a.table.now a.scratch.now c.put_sorted-k.new.out c.put_sorted-k.result c.put_sorted-k.ensures
    c.make_all.result c.make_all.new.t c.make_all.ensures
