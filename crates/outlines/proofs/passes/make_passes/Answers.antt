-- `outlines::passes::make_passes` meets its promise. Assumes nothing.
use Rattle.std.proofs.Common.{◌≡◌, sym, ◌∙◌, arith}
use Rattle.outlines.specs.CallLaws.{passing-start, passing-end, passing-stop, passing-more}
use Rattle.outlines.proofs.passes.make_passes.Goals as goal

pub loop-i-init : goal.loop-i-init
loop-i-init c = passing-start c.args.o c.args.level c.args.table.now c.args.scratch.now c.args.n c.args.count c.args.free c.requires.0

pub pass-requires : goal.pass-requires
pass-requires c = let g = c.loop-i.invariant in (g.given, g.scratch ∙ c.requires.1 ∙ sym g.long)

pub returns-in-Err : goal.returns-in-Err
returns-in-Err c =
    let a = c.args in
    let l = c.loop-i in
    passing-stop a.o a.level a.table.now a.scratch.now a.n a.count l.table l.scratch l.left l.i l.invariant c.loop-i-test.true c.pass.new.table
    c.pass.new.scratch c.in-Err.why c.in-Err.ensures

pub loop-i-preserved : goal.loop-i-preserved
loop-i-preserved c =
    let a = c.args in
    let l = c.loop-i in
    passing-more a.o a.level a.table.now a.scratch.now a.n a.count l.table l.scratch l.left l.i l.invariant c.loop-i-test.true c.pass.new.table
    c.pass.new.scratch c.in-Ok.after c.in-Ok.ensures

pub returns : goal.returns
returns c =
    let a = c.args in
    let l = c.loop-i in
    let e : l.i ≡ a.count = omega arith in
    rw e at (passing-end a.o a.level a.table.now a.scratch.now a.n a.count l.table l.scratch l.left l.i l.invariant c.loop-i-test.false)
