-- `outlines::passes::make_all` meets its promise. Assumes nothing.
use Rattle.std.proofs.Common.{◌≡◌, sym, ◌∙◌, arith}
use Rattle.lattice.specs.RefusalLaws.{number-some}
use Rattle.lattice.specs.Refusals.{number_of}
use Rattle.table.specs.MapLaws.{order-test}
use Rattle.outlines.specs.Outlines.{step_at}
use Rattle.outlines.specs.PassLaws.{point_in, making-start, making-end, making-stop, making-kept, making-more}
use Rattle.outlines.proofs.passes.make_all.Goals as goal

pub loop-i-init : goal.loop-i-init
loop-i-init c = making-start c.args.keys.now c.args.t.now c.args.n c.args.k c.args.free c.requires.0 (λ x. (c.type_inv.t x).fits)

pub key-requires : goal.key-requires
key-requires c = omega (arith, c.loop-i-test.true, c.requires.1)

pub subdivide_at-requires : goal.subdivide_at-requires
subdivide_at-requires c =
    let g = c.loop-i.invariant.given in
    (g.table, (order-test _ g.order, g.free))

pub undo_all-requires : goal.undo_all-requires
undo_all-requires c =
    let l = c.loop-i in
    let keys = c.args.keys.now in
    let e = rw (c.ordered.ensures, c.key.ensures) at c.in-Err.ensures in
    let some = λ (z : (step_at l.t (point_in keys l.i)).number ≡ 0). number-some c.in-Err.why (e.value ∙ z) in
    let kept = e.t_after ∙ making-kept keys c.args.t.now c.args.n c.args.k l.t l.left l.i l.invariant c.loop-i-test.true some in
    record {
      table = (rw kept l.invariant.given.table, omega (arith, c.loop-i-test.true, c.requires.1));
      by_index = (c.args.t.now, rw kept l.invariant.steps);
    }

pub returns-in-Err : goal.returns-in-Err
returns-in-Err c =
    let l = c.loop-i in
    let keys = c.args.keys.now in
    let why = c.in-Err.why in
    let e = rw (c.ordered.ensures, c.key.ensures) at c.in-Err.ensures in
    let kept = e.t_after ∙ making-kept keys c.args.t.now c.args.n c.args.k l.t l.left l.i l.invariant c.loop-i-test.true (λ z. number-some why (e.value ∙ z)) in
    let back = c.undo_all.ensures c.args.t.now (rw kept l.invariant.steps) in
    making-stop keys c.args.t.now c.args.n c.args.k l.t l.left l.i l.invariant c.loop-i-test.true c.args.free c.requires.0 (number_of why) e.value
    (number-some why) c.undo_all.new.t back

pub overflow_sub-left : goal.overflow_sub-left
overflow_sub-left c =
    let l = c.loop-i in
    let e = rw (c.ordered.ensures, c.key.ensures) at c.in_default.ensures in
    (making-more c.args.keys.now c.args.t.now c.args.n c.args.k l.t l.left l.i l.invariant c.loop-i-test.true (sym e.value) c.subdivide_at.new.t e.t_after).0

pub loop-i-preserved : goal.loop-i-preserved
loop-i-preserved c =
    let l = c.loop-i in
    let e = rw (c.ordered.ensures, c.key.ensures) at c.in_default.ensures in
    (making-more c.args.keys.now c.args.t.now c.args.n c.args.k l.t l.left l.i l.invariant c.loop-i-test.true (sym e.value) c.subdivide_at.new.t e.t_after).1

pub returns : goal.returns
returns c =
    let l = c.loop-i in
    making-end c.args.keys.now c.args.t.now c.args.n c.args.k l.t l.left l.i l.invariant c.loop-i-test.false
