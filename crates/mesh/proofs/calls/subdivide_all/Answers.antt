-- `mesh::calls::subdivide_all` meets its promise. Assumes nothing.
use Rattle.std.proofs.Common.{◌≡◌, sym, ◌∙◌, arith}
use Rattle.lattice.specs.RefusalLaws.{number-some}
use Rattle.laws.specs.Triples.{triples_in}
use Rattle.table.specs.OrderLaws.{test-order}
use Rattle.mesh.specs.Subdivide.{subdivide_triple}
use Rattle.mesh.specs.CaseLaws.{many-1, going_start, many-parts, triple-refused, going_end, going-stop, going-room, going_more}
use Rattle.mesh.proofs.calls.subdivide_all.Goals as goal

pub returns-in_default : goal.returns-in_default
returns-in_default c =
    let p = many-parts (many-1 c.args.table.now c.args.points.now c.in_default.ensures) in
    record { number_value = p.0; done_value = p.1.0; table_after = p.1.1 }

pub loop-i-init : goal.loop-i-init
loop-i-init c =
    let t = c.args.table.now in
    let o = c.in-Some.ensures in
    going_start t c.args.points.now c.slots_of-n.result c.in-Some.free (rw c.slots_of-n.ensures (test-order t o.0).fits) o.0 o.1

pub returns-in-Err : goal.returns-in-Err
returns-in-Err c =
    let ps = c.args.points.now in
    let t = c.loop-i.table in
    let i = c.loop-i.i in
    let e = c.in-Err.ensures in
    let some : (subdivide_triple t ps i).number ≡ 0 → ⊥ = λ z. number-some c.in-Err.why (e.value ∙ z) in
    let p = many-parts (going-stop c.args.table.now ps c.slots_of-n.result t c.loop-i.free i c.loop-i.invariant c.loop-i-test.true some) in
    record { number_value = e.value ∙ p.0; done_value = p.1.0; table_after = e.t_after ∙ triple-refused t ps i some ∙ p.1.1 }

pub overflow_sub-free : goal.overflow_sub-free
overflow_sub-free c =
    let l = c.loop-i in
    going-room c.args.table.now c.args.points.now c.slots_of-n.result l.table l.free l.i l.invariant c.loop-i-test.true
    (sym c.in_default-subdivide_triple.ensures.value)

pub loop-i-preserved : goal.loop-i-preserved
loop-i-preserved c =
    let l = c.loop-i in
    let e = c.in_default-subdivide_triple.ensures in
    rw e.t_after (going_more c.args.table.now c.args.points.now c.slots_of-n.result l.table l.free l.i l.invariant c.loop-i-test.true (sym e.value))

pub returns : goal.returns
returns c =
    let l = c.loop-i in
    let p = many-parts (going_end c.args.table.now c.args.points.now c.slots_of-n.result l.table l.free l.i l.invariant c.loop-i-test.false) in
    let e : triples_in c.args.points.now ≡ l.i = omega arith in
    record { number_value = p.0; done_value = e ∙ p.1.0; table_after = p.1.1 }
