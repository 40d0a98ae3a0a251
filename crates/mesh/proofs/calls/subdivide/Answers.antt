-- `mesh::calls::subdivide` meets its promise. Assumes nothing.
use Rattle.table.specs.OrderLaws.{test-order}
use Rattle.mesh.specs.CallLaws.{call-1, after-parts}
use Rattle.mesh.proofs.calls.subdivide.Goals as goal

pub returns-in_default : goal.returns-in_default
returns-in_default c =
    let a = c.args in
    let p = after-parts (call-1 a.table.now a.a a.b a.m c.in_default.ensures) in
    record { value = p.0; table_after = p.1 }

pub subdivide_ordered-requires : goal.subdivide_ordered-requires
subdivide_ordered-requires c =
    let o = c.in-Some.ensures in
    rw c.slots_of-n.ensures ((test-order c.args.table.now o.0).fits, o)
