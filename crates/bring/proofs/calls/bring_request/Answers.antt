-- `bring::calls::bring_request` meets its promise. Assumes nothing.
use Rattle.laws.specs.Machine.{asked₂}
use Rattle.lattice.specs.Points.{normal_of}
use Rattle.table.specs.MapLaws.{test-order}
use Rattle.bring.specs.ChainLaws.{located}
use Rattle.bring.specs.CallLaws.{comes-here, comes-same, request-1, request-3, request-on}
use Rattle.bring.proofs.calls.bring_request.Goals as goal

pub returns-in_default : goal.returns-in_default
returns-in_default c =
    let a = c.args in
    comes-here 1 a.scratch.now (request-1 a.table.now a.a a.b a.m c.in_default.ensures)

pub returns-in_default-locate : goal.returns-in_default-locate
returns-in_default-locate c =
    let a = c.args in
    let at = asked₂ (λ x y. normal_of x y a.m) c.ranges.a c.ranges.b c.normalise.ensures in
    comes-here 3 a.scratch.now (request-3 a.table.now a.a a.b a.m c.in-Some.ensures.0 (rw at c.in_default-locate.ensures))

pub bring_vertex-requires : goal.bring_vertex-requires
bring_vertex-requires c =
    let a = c.args in
    let o = test-order a.table.now c.in-Some.ensures.0 in (
      c.requires.0,
      (
        record { table = c.requires.1; order = o; free = c.in-Some.ensures.1 },
        located o c.normalise.result c.in-Some-locate.v c.in-Some-locate.i c.in-Some-locate.ensures,
      ),
    )

pub returns : goal.returns
returns c =
    let a = c.args in
    let at = asked₂ (λ x y. normal_of x y a.m) c.ranges.a c.ranges.b c.normalise.ensures in
    comes-same (request-on a.table.now a.a a.b a.m c.in-Some.ensures.0 c.in-Some-locate.v (rw at c.in-Some-locate.ensures.0)) c.bring_vertex.ensures
