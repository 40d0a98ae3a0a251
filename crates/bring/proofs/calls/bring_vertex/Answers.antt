-- `bring::calls::bring_vertex` meets its promise. Assumes nothing.
use Rattle.bring.specs.ChainLaws.{standing-inner}
use Rattle.bring.specs.CallLaws.{comes-here, comes-same, vertex-14, vertex-0, vertex-5, vertex-on}
use Rattle.bring.proofs.calls.bring_vertex.Goals as goal

pub returns-then-d-eq0 : goal.returns-then-d-eq0
returns-then-d-eq0 c = comes-here 14 c.args.scratch.now (vertex-14 c.args.table.now c.args.v c.if-d-eq0.true)

pub returns-then-d-eq6 : goal.returns-then-d-eq6
returns-then-d-eq6 c = comes-here 0 c.args.scratch.now (vertex-0 c.args.table.now c.args.v c.if-d-eq0.false c.if-d-eq6.true)

pub returns-then-level-eq12 : goal.returns-then-level-eq12
returns-then-level-eq12 c =
    comes-here 5 c.args.scratch.now (vertex-5 c.args.table.now c.args.v c.if-d-eq0.false c.if-d-eq6.false c.if-level-eq12.true)

pub try_vertex-requires : goal.try_vertex-requires
try_vertex-requires c =
    let r = c.requires.1 in
    (c.requires.0, (r.0, (r.1.0, (r.1.1, (standing-inner r.1.0 c.if-d-eq0.false).low))))

pub returns : goal.returns
returns c =
    comes-same (vertex-on c.args.table.now c.args.v c.if-d-eq0.false c.if-d-eq6.false c.if-level-eq12.false) c.try_vertex.ensures
