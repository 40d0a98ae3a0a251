-- `outlines::calls::refine` meets its promise. Assumes nothing.
use Rattle.std.proofs.Common.{sym, ◌∙◌}
use Rattle.lattice.specs.Refusals.{stop_number, stop_done}
use Rattle.table.specs.SlotLaws.{slots-table}
use Rattle.outlines.specs.CallLaws.{call_none, call-other, call-on}
use Rattle.outlines.proofs.calls.refine.Goals as goal

pub returns-then-n-eq0 : goal.returns-then-n-eq0
returns-then-n-eq0 c =
    let a = c.args in
    call_none a.table.now a.scratch.now a.o a.passes a.level (sym c.slots_of-n.ensures ∙ c.if-n-eq0.true)

pub returns-then-scratch-table : goal.returns-then-scratch-table
returns-then-scratch-table c =
    let a = c.args in
    call-other a.table.now a.scratch.now a.o a.passes a.level c.if-scratch-table.true

pub refine_request-outcome-requires : goal.refine_request-outcome-requires
refine_request-outcome-requires c =
    (slots-table c.args.table.now c.slots_of-n.result c.slots_of-n.ensures c.if-n-eq0.false, c.if-scratch-table.false)

pub returns : goal.returns
returns c =
    let a = c.args in
    let r = c.refine_request-outcome in
    let table = slots-table a.table.now c.slots_of-n.result c.slots_of-n.ensures c.if-n-eq0.false in
    call-on a.table.now a.scratch.now a.o a.passes a.level c.slots_of-n.result table c.if-scratch-table.false (stop_number r.result) (stop_done r.result)
    r.new.table r.new.scratch c.clear.new.t r.ensures c.clear.ensures
