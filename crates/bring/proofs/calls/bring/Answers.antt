-- `bring::calls::bring` meets its promise. Assumes nothing.
use Rattle.std.proofs.Common.{sym, ◌∙◌}
use Rattle.std.proofs.lemmas.Int.{to_z-of_z}
use Rattle.lattice.specs.Refusals.{number_told}
use Rattle.table.specs.SlotLaws.{slots-table}
use Rattle.bring.specs.CallLaws.{call_none, call-other, call-on}
use Rattle.bring.proofs.calls.bring.Goals as goal

pub returns-then-n-eq0 : goal.returns-then-n-eq0
returns-then-n-eq0 c =
    let a = c.args in
    call_none a.table.now a.scratch.now a.a a.b a.m (sym c.slots_of-n.ensures ∙ c.if-n-eq0.true)

pub returns-then-scratch-table : goal.returns-then-scratch-table
returns-then-scratch-table c =
    let a = c.args in
    call-other a.table.now a.scratch.now a.a a.b a.m c.if-scratch-table.true

pub bring_request-outcome-requires : goal.bring_request-outcome-requires
bring_request-outcome-requires c =
    (c.if-scratch-table.false, slots-table c.args.table.now c.slots_of-n.result c.slots_of-n.ensures c.if-n-eq0.false)

pub returns : goal.returns
returns c =
    let a = c.args in
    let r = c.bring_request-outcome in
    let table = slots-table a.table.now c.slots_of-n.result c.slots_of-n.ensures c.if-n-eq0.false in
    let fa = c.ranges.a in
    let fb = c.ranges.b in
    call-on a.table.now a.scratch.now a.a a.b a.m c.slots_of-n.result table c.if-scratch-table.false (number_told r.result) r.new.table r.new.scratch
    c.clear.new.t (simp to_z-of_z at r.ensures) c.clear.ensures
