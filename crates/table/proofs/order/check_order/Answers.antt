-- `table::check_order` meets its promise: the fit of the length, then each slot. Assumes nothing.
use Rattle.std.proofs.Common.{sym, ◌∙◌}
use Rattle.table.specs.SlotLaws.{slots-table}
use Rattle.table.specs.OrderLaws.{not-fitting, fitting}
use Rattle.table.proofs.order.check_order.Goals as goal

pub returns-then-n-eq0 : goal.returns-then-n-eq0
returns-then-n-eq0 c = sym (not-fitting c.args.t.now (sym c.slots_of-n.ensures ∙ c.if-n-eq0.true))

pub free_placed-requires : goal.free_placed-requires
free_placed-requires c = slots-table _ _ c.slots_of-n.ensures c.if-n-eq0.false

pub returns : goal.returns
returns c = rw (sym (fitting c.args.t.now c.slots_of-n.result c.slots_of-n.ensures c.if-n-eq0.false)) c.free_placed.ensures
