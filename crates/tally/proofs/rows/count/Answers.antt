-- `tally::count` meets its promise: by the order test. Assumes nothing.
use Rattle.std.proofs.Common.{ap, sym, ◌∙◌}
use Rattle.table.specs.MapLaws.{test-order}
use Rattle.tally.specs.Count.{CountsAfter}
use Rattle.tally.specs.CountLaws.{count-1, count-0}
use Rattle.tally.proofs.rows.count.Goals as goal

pub returns-then-not-in_order : goal.returns-then-not-in_order
returns-then-not-in_order c =
    let e = count-1 c.args.table.now (sym c.in_order.ensures ∙ c.if-not-in_order.true) in
    record { value = ap (λ (x : CountsAfter). x.number) (sym e); row = ap (λ (x : CountsAfter). x.counted) (sym e) }

pub surveyed-requires : goal.surveyed-requires
surveyed-requires c = (test-order _ (sym c.in_order.ensures ∙ c.if-not-in_order.false), c.slots_of.ensures)

pub returns : goal.returns
returns c =
    let ordered = sym c.in_order.ensures ∙ c.if-not-in_order.false in
    let e = count-0 c.args.table.now ordered c.surveyed.result.counts c.surveyed.ensures.0 in
    record { value = ap (λ (x : CountsAfter). x.number) (sym e); row = ap (λ (x : CountsAfter). x.counted) (sym e) }
