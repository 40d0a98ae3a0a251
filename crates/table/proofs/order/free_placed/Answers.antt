-- `table::free_placed` meets its promise. Assumes nothing.
use Rattle.std.proofs.Common.{◌≡◌, ap, sym, ◌∙◌, refl, ℕ, arith}
use Rattle.laws.specs.Rules.{upto}
use Rattle.laws.specs.Each.{upto-more, upto-fails}
use Rattle.table.specs.Slots.{slot_at, free_below}
use Rattle.table.specs.SlotLaws.{table-slots, free-none, free_more}
use Rattle.table.specs.RunLaws.{run_none, run_more, run-most}
use Rattle.table.specs.Order.{placed_at, all_placed}
use Rattle.table.proofs.order.free_placed.Goals as goal

pub loop-i-init : goal.loop-i-init
loop-i-init c =
    let f = slot_at c.args.t.now in
    record { placed = refl; free = free-none f; few = omega arith; run = run_none f }

pub returns-then-not-placed : goal.returns-then-not-placed
unfolding all_placed
returns-then-not-placed c =
    upto-fails (placed_at c.args.t.now) c.loop-i.i c.args.n c.loop-i-test.true (sym c.placed.ensures ∙ c.if-not-placed.true)

pub run_on-run-requires : goal.run_on-run-requires
run_on-run-requires c = omega (arith, run-most (slot_at c.args.t.now) c.loop-i.i)

pub loop-i-preserved : goal.loop-i-preserved
loop-i-preserved c =
    let f = slot_at c.args.t.now in
    let inv = c.loop-i.invariant in
    record {
      placed = upto-more (placed_at c.args.t.now) c.loop-i.i inv.placed (sym c.placed.ensures ∙ c.if-not-placed.false);
      free = free_more f c.loop-i.i inv.free c.one_if_free-one.ensures.0;
      few = omega arith;
      run = run_more f c.loop-i.i _ _ _ inv.run c.one_if_free-one.ensures.0 c.run_on-run.ensures;
    }

pub returns : goal.returns
unfolding all_placed
returns c =
    let e : c.loop-i.i ≡ c.args.n = omega arith in (
      ap (λ (k : ℕ). upto k (placed_at c.args.t.now)) (sym e) ∙ c.loop-i.invariant.placed,
      c.loop-i.invariant.free ∙ ap (free_below (slot_at c.args.t.now)) (e ∙ sym (table-slots c.args.t.now c.args.n c.requires)),
    )
