-- The invariant of `table::free_placed`: the slots so far are placed, the free ones counted, and the last taken ones.
use Rattle.std.proofs.Common.{◌≡◌, ◌≤◌, true}
use Rattle.laws.specs.Rules.{upto}
use Rattle.table.specs.Slots.{slot_at, free_below}
use Rattle.table.specs.Reading.{run_before}
use Rattle.table.specs.Order.{placed_at}
use Rattle.table.proofs.order.free_placed.Given as goal

abbrev pub invariant-loop-i : goal.invariant-loop-i
invariant-loop-i l = record {
  placed : upto l.i (placed_at l.t) ≡ true;
  free : l.free ≡ free_below (slot_at l.t) l.i;
  few : l.free ≤ l.i;
  run : l.run ≡ run_before (slot_at l.t) l.i;
}
