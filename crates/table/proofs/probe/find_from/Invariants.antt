-- The invariant of `table::find_from`: what is left of the search ends where the whole, started at the slot given, ends.
use Rattle.std.proofs.Common.{◌≡◌, ◌<◌}
use Rattle.table.specs.Slots.{slot_at}
use Rattle.table.specs.Search.{meets, search_from}
use Rattle.table.proofs.probe.find_from.Given as goal

abbrev pub invariant-loop-left : goal.invariant-loop-left
invariant-loop-left l = record {
  below : l.i < l.n;
  same : search_from (λ j. meets (slot_at l.t j) l.p) l.n l.i l.left ≡ search_from (λ j. meets (slot_at l.t j) l.p) l.n l.start l.n;
}

abbrev pub decreases-loop-left : goal.decreases-loop-left
decreases-loop-left l = l.left
