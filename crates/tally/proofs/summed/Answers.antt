-- `tally::summed` meets its promise: slot by slot. Assumes nothing.
use Rattle.std.proofs.Common.{◌≡◌, ap, ◌∙◌, arith}
use Rattle.table.specs.Slots.{slots_of}
use Rattle.firsts.specs.Earlier.{sum_below}
use Rattle.counts.specs.CaseLaws.{summed-start, summed-more}
use Rattle.together.specs.Tally.{hexagons_in, ground_in, pairs_in}
use Rattle.tally.specs.Count as slot
use Rattle.tally.proofs.summed.Goals as goal

pub loop-k-init : goal.loop-k-init
loop-k-init c =
    let t = c.args.t.now in
    record { hexagons = summed-start (slot.hexagon_at t) 1; ground = summed-start (slot.ground_at t) 1; pairs = summed-start (slot.pairs_at t) 3 }

pub overflow_add-hexagons : goal.overflow_add-hexagons
overflow_add-hexagons c = record { fits = omega (arith, c.sums_in-s.ensures.hexagons.1) }

pub overflow_add-ground : goal.overflow_add-ground
overflow_add-ground c = record { fits = omega (arith, c.sums_in-s.ensures.ground.1) }

pub overflow_add-pairs : goal.overflow_add-pairs
overflow_add-pairs c = record { fits = omega (arith, c.sums_in-s.ensures.pairs.1) }

pub loop-k-preserved : goal.loop-k-preserved
loop-k-preserved c =
    let t = c.args.t.now in
    let k = c.loop-k.k in
    let v = c.loop-k.invariant in
    let e = c.sums_in-s.ensures in
    record {
      hexagons = summed-more (slot.hexagon_at t) 1 k _ _ v.hexagons e.hexagons.0 e.hexagons.1;
      ground = summed-more (slot.ground_at t) 1 k _ _ v.ground e.ground.0 e.ground.1;
      pairs = summed-more (slot.pairs_at t) 3 k _ _ v.pairs e.pairs.0 e.pairs.1;
    }

pub returns : goal.returns
unfolding hexagons_in ground_in pairs_in
returns c =
    let t = c.args.t.now in
    let v = c.loop-k.invariant in
    let e : c.loop-k.k ≡ slots_of t = omega arith in
    record {
      hexagons_value = (v.hexagons.is ∙ ap (sum_below (slot.hexagon_at t)) e, omega (arith, v.hexagons.most));
      ground_value = v.ground.is ∙ ap (sum_below (slot.ground_at t)) e;
      pairs_value = v.pairs.is ∙ ap (sum_below (slot.pairs_at t)) e;
    }
