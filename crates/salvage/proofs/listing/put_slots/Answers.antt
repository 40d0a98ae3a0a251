-- `salvage::listing::put_slots` meets its promise. Assumes nothing.
use Rattle.std.proofs.Common.{◌≡◌, ap, List, ◌++◌, ℕ, suc, ◌+◌, arith}
use Rattle.salvage.specs.NoteLaws.{puts_none, puts-most, puts_then, puts-same}
use Rattle.salvage.specs.ListLaws.{slot_note, notes_below}
use Rattle.salvage.proofs.listing.put_slots.Goals as goal

pub loop-i-init : goal.loop-i-init
unfolding notes_below
loop-i-init c = puts_none c.args.out.now c.args.start c.args.room c.requires.start_bound.0

pub put_slot-at-requires : goal.put_slot-at-requires
put_slot-at-requires c = record {
  in_order = (c.requires.in_order.0, omega (arith, c.requires.in_order.1));
  at_bound = (puts-most c.loop-i.invariant, c.requires.start_bound.1);
}

more : (t m : List ℕ) (i : ℕ) → notes_below t m i ++ slot_note t m i ≡ notes_below t m (i + 1)
unfolding notes_below
more t m i = let e : suc i ≡ i + 1 = omega arith in ap (notes_below t m) e

pub loop-i-preserved : goal.loop-i-preserved
loop-i-preserved c = puts-same (more c.args.table.now c.args.marks.now c.loop-i.i) (puts_then c.loop-i.invariant c.put_slot-at.ensures)

pub returns : goal.returns
returns c =
    let e : c.loop-i.i ≡ c.args.n = omega arith in
    puts-same (ap (notes_below c.args.table.now c.args.marks.now) e) c.loop-i.invariant
