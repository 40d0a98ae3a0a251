-- The invariant of `salvage::listing::put_slots`: what is listed of the slots passed is put.
use Rattle.salvage.specs.NoteLaws.{Puts}
use Rattle.salvage.specs.ListLaws.{notes_below}
use Rattle.salvage.proofs.listing.put_slots.Given as goal

abbrev pub invariant-loop-i : goal.invariant-loop-i
invariant-loop-i l = Puts l.initial.out l.start l.room (notes_below l.table l.marks l.i) l.out l.at
