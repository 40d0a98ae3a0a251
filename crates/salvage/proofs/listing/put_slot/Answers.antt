-- `salvage::listing::put_slot` meets its promise. Assumes nothing.
use Rattle.std.proofs.Common.{sym, ap, ◌∙◌, Bool, not, arith}
use Rattle.marks.specs.Marks.{marked_at}
use Rattle.salvage.specs.Salvage.{restored_word, change_if}
use Rattle.salvage.specs.NoteLaws.{puts_none, puts-same}
use Rattle.salvage.specs.ListLaws.{note_of, slot_note}
use Rattle.salvage.proofs.listing.put_slot.Goals as goal

pub read_slot-requires : goal.read_slot-requires
read_slot-requires c = omega (arith, c.requires.in_order.0.fits.long, c.requires.in_order.1)

pub marked-requires : goal.marked-requires
marked-requires c = omega (arith, c.requires.in_order.0.fits.most, c.requires.in_order.1)

pub put_if-requires : goal.put_if-requires
put_if-requires c = c.requires.at_bound

pub returns-in-None : goal.returns-in-None
unfolding slot_note
returns-in-None c =
    puts-same (sym (ap (note_of (marked_at c.args.marks.now c.args.i)) (sym c.read_slot.ensures ∙ c.in-None.is)))
    (puts_none c.args.out.now c.args.at c.args.room c.requires.at_bound.0)

pub returns-in-Some : goal.returns-in-Some
unfolding slot_note
returns-in-Some c =
    puts-same
    (ap (λ (b : Bool). change_if (not b) 0 restored_word) c.marked.ensures
    ∙ sym (ap (note_of (marked_at c.args.marks.now c.args.i)) (sym c.read_slot.ensures ∙ c.in-Some.is))) c.put_if.ensures
