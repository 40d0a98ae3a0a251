-- `table::write_slot` meets its promise: two words and four bytes, one after the other. Assumes nothing.
use Rattle.std.proofs.Common.{ℕ, ◌+◌, ◌*◌, ap, ◌∙◌, SFits, of_z}
use Rattle.std.specs.Int.{w32}
use Rattle.std.proofs.lemmas.Int.{to_z-of_z}
use Rattle.std.proofs.lemmas.List.Edits.{sets}
use borrow.Author.Rules.{rules}
use Rattle.laws.specs.Words.{word_bytes}
use Rattle.table.specs.Slots.{slot_width}
use Rattle.table.specs.SlotLaws.{slot-written}
use Rattle.table.proofs.slots.write_slot.Goals as goal

pub returns : goal.returns
returns c =
    let a = c.args in
    let fa : SFits w32 a.r.at.a = search rules in
    let fb : SFits w32 a.r.at.b = search rules in
    slot-written a.t.now c.put_word.new.t c.put_word-2.new.t c.put_bytes.new.t a.i a.r
    (c.put_word.ensures
    ∙ ap (λ (u : ℕ). sets a.t.now (slot_width * a.i) (word_bytes u)) (c.cast_unsigned.ensures ∙ ap (of_z w32) (to_z-of_z w32 a.r.at.a fa)))
    (c.put_word-2.ensures
    ∙ ap (λ (u : ℕ). sets c.put_word.new.t (slot_width * a.i + 4) (word_bytes u)) (c.cast_unsigned-2.ensures ∙ ap (of_z w32) (to_z-of_z w32 a.r.at.b fb)))
    c.put_bytes.ensures
