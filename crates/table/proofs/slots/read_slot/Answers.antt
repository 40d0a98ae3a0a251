-- `table::read_slot` meets its promise: the slot's words and bytes, by the laws `slot-free` and `slot_held`. Assumes nothing.
use Rattle.std.proofs.Common.{sym, ◌∙◌}
use Rattle.std.specs.Int.{w32}
use Rattle.std.proofs.lemmas.Int.{to_z-of_z}
use Rattle.table.specs.SlotLaws.{slot-free, slot_held}
use Rattle.table.proofs.slots.read_slot.Goals as goal

pub returns-then-all_ones : goal.returns-then-all_ones
returns-then-all_ones c =
    slot-free _ c.args.i _ _ _ c.word-a.ensures c.word-b.ensures c.word-c.ensures (sym c.all_ones.ensures ∙ c.if-all_ones.true)

pub returns : goal.returns
returns c =
    slot_held _ c.args.i _ _ _ c.word-a.ensures c.word-b.ensures c.word-c.ensures _ _
    (to_z-of_z w32 c.cast_signed.result (record { sfits = c.cast_signed.type_inv }) ∙ c.cast_signed.ensures)
    (to_z-of_z w32 c.cast_signed-2.result (record { sfits = c.cast_signed-2.type_inv }) ∙ c.cast_signed-2.ensures)
    (sym c.all_ones.ensures ∙ c.if-all_ones.false)
