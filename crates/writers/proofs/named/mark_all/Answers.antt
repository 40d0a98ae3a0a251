-- One slot more.
use Rattle.std.proofs.Common.{ℕ, Bool}
use Rattle.marks.specs.Marks.{marks-more}
use Rattle.table.specs.Slots.{slot_at}
use Rattle.writers.specs.Named.{slot_finds}
use Rattle.writers.proofs.named.mark_all.Goals as goal

pub loop-i-preserved : goal.loop-i-preserved
loop-i-preserved c =
    let t = c.args.table.now in
    let finds : ℕ → ℕ → Bool = λ k i. slot_finds t (slot_at t k) i in
    marks-more c.args.marks.now c.loop-i.marks _ finds c.loop-i.i c.loop-i.invariant c.mark_slot.ensures
