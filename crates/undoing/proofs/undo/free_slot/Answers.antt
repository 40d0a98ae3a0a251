-- `undoing::free_slot` meets its promise. Assumes nothing.
use Rattle.std.proofs.Common.{◌≡◌, ◌∙◌, ap, List, ℕ, ◌+◌, ◌*◌, set, arith}
use Rattle.std.proofs.Math.Seq.{sets}
use Rattle.table.specs.Slots.{slot_width}
use Rattle.undoing.specs.Undo.{ones, freed}
use Rattle.undoing.specs.FreeLaws.{free-next}
use Rattle.undoing.proofs.undo.free_slot.Goals as goal

pub loop-c-preserved : goal.loop-c-preserved
loop-c-preserved c =
    let a = c.args in
    ap (λ (u : List ℕ). set u (slot_width * a.i + c.loop-c.c) 255) c.loop-c.invariant ∙ free-next a.t.now (slot_width * a.i) c.loop-c.c

pub returns : goal.returns
unfolding freed
returns c =
    let e : c.loop-c.c ≡ slot_width = omega arith in
    c.loop-c.invariant ∙ ap (λ (k : ℕ). sets c.args.t.now (slot_width * c.args.i) (ones k)) e
