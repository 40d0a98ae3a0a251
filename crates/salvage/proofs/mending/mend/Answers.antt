-- `salvage::mending::mend` meets its promise. Assumes nothing.
use Rattle.std.proofs.Common.{sym, ◌∙◌, refl, true, false}
use Rattle.lattice.specs.RefusalLaws.{number-some}
use Rattle.table.specs.Slots.{cleared_of}
use Rattle.table.specs.Entries.{records_of}
use Rattle.writers.specs.Files.{sorted}
use Rattle.readers.specs.FaultLaws.{handed-on}
use Rattle.salvage.specs.Salvage.{filled}
use Rattle.salvage.specs.FilledLaws.{mends-own, mends-order, mends-slots, judge-stops, judge-with, judge-grown}
use Rattle.salvage.proofs.mending.mend.Goals as goal

pub refill-requires : goal.refill-requires
refill-requires c = (c.requires.1.0, c.lay_keys-k.ensures)

pub returns-in_err-refill : goal.returns-in_err-refill
returns-in_err-refill c =
    let t = c.args.table.now in
    rw (handed-on c.from_residual.ensures.1)
    (judge-stops (filled (sorted (records_of t)) (cleared_of t)) _ c.refill.new.table c.in_err-refill.ensures (number-some c.in_err-refill.field-0.0))

pub all_pass-requires : goal.all_pass-requires
all_pass-requires c =
    let t = c.args.table.now in
    let u = c.refill.new.table in
    let mended = mends-own t c.requires.0 u (judge-with (filled (sorted (records_of t)) (cleared_of t)) 0 u c.in_ok-refill.ensures refl) in
    (mends-order mended, c.requires.1.0 ∙ sym (mends-slots mended))

pub returns-then-not-all_pass : goal.returns-then-not-all_pass
returns-then-not-all_pass c =
    let t = c.args.table.now in
    let u = c.refill.new.table in
    let f = filled (sorted (records_of t)) (cleared_of t) in
    let mended = mends-own t c.requires.0 u (judge-with f 0 u c.in_ok-refill.ensures refl) in
    judge-grown f 0 u c.in_ok-refill.ensures refl (mends-order mended) false (sym c.all_pass.ensures ∙ c.if-not-all_pass.true)

pub returns : goal.returns
returns c =
    let t = c.args.table.now in
    let u = c.refill.new.table in
    let f = filled (sorted (records_of t)) (cleared_of t) in
    let mended = mends-own t c.requires.0 u (judge-with f 0 u c.in_ok-refill.ensures refl) in
    judge-grown f 0 u c.in_ok-refill.ensures refl (mends-order mended) true (sym c.all_pass.ensures ∙ c.if-not-all_pass.false)
