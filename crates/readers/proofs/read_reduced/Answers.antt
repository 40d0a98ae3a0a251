-- `readers::read_reduced` meets its promise: by the tests, in the order of document 01. Assumes nothing.
use Rattle.std.proofs.Common.{◌≡◌, ◌∙◌, ap, refl, ℕ, length, replicate, arith}
use Rattle.lattice.specs.RefusalLaws.{number-some}
use Rattle.lattice.specs.Refusals.{number_of}
use Rattle.table.specs.Slots.{cleared_of}
use Rattle.table.specs.MapLaws.{clear-length}
use Rattle.readers.specs.Readers.{tables_after}
use Rattle.readers.specs.FaultLaws.{handed-on}
use Rattle.readers.specs.BeginLaws.{lengths-same, fault-reduced, begun-filled}
use Rattle.readers.specs.CallLaws.{lined-again, reduced-refused, reduced-read}
use Rattle.readers.proofs.read_reduced.Goals as goal

pub returns-in_err-n : goal.returns-in_err-n
returns-in_err-n c =
    rw (handed-on c.from_residual.ensures.1)
    (fault-reduced c.args.table.now c.args.scratch.now c.args.file.now c.in_err-n.ensures.begun (number-some c.in_err-n.field-0.0.why))

pub complete-requires : goal.complete-requires
complete-requires c =
    let t = c.args.table.now in
    let s = c.args.scratch.now in
    let u = c.begin.new.table in
    let w = begun-filled t s c.args.file.now c.in_ok-n.ensures.begun refl in
    let e = lengths-same t s w.fits in
    let long : length c.begin.new.scratch ≡ length u = omega (arith, c.begin.auto) in
    (long, lined-again t s c.args.file.now u w c.in_ok-n.n c.in_ok-n.ensures.slots)

pub returns-in-Err : goal.returns-in-Err
returns-in-Err c =
    let t = c.args.table.now in
    let s = c.args.scratch.now in
    let u = c.begin.new.table in
    let v = c.complete.new.table in
    let w = begun-filled t s c.args.file.now c.in_ok-n.ensures.begun refl in
    let h = c.refuse.ensures in
    let l : length v ≡ length t = omega (arith, c.complete.auto, c.begin.auto) in
    let scratch = c.in-Err.ensures.scratch_after ∙ ap cleared_of w.scratch ∙ ap (λ (k : ℕ). replicate k 255) (clear-length s) in
    (λ i. tables_after (number_of (h.0 i).why) (h.0 i).line ((h.1 ∙ ap (λ (k : ℕ). replicate k 255) l) i) (scratch i))
    ∙ reduced-refused t s c.args.file.now u w (number_of c.in-Err.why) v c.in-Err.ensures.closes (number-some c.in-Err.why)

pub returns : goal.returns
returns c =
    let t = c.args.table.now in
    let s = c.args.scratch.now in
    let u = c.begin.new.table in
    let v = c.complete.new.table in
    let w = begun-filled t s c.args.file.now c.in_ok-n.ensures.begun refl in
    let scratch = c.in_default.ensures.scratch_after ∙ ap cleared_of w.scratch ∙ ap (λ (k : ℕ). replicate k 255) (clear-length s) in
    (λ i. tables_after 0 0 v (scratch i)) ∙ reduced-read t s c.args.file.now u w 0 v c.in_default.ensures.closes refl
