-- `readers::read_full` meets its promise: by the tests, in the order of document 01. Assumes nothing.
use Rattle.std.proofs.Common.{◌≡◌, sym, ◌∙◌, ap, refl, true, false, ℕ, length, replicate, arith}
use Rattle.lattice.specs.RefusalLaws.{number-some}
use Rattle.lattice.specs.Refusals.{number_of}
use Rattle.readers.specs.Readers.{tables_after}
use Rattle.readers.specs.FaultLaws.{handed-on}
use Rattle.readers.specs.BeginLaws.{fault-full, begun-filled}
use Rattle.readers.specs.CallLaws.{full-judged}
use Rattle.readers.proofs.read_full.Goals as goal

pub returns-in_err-n : goal.returns-in_err-n
returns-in_err-n c =
    rw (handed-on c.from_residual.ensures.1)
    (fault-full c.args.table.now c.args.scratch.now c.args.file.now c.in_err-n.ensures.begun (number-some c.in_err-n.field-0.0.why))

pub all_pass-requires : goal.all_pass-requires
all_pass-requires c =
    let w = begun-filled c.args.table.now c.args.scratch.now c.args.file.now c.in_ok-n.ensures.begun refl in
    (w.lined.order, c.in_ok-n.ensures.slots)

pub returns-then-all_pass : goal.returns-then-all_pass
returns-then-all_pass c =
    let u = c.begin.new.table in
    let w = begun-filled c.args.table.now c.args.scratch.now c.args.file.now c.in_ok-n.ensures.begun refl in
    (λ i. tables_after 0 0 u (w.scratch i))
    ∙ full-judged c.args.table.now c.args.scratch.now c.args.file.now u w true (sym c.all_pass.ensures ∙ c.if-all_pass.true)

pub returns : goal.returns
returns c =
    let u = c.begin.new.table in
    let w = begun-filled c.args.table.now c.args.scratch.now c.args.file.now c.in_ok-n.ensures.begun refl in
    let h = c.refuse.ensures in
    let l : length u ≡ length c.args.table.now = omega (arith, c.begin.auto) in
    (λ i. tables_after (number_of (h.0 i).why) (h.0 i).line ((h.1 ∙ ap (λ (k : ℕ). replicate k 255) l) i) (w.scratch i))
    ∙ full-judged c.args.table.now c.args.scratch.now c.args.file.now u w false (sym c.all_pass.ensures ∙ c.if-all_pass.false)
