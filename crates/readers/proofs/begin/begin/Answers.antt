-- `readers::begin` meets its promise: by the tests, in the order of document 01. Assumes nothing.
use Rattle.std.proofs.Common.{◌≡◌, sym, ◌∙◌, ap, subst, refl, List, ℕ, length, arith}
use Rattle.table.specs.Slots.{slots_in}
use Rattle.table.specs.SlotLaws.{table-slots}
use Rattle.readers.specs.Readers.{read_lines}
use Rattle.readers.specs.LineSteps.{EndsAs}
use Rattle.readers.specs.BeginLaws.{prepared-fit, begun-read}
use Rattle.readers.proofs.begin.begin.Goals as goal

pub returns-clause-begun : goal.returns-clause-begun
returns-clause-begun c =
    let f = c.args.file.now in
    let t = c.args.table.now in
    let p = prepared-fit t c.args.scratch.now c.in-Some.ensures.prepared c.in-Some.ensures.some in
    begun-read t c.args.scratch.now f c.in-Some.ensures.prepared c.in-Some.ensures.some
    (subst (λ (x : List ℕ). EndsAs (read_lines f x) 0 0 c.read_lines.new.table) p.1 c.in_default-read_lines.ensures) refl

pub returns-clause-slots : goal.returns-clause-slots
returns-clause-slots c =
    let t = c.args.table.now in
    let p = prepared-fit t c.args.scratch.now c.in-Some.ensures.prepared c.in-Some.ensures.some in
    let l : length t ≡ length c.read_lines.new.table = omega (arith, c.read_lines.auto, c.prepare.auto) in
    sym (table-slots t c.in-Some.n p.3) ∙ ap slots_in l
