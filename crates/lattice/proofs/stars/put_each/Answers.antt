-- `lattice::stars::put_each` meets its promise: a point put is one place more. Assumes nothing.
use Rattle.std.proofs.Common.{◌≡◌, sym, ap, subst, ◌∙◌, arith, List, ℤ, ℕ, ◌+◌, ◌*◌, ◌<◌}
use Rattle.std.proofs.lemmas.List.Edits.{sets}
use Rattle.lattice.specs.Stars.{step_of, adjacent_at, nowhere}
use Rattle.lattice.specs.StarLaws.{step-asked, step_given}
use Rattle.lattice.specs.Bounds.{Near}
use Rattle.lattice.specs.RecordLaws.{Inner, inner-small}
use Rattle.lattice.specs.PatternLaws.{adjacent-near}
use Rattle.lattice.specs.Patterns.{adjacent_of}
use Rattle.lattice.specs.AnswerRows.{point_numbers}
use Rattle.lattice.specs.AnswerRowLaws.{mixed-more}
use Rattle.lattice.specs.declared.points.Point.{Point}
use Rattle.lattice.specs.declared.records.Record.{Record}
use Rattle.lattice.proofs.stars.put_each.Goals as goal

near : (v : Record) → Inner v → (j : ℕ) → j < v.d → (p : Point) → p ≡ adjacent_of v.d v.k j → Near v.n p
near v i j h p e = subst (Near v.n) (sym e) (adjacent-near v i j h)

pub step-requires : goal.step-requires
step-requires c =
    let v = c.args.v in
    let i = c.requires.inner in
    step-asked v.at v.n _ (inner-small i) (near v i c.loop-j.j c.loop-j-test.true _ c.adjacent-p.ensures)

pub loop-j-preserved : goal.loop-j-preserved
loop-j-preserved c =
    let v = c.args.v in
    let i = c.requires.inner in
    let j = c.loop-j.j in
    let n = near v i j c.loop-j-test.true _ c.adjacent-p.ensures in
    let p = c.step.ensures ∙ step_given v.at v.n _ (inner-small i) n ∙ ap (step_of v.at v.n) c.adjacent-p.ensures in
    c.put_point.ensures
    ∙ ap (λ (o : List ℤ). sets o (3 * j + 1) (point_numbers c.step.result)) c.loop-j.invariant
    ∙ mixed-more v.d (adjacent_at v) (λ i. nowhere) j (omega (arith, i.top, c.loop-j-test.true)) _ p
