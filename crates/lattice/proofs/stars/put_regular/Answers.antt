-- `lattice::stars::put_regular` meets its promise: a point put and the arm turned is one place more. Assumes nothing.
use Rattle.std.proofs.Common.{sym, ap, subst, ◌∙◌, List, ℤ, ◌+◌, ◌*◌}
use Rattle.std.proofs.lemmas.List.Edits.{sets}
use Rattle.lattice.specs.AnswerRows.{point_numbers}
use Rattle.lattice.specs.ArmLaws.{ArmsPut, arms-light, arms_more}
use Rattle.lattice.specs.declared.points.Point.{Point}
use Rattle.lattice.proofs.stars.put_regular.Goals as goal

pub added-requires : goal.added-requires
added-requires c = arms-light c.args.v c.requires.inner c.loop-j.j _ _ c.loop-j.invariant c.loop-j-test.true

pub next_arm-w-requires : goal.next_arm-w-requires
next_arm-w-requires c = arms-light c.args.v c.requires.inner c.loop-j.j _ _ c.loop-j.invariant c.loop-j-test.true

pub loop-j-preserved : goal.loop-j-preserved
loop-j-preserved c =
    let v = c.args.v in
    let j = c.loop-j.j in
    let e = c.put_point.ensures ∙ ap (λ (q : Point). sets c.loop-j.out (3 * j + 1) (point_numbers q)) c.added.ensures in
    let more = arms_more v c.requires.inner c.requires.d_value j _ _ c.loop-j.invariant c.loop-j-test.true in
    subst (λ (o : List ℤ). ArmsPut v (j + 1) o c.next_arm-w.result) (sym e) (subst (ArmsPut v (j + 1) _) (sym c.next_arm-w.ensures) more)
