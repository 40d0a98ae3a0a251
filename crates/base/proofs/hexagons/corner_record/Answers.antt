-- `base::corner_record` meets its promise: by the tests, in their order. Assumes nothing.
use Rattle.std.proofs.Common.{sym, ◌∙◌}
use Rattle.centres.specs.Marks.{in_marks}
use Rattle.base.specs.LayLaws.{corner-boundary, corner-six, corner-three}
use Rattle.base.proofs.hexagons.corner_record.Goals as goal

pub returns-then-not-is_internal : goal.returns-then-not-is_internal
returns-then-not-is_internal c =
    c.vertex.ensures ∙ corner-boundary (in_marks c.args.marks.now) c.args.q (sym c.is_internal.ensures ∙ c.if-not-is_internal.true)

pub returns-then-class-eq1 : goal.returns-then-class-eq1
returns-then-class-eq1 c =
    let inside = sym c.is_internal.ensures ∙ c.if-not-is_internal.false in
    c.vertex-then-class-eq1.ensures ∙ corner-six (in_marks c.args.marks.now) c.args.q inside (sym c.class.ensures ∙ c.if-class-eq1.true)

pub returns-else-class-eq1 : goal.returns-else-class-eq1
returns-else-class-eq1 c =
    let inside = sym c.is_internal.ensures ∙ c.if-not-is_internal.false in
    c.vertex-else-class-eq1.ensures ∙ corner-three (in_marks c.args.marks.now) c.args.q inside (λ e. c.if-class-eq1.false (c.class.ensures ∙ e))
