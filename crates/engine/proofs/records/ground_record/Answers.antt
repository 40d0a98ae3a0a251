-- `engine::records::ground_record` meets its promise: by the base. Assumes nothing.
use Rattle.std.specs.Prelude.{Some}
use Rattle.std.proofs.Common.{sym, ap, ◌∙◌}
use Rattle.centres.specs.Marks.{in_marks}
use Rattle.engine.specs.ScanLaws.{ground-absent, ground-rim, ground-star}
use Rattle.engine.proofs.records.ground_record.Goals as goal

pub returns-then-not-is_given : goal.returns-then-not-is_given
returns-then-not-is_given c =
    let a = c.args in
    ground-absent (in_marks a.marks.now) a.p a.s c.requires.1.0 (sym c.is_given.ensures ∙ c.if-not-is_given.true)

pub returns-then-not-is_inside : goal.returns-then-not-is_inside
returns-then-not-is_inside c =
    let a = c.args in
    ap Some c.filled.ensures
    ∙ ground-rim (in_marks a.marks.now) a.p a.s c.requires.1.0 (sym c.is_given.ensures ∙ c.if-not-is_given.false)
    (sym c.is_inside.ensures ∙ c.if-not-is_inside.true)

pub returns : goal.returns
returns c =
    let a = c.args in
    ap Some c.star.ensures
    ∙ ground-star (in_marks a.marks.now) a.p a.s c.requires.1.0 (sym c.is_given.ensures ∙ c.if-not-is_given.false)
    (sym c.is_inside.ensures ∙ c.if-not-is_inside.false)
