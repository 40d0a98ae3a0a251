-- `engine::records::by_seen` meets its promise: by the depth. Assumes nothing.
use Rattle.std.specs.Prelude.{Some}
use Rattle.std.proofs.Common.{ap, ◌∙◌}
use Rattle.centres.specs.Marks.{in_marks}
use Rattle.engine.specs.ScanLaws.{deep-absent, deep-star}
use Rattle.std.proofs.lemmas.Bool.{not-true, not-false}
use Rattle.engine.proofs.records.by_seen.Goals as goal

pub returns-then-not-s : goal.returns-then-not-s
returns-then-not-s c =
    let a = c.args in
    deep-absent (in_marks a.marks.now) a.p a.s c.if-p-eq0.false (not-true a.s.maker c.if-not-s.true)

pub returns : goal.returns
returns c =
    let a = c.args in
    ap Some c.star.ensures ∙ deep-star (in_marks a.marks.now) a.p a.s c.if-p-eq0.false (not-false a.s.maker c.if-not-s.false)
