-- `engine::many::put_records` meets its promise: row by row. Assumes nothing.
use Rattle.std.proofs.Common.{◌∙◌, ◌*◌}
use Rattle.centres.specs.Marks.{in_marks}
use Rattle.engine.specs.Many.{record_row, row_width}
use Rattle.engine.specs.ManyLaws.{row_record, rows_none, rows_more}
use Rattle.std.proofs.lemmas.List.Edits.{sets}
use Rattle.engine.proofs.many.put_records.Goals as goal

pub loop-i-init : goal.loop-i-init
loop-i-init c =
    let a = c.args in
    rows_none (row_record (in_marks a.marks.now) a.pairs.now a.points.now) a.records.now

pub loop-i-preserved : goal.loop-i-preserved
loop-i-preserved c =
    let a = c.args in
    c.put_record.ensures
    ∙ (λ k. sets (c.loop-i.invariant k) (row_width * c.loop-i.i) (record_row (c.triple_record-r.ensures k)))
    ∙ rows_more (row_record (in_marks a.marks.now) a.pairs.now a.points.now) a.records.now c.loop-i.i
