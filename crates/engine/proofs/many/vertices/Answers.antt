-- `engine::many::vertices` meets its promise: by the judgement of the lists, then by the room. Assumes nothing.
use Rattle.std.proofs.Common.{sym, ◌∙◌, arith, refl}
use Rattle.lattice.specs.RefusalLaws.{number-some}
use Rattle.centres.specs.Marks.{mark_bytes}
use Rattle.centres.specs.MarkLaws.{marks-none}
use Rattle.laws.specs.Triples.{triples_in}
use Rattle.centres.specs.Centres.{is_listed}
use Rattle.engine.specs.Many.{triple_record, rows_in}
use Rattle.engine.specs.ManyLaws.{row_record, row-triple, rows_same, after-parts, many-refused, many-short, many-done}
use Rattle.std.proofs.lemmas.Result.{err_from_is_err_and}
use Rattle.engine.proofs.many.vertices.Goals as goal

pub judge-requires : goal.judge-requires
judge-requires c = marks-none mark_bytes c.args.centres.now

pub returns-in_err-judge-clause-value : goal.returns-in_err-judge-clause-value
returns-in_err-judge-clause-value c =
    let a = c.args in
    let p = err_from_is_err_and c.from_residual.result c.from_residual.ensures.1 in
    let e = c.in_err-judge.ensures.value in
    let refused = many-refused a.centres.now a.pairs.now a.points.now a.records.now (λ z. number-some c.in_err-judge.field-0.0 (e ∙ z)) in
    rw (p.1, p.2) (e ∙ (after-parts refused).0)

pub returns-in_err-judge-clause-records_after : goal.returns-in_err-judge-clause-records_after
returns-in_err-judge-clause-records_after c =
    let a = c.args in
    let e = c.in_err-judge.ensures.value in
    (after-parts (many-refused a.centres.now a.pairs.now a.points.now a.records.now (λ z. number-some c.in_err-judge.field-0.0 (e ∙ z)))).1

pub returns-then-records-count-clause-value : goal.returns-then-records-count-clause-value
returns-then-records-count-clause-value c =
    let a = c.args in
    let good = sym c.in_ok-judge.ensures.value in
    (after-parts (many-short a.centres.now a.pairs.now a.points.now a.records.now good (omega (arith, c.if-records-count.true)))).0

pub returns-then-records-count-clause-records_after : goal.returns-then-records-count-clause-records_after
returns-then-records-count-clause-records_after c =
    let a = c.args in
    let good = sym c.in_ok-judge.ensures.value in
    (after-parts (many-short a.centres.now a.pairs.now a.points.now a.records.now good (omega (arith, c.if-records-count.true)))).1

pub returns-clause-value : goal.returns-clause-value
returns-clause-value c =
    let a = c.args in
    let good = sym c.in_ok-judge.ensures.value in
    (after-parts (many-done a.centres.now a.pairs.now a.points.now a.records.now good (omega (arith, c.if-records-count.false)))).0

pub returns-clause-records_after : goal.returns-clause-records_after
returns-clause-records_after c =
    let a = c.args in
    let cs = a.centres.now in
    let ps = a.pairs.now in
    let qs = a.points.now in
    let good = sym c.in_ok-judge.ensures.value in
    let ready = c.in_ok-judge.ensures.ready refl in
    c.put_records.ensures
    ∙ (λ k. rows_in (row_record (ready.marked k) ps qs) a.records.now (triples_in qs))
    ∙ rows_same (row_record (is_listed cs) ps qs) (triple_record cs ps qs) (row-triple cs ps qs good) a.records.now (triples_in qs)
    ∙ (after-parts (many-done cs ps qs a.records.now good (omega (arith, c.if-records-count.false)))).1
