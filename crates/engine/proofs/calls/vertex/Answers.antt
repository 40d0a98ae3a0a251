-- `engine::calls::vertex` meets its promise: by the judgement of the lists, then by the record at the point. Assumes nothing.
use Rattle.std.proofs.Common.{sym, ap, subst, ◌∙◌, refl, to_z-of_z, T}
use Rattle.lattice.specs.RefusalLaws.{number-some}
use Rattle.lattice.specs.Points.{is_normal, normal_of}
use Rattle.lattice.specs.declared.points.Point.{Point}
use Rattle.geometry.specs.Forms.{form-normal}
use Rattle.laws.specs.Choices.{of-true}
use Rattle.centres.specs.Marks.{mark_bytes}
use Rattle.centres.specs.MarkLaws.{marks-none}
use Rattle.engine.specs.Engine.{pairs_in, record_by, tell_at}
use Rattle.engine.specs.CallLaws.{call-refused, call-told}
use Rattle.std.proofs.lemmas.Result.{err_from_is_err_and}
use Rattle.engine.specs.Engine.{refusal}
use Rattle.engine.proofs.calls.vertex.Goals as goal

pub judge-requires : goal.judge-requires
judge-requires c = marks-none mark_bytes c.args.centres.now

pub returns-in_err-judge : goal.returns-in_err-judge
returns-in_err-judge c =
    let a = c.args in
    let p = err_from_is_err_and c.from_residual.result c.from_residual.ensures.1 in
    let e = c.in_err-judge.ensures.value in
    rw (p.1, p.2)
    ((λ i. refusal (e i)) ∙ call-refused a.centres.now a.pairs.now a.a a.b a.m (λ z. number-some c.in_err-judge.field-0.0 (e ∙ z)))

pub record_at-requires-clause-t : goal.record_at-requires-clause-t
record_at-requires-clause-t c =
    let a = c.args in
    let point = c.normalise.ensures ∙ (λ i. normal_of (to_z-of_z c.ranges.a i) (to_z-of_z c.ranges.b i) a.m) in
    subst (λ (q : Point). T (is_normal q)) (sym point) (of-true (form-normal a.a a.b a.m))

pub returns-in_default : goal.returns-in_default
returns-in_default c =
    let a = c.args in
    let ps = a.pairs.now in
    let ready = c.in_ok-judge.ensures.ready refl in
    let point = c.normalise.ensures ∙ (λ i. normal_of (to_z-of_z c.ranges.a i) (to_z-of_z c.ranges.b i) a.m) in
    ap tell_at (c.in_default.ensures ∙ (λ i. record_by (ready.marked i) ps (pairs_in ps) (point i)))
    ∙ call-told a.centres.now ps a.a a.b a.m (sym c.in_ok-judge.ensures.value)

pub returns : goal.returns
returns c =
    let a = c.args in
    let ps = a.pairs.now in
    let ready = c.in_ok-judge.ensures.ready refl in
    let point = c.normalise.ensures ∙ (λ i. normal_of (to_z-of_z c.ranges.a i) (to_z-of_z c.ranges.b i) a.m) in
    ap tell_at (c.in-Some.ensures ∙ (λ i. record_by (ready.marked i) ps (pairs_in ps) (point i)))
    ∙ call-told a.centres.now ps a.a a.b a.m (sym c.in_ok-judge.ensures.value)
