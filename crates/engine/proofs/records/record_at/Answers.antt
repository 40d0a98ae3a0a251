-- `engine::records::record_at` meets its promise: outside the ranges there is no record; inside, a scan tells it. Assumes nothing.
use Rattle.std.proofs.Common.{◌≡◌, sym, ap, ◌∙◌, arith}
use Rattle.centres.specs.Marks.{in_marks}
use Rattle.engine.specs.ScanLaws.{tell-record, judged-depths, outside-none, inside-small, level-most}
use Rattle.engine.specs.Scan.{seen_of, wanted_of, tell_by}
use Rattle.engine.specs.declared.pairs.Seen.{Seen}
use Rattle.lattice.specs.Records.{valid_of}
use Rattle.engine.proofs.records.record_at.Goals as goal

pub returns-then-not-valid : goal.returns-then-not-valid
returns-then-not-valid c =
    let a = c.args in
    let r = c.requires in
    let range = c.valid.ensures ∙ ap valid_of c.filled.ensures in
    outside-none (in_marks a.marks.now) r.centre_set a.pairs.now a.n r.n_value a.p r.t (sym range ∙ c.if-not-valid.true)

pub looked_for-w-requires : goal.looked_for-w-requires
looked_for-w-requires c =
    let range = c.valid.ensures ∙ ap valid_of c.filled.ensures in
    inside-small c.args.p (sym range ∙ c.if-not-valid.false)

pub scan-s-requires-clause-depths : goal.scan-s-requires-clause-depths
scan-s-requires-clause-depths c = judged-depths (in_marks c.args.marks.now) c.args.pairs.now c.args.n c.requires.n_value

pub by_seen-requires : goal.by_seen-requires
by_seen-requires c =
    let a = c.args in
    let range = c.valid.ensures ∙ ap valid_of c.filled.ensures in
    let k = inside-small a.p (sym range ∙ c.if-not-valid.false) in
    let is = c.scan-s.ensures ∙ ap (seen_of a.pairs.now a.n) c.looked_for-w.ensures in
    let e : c.scan-s.result.times ≡ (seen_of a.pairs.now a.n (wanted_of a.p)).times = ap (λ (x : Seen). x.times) is in
    (k.0, (k.1, omega (arith, level-most (in_marks a.marks.now) a.pairs.now a.n c.requires.n_value a.p k.1, e)))

pub returns : goal.returns
returns c =
    let a = c.args in
    let H = in_marks a.marks.now in
    let is = c.scan-s.ensures ∙ ap (seen_of a.pairs.now a.n) c.looked_for-w.ensures in
    c.by_seen.ensures ∙ ap (tell_by H a.p) is ∙ tell-record H a.pairs.now a.n a.p c.requires.t
