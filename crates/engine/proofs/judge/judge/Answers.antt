-- `engine::judge::judge` meets its promise: by the tests, in their order. Assumes nothing.
use Rattle.std.proofs.Common.{◌≡◌, sym, ◌∙◌, arith, ℕ, ℤ, List, Bool, false, ◌/◌, ◌≤◌, length}
use Rattle.centres.specs.Centres.{bad_place, unpaired}
use Rattle.engine.specs.Engine.{bad_base}
use Rattle.engine.specs.CallLaws.{judge-unpaired, judge-bad, base-fine, judge-long, marks-set, judge-unfit, judge-good, ready_by}
use Rattle.engine.proofs.judge.judge.Goals as goal

pub returns-then-unpaired-clause-value : goal.returns-then-unpaired-clause-value
returns-then-unpaired-clause-value c =
    judge-unpaired c.args.centres.now c.args.pairs.now (sym c.unpaired.ensures ∙ c.if-unpaired.true)

pub returns-then-first_bad-l-clause-value : goal.returns-then-first_bad-l-clause-value
returns-then-first_bad-l-clause-value c =
    let u = sym c.unpaired.ensures ∙ c.if-unpaired.false in
    judge-bad c.args.centres.now c.args.pairs.now u (omega (arith, c.first_bad.ensures.value, c.if-first_bad-l.true))

-- past the judgement of the centres
fine : (cs ps : List ℤ) (n : ℕ) (b : Bool) → b ≡ unpaired cs → b ≡ false → n ≡ bad_place cs → length cs / 2 ≤ n → bad_base cs ≡ false
fine cs ps n b u f e h = base-fine cs ps (sym u ∙ f) (omega (arith, e, h))

pub returns-then-k-ne0-clause-value : goal.returns-then-k-ne0-clause-value
returns-then-k-ne0-clause-value c =
    let cs = c.args.centres.now in
    let ps = c.args.pairs.now in
    let g = fine cs ps _ _ c.unpaired.ensures c.if-unpaired.false c.first_bad.ensures.value c.if-first_bad-l.false in
    judge-long cs ps g c.if-k-ne0.true

pub all_fit-requires-clause-centre_set : goal.all_fit-requires-clause-centre_set
all_fit-requires-clause-centre_set c =
    let cs = c.args.centres.now in
    let ps = c.args.pairs.now in
    let g = fine cs ps _ _ c.unpaired.ensures c.if-unpaired.false c.first_bad.ensures.value c.if-first_bad-l.false in
    marks-set cs ps g c.if-k-ne0.false c.first_bad.new.marks (c.first_bad.ensures.marked_2 c.if-first_bad-l.false)

pub returns-clause-value : goal.returns-clause-value
returns-clause-value c =
    let cs = c.args.centres.now in
    let ps = c.args.pairs.now in
    let g = fine cs ps _ _ c.unpaired.ensures c.if-unpaired.false c.first_bad.ensures.value c.if-first_bad-l.false in
    let m = c.first_bad.ensures.marked_2 c.if-first_bad-l.false in
    judge-good cs ps g c.if-k-ne0.false c.first_bad.new.marks m (sym c.all_fit.ensures ∙ c.if-not-all_fit.false)

pub returns-clause-ready : goal.returns-clause-ready
returns-clause-ready c =
    let cs = c.args.centres.now in
    let ps = c.args.pairs.now in
    let g = fine cs ps _ _ c.unpaired.ensures c.if-unpaired.false c.first_bad.ensures.value c.if-first_bad-l.false in
    let m = c.first_bad.ensures.marked_2 c.if-first_bad-l.false in
    λ q. ready_by cs ps g c.if-k-ne0.false c.first_bad.new.marks m (sym c.all_fit.ensures ∙ c.if-not-all_fit.false)

pub returns-then-not-all_fit-clause-value : goal.returns-then-not-all_fit-clause-value
returns-then-not-all_fit-clause-value c =
    let cs = c.args.centres.now in
    let ps = c.args.pairs.now in
    let g = fine cs ps _ _ c.unpaired.ensures c.if-unpaired.false c.first_bad.ensures.value c.if-first_bad-l.false in
    let m = c.first_bad.ensures.marked_2 c.if-first_bad-l.false in
    judge-unfit cs ps g c.if-k-ne0.false c.first_bad.new.marks m (sym c.all_fit.ensures ∙ c.if-not-all_fit.true)
