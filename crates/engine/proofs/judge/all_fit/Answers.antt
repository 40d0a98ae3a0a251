-- `engine::judge::all_fit` meets its promise: pair by pair. Assumes nothing.
use Rattle.std.proofs.Common.{sym, ◌∙◌}
use Rattle.centres.specs.Marks.{in_marks}
use Rattle.engine.specs.ScanLaws.{judged-none, judged-more, judged-fails}
use Rattle.engine.proofs.judge.all_fit.Goals as goal

pub loop-j-init : goal.loop-j-init
loop-j-init c = judged-none (in_marks c.args.marks.now) c.args.pairs.now

pub loop-j-preserved : goal.loop-j-preserved
loop-j-preserved c =
    let a = c.args in
    judged-more (in_marks a.marks.now) a.pairs.now c.loop-j.j c.loop-j.invariant (sym c.pair_fits.ensures ∙ c.if-not-pair_fits.false)

pub returns-then-not-pair_fits : goal.returns-then-not-pair_fits
returns-then-not-pair_fits c =
    let a = c.args in
    sym (judged-fails (in_marks a.marks.now) a.pairs.now c.loop-j.j a.n c.loop-j-test.true (sym c.pair_fits.ensures ∙ c.if-not-pair_fits.true))
