-- `centres::first_bad` meets its promise: a centre after the other. Assumes nothing.
use Rattle.std.proofs.Common.{◌≡◌, sym, ap, subst, ◌∙◌, arith, true, false, ◌+◌, ◌-◌, ◌<◌}
use Rattle.centres.specs.Centres.{bad_at, first_bad}
use Rattle.centres.specs.Marks.{Marked}
use Rattle.centres.specs.MarkLaws.{first-none, first-stop, first_good}
use Rattle.std.proofs.lemmas.Bool.{not-true, not-false}
use Rattle.centres.proofs.first_bad.Goals as goal

pub loop-i-preserved : goal.loop-i-preserved
loop-i-preserved c =
    let cs = c.args.centres.now in
    let n = c.args.count in
    let i = c.loop-i.i in
    let e : n - (i + 1) ≡ n - i - 1 = omega arith in
    let more : 0 < n - i = omega arith in
    let good : bad_at cs i ≡ false = not-true (bad_at cs i) (sym c.admit.ensures.value ∙ c.if-not-admit.false) in
    (ap (first_bad cs (i + 1)) e ∙ sym (first_good cs i (n - i) more good) ∙ c.loop-i.invariant.0, c.admit.ensures.marked_2 c.if-not-admit.false)

pub returns-then-not-admit-clause-value : goal.returns-then-not-admit-clause-value
returns-then-not-admit-clause-value c =
    let cs = c.args.centres.now in
    let n = c.args.count in
    let i = c.loop-i.i in
    let more : 0 < n - i = omega arith in
    let bad : bad_at cs i ≡ true = not-false (bad_at cs i) (sym c.admit.ensures.value ∙ c.if-not-admit.true) in
    sym (first-stop cs i (n - i) more bad) ∙ c.loop-i.invariant.0

pub returns-clause-value : goal.returns-clause-value
returns-clause-value c =
    let cs = c.args.centres.now in
    let e : c.args.count ≡ c.loop-i.i = omega arith in
    let z : 0 ≡ c.args.count - c.loop-i.i = omega arith in
    sym (first-none cs c.args.count) ∙ (λ k. first_bad cs (e k) (z k)) ∙ c.loop-i.invariant.0

pub returns-clause-marked_2 : goal.returns-clause-marked_2
returns-clause-marked_2 c =
    let e : c.args.count ≡ c.loop-i.i = omega arith in
    λ q. subst (Marked c.loop-i.marks c.args.centres.now) (sym e) c.loop-i.invariant.1
