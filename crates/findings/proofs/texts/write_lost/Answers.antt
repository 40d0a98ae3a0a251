-- `findings::texts::write_lost` meets its promise. Assumes nothing.
use Rattle.std.proofs.Common.{◌≡◌, ap, [], ◌∷◌, ℕ, suc, ◌+◌, ◌-◌, set, arith, length-set}
use Rattle.laws.specs.Stores.{Wrote}
use Rattle.text.specs.Decimal.{tab}
use Rattle.text.specs.Back.{wrote-before}
use Rattle.findings.specs.Findings.{question, lost_text}
use Rattle.findings.specs.TextLengths.{lost-long}
use Rattle.findings.proofs.texts.write_lost.Goals as goal

pub tail_back-past-requires : goal.tail_back-past-requires
tail_back-past-requires c = (c.requires.0, (omega (arith, lost-long c.args.list.now c.args.f, c.requires.1.0), c.requires.1.1))

pub overflow_sub-at : goal.overflow_sub-at
overflow_sub-at c = omega (arith, lost-long c.args.list.now c.args.f, c.requires.1.0, c.tail_back-past.ensures.past)

pub bounds-out-at : goal.bounds-out-at
bounds-out-at c = omega (arith, lost-long c.args.list.now c.args.f, c.requires.1, c.tail_back-past.ensures.past, c.tail_back-past.auto.out)

pub bounds-out-at-2 : goal.bounds-out-at-2
bounds-out-at-2 c =
    let t = c.tail_back-past in
    omega (arith, lost-long c.args.list.now c.args.f, c.requires.1, t.ensures.past, t.auto.out, length-set t.new.out (t.result - 2) question)

pub returns : goal.returns
unfolding lost_text
returns c =
    let o = c.tail_back-past.new.out in
    let at = c.tail_back-past.result - 2 in
    let next : at + 1 ≡ suc at = omega arith in
    let head : Wrote o at (question ∷ tab ∷ []) (set (set o at question) (at + 1) tab) c.tail_back-past.result
    = record {
      bytes = ap (λ (k : ℕ). set (set o at question) k tab) next;
      past = omega (arith, lost-long c.args.list.now c.args.f, c.requires.1.0, c.tail_back-past.ensures.past);
    } in
    wrote-before c.tail_back-past.ensures head
