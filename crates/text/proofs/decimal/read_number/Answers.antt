-- `text::read_number` meets its contract: each byte takes a `Scanned` a step on, or ends it.
-- Assumes nothing.
use Rattle.std.proofs.Common.{sym, ap, ◌∙◌, Bool, cond, ◌&&◌, eqb, ℕ, ◌+◌, get_or, arith, Option, Some, None}
use Rattle.text.specs.ReadingLaws.{scan-goes, scan-over, scan-lacks, scan-ends}
use Rattle.text.proofs.decimal.read_number.Goals as goal

-- no digit: the two tests say what stands there
abbrev read : Bool → ℕ → ℕ → Option (ℕ × ℕ)
read b v next = cond b (Some (v, next)) None

pub returns-then-c-stop : goal.returns-then-c-stop
returns-then-c-stop c =
    let t = c.args.t.now in
    let i = c.loop-i.i in
    let v = c.loop-i.v in
    ap (λ (b : Bool). read b v (i + 1)) (sym c.if-c-stop.true ∙ ap (λ (b : Bool). eqb (get_or t i 0) c.args.stop && b) c.is_plain.ensures)
    ∙ scan-ends t c.args.at c.args.most i v c.loop-i.invariant c.args.stop (omega arith)
    (sym c.is_ascii_digit.ensures.value ∙ c.if-not-is_ascii_digit.true)

pub returns-then-not-is_ascii_digit : goal.returns-then-not-is_ascii_digit
returns-then-not-is_ascii_digit c =
    let t = c.args.t.now in
    let i = c.loop-i.i in
    let v = c.loop-i.v in
    ap (λ (b : Bool). read b v (i + 1)) (sym c.if-c-stop.false ∙ ap (λ (b : Bool). eqb (get_or t i 0) c.args.stop && b) c.is_plain.ensures)
    ∙ scan-ends t c.args.at c.args.most i v c.loop-i.invariant c.args.stop (omega arith)
    (sym c.is_ascii_digit.ensures.value ∙ c.if-not-is_ascii_digit.true)

pub returns-then-top-v : goal.returns-then-top-v
returns-then-top-v c =
    scan-over c.args.t.now c.args.at c.args.most c.loop-i.i c.loop-i.v c.loop-i.invariant c.args.stop (omega arith)
    (sym c.is_ascii_digit.ensures.value ∙ c.if-not-is_ascii_digit.false) (omega arith)

pub loop-i-preserved : goal.loop-i-preserved
loop-i-preserved c =
    scan-goes c.args.t.now c.args.at c.args.most c.loop-i.i c.loop-i.v c.loop-i.invariant (omega arith)
    (sym c.is_ascii_digit.ensures.value ∙ c.if-not-is_ascii_digit.false) (omega arith)

pub returns : goal.returns
returns c = scan-lacks c.args.t.now c.args.at c.args.most c.loop-i.i c.loop-i.v c.loop-i.invariant c.args.stop (omega arith)
