-- `text::width` meets its promise: below a million by how many bounds the number is past. Assumes nothing.
use Rattle.std.proofs.Common.{◌≡◌, refl, Bool, true, false, cond, ◌+◌, ◌∙◌, arith, ltb, ℕ}
use mir.Val.{bool_byte}
use Rattle.text.specs.DecimalLaws.{over, width-tens, width-log}
use Rattle.text.proofs.decimal.width.Goals as goal

as_number : (b : Bool) → bool_byte b ≡ cond b 1 0
as_number true = refl
as_number false = refl

past : (most n r : ℕ) → r ≡ bool_byte (ltb most n) → r ≡ over most n
past most n r e = e ∙ as_number (ltb most n)

pub returns-then-n-lt-MILLION-clause-value : goal.returns-then-n-lt-MILLION-clause-value
returns-then-n-lt-MILLION-clause-value c =
    let n = c.args.n in
    let two = past 9 n _ c.from-two.ensures in
    let three = past 99 n _ c.from-three.ensures in
    let four = past 999 n _ c.from-four.ensures in
    let five = past 9999 n _ c.from-five.ensures in
    let six = past 99999 n _ c.from-six.ensures in
    (λ i. 1 + two i + three i + four i + five i + six i) ∙ width-tens n c.if-n-lt-MILLION.true

pub returns-else-n-lt-MILLION-clause-value : goal.returns-else-n-lt-MILLION-clause-value
returns-else-n-lt-MILLION-clause-value c =
    let big = c.if-n-lt-MILLION.false in
    width-log c.ilog10.result c.args.n (omega arith) (omega arith)
