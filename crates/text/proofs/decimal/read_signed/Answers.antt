-- `text::read_signed` meets its contract. Assumes nothing.
use Rattle.std.proofs.Common.{◌≡◌, sym, ap, ◌∙◌, List, ℕ, ◌<◌, arith, Some, None, ℤ, pos, neg_ℤ, ◌-ℤ◌, to_z, of_z, w32}
use Rattle.std.proofs.lemmas.Int.{ints, to_z_pos}
use Rattle.text.specs.Decimal.{minus}
use Rattle.text.specs.Reading.{number_at}
use Rattle.text.specs.ReadingLaws.{begins-within, number-most, signed-minus, signed-plus, minus-none, minus-some}
use Rattle.text.proofs.decimal.read_signed.Goals as goal

-- a number that was read fits
fits : (t : List ℕ) (p most stop n q : ℕ) → most < 2147483648 → number_at t p most stop ≡ Some (n, q) → n < 2147483648
fits t p most stop n q h e = omega (arith, number-most t p most stop n q e)

pub overflow_add-at : goal.overflow_add-at
overflow_add-at c = omega (arith, begins-within minus c.args.t.now c.args.at (sym c.is_minus.ensures ∙ c.if-is_minus.true))

pub returns-in_err-n : goal.returns-in_err-n
returns-in_err-n c =
    c.from_residual.ensures
    ∙ signed-minus c.args.t.now c.args.at c.args.most c.args.stop None (sym c.is_minus.ensures ∙ c.if-is_minus.true)
    (sym c.read_number.ensures ∙ c.in_err-n.was)

pub returns-then-n-eq0 : goal.returns-then-n-eq0
returns-then-n-eq0 c =
    minus-none _ _ c.if-n-eq0.true
    ∙ signed-minus c.args.t.now c.args.at c.args.most c.args.stop _ (sym c.is_minus.ensures ∙ c.if-is_minus.true) (sym c.read_number.ensures ∙ c.in_ok-n.was)

pub overflow_cast-result : goal.overflow_cast-result
overflow_cast-result c =
    let h = fits _ _ _ _ _ _ c.requires (sym c.read_number.ensures ∙ c.in_ok-n.was) in omega (arith, ints)

pub overflow_sub-result : goal.overflow_sub-result
overflow_sub-result c =
    let h = fits _ _ _ _ _ _ c.requires (sym c.read_number.ensures ∙ c.in_ok-n.was) in omega (arith, ints)

pub returns-else-n-eq0 : goal.returns-else-n-eq0
returns-else-n-eq0 c =
    let n = c.in_ok-n.n in
    let h = fits _ _ _ _ _ _ c.requires (sym c.read_number.ensures ∙ c.in_ok-n.was) in
    let e : to_z w32 (of_z w32 (pos 0 -ℤ to_z w32 n)) ≡ neg_ℤ (pos n) = omega (arith, ints) in
    ap (λ (z : ℤ). Some (z, c.in_ok-n.next)) e ∙ minus-some n c.in_ok-n.next c.if-n-eq0.false
    ∙ signed-minus c.args.t.now c.args.at c.args.most c.args.stop _ (sym c.is_minus.ensures ∙ c.if-is_minus.true) (sym c.read_number.ensures ∙ c.in_ok-n.was)

pub returns-in_err-n-2 : goal.returns-in_err-n-2
returns-in_err-n-2 c =
    c.from_residual-in_err-n-2.ensures
    ∙ signed-plus c.args.t.now c.args.at c.args.most c.args.stop None
    (sym c.is_minus.ensures ∙ c.if-is_minus.false) (sym c.read_number-else-is_minus.ensures ∙ c.in_err-n-2.was)

pub overflow_cast-result-else-is_minus : goal.overflow_cast-result-else-is_minus
overflow_cast-result-else-is_minus c =
    let h = fits _ _ _ _ _ _ c.requires (sym c.read_number-else-is_minus.ensures ∙ c.in_ok-n-2.was) in omega (arith, ints)

pub returns-in_ok-n-2 : goal.returns-in_ok-n-2
returns-in_ok-n-2 c =
    let r = sym c.read_number-else-is_minus.ensures ∙ c.in_ok-n-2.was in
    ap (λ (z : ℤ). Some (z, c.in_ok-n-2.next)) (to_z_pos w32 c.in_ok-n-2.n (fits _ _ _ _ _ _ c.requires r))
    ∙ signed-plus c.args.t.now c.args.at c.args.most c.args.stop _ (sym c.is_minus.ensures ∙ c.if-is_minus.false) r
