-- Multiples by a number that need not be a literal, and thirds.
-- `mul-mul`, `add_times`, `neg-times`, `cancel` · `thrice` a multiple of 3 is three times its third · `third-mod` three times a number is a multiple of 3.
-- Assumes nothing.
use Rattle.std.specs.Prelude.{◌≡◌, ℕ, ◌+◌, ◌*◌, ◌%◌, ◌<◌, ℤ, neg_ℤ, pos, ◌+ℤ◌, ◌*ℤ◌, nat_abs}
use Rattle.std.proofs.Common.{sym, ◌∙◌, ap, arith, mul_assoc, add-mul}
use Rattle.std.proofs.Math.Nat.{eq_of_mul-eq-mul_right}
use Rattle.std.specs.Int.Signed.{quot_z}
use Rattle.laws.specs.Parts.{apart, abs_is, up-dn-eq, eqℤ, add_is, up_neg, dn-neg, up-mul, dn-mul, up-quot, dn-quot, up, dn}

pub mul-mul : (x : ℤ) (j k : ℕ) → x *ℤ pos j *ℤ pos k ≡ x *ℤ pos (j * k)
mul-mul x j k =
    up-dn-eq (x *ℤ pos j *ℤ pos k) (x *ℤ pos (j * k))
    (up-mul (x *ℤ pos j) k ∙ ap (λ (n : ℕ). n * k) (up-mul x j) ∙ mul_assoc (up x) j k ∙ sym (up-mul x (j * k)))
    (dn-mul (x *ℤ pos j) k ∙ ap (λ (n : ℕ). n * k) (dn-mul x j) ∙ mul_assoc (dn x) j k ∙ sym (dn-mul x (j * k)))

pub add_times : (x y : ℤ) (k : ℕ) → (x +ℤ y) *ℤ pos k ≡ x *ℤ pos k +ℤ y *ℤ pos k
add_times x y k =
    let s = x +ℤ y in
    let e : (up s + (dn x + dn y)) * k ≡ (up x + up y + dn s) * k = ap (λ (n : ℕ). n * k) (add_is x y) in
    eqℤ (s *ℤ pos k) (x *ℤ pos k +ℤ y *ℤ pos k)
    (omega (arith, simp add-mul at e, add_is (x *ℤ pos k) (y *ℤ pos k), up-mul s k, dn-mul s k, up-mul x k, dn-mul x k, up-mul y k, dn-mul y k))

pub cancel : (x y : ℤ) (k : ℕ) → 0 < k → x *ℤ pos k ≡ y *ℤ pos k → x ≡ y
cancel x y k h e =
    up-dn-eq x y
    (eq_of_mul-eq-mul_right k h (up x) (up y) (sym (up-mul x k) ∙ ap up e ∙ up-mul y k))
    (eq_of_mul-eq-mul_right k h (dn x) (dn y) (sym (dn-mul x k) ∙ ap dn e ∙ dn-mul y k))

-- a multiple of 3 is three times its third
pub thrice : (x : ℤ) → nat_abs x % 3 ≡ 0 → quot_z x (pos 3) *ℤ pos 3 ≡ x
thrice x h =
    eqℤ (quot_z x (pos 3) *ℤ pos 3) x
    (omega (arith, up-mul (quot_z x (pos 3)) 3, dn-mul (quot_z x (pos 3)) 3, up-quot x 3, dn-quot x 3, abs_is x, apart x))

pub third-mod : (x : ℤ) → nat_abs (x *ℤ pos 3) % 3 ≡ 0
third-mod x = omega (arith, abs_is (x *ℤ pos 3), up-mul x 3, dn-mul x 3)

pub neg-times : (x : ℤ) (k : ℕ) → neg_ℤ x *ℤ pos k ≡ neg_ℤ (x *ℤ pos k)
neg-times x k =
    up-dn-eq (neg_ℤ x *ℤ pos k) (neg_ℤ (x *ℤ pos k))
    (up-mul (neg_ℤ x) k ∙ ap (λ (n : ℕ). n * k) (up_neg x) ∙ sym (dn-mul x k) ∙ sym (up_neg (x *ℤ pos k)))
    (dn-mul (neg_ℤ x) k ∙ ap (λ (n : ℕ). n * k) (dn-neg x) ∙ sym (up-mul x k) ∙ sym (dn-neg (x *ℤ pos k)))
