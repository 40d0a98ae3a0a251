-- Products of whole numbers of which each is a multiple of one number.
-- `times-times` two multiples · `minus-times` a difference · `above-times` a number is above zero where a multiple of it is.
-- Assumes nothing.
use Rattle.std.specs.Prelude.{◌≡◌, refl, ℕ, zero, suc, ◌*◌, ◌≤◌, ℤ, neg_ℤ, pos, negsuc, ◌+ℤ◌, ◌-ℤ◌, ◌*ℤ◌, nat_abs}
use Rattle.std.proofs.Common.{sym, ◌∙◌, ap, arith, mul_assoc, mul_comm}
use Rattle.std.proofs.Math.IntN.{zero-*ℤ, *ℤ-zero, *ℤ-negsuc, pos-*ℤ-pos, negsuc-*ℤ-pos, pos-ne-negsuc}
use Rattle.laws.specs.Multiples.{mul-mul, add_times, neg-times}

times-neg : (x : ℤ) (n : ℕ) → x *ℤ neg_ℤ (pos n) ≡ neg_ℤ (x *ℤ pos n)
times-neg x zero = *ℤ-zero x ∙ sym (ap neg_ℤ (*ℤ-zero x))
times-neg x (suc n) = *ℤ-negsuc x n

pub times-times : (x y : ℤ) (k : ℕ) → x *ℤ pos k *ℤ (y *ℤ pos k) ≡ x *ℤ y *ℤ pos (k * k)
times-times x (pos m) k =
    let e : k * (m * k) ≡ m * (k * k) = sym (mul_assoc k m k) ∙ ap (λ (n : ℕ). n * k) (mul_comm k m) ∙ mul_assoc m k k in
    ap (λ (z : ℤ). x *ℤ pos k *ℤ z) (pos-*ℤ-pos m k) ∙ mul-mul x k (m * k) ∙ ap (λ (n : ℕ). x *ℤ pos n) e ∙ sym (mul-mul x m (k * k))
times-times x (negsuc m) k =
    let e : k * (suc m * k) ≡ suc m * (k * k) = sym (mul_assoc k (suc m) k) ∙ ap (λ (n : ℕ). n * k) (mul_comm k (suc m)) ∙ mul_assoc (suc m) k k in
    ap (λ (z : ℤ). x *ℤ pos k *ℤ z) (negsuc-*ℤ-pos m k)
    ∙ times-neg (x *ℤ pos k) (suc m * k)
    ∙ ap neg_ℤ (mul-mul x k (suc m * k) ∙ ap (λ (n : ℕ). x *ℤ pos n) e ∙ sym (mul-mul x (suc m) (k * k)))
    ∙ sym (neg-times (x *ℤ pos (suc m)) (k * k))
    ∙ ap (λ (z : ℤ). z *ℤ pos (k * k)) (sym (*ℤ-negsuc x m))

pub minus-times : (x y : ℤ) (k : ℕ) → (x -ℤ y) *ℤ pos k ≡ x *ℤ pos k -ℤ y *ℤ pos k
minus-times x y k = add_times x (neg_ℤ y) k ∙ ap (λ (z : ℤ). x *ℤ pos k +ℤ z) (neg-times y k)

pub above-times : (z : ℤ) (k n : ℕ) → z *ℤ pos k ≡ pos n → 1 ≤ n → (m : ℕ) × (z ≡ pos (suc m))
above-times (pos zero) k n e h = absurd (let f = ap nat_abs (sym (zero-*ℤ (pos k)) ∙ e) in omega (arith, f))
above-times (pos (suc m)) k n e h = (m, refl)
above-times (negsuc m) k n e h = absurd (below (suc m * k) (sym (negsuc-*ℤ-pos m k) ∙ e))
  where
    below : (j : ℕ) → neg_ℤ (pos j) ≡ pos n → ⊥
    below zero f = let g = ap nat_abs f in omega (arith, g)
    below (suc j) f = pos-ne-negsuc n j (sym f)
