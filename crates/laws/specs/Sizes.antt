-- Sizes of whole numbers: `nat_abs` of each operation, and when a number fits a machine's signed type.
-- `abs-add`, `abs-sub`, `abs_neg`, `abs-mul`, `abs-times`, `abs-quot`, `abs-rem` · `fits`, `fits-size` a bound on the size is a fit, and back ·
-- `fits-quot`, `fits-rem`.
-- Assumes nothing.
use Rattle.std.specs.Prelude.{◌≡◌, refl, ℕ, zero, suc, ◌+◌, ◌*◌, ◌%◌, ◌/◌, ◌≤◌, ◌<◌, ◌^◌, ℤ, neg_ℤ, pos, negsuc, ◌+ℤ◌, ◌*ℤ◌, nat_abs, ◌-ℤ◌}
use Rattle.std.proofs.Common.{zero-le, arith, div-le_self}
use Rattle.std.specs.Int.Signed.{mag, quot_z, rem_z, mag_rem}
use mir.Val.{SFits, hbits}
use Rattle.std.specs.Int.{Width}
use mir.ValLaws.{sfits_le}
use Rattle.laws.specs.Parts.{apart, abs_is, mag_is, add_is, up_neg, dn-neg}

pub abs-add : (x y : ℤ) → nat_abs (x +ℤ y) ≤ nat_abs x + nat_abs y
abs-add x y = omega (arith, add_is x y, abs_is x, abs_is y, abs_is (x +ℤ y), apart (x +ℤ y))

pub abs_neg : (x : ℤ) → nat_abs (neg_ℤ x) ≡ nat_abs x
abs_neg x = omega (arith, abs_is x, abs_is (neg_ℤ x), up_neg x, dn-neg x)

pub abs-sub : (x y : ℤ) → nat_abs (x -ℤ y) ≤ nat_abs x + nat_abs y
abs-sub x y = omega (arith, abs-add x (neg_ℤ y), abs_neg y)

pub fits : (w : Width) (z : ℤ) → nat_abs z < 2 ^ hbits w → SFits w z
fits w z h = record { sfits = le-lt (mag z) (nat_abs z) (2 ^ hbits w) (omega (arith, mag_is z, abs_is z)) h }
  where
    le-lt : (a b c : ℕ) → a ≤ b → b < c → a < c
    le-lt a b c p q = omega arith

pub fits-size : (w : Width) (z : ℤ) → SFits w z → nat_abs z ≤ 2 ^ hbits w
fits-size w z h = below (mag z) (nat_abs z) (2 ^ hbits w) (omega (arith, mag_is z, abs_is z)) h.sfits
  where
    below : (a b c : ℕ) → b ≤ a + 1 → a < c → b ≤ c
    below a b c p q = omega arith

pub abs-mul : (x : ℤ) (k : ℕ) → nat_abs (x *ℤ pos k) ≡ nat_abs x * k
abs-mul (pos a) k = refl
abs-mul (negsuc a) k = abs_neg (pos (suc a * k))

pub abs-times : (x y : ℤ) → nat_abs (x *ℤ y) ≡ nat_abs x * nat_abs y
abs-times (pos a) (pos b) = refl
abs-times (pos a) (negsuc b) = abs_neg (pos (a * suc b))
abs-times (negsuc a) (pos b) = abs_neg (pos (suc a * b))
abs-times (negsuc a) (negsuc b) = refl

pub abs-quot : (x : ℤ) (k : ℕ) → nat_abs (quot_z x (pos k)) ≡ nat_abs x / k
abs-quot (pos a) k = refl
abs-quot (negsuc a) k = abs_neg (pos (suc a / k))

pub abs-rem : (x : ℤ) (k : ℕ) → nat_abs (rem_z x (pos k)) ≡ nat_abs x % k
abs-rem (pos a) k = refl
abs-rem (negsuc a) k = abs_neg (pos (suc a % k))

pub mag-quot : (x : ℤ) (k : ℕ) → mag (quot_z x (pos k)) ≤ mag x
mag-quot (pos a) k = div-le_self a k
mag-quot (negsuc a) k = go (suc a / k) (div-le_self (suc a) k)
  where
    go : (n : ℕ) → n ≤ suc a → mag (neg_ℤ (pos n)) ≤ a
    go zero h = zero-le
    go (suc n) h = omega arith

pub fits-quot : (w : Width) (x : ℤ) (k : ℕ) → SFits w x → SFits w (quot_z x (pos k))
fits-quot w x k h = sfits_le (mag-quot x k) h

pub fits-rem : (w : Width) (x : ℤ) (k : ℕ) → SFits w x → SFits w (rem_z x (pos k))
fits-rem w x k h = sfits_le (mag_rem x (pos k)) h
