-- A list of points as numbers a, b, m, a, b, m, ..: `triples_in` how many whole triples it has, `is_byte` a triple's m can be one · `below-byte`,
-- `above-byte`, `Byte`, `within-byte` its m as the code tests it.
-- Assumes nothing.
use Rattle.std.specs.Prelude.{◌≡◌, refl, Bool, true, false, List, ℕ, ◌/◌, ◌<◌, ltb, T, ℤ, pos, negsuc, nat_abs, length}
use Prim.{tt}
use Rattle.std.proofs.Common.{arith, ltb-true, ltb-false, lt-ltb, le-ltb}
use Rattle.std.specs.Int.Signed.{lt_z, non_neg}
use Rattle.laws.specs.Each.{not-both}

-- how many whole triples there are
abbrev pub triples_in : List ℤ → ℕ
triples_in ps = length ps / 3

-- a triple's m is a byte
abbrev pub is_byte : ℤ → Bool
is_byte (pos m) = ltb m 256
is_byte (negsuc m) = false

pub below-byte : (z : ℤ) → lt_z z (pos 0) ≡ true → is_byte z ≡ false
below-byte (pos n) h = absurd (omega (arith, ltb-true n 0 h))
below-byte (negsuc n) h = refl

pub above-byte : (z : ℤ) → lt_z (pos 255) z ≡ true → is_byte z ≡ false
above-byte (pos n) h = le-ltb n 256 (omega (arith, ltb-true 255 n h))
above-byte (negsuc n) h = refl

pub record Byte (z : ℤ) : Type 0 where
  pub is : is_byte z ≡ true
  pub sign : T (non_neg z)
  pub size : nat_abs z < 256

pub within-byte : (z : ℤ) → lt_z z (pos 0) ≡ false → lt_z (pos 255) z ≡ false → Byte z
within-byte (pos n) h k = let l : n < 256 = omega (arith, ltb-false 255 n k) in record { is = lt-ltb n 256 l; sign = tt; size = l }
within-byte (negsuc n) h k = absurd (not-both refl h)
