-- A whole number by its two parts: z is up z - dn z, and one of the two is 0. `omega` knows natural numbers only, so a fact of whole numbers is handed to it
-- as facts of parts.
-- `apart` one part is 0 · `abs_is`, `mag_is` sizes · `eqℤ`, `up-dn-eq` two numbers are equal by their parts ·
-- `add_is`, `minus_is`, `up_neg`, `dn-neg`, `up-mul`, `dn-mul`,
-- `up-times`, `dn-times`, `up-quot`, `dn-quot` the operations (a quotient goes part by part, since it rounds toward zero) ·
-- `lt-true`, `lt-false` what a flag says.
-- Assumes nothing.
use Rattle.std.specs.Prelude.{◌≡◌, refl, Bool, true, false, cond, not, ℕ, zero, suc, ◌+◌, ◌*◌, ◌/◌, ◌≤◌, ◌<◌, ◌-◌, ltb, T, ℤ, neg_ℤ, pos, negsuc, ◌+ℤ◌, ◌*ℤ◌, nat_abs, ◌-ℤ◌}
use Rattle.std.proofs.Common.{sym, ◌∙◌, subst, ap, arith, ltb→lt, nltb→le, zero-mul, mul-zero}
use Rattle.std.proofs.Math.IntN.{sub_ℕ}
use Rattle.std.specs.Int.Signed.{mag, quot_z, lt_z}
use Rattle.std.proofs.Math.Nat.{zero-div}

abbrev pub up : ℤ → ℕ
up (pos n) = n
up (negsuc n) = 0

abbrev pub dn : ℤ → ℕ
dn (pos n) = 0
dn (negsuc n) = suc n

-- one of the two is 0, as `omega` reads it
pub apart : (z : ℤ) → up z - dn z ≡ up z
apart (pos n) = omega arith
apart (negsuc n) = omega arith

pub abs_is : (z : ℤ) → nat_abs z ≡ up z + dn z
abs_is (pos n) = omega arith
abs_is (negsuc n) = omega arith

pub mag_is : (z : ℤ) → mag z ≡ up z + (dn z - 1)
mag_is (pos n) = omega arith
mag_is (negsuc n) = omega arith

-- ---- equations
pub up-dn-eq : (x y : ℤ) → up x ≡ up y → dn x ≡ dn y → x ≡ y
up-dn-eq (pos a) (pos b) p q = ap pos p
up-dn-eq (pos a) (negsuc b) p q = absurd (omega arith)
up-dn-eq (negsuc a) (pos b) p q = absurd (omega arith)
up-dn-eq (negsuc a) (negsuc b) p q = ap negsuc (omega arith)

-- two numbers are equal where the differences are
pub eqℤ : (x y : ℤ) → up x + dn y ≡ up y + dn x → x ≡ y
eqℤ x y h = up-dn-eq x y (omega (arith, apart x, apart y)) (omega (arith, apart x, apart y))

-- ---- the operations
sub_is : (a b : ℕ) → up (sub_ℕ a b) + b ≡ a + dn (sub_ℕ a b)
sub_is a b = go (ltb a b) (ltb→lt a b) (nltb→le a b)
  where
    go : (t : Bool) → (T t → a < b) → (T (not t) → b ≤ a) → up (cond t (negsuc (b - suc a)) (pos (a - b))) + b ≡ a + dn
        (cond t (negsuc (b - suc a)) (pos (a - b)))
    go true f g = let h : a < b = f tt in omega arith
    go false f g = let h : b ≤ a = g tt in omega arith

pub add_is : (x y : ℤ) → up (x +ℤ y) + (dn x + dn y) ≡ (up x + up y) + dn (x +ℤ y)
add_is (pos a) (pos b) = omega arith
add_is (pos a) (negsuc b) = omega (arith, sub_is a (suc b))
add_is (negsuc a) (pos b) = omega (arith, sub_is b (suc a))
add_is (negsuc a) (negsuc b) = omega arith

pub up_neg : (x : ℤ) → up (neg_ℤ x) ≡ dn x
up_neg (pos zero) = refl
up_neg (pos (suc n)) = refl
up_neg (negsuc n) = refl

pub dn-neg : (x : ℤ) → dn (neg_ℤ x) ≡ up x
dn-neg (pos zero) = refl
dn-neg (pos (suc n)) = refl
dn-neg (negsuc n) = refl

pub minus_is : (x y : ℤ) → up (x -ℤ y) + (dn x + up y) ≡ (up x + dn y) + dn (x -ℤ y)
minus_is x y = omega (arith, add_is x (neg_ℤ y), up_neg y, dn-neg y)

up-negpos : (n : ℕ) → up (neg_ℤ (pos n)) ≡ 0
up-negpos n = up_neg (pos n)

dn-negpos : (n : ℕ) → dn (neg_ℤ (pos n)) ≡ n
dn-negpos n = dn-neg (pos n)

pub up-mul : (x : ℤ) (k : ℕ) → up (x *ℤ pos k) ≡ up x * k
up-mul (pos a) k = refl
up-mul (negsuc a) k = up-negpos (suc a * k) ∙ sym (zero-mul k)

pub dn-mul : (x : ℤ) (k : ℕ) → dn (x *ℤ pos k) ≡ dn x * k
dn-mul (pos a) k = sym (zero-mul k)
dn-mul (negsuc a) k = dn-negpos (suc a * k)

pub up-times : (k : ℕ) (x : ℤ) → up (pos k *ℤ x) ≡ k * up x
up-times k (pos a) = refl
up-times k (negsuc a) = up-negpos (k * suc a) ∙ sym (mul-zero k)

pub dn-times : (k : ℕ) (x : ℤ) → dn (pos k *ℤ x) ≡ k * dn x
dn-times k (pos a) = sym (mul-zero k)
dn-times k (negsuc a) = dn-negpos (k * suc a)

pub up-quot : (x : ℤ) (k : ℕ) → up (quot_z x (pos k)) ≡ up x / k
up-quot (pos a) k = refl
up-quot (negsuc a) k = up-negpos (suc a / k) ∙ sym (zero-div k)

pub dn-quot : (x : ℤ) (k : ℕ) → dn (quot_z x (pos k)) ≡ dn x / k
dn-quot (pos a) k = sym (zero-div k)
dn-quot (negsuc a) k = dn-negpos (suc a / k)

-- ---- the order
lt-parts : (x y : ℤ) → T (lt_z x y) → up x + dn y < up y + dn x
lt-parts (pos a) (pos b) t = let h : a < b = ltb→lt a b t in omega arith
lt-parts (pos a) (negsuc b) t = absurd t
lt-parts (negsuc a) (pos b) t = omega arith
lt-parts (negsuc a) (negsuc b) t = let h : b < a = ltb→lt b a t in omega arith

-- what a branch on `x < y` tells: the equation of the flag
pub lt-true : (x y : ℤ) → lt_z x y ≡ true → up x + dn y < up y + dn x
lt-true x y e = lt-parts x y (subst T (sym e) tt)

nlt-parts : (x y : ℤ) → T (not (lt_z x y)) → up y + dn x ≤ up x + dn y
nlt-parts (pos a) (pos b) t = let h : b ≤ a = nltb→le a b t in omega arith
nlt-parts (pos a) (negsuc b) t = omega arith
nlt-parts (negsuc a) (pos b) t = absurd t
nlt-parts (negsuc a) (negsuc b) t = let h : a ≤ b = nltb→le b a t in omega arith

pub lt-false : (x y : ℤ) → lt_z x y ≡ false → up y + dn x ≤ up x + dn y
lt-false x y e = nlt-parts x y (subst (λ (b : Bool). T (not b)) (sym e) tt)
