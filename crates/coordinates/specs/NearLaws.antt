-- "each lies within half of a ten-thousandth of its exact value, shown by comparing whole-number squares". There is never a tie: half of a ten-thousandth
-- over would make an odd number even.
-- `InsideX`, `InsideY` n ten-thousandths are so near, `x_below` then n is small, `x-inside`, `y-inside` what is written is, `x-one`, `y-one` and no other whole number ·
-- `x-zero`, `y-zero` down to depth 6 what is written as zero is zero.
-- Assumes nothing.
use Rattle.std.specs.Prelude.{◌≡◌, refl, ℕ, zero, suc, ◌+◌, ◌*◌, ◌/◌, ◌%◌, ◌^◌, ◌-◌, ◌≤◌, ◌<◌}
use Rattle.std.proofs.Common.{sym, ap, ◌∙◌, arith, mul-le-mul, mul-le-mul_left, mul-le-mul_right, mul_assoc, mul_comm, mul-suc, one-mul, add-mul, mod-lt, div-le_self, lit<}
use Rattle.std.proofs.Math.Decide.{dec_lt}
use Rattle.std.proofs.Math.Nat.{one-le-pow, one-le-mul, pow-le-pow_right, pow-succ', div-add-mod}
use Rattle.text.specs.Near.{widest}
use Rattle.coordinates.specs.Coordinates.{near_x, near_y, root_of}
use Rattle.coordinates.specs.RootLaws.{Root, root_is}

-- n ten-thousandths are less than half of one away from s over 2 × 3^m
pub record InsideX (s m n : ℕ) : Type 0 where
  pub low : 2 * (3 ^ m * n) < 10000 * s + 3 ^ m
  pub high : 10000 * s < 2 * (3 ^ m * n) + 3 ^ m

-- n ten-thousandths are less than half of one away from b √3 over 2 × 3^m, by squares; 2n-1 is below zero where n is 0
pub record InsideY (b m n : ℕ) : Type 0 where
  pub low : 0 < n → (2 * n - 1) * (2 * n - 1) * (3 ^ m * 3 ^ m) < 300000000 * (b * b)
  pub high : 300000000 * (b * b) < (2 * n + 1) * (2 * n + 1) * (3 ^ m * 3 ^ m)

-- ---- odd numbers

abbrev Odd : ℕ → Type 0
Odd x = x % 2 ≡ 1

odd-times : (x y : ℕ) → Odd x → Odd y → Odd (x * y)
odd-times x y h k =
    let e : x ≡ 2 * (x / 2) + 1 = omega arith in
    let s : x * y ≡ 2 * (x / 2 * y) + y = ap (λ (z : ℕ). z * y) e ∙ add-mul (2 * (x / 2)) 1 y ∙ (λ i. mul_assoc 2 (x / 2) y i + one-mul y i) in
    omega arith

odd_power : (m : ℕ) → Odd (3 ^ m)
odd_power zero = refl
odd_power (suc m) = let e = odd-times 3 (3 ^ m) refl (odd_power m) in let p = pow-succ' 3 m in ap (λ (x : ℕ). x % 2) p ∙ e

power-some : (m : ℕ) → 1 ≤ 3 ^ m
power-some m = one-le-pow m 3 (omega arith)

-- ---- x

module _ (s m : ℕ) where
  abbrev P : ℕ
  P = 3 ^ m

  over : (2 * P) * near_x s m + (10000 * s + P) % (2 * P) ≡ 10000 * s + P
  unfolding near_x
  over = div-add-mod (10000 * s + P) (2 * P)

  part : (10000 * s + P) % (2 * P) < 2 * P
  part = let h = power-some m in mod-lt (10000 * s + P) (omega arith)

  pub x-inside : InsideX s m (near_x s m)
  x-inside =
      let a = over in
      let b = part in
      let c = mul_assoc 2 P (near_x s m) in
      let o = odd_power m in
      record { low = omega arith; high = omega arith }

  pub x_below : (n : ℕ) → InsideX s m n → 2 * n < 10000 * s + 2
  x_below n i =
      let h = power-some m in
      let k = mul-le-mul_right n h in
      let e = one-mul n in
      go n refl i
    where
      go : (k : ℕ) → k ≡ n → InsideX s m k → 2 * n < 10000 * s + 2
      go zero e i = omega arith
      go (suc k) e i =
          let h = power-some m in
          let a : P * suc k ≡ P * k + P = mul-suc P k in
          let b = mul-le-mul_right k h in
          let c = one-mul k in
          omega (arith, i.low)

  pub x-one : (n n' : ℕ) → InsideX s m n → InsideX s m n' → n ≡ n'
  x-one n n' i j = go (dec_lt n n') (dec_lt n' n)
    where
      never : (x y : ℕ) → InsideX s m x → InsideX s m y → x < y → ⊥
      never x y i j l = let a = mul-le-mul_left P l in let b = mul-suc P x in omega (arith, i.high, j.low)

      go : Dec (n < n') → Dec (n' < n) → n ≡ n'
      go (yes l) k = absurd (never n n' i j l)
      go (no l) (yes k) = absurd (never n' n j i k)
      go (no l) (no k) = omega arith

-- ---- y

-- between squares: q is B over Q, w the whole part of its root
above : (B Q q r w n : ℕ) → Q * q + r ≡ B → r < Q → q < (w + 1) * (w + 1) → w + 1 ≤ 2 * n + 1 → B < (2 * n + 1) * (2 * n + 1) * Q
above B Q q r w n e h k l =
    let a = mul-le-mul l l in
    let c : q + 1 ≤ (2 * n + 1) * (2 * n + 1) = omega arith in
    let d = mul-le-mul_right Q c in
    let f : (q + 1) * Q ≡ Q * q + Q = add-mul q 1 Q ∙ (λ i. mul_comm q Q i + one-mul Q i) in
    omega arith

below : (B Q q r w n : ℕ) → Q * q + r ≡ B → w * w ≤ q → 0 < n → 2 * n - 1 ≤ w → Odd Q → B % 2 ≡ 0 → (2 * n - 1) * (2 * n - 1) * Q < B
below B Q q r w n e k z l o v =
    let a = mul-le-mul l l in
    let c : (2 * n - 1) * (2 * n - 1) ≤ q = omega arith in
    let d = mul-le-mul_right Q c in
    let f = mul_comm q Q in
    let odd : Odd (2 * n - 1) = omega arith in
    let g = odd-times ((2 * n - 1) * (2 * n - 1)) Q (odd-times (2 * n - 1) (2 * n - 1) odd odd) o in
    omega arith

module _ (b m : ℕ) (small : b ≤ widest) where
  abbrev Q : ℕ
  Q = 3 ^ m * 3 ^ m

  abbrev B : ℕ
  B = 300000000 * (b * b)

  square-some : 1 ≤ Q
  square-some = one-le-mul (power-some m) (power-some m)

  pub quotient-small : B / Q < 18446744073709551616
  quotient-small =
      let a : b * b ≤ widest * widest = mul-le-mul small small in
      let c = div-le_self B Q in
      omega arith

  even : B % 2 ≡ 0
  even = omega arith

  abbrev w : ℕ
  w = root_of (B / Q)

  root : Root (B / Q) w
  root = root_is (B / Q) quotient-small

  whole : Q * (B / Q) + B % Q ≡ B
  whole = div-add-mod B Q

  rest : B % Q < Q
  rest = let h = square-some in mod-lt B (omega arith)

  pub y-inside : InsideY b m (near_y b m)
  unfolding near_y
  y-inside = record {
    low = λ h.
        below B Q (B / Q) (B % Q) w ((w + 1) / 2) whole root.0 (omega arith) (omega arith)
        (odd-times (3 ^ m) (3 ^ m) (odd_power m) (odd_power m)) even;
    high = above B Q (B / Q) (B % Q) w ((w + 1) / 2) whole rest root.1 (omega arith);
  }

pub y-one : (b m n n' : ℕ) → InsideY b m n → InsideY b m n' → n ≡ n'
y-one b m n n' i j = go (dec_lt n n') (dec_lt n' n)
  where
    never : (x y : ℕ) → InsideY b m x → InsideY b m y → x < y → ⊥
    never x y i j l =
        let h : 2 * x + 1 ≤ 2 * y - 1 = omega arith in
        let a = mul-le-mul_right (3 ^ m * 3 ^ m) (mul-le-mul h h) in
        omega (arith, i.high, j.low (omega arith))

    go : Dec (n < n') → Dec (n' < n) → n ≡ n'
    go (yes l) k = absurd (never n n' i j l)
    go (no l) (yes k) = absurd (never n' n j i k)
    go (no l) (no k) = omega arith

-- ---- zero

power-few : (m : ℕ) → m ≤ 6 → 3 ^ m ≤ 729
power-few m h = pow-le-pow_right (lit< tt) h

pub x-zero : (s m : ℕ) → m ≤ 6 → InsideX s m 0 → s ≡ 0
x-zero s m h i = let a = power-few m h in omega (arith, i.high)

pub y-zero : (b m : ℕ) → m ≤ 6 → InsideY b m 0 → b ≡ 0
y-zero b m h i = go b refl
  where
    few : 3 ^ m * 3 ^ m ≤ 531441
    few = mul-le-mul (power-few m h) (power-few m h)

    go : (x : ℕ) → x ≡ b → b ≡ 0
    go zero e = sym e
    go (suc x) e =
        let l : 1 ≤ b = omega arith in
        let a : 1 * 1 ≤ b * b = mul-le-mul l l in
        let c = one-mul (3 ^ m * 3 ^ m) in
        absurd (omega (arith, few, i.high))
