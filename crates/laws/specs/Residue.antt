-- The remainder on division that is never negative, `mod_z`, and how it is had from the machine's, whose sign is the dividend's.
-- `mod_below` · `rem-neg`, `rem-pos` from the machine's remainder · `rem-asked`, `sum-cast`, `sum_is`, `rem-cast`, `rem_is` the same at 64 bits ·
-- `left3-parts`, `left3-plus`, `left3-minus` a number, a sum and a difference by 3.
-- Assumes nothing.
use Rattle.std.specs.Prelude.{◌≡◌, refl, ◌⊎◌, true, false, ℕ, zero, suc, ◌%◌, ◌≤◌, ◌<◌, ◌-◌, ◌^◌, ◌+◌, ◌*◌, ◌/◌, ℤ, neg_ℤ, pos, negsuc, ◌+ℤ◌, nat_abs, ◌-ℤ◌, T, None}
use Rattle.std.proofs.Common.{sym, ◌∙◌, subst, ap, inl, inr, ⊎_elim, arith, ltb-true, le-ltb, mod-lt, mod-eq_of_lt, SFits, to_z, of_z, Fits, to_z-of_z}
use Rattle.std.proofs.Math.IntN.{sub_ℕ}
use Rattle.std.specs.Int.Signed.{quot_z, rem_z, lt_z, non_neg, mag_rem}
use Rattle.std.proofs.Math.Nat.{suc-mod, mod_self, mul-mod_right}
use Rattle.std.proofs.Math.Facts.{to_z_pos}
use Rattle.std.specs.Int.{w64}
use Rattle.std.proofs.Math.Decide.{dec_lt}
use Rattle.laws.specs.Sizes.{fits, mag-quot}
use Rattle.laws.specs.Parts.{up, dn, add_is, minus_is}

-- what z leaves on division by n: never negative
abbrev pub mod_z : ℤ → ℕ → ℕ
mod_z (pos x) n = x % n
mod_z (negsuc x) n = n - 1 - x % n

pub mod_below : (s : ℤ) (n : ℕ) → 0 < n → mod_z s n < n
mod_below (pos a) n h = mod-lt a h
mod_below (negsuc a) n h = omega arith

suc-rem : (a n : ℕ) → 0 < n → (suc a % n ≡ suc (a % n)) ⊎ ((suc a % n ≡ 0) × (suc (a % n) ≡ n))
suc-rem a n h = go (dec_lt (suc (a % n)) n)
  where
    go : Dec (suc (a % n) < n) → (suc a % n ≡ suc (a % n)) ⊎ ((suc a % n ≡ 0) × (suc (a % n) ≡ n))
    go (yes l) = inl (suc-mod a n ∙ mod-eq_of_lt l)
    go (no l) =
        let e : suc (a % n) ≡ n = omega (arith, mod-lt a h) in
        inr (suc-mod a n ∙ ap (λ (k : ℕ). k % n) e ∙ mod_self n, e)

sub-pos : (a b : ℕ) → b ≤ a → sub_ℕ a b ≡ pos (a - b)
sub-pos a b h = rw (le-ltb a b h)

pub rem-neg : (s : ℤ) (n : ℕ) → 0 < n → lt_z (rem_z s (pos n)) (pos 0) ≡ true → rem_z s (pos n) +ℤ pos n ≡ pos (mod_z s n)
rem-neg (pos a) n h t = absurd (omega (arith, ltb-true (a % n) 0 t))
rem-neg (negsuc a) n h t = go (suc a % n) refl t
  where
    go : (k : ℕ) → suc a % n ≡ k → lt_z (neg_ℤ (pos k)) (pos 0) ≡ true → neg_ℤ (pos k) +ℤ pos n ≡ pos (n - 1 - a % n)
    go zero e t' = absurd (omega (arith, ltb-true 0 0 t'))
    go (suc k) e t' = ⊎_elim
        (λ u. let l : suc k ≤ n = omega (arith, mod-lt (suc a) h) in
        let q : n - suc k ≡ n - 1 - a % n = omega arith in
        sub-pos n (suc k) l ∙ ap pos q)
        (λ u. absurd (omega (arith, u.0)))
        (suc-rem a n h)

pub rem-pos : (s : ℤ) (n : ℕ) → 0 < n → lt_z (rem_z s (pos n)) (pos 0) ≡ false → rem_z s (pos n) ≡ pos (mod_z s n)
rem-pos (pos a) n h t = refl
rem-pos (negsuc a) n h t = go (suc a % n) refl t
  where
    go : (k : ℕ) → suc a % n ≡ k → lt_z (neg_ℤ (pos k)) (pos 0) ≡ false → neg_ℤ (pos k) ≡ pos (n - 1 - a % n)
    go zero e t' = ⊎_elim
        (λ u. absurd (omega (arith, u)))
        (λ u. let q : 0 ≡ n - 1 - a % n = omega (arith, u.1) in ap pos q)
        (suc-rem a n h)
    go (suc k) e t' = absurd (let q : ◌≡◌ {A = ℕ} 0 1 = cc in omega arith)

-- what the machine has, at the bits of s and of n
module _ (s : ℤ) (n : ℕ) (f : SFits w64 s) (h : 0 < n) (m : n ≤ 65536) where
  abbrev S : ℤ
  S = to_z w64 (of_z w64 s)

  abbrev R : ℤ
  R = rem_z S (to_z w64 n)

  abbrev R' : ℤ
  R' = to_z w64 (of_z w64 R)

  en : to_z w64 n ≡ pos n
  en = let l : n < 2 ^ 63 = omega arith in to_z_pos w64 l

  er : R ≡ rem_z s (pos n)
  er = ap (λ (x : ℤ). rem_z x (to_z w64 n)) (to_z-of_z f) ∙ ap (rem_z s) en

  fr : SFits w64 R
  fr = subst (SFits w64) (sym er) (record { sfits = omega (arith, mag_rem s (pos n), f.sfits) })

  er' : R' ≡ rem_z s (pos n)
  er' = to_z-of_z fr ∙ er

  pub rem-asked : (0 < n) × SFits w64 (quot_z S (to_z w64 n))
  rem-asked = (
    h,
    subst (SFits w64) (sym (ap (λ (x : ℤ). quot_z x (to_z w64 n)) (to_z-of_z f) ∙ ap (quot_z s) en))
        (record { sfits = omega (arith, mag-quot s n, f.sfits) }),
  )

  module _ (t : lt_z R' (pos 0) ≡ true) where
    esum : R' +ℤ to_z w64 n ≡ pos (mod_z s n)
    esum = ap (λ (x : ℤ). x +ℤ to_z w64 n) er' ∙ ap (λ (x : ℤ). rem_z s (pos n) +ℤ x) en ∙ rem-neg s n h (ap (λ (x : ℤ). lt_z x (pos 0)) (sym er') ∙ t)

    pub sum_fits : SFits w64 (R' +ℤ to_z w64 n)
    sum_fits = subst (SFits w64) (sym esum) (record { sfits = omega (arith, mod_below s n h) })

    esum' : to_z w64 (of_z w64 (R' +ℤ to_z w64 n)) ≡ pos (mod_z s n)
    esum' = to_z-of_z sum_fits ∙ esum

    pub sum-cast : T (non_neg (to_z w64 (of_z w64 (R' +ℤ to_z w64 n)))) × Fits w64 (nat_abs (to_z w64 (of_z w64 (R' +ℤ to_z w64 n))))
    sum-cast = subst (λ (y : ℤ). T (non_neg y) × Fits w64 (nat_abs y)) (sym esum') (tt, record { fits = omega (arith, mod_below s n h) })

    pub sum_is : nat_abs (to_z w64 (of_z w64 (R' +ℤ to_z w64 n))) ≡ mod_z s n
    sum_is = ap nat_abs esum'

  module _ (t : lt_z R' (pos 0) ≡ false) where
    erem : R' ≡ pos (mod_z s n)
    erem = er' ∙ rem-pos s n h (ap (λ (x : ℤ). lt_z x (pos 0)) (sym er') ∙ t)

    pub rem-cast : T (non_neg R') × Fits w64 (nat_abs R')
    rem-cast = subst (λ (y : ℤ). T (non_neg y) × Fits w64 (nat_abs y)) (sym erem) (tt, record { fits = omega (arith, mod_below s n h) })

    pub rem_is : nat_abs R' ≡ mod_z s n
    rem_is = ap nat_abs erem

-- ---- division by 3, as `omega` reads it
pub left3-parts : (z : ℤ) → mod_z z 3 ≡ (up z + 2 * dn z) % 3
left3-parts (pos x) = omega arith
left3-parts (negsuc x) = go (x % 3) refl
  where
    go : (k : ℕ) → x % 3 ≡ k → 3 - 1 - x % 3 ≡ (0 + 2 * suc x) % 3
    go zero e = omega arith
    go (suc zero) e = omega arith
    go (suc (suc k)) e =
        let two : 0 + 2 * suc x ≡ 3 * (2 * (x / 3) + 2) = omega arith in
        let None : (0 + 2 * suc x) % 3 ≡ 0 = ap (λ (n : ℕ). n % 3) two ∙ mul-mod_right 3 (2 * (x / 3) + 2) in
        omega arith

-- what a sum leaves
pub left3-plus : (x y : ℤ) → mod_z (x +ℤ y) 3 ≡ (mod_z x 3 + mod_z y 3) % 3
left3-plus x y = omega (arith, add_is x y, left3-parts x, left3-parts y, left3-parts (x +ℤ y))

-- what a difference leaves
pub left3-minus : (x y : ℤ) → mod_z (x -ℤ y) 3 ≡ (mod_z x 3 + 3 - mod_z y 3) % 3
left3-minus x y = omega (arith, minus_is x y, left3-parts x, left3-parts y, left3-parts (x -ℤ y))
