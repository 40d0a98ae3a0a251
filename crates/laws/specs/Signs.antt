-- A word and the signed number it stands for (two's complement): what a branch on the sign makes of either, and that equal words are equal numbers.
-- Assumes nothing.
use Rattle.std.specs.Prelude.{◌≡◌, refl, Bool, true, false, ℕ, zero, suc, ◌≤◌, ◌<◌, ◌-◌, ◌^◌, eqb, T, ℤ, pos, negsuc, nat_abs, ◌-ℤ◌}
use Rattle.std.proofs.Common.{sym, ◌∙◌, subst, ap, arith, ltb-true, le-ltb, eq-eqb, ne_eqb, SFits, to_z, of_z, Fits, to_z-of_z}
use Rattle.std.proofs.Math.Decide.{ℕ_discrete}
use Rattle.std.specs.Int.Signed.{mag, lt_z, non_neg}
use Rattle.std.specs.Int.{w32}
use Rattle.std.proofs.Math.Facts.{to_z_pos}
use Rattle.laws.specs.Sizes.{fits}
use Rattle.laws.specs.Rules.{eq_z}
use Rattle.laws.specs.Linear.{same}

minus : (x : ℕ) → negsuc 0 -ℤ pos x ≡ negsuc x
minus zero = refl
minus (suc x) = ap negsuc (omega arith)

module _ (u : ℕ) (big : 2147483648 ≤ u) (fits : u < 4294967296) where
  pub minus-word : negsuc 0 -ℤ to_z w32 (4294967295 - u) ≡ negsuc (4294967295 - u)
  minus-word =
      let small : 4294967295 - u < 2 ^ 31 = omega arith in
      ap (λ (z : ℤ). negsuc 0 -ℤ z) (to_z_pos w32 small) ∙ minus (4294967295 - u)

  pub minus-fits : SFits w32 (negsuc 0 -ℤ to_z w32 (4294967295 - u))
  minus-fits = subst (SFits w32) (sym minus-word) (record { sfits = omega arith })

  pub word-signed : to_z w32 (of_z w32 (negsuc 0 -ℤ to_z w32 (4294967295 - u))) ≡ to_z w32 u
  word-signed =
      let same : 4294967295 - u ≡ 4294967296 - suc u = omega arith in
      to_z-of_z minus-fits ∙ minus-word ∙ rw (le-ltb u 2147483648 big) (ap negsuc same)

-- ---- a signed number's bits

lt-plain : (z : ℤ) (b : Bool) → SFits w32 z → lt_z (to_z w32 (of_z w32 z)) (pos 0) ≡ b → lt_z z (pos 0) ≡ b
lt-plain z b f h = ap (λ (y : ℤ). lt_z y (pos 0)) (sym (to_z-of_z f)) ∙ h

flip : (z : ℤ) → lt_z z (pos 0) ≡ true → negsuc 0 -ℤ z ≡ pos (mag z)
flip (pos n) h = absurd (omega (arith, ltb-true n 0 h))
flip (negsuc n) h =
    let e : suc n - 1 ≡ n = omega arith in
    let l : 1 ≤ suc n = omega arith in
    rw (le-ltb (suc n) 1 l) (ap pos e)

neg_bits : (z : ℤ) → lt_z z (pos 0) ≡ true → 4294967295 - mag z ≡ of_z w32 z
neg_bits (pos n) h = absurd (omega (arith, ltb-true n 0 h))
neg_bits (negsuc n) h = omega arith

pos-bits : (z : ℤ) → lt_z z (pos 0) ≡ false → T (non_neg z) × (nat_abs z ≡ of_z w32 z) × (nat_abs z ≡ mag z)
pos-bits (pos n) h = (tt, refl, refl)
pos-bits (negsuc n) h = absurd (let q : ◌≡◌ {A = ℕ} 0 1 = cc in omega arith)

module _ (z : ℤ) (f : SFits w32 z) (h : lt_z (to_z w32 (of_z w32 z)) (pos 0) ≡ true) where
  e1 : negsuc 0 -ℤ to_z w32 (of_z w32 z) ≡ pos (mag z)
  e1 = ap (λ (y : ℤ). negsuc 0 -ℤ y) (to_z-of_z f) ∙ flip z (lt-plain z true f h)

  pub neg-sub : SFits w32 (negsuc 0 -ℤ to_z w32 (of_z w32 z))
  neg-sub = subst (SFits w32) (sym e1) (record { sfits = f.sfits })

  e2 : to_z w32 (of_z w32 (negsuc 0 -ℤ to_z w32 (of_z w32 z))) ≡ pos (mag z)
  e2 = to_z-of_z neg-sub ∙ e1

  pub neg-cast : T (non_neg (to_z w32 (of_z w32 (negsuc 0 -ℤ to_z w32 (of_z w32 z))))) × Fits w32 (nat_abs (to_z w32 (of_z w32 (negsuc 0 -ℤ to_z w32 (of_z w32 z)))))
  neg-cast = subst (λ (y : ℤ). T (non_neg y) × Fits w32 (nat_abs y)) (sym e2) (tt, record { fits = omega (arith, f.sfits) })

  pub neg-room : nat_abs (to_z w32 (of_z w32 (negsuc 0 -ℤ to_z w32 (of_z w32 z)))) ≤ 4294967295
  neg-room = subst (λ (y : ℤ). nat_abs y ≤ 4294967295) (sym e2) (omega (arith, f.sfits))

  pub neg_word : 4294967295 - nat_abs (to_z w32 (of_z w32 (negsuc 0 -ℤ to_z w32 (of_z w32 z)))) ≡ of_z w32 z
  neg_word = ap (λ (y : ℤ). 4294967295 - nat_abs y) e2 ∙ neg_bits z (lt-plain z true f h)

module _ (z : ℤ) (f : SFits w32 z) (h : lt_z (to_z w32 (of_z w32 z)) (pos 0) ≡ false) where
  pub pos-cast : T (non_neg (to_z w32 (of_z w32 z))) × Fits w32 (nat_abs (to_z w32 (of_z w32 z)))
  pos-cast =
      let b = pos-bits z (lt-plain z false f h) in
      subst (λ (y : ℤ). T (non_neg y) × Fits w32 (nat_abs y)) (sym (to_z-of_z f)) (b.0, record { fits = omega (arith, f.sfits, b.2) })

  pub pos_word : nat_abs (to_z w32 (of_z w32 z)) ≡ of_z w32 z
  pos_word = ap nat_abs (to_z-of_z f) ∙ (pos-bits z (lt-plain z false f h)).1

-- two numbers that fit have equal bits where they are equal
pub same_bits : (x y : ℤ) → mag x < 2 ^ 31 → mag y < 2 ^ 31 → eqb (of_z w32 x) (of_z w32 y) ≡ eq_z x y
same_bits (pos a) (pos b) fx fy = refl
same_bits (pos a) (negsuc b) fx fy = ne_eqb a (4294967296 - suc b) (omega arith)
same_bits (negsuc a) (pos b) fx fy = ne_eqb (4294967296 - suc a) b (omega arith)
same_bits (negsuc a) (negsuc b) fx fy = go (ℕ_discrete a b)
  where
    go : Dec (a ≡ b) → eqb (4294967296 - suc a) (4294967296 - suc b) ≡ eqb a b
    go (yes e) = let q : 4294967296 - suc a ≡ 4294967296 - suc b = omega arith in eq-eqb (4294967296 - suc a) (4294967296 - suc b) q ∙ sym (eq-eqb a b e)
    go (no e) = ne_eqb (4294967296 - suc a) (4294967296 - suc b) (omega arith) ∙ sym (ne_eqb a b e)
