-- A machine's tests of signed numbers: an equality compares bits, a remainder has the dividend's sign.
-- `bits-eq` equal bits are equal numbers · `rem-test` what `x % k == 0` says ·
-- `quot_fits`, `rem-back` the needs of `x / k` and the value of `x % k`.
-- Assumes nothing.
use Rattle.std.specs.Prelude.{◌≡◌, ℕ, ◌%◌, eqb, ℤ, pos, nat_abs}
use Rattle.std.proofs.Common.{sym, ◌∙◌, ap, arith, eqb→eq, pow_pos, eq-eqb}
use Rattle.std.specs.Int.Signed.{quot_z, rem_z}
use mir.Val.{SFits, to_z, of_z, hbits}
use Rattle.std.proofs.lemmas.Int.{to_z-of_z}
use Rattle.std.specs.Int.{Width}
use Rattle.laws.specs.Parts.{abs_is, eqℤ}
use Rattle.laws.specs.Sizes.{abs-rem, fits-quot, fits-rem}
use Rattle.laws.specs.Choices.{of-true}
use Rattle.laws.specs.Each.{same_test}

pub bits-eq : (w : Width) {x y : ℤ} → SFits w x → SFits w y → of_z w x ≡ of_z w y → x ≡ y
bits-eq w {x} {y} fx fy h = sym (to_z-of_z w x fx) ∙ ap (to_z w) h ∙ to_z-of_z w y fy

zero-fits : (w : Width) → SFits w (pos 0)
zero-fits w = record { sfits = pow_pos (hbits w) }

rem-is-0 : (w : Width) (x : ℤ) (k : ℕ) → SFits w x → of_z w (rem_z (to_z w (of_z w x)) (pos k)) ≡ 0 → nat_abs x % k ≡ 0
rem-is-0 w x k f h =
    let r : of_z w (rem_z x (pos k)) ≡ 0 = rw (to_z-of_z w x f) at h in
    sym (abs-rem x k) ∙ ap nat_abs (bits-eq w {y = pos 0} (fits-rem w x k f) (zero-fits w) r)

-- the flag of `x % k == 0`
pub rem-test : (w : Width) (x : ℤ) (k : ℕ) → SFits w x → eqb (of_z w (rem_z (to_z w (of_z w x)) (pos k))) 0 ≡ eqb (nat_abs x % k) 0
rem-test w x k f =
    same_test (eqb (of_z w (rem_z (to_z w (of_z w x)) (pos k))) 0) (eqb (nat_abs x % k) 0)
    (λ t. eq-eqb (nat_abs x % k) 0 (rem-is-0 w x k f (eqb→eq (of_z w (rem_z (to_z w (of_z w x)) (pos k))) 0 (of-true t))))
    (λ t. eq-eqb (of_z w (rem_z (to_z w (of_z w x)) (pos k))) 0 (bits-zero (eqb→eq (nat_abs x % k) 0 (of-true t))))
  where
    bits-zero : nat_abs x % k ≡ 0 → of_z w (rem_z (to_z w (of_z w x)) (pos k)) ≡ 0
    bits-zero e = rw (to_z-of_z w x f) (ap (of_z w) (eqℤ (rem_z x (pos k)) (pos 0) (omega (arith, abs_is (rem_z x (pos k)), abs-rem x k))))

-- the needs of `x / k` and `x % k`, as the machine asks them
pub quot_fits : {w : Width} {x : ℤ} (k : ℕ) → SFits w x → SFits w (quot_z (to_z w (of_z w x)) (pos k))
quot_fits {w} {x} k f = rw (to_z-of_z w x f) (fits-quot w x k f)

pub rem-back : (w : Width) (x : ℤ) (k : ℕ) → SFits w x → to_z w (of_z w (rem_z (to_z w (of_z w x)) (pos k))) ≡ rem_z x (pos k)
rem-back w x k f =
    let e : rem_z (to_z w (of_z w x)) (pos k) ≡ rem_z x (pos k) = ap (λ (z : ℤ). rem_z z (pos k)) (to_z-of_z w x f) in
    ap (λ (z : ℤ). to_z w (of_z w z)) e ∙ to_z-of_z w (rem_z x (pos k)) (fits-rem w x k f)
