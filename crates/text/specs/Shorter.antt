-- Normalising shortens: `point-shrinks` no spelling of a point is shorter than the normalised one.
-- Assumes nothing.
use Rattle.std.specs.Prelude.{◌≡◌, refl, Bool, true, false, cond, ◌&&◌, ℕ, zero, suc, ◌/◌, ◌≤◌, ◌<◌, ℤ, pos, negsuc, neg_ℤ, length}
use Rattle.std.proofs.Common.{ap, arith}
use Rattle.std.proofs.Math.Decide.{dec_lt}
use Rattle.std.specs.Int.Signed.{quot_z}
use Rattle.lattice.specs.Points.{pt, by3, normal_of}
use Rattle.text.specs.Decimal.{digits, numeral}
use Rattle.text.specs.DecimalLaws.{by-tens, digits-small, digits-some, more-length}
use Rattle.text.specs.Line.{point_text}
use Rattle.text.specs.LineLengths.{point-long}

-- a smaller number has no more digits
width-rises : (k n : ℕ) → n ≤ k → length (digits n) ≤ length (digits k)
width-rises =
    by-tens (λ k. (n : ℕ) → n ≤ k → length (digits n) ≤ length (digits k))
    (λ k h n l.
    let small : n < 10 = omega arith in
    omega (arith, ap length (digits-small n small), ap length (digits-small k h)))
    (λ k h r n l. go k n h l (r (n / 10)) (dec_lt n 10))
  where
    go : (k n : ℕ) → 10 ≤ k → n ≤ k → (n / 10 ≤ k / 10 → length (digits (n / 10)) ≤ length (digits (k / 10))) → Dec (n < 10)
        → length (digits n) ≤ length (digits k)
    go k n h l r (yes small) = omega (arith, ap length (digits-small n small), digits-some k)
    go k n h l r (no big) =
        let tens : n / 10 ≤ k / 10 = omega arith in
        omega (arith, r tens, more-length n (omega arith), more-length k h)

-- a third of a number has no more digits, and no sign that the number lacks
numeral-third : (z : ℤ) → length (numeral (quot_z z (pos 3))) ≤ length (numeral z)
numeral-third (pos n) = width-rises n (n / 3) (omega arith)
numeral-third (negsuc n) = go (suc n / 3) refl
  where
    go : (q : ℕ) → suc n / 3 ≡ q → length (numeral (neg_ℤ (pos q))) ≤ length (numeral (negsuc n))
    go zero e = omega (arith, ap length (digits-small 0 (omega arith)), digits-some (suc n))
    go (suc q) e =
        let l : suc q ≤ suc n = omega arith in
        omega (arith, width-rises (suc n) (suc q) l)

pub point-shrinks : (m : ℕ) (a b : ℤ) → length (point_text (normal_of a b m)) ≤ length (point_text (pt a b m))
unfolding normal_of
point-shrinks zero a b = omega arith
point-shrinks (suc m) a b = go (by3 a && by3 b) (point-shrinks m (quot_z a (pos 3)) (quot_z b (pos 3)))
  where
    go : (t : Bool) → length (point_text (normal_of (quot_z a (pos 3)) (quot_z b (pos 3)) m)) ≤ length (point_text (pt (quot_z a (pos 3)) (quot_z b (pos 3)) m))
        → length (point_text (cond t (normal_of (quot_z a (pos 3)) (quot_z b (pos 3)) m) (pt a b (suc m)))) ≤ length (point_text (pt a b (suc m)))
    go true r =
        omega (
          arith,
          r,
          point-long (pt (quot_z a (pos 3)) (quot_z b (pos 3)) m),
          point-long (pt a b (suc m)),
          numeral-third a,
          numeral-third b,
          width-rises (suc m) m (omega arith),
        )
    go false r = omega arith
