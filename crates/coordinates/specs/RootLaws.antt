-- The whole part of a square root: `root_is` its square is at most the number and the next one's is above it · `root-one` no other number is so.
-- Assumes nothing.
use Rattle.std.specs.Prelude.{◌≡◌, refl, Bool, true, false, cond, ℕ, zero, suc, ◌+◌, ◌*◌, ◌^◌, ◌≤◌, ◌<◌, leb}
use Rattle.std.proofs.Common.{subst, arith, mul-le-mul, leb-true, leb-false}
use Rattle.std.proofs.Math.Decide.{dec_lt}
use Rattle.std.proofs.Math.Nat.{pow-succ'}
use Rattle.coordinates.specs.Coordinates.{root_from, root_of}

-- r is the whole part of the root of q
abbrev pub Root : ℕ → ℕ → Type 0
Root q r = (r * r ≤ q) × (q < (r + 1) * (r + 1))

root-from : (i q w : ℕ) → w * w ≤ q → q < (w + 2 ^ i) * (w + 2 ^ i) → Root q (root_from i q w)
unfolding root_from
root-from zero q w low high = (low, high)
root-from (suc i) q w low high = go (leb ((w + 2 ^ i) * (w + 2 ^ i)) q) refl (λ x l h. root-from i q x l h)
  where
    go : (b : Bool) → leb ((w + 2 ^ i) * (w + 2 ^ i)) q ≡ b → ((x : ℕ) → x * x ≤ q → q < (x + 2 ^ i) * (x + 2 ^ i) → Root q (root_from i q x))
        → Root q (root_from i q (cond b (w + 2 ^ i) w))
    go true e r =
        let p = pow-succ' 2 i in
        let s : w + 2 ^ suc i ≡ w + 2 ^ i + 2 ^ i = omega arith in
        r (w + 2 ^ i) (leb-true ((w + 2 ^ i) * (w + 2 ^ i)) q e) (subst (λ (x : ℕ). q < x * x) s high)
    go false e r = r w low (leb-false ((w + 2 ^ i) * (w + 2 ^ i)) q e)

pub root_is : (q : ℕ) → q < 18446744073709551616 → Root q (root_of q)
unfolding root_of
root_is q h = root-from 32 q 0 (omega arith) h

pub root-one : (q r s : ℕ) → Root q r → Root q s → r ≡ s
root-one q r s a b = go (dec_lt r s) (dec_lt s r)
  where
    never : (x y : ℕ) → Root q x → Root q y → x < y → ⊥
    never x y c d l = let h : x + 1 ≤ y = omega arith in let m = mul-le-mul h h in omega (arith, c.1, d.0)

    go : Dec (r < s) → Dec (s < r) → r ≡ s
    go (yes l) k = absurd (never r s a b l)
    go (no l) (yes k) = absurd (never s r b a k)
    go (no l) (no k) = omega arith
