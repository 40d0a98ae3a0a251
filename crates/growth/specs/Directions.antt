-- Arithmetic of the twelve directions, mod 12 and mod 4, as the theory needs it.
-- `thirds` three directions that agree mod 4 · `third_of` a direction by its third ·
-- `plus4`, `plus8`, `plus4'`, `plus8'` every fourth direction, seen from the other end.
-- Assumes nothing.
use Rattle.std.specs.Prelude.{◌≡◌, ◌⊎◌, ℕ, ◌+◌, ◌*◌, ◌%◌, ◌/◌, ◌<◌}
use Rattle.std.proofs.Common.{inl, inr, arith}
use Rattle.std.proofs.Math.Decide.{ℕ_discrete}

pub thirds : (a b : ℕ) → a < 12 → b < 12 → a % 4 ≡ b % 4 → (a ≡ b) ⊎ ((a ≡ (b + 4) % 12) ⊎ (a ≡ (b + 8) % 12))
thirds a b ha hb h = go (ℕ_discrete a b) (ℕ_discrete a ((b + 4) % 12))
  where
    go : Dec (a ≡ b) → Dec (a ≡ (b + 4) % 12) → (a ≡ b) ⊎ ((a ≡ (b + 4) % 12) ⊎ (a ≡ (b + 8) % 12))
    go (yes x) y = inl x
    go (no x) (yes y) = inr (inl y)
    go (no x) (no y) = inr (inr (omega arith))

pub third_of : (e k : ℕ) → e < 12 → e % 4 ≡ k → e ≡ k + 4 * (e / 4)
third_of e k h h' = omega arith

pub mod-12-4 : (x : ℕ) → x % 12 % 4 ≡ x % 4
mod-12-4 x = omega arith

pub below3 : (x : ℕ) → x % 12 / 4 < 3
below3 x = omega arith

pub mod4 : (k t : ℕ) → k < 4 → (k + 4 * t) % 4 ≡ k
mod4 k t h = omega arith

pub plus4 : (a : ℕ) → a < 12 → (a + 4) % 12 ≡ ((a + 6) % 12 + 10) % 12
plus4 a h = omega arith

pub plus8 : (a : ℕ) → a < 12 → (a + 8) % 12 ≡ ((a + 6) % 12 + 2) % 12
plus8 a h = omega arith

pub plus4' : (e : ℕ) → e < 12 → (e + 10) % 12 ≡ ((e + 6) % 12 + 4) % 12
plus4' e h = omega arith

pub plus8' : (e : ℕ) → e < 12 → (e + 2) % 12 ≡ ((e + 6) % 12 + 8) % 12
plus8' e h = omega arith
