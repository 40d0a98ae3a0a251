-- The factors' numbers: `past-six` the last of the eight, `factor-size` how great they are.
-- Assumes nothing.
use Rattle.std.specs.Prelude.{◌≡◌, ℕ, ◌+◌, ◌≤◌, ◌<◌, nat_abs}
use Rattle.std.proofs.Common.{arith}
use Rattle.laws.specs.Rules.{◌≤?◌, ◌&◌, rule}
use Rattle.across.specs.Across.{factor_of}

-- the last of the eight: past each number that it is not
pub past-six : (c : ℕ) → c < 8 → (c ≡ 0 → ⊥) → (c ≡ 1 → ⊥) → (c ≡ 2 → ⊥) → (c ≡ 3 → ⊥) → (c ≡ 4 → ⊥) → (c ≡ 5 → ⊥) → (c ≡ 6 → ⊥) → c ≡ 7
past-six c h n₀ n₁ n₂ n₃ n₄ n₅ n₆ = only c h (past c 6 (past c 5 (past c 4 (past c 3 (past c 2 (past c 1 (past c 0 (least c) n₀) n₁) n₂) n₃) n₄) n₅) n₆)
  where
    least : (x : ℕ) → 0 ≤ x
    least x = omega arith

    past : (x k : ℕ) → k ≤ x → (x ≡ k → ⊥) → k + 1 ≤ x
    past x k h n = omega arith

    only : (x : ℕ) → x < 8 → 7 ≤ x → x ≡ 7
    only x h l = omega arith

pub factor-size : (c : ℕ) → c < 8 → (nat_abs (factor_of c).x ≤ 6) × (nat_abs (factor_of c).y ≤ 6)
factor-size c h = rule 8 (λ c. nat_abs (factor_of c).x ≤? 6 & nat_abs (factor_of c).y ≤? 6) tt c h
