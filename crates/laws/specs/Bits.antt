-- The bits of a byte, by division and remainder, with no word logic. What a bit that is set makes of a byte is one test of every byte and bit.
-- `bit_of x k` bit k of x, 0 or 1 · `bit-room`, `bit-set` one bit set that was not.
-- Assumes nothing.
use Rattle.std.specs.Prelude.{◌≡◌, cond, ℕ, suc, ◌+◌, ◌%◌, ◌/◌, ◌<◌, ◌^◌, eqb}
use Rattle.laws.specs.Rules.{upto, upto-at, Test, run, ◌≤?◌, ◌≡?◌, ◌⇒◌, rule2}

abbrev pub bit_of : ℕ → ℕ → ℕ
bit_of x k = x / 2 ^ k % 2

module _ (x : ℕ) (byte : x < 256) (k : ℕ) (bit : k < 8) (clear : bit_of x k ≡ 0) where
  -- the byte with bit k set is a byte
  pub bit-room : x + 2 ^ k < 256
  bit-room = rule2 256 8 (λ x k. (bit_of x k ≡? 0) ⇒ (suc (x + 2 ^ k) ≤? 256)) tt x byte k bit clear

  -- its other bits are as they were
  pub bit-set : (j : ℕ) → j < 8 → bit_of (x + 2 ^ k) j ≡ cond (eqb j k) 1 (bit_of x j)
  bit-set j h = rule2 8 8 (set x) (upto-at 256 (λ x. upto 8 (λ k. upto 8 (λ j. run (set x k j)))) tt x byte) k bit j h clear
    where
      set : ℕ → ℕ → ℕ → Test
      set x k j = (bit_of x k ≡? 0) ⇒ (bit_of (x + 2 ^ k) j ≡? cond (eqb j k) 1 (bit_of x j))
