-- How many points of a list a table holds. What the promise cites: `lookups_of`.
-- `point_at` a point of the list · `held_to` how many of the first ones are there, `held_none`, `held_more` none, and one more, `one-most` no more than
-- one · `lookups-fit`, `lookups-unfit` by the table's length.
-- Assumes nothing.
use Rattle.std.specs.Prelude.{◌≡◌, Bool, true, false, List, ℤ, pos, length, get_or}
use Rattle.std.proofs.Math.Path.{refl, sym, ap}
use Rattle.std.proofs.Math.Bool.{cond}
use Prim.Native.Nat.{ℕ, zero, suc, ◌+◌, ◌*◌, ◌/◌, ◌≤◌}
use native.Mathlib.Omega.{arith}
use Rattle.lattice.specs.Points.{pt}
use Rattle.lattice.specs.declared.points.Point.{Point}
use Rattle.table.specs.Slots.{fits_length}
use Rattle.table.specs.Entries.{holds}

-- points of one depth, lent as a, b, a, b, ..
abbrev pub point_at : List ℤ → ℕ → ℕ → Point
point_at ps m i = pt (get_or ps (2 * i) (pos 0)) (get_or ps (2 * i + 1) (pos 0)) m

abbrev pub one : Bool → ℕ
one b = cond b 1 0

-- how many of the first i points the table holds
unfoldable pub held_to : List ℕ → List ℤ → ℕ → ℕ → ℕ
held_to t ps m zero = 0
held_to t ps m (suc i) = held_to t ps m i + one (holds t (point_at ps m i))

-- of all; 0 where the length is no table's
unfoldable pub lookups_of : List ℕ → List ℤ → ℕ → ℕ
lookups_of t ps m = cond (fits_length (length t)) (held_to t ps m (length ps / 2)) 0

-- ---- laws
pub one-most : (b : Bool) → one b ≤ 1
one-most true = omega arith
one-most false = omega arith

module _ (t : List ℕ) (ps : List ℤ) (m : ℕ) where
  pub held_none : 0 ≡ held_to t ps m 0
  unfolding held_to
  held_none = refl

  pub held_more : (i : ℕ) → held_to t ps m i + one (holds t (point_at ps m i)) ≡ held_to t ps m (i + 1)
  unfolding held_to
  held_more i = let e : suc i ≡ i + 1 = omega arith in ap (held_to t ps m) e

  pub lookups-fit : fits_length (length t) ≡ true → held_to t ps m (length ps / 2) ≡ lookups_of t ps m
  unfolding lookups_of
  lookups-fit h = sym (ap (λ (b : Bool). cond b (held_to t ps m (length ps / 2)) 0) h)

  pub lookups-unfit : fits_length (length t) ≡ false → 0 ≡ lookups_of t ps m
  unfolding lookups_of
  lookups-unfit h = sym (ap (λ (b : Bool). cond b (held_to t ps m (length ps / 2)) 0) h)
