-- Document 01, "Points". What the promises cite: `normal_of`, `turn60_of`, `turn30_of`, `sum_of`, `normal_at`; `pt` writes a point, `by3` is what normalising
-- asks, `class_of` what a base asks, `same_point` what a search does.
-- Assumes nothing.
use Rattle.std.specs.Prelude.{Bool, cond, ◌&&◌, not, ◌||◌, ℕ, zero, suc, ◌+◌, ◌%◌, ◌-◌, ◌^◌, max, eqb, ℤ, neg_ℤ, pos, ◌+ℤ◌, ◌*ℤ◌, nat_abs, ◌-ℤ◌}
use Rattle.std.specs.Int.Signed.{quot_z}
use Rattle.laws.specs.Residue.{mod_z}
use Rattle.laws.specs.Rules.{eq_z}
use Rattle.lattice.specs.declared.points.Point.{Point}

-- [a, b, m]: the point (a + bw)/3^m
abbrev pub pt : ℤ → ℤ → ℕ → Point
pt a b m = record { a = a; b = b; m = record { 0 = m } }

-- two points are the same: so are their numbers
unfoldable pub same_point : Point → Point → Bool
same_point p q = (eq_z p.a q.a && eq_z p.b q.b) && eqb p.m.0 q.m.0

-- 3 divides z
abbrev pub by3 : ℤ → Bool
by3 z = eqb (nat_abs z % 3) 0

-- "It is normalised when m = 0 or 3 fails to divide one of a, b."
abbrev pub normal_at : ℤ → ℤ → ℕ → Bool
normal_at a b m = eqb m 0 || not (by3 a && by3 b)

abbrev pub is_normal : Point → Bool
is_normal p = normal_at p.a p.b p.m.0

-- the normalised form: while m is above 0 and 3 divides both a and b, all three go down
unfoldable pub normal_of : ℤ → ℤ → ℕ → Point
normal_of a b zero = pt a b zero
normal_of a b (suc m) = cond (by3 a && by3 b) (normal_of (quot_z a (pos 3)) (quot_z b (pos 3)) m) (pt a b (suc m))

-- what a-b leaves on division by 3: it parts centres from the two kinds of corners ("Base")
abbrev pub class_of : Point → ℕ
class_of p = mod_z (p.a -ℤ p.b) 3

-- "Turning by 60 degrees takes [a, b, m] to [-b, a+b, m]."
abbrev pub turn60_of : Point → Point
turn60_of p = pt (neg_ℤ p.b) (p.a +ℤ p.b) p.m.0

-- "Turning by 30 degrees and shrinking by the square root of 3 takes it to [a-b, a+2b, m+1]."
abbrev pub turn30_of : Point → Point
turn30_of p = pt (p.a -ℤ p.b) (p.a +ℤ pos 2 *ℤ p.b) (p.m.0 + 1)

-- the 60 degree turn, k times
unfoldable pub turns : ℕ → Point → Point
turns zero p = p
turns (suc k) p = turn60_of (turns k p)

-- a numerator of depth m, brought to depth d
abbrev pub lift : ℤ → ℕ → ℕ → ℤ
lift z m d = z *ℤ pos (3 ^ (d - m))

-- the sum over the common denominator 3^d, normalised
abbrev pub sum_at : Point → Point → ℕ → Point
sum_at p q d = normal_of (lift p.a p.m.0 d +ℤ lift q.a q.m.0 d) (lift p.b p.m.0 d +ℤ lift q.b q.m.0 d) d

-- two points added: the deeper one's denominator serves both
abbrev pub sum_of : Point → Point → Point
sum_of p q = sum_at p q (max p.m.0 q.m.0)
