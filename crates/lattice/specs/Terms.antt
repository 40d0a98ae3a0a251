-- Two points over one denominator, as the code adds them.
-- `terms_at` two points over 3 to a depth, `terms_of` over the deeper one's · `added_of` their sum, normalised, which is `sum_of` · `Light` small enough to be
-- added, `terms-light` as what small points come to is.
-- Assumes nothing.
use Rattle.std.proofs.Common.{sym, subst, arith}
use Rattle.std.specs.Prelude.{ℕ, ◌≤◌, ◌-◌, ◌^◌, max, ◌+ℤ◌, nat_abs}
use Rattle.laws.specs.Sizes.{abs-mul}
use Rattle.lattice.specs.Bounds.{Small, small-wide, small-high, summable}
use Rattle.lattice.specs.Points.{normal_of, lift}
use Rattle.lattice.specs.declared.points.Point.{Point}
use Rattle.lattice.specs.declared.points.Terms.{Terms}

abbrev pub terms_at : Point → Point → ℕ → Terms
terms_at p q d =
    record {
      a = lift p.a p.m.0 d;
      b = lift p.b p.m.0 d;
      x = lift q.a q.m.0 d;
      y = lift q.b q.m.0 d;
      m = record { 0 = d };
    }

-- "the deeper one's denominator serves both"
abbrev pub terms_of : Point → Point → Terms
terms_of p q = terms_at p q (max p.m.0 q.m.0)

abbrev pub added_of : Terms → Point
added_of w = normal_of (w.a +ℤ w.x) (w.b +ℤ w.y) w.m.0

-- no sum of two of the numerators is over 32 bits
pub record Light (w : Terms) : Type 0 where
  pub a : nat_abs w.a ≤ summable
  pub b : nat_abs w.b ≤ summable
  pub x : nat_abs w.x ≤ summable
  pub y : nat_abs w.y ≤ summable

pub terms-light : (p q : Point) → Small p → Small q → Light (terms_of p q)
terms-light p q s t =
    let d = max p.m.0 q.m.0 in
    let h : d ≤ 7 = omega (arith, s.depth, t.depth) in
    let i = 3 ^ (d - p.m.0) in
    let j = 3 ^ (d - q.m.0) in
    record {
      a = subst (λ (n : ℕ). n ≤ summable) (sym (abs-mul p.a i)) (small-wide p d h s);
      b = subst (λ (n : ℕ). n ≤ summable) (sym (abs-mul p.b i)) (small-high p d h s);
      x = subst (λ (n : ℕ). n ≤ summable) (sym (abs-mul q.a j)) (small-wide q d h t);
      y = subst (λ (n : ℕ). n ≤ summable) (sym (abs-mul q.b j)) (small-high q d h t);
    }
