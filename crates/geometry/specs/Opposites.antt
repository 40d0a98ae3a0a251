-- The two opposites of a corner, over degree, orientation and place: the first is the nearer (`first-nearer`). Document 01 knows the second as "the
-- farther opposite"; a table that had the two the other way round, in definition and code alike, would fail here.
-- `farness` orders pattern points by their distance from the vertex.
-- Assumes nothing.
use Rattle.std.specs.Prelude.{◌≡◌, ℕ, suc, ◌*◌, ◌^◌, ◌-◌, ◌≤◌, ◌<◌, ◌+ℤ◌, ◌*ℤ◌, nat_abs, Option, Some, None}
use Rattle.std.proofs.Common.{subst, arith}
use Rattle.laws.specs.Rules.{Test, ◌≤?◌, ◌⇒◌, Means, run, upto, upto-at, rule2}
use Rattle.lattice.specs.Patterns.{orient, three, four, five, six, rows_of, pattern_of, first_opposite_of, second_opposite_of}
use Rattle.lattice.specs.declared.points.Point.{Point}

-- (a + bw)/3^m lies the square root of (aa + ab + bb)/9^m from 0: its square, over 81, since no pattern point is deeper than 2
abbrev pub farness : Point → ℕ
farness p = nat_abs (p.a *ℤ p.a +ℤ p.a *ℤ p.b +ℤ p.b *ℤ p.b) * 9 ^ (2 - p.m.0)

abbrev nearer : Point → Option Point → Test
nearer p (Some q) = suc (farness p) ≤? farness q
nearer p None = 0 ≤? 0

abbrev nearer_at : ℕ → ℕ → ℕ → Test
nearer_at d k j = 3 ≤? d ⇒ suc j ≤? d ⇒ nearer (first_opposite_of d k j) (second_opposite_of d k j)

module _ (d k j : ℕ) (l : 3 ≤ d) (h : d ≤ 6) (t : k < 12) (i : j < d) where
  row-nearer : Means (nearer (first_opposite_of d k j) (second_opposite_of d k j))
  unfolding orient pattern_of rows_of three four five six
  row-nearer =
      rule2 12 6 (nearer_at d) (upto-at 7 (λ d. upto 12 (λ k. upto 6 (λ j. run (nearer_at d k j)))) tt d (omega arith)) k t j (omega arith) l i

  pub first-nearer : (q : Point) → second_opposite_of d k j ≡ Some q → farness (first_opposite_of d k j) < farness q
  first-nearer q e = subst (λ (s : Option Point). Means (nearer (first_opposite_of d k j) s)) e row-nearer
