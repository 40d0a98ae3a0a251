-- Where a vertex across from a side can stand. Seen from the adjacent point p of a corner, the vertex is the opposite q turned by 60 or 120 degrees,
-- or by 90 and lengthened or shortened by the square root of 3, to one side where p comes before q and to the other where it comes after (AcrossLaws):
-- eight factors (x + yw)/3. `factor_of` the factors · `across_of` the place · `apex_of` the one of them that makes a triangle with equal sides ·
-- `StarPoint` how far the points of a star lie.
-- Assumes nothing.
use Rattle.std.specs.Prelude.{List, [], ◌∷◌, ℕ, ◌*◌, ◌-◌, ◌^◌, ◌≤◌, max, get_or, ℤ, pos, negsuc, nat_abs, ◌+ℤ◌, ◌-ℤ◌, ◌*ℤ◌}
use Rattle.lattice.specs.Points.{normal_of}
use Rattle.lattice.specs.Places.{wide, high}
use Rattle.lattice.specs.declared.points.Point.{Point}

-- (x + yw)/3
pub record Factor : Type 0 where
  pub x : ℤ
  pub y : ℤ

abbrev pub factor : ℤ → ℤ → Factor
factor x y = record { x = x; y = y }

-- w, w², their sum and a third of it; and these the other way
abbrev pub factors : List Factor
factors =
    factor (pos 0) (pos 3) ∷
    factor (negsuc 2) (pos 3) ∷
    factor (negsuc 2) (pos 6) ∷
    factor (negsuc 0) (pos 2) ∷
    factor (pos 3) (negsuc 2) ∷
    factor (pos 0) (negsuc 2) ∷
    factor (pos 3) (negsuc 5) ∷
    factor (pos 1) (negsuc 1) ∷ []

abbrev pub factor_of : ℕ → Factor
factor_of c = get_or factors c (factor (pos 0) (pos 0))

-- from [a, b, 7] by [e, h, 7] times f: (a + bw)/3^7 + (x + yw)/3 (e + hw)/3^7
abbrev pub along_of : Factor → ℤ → ℤ → ℤ → ℤ → Point
along_of f a b e h = normal_of (pos 3 *ℤ a +ℤ (f.x *ℤ e -ℤ f.y *ℤ h)) (pos 3 *ℤ b +ℤ (f.y *ℤ e +ℤ (f.x +ℤ f.y) *ℤ h)) 8

-- p + f(q - p)
abbrev pub across_of : Factor → Point → Point → Point
across_of f p q = along_of f (wide 7 p) (high 7 p) (wide 7 q -ℤ wide 7 p) (high 7 q -ℤ high 7 p)

-- p + w(q - p), at the greater of the two depths: the third corner of the triangle with equal sides to the left of the way from p to q
abbrev pub apex_at : ℕ → Point → Point → Point
apex_at d p q = normal_of (wide d p +ℤ high d p -ℤ high d q) (wide d q +ℤ high d q -ℤ wide d p) d

unfoldable pub apex_of : Point → Point → Point
apex_of p q = apex_at (max p.m.0 q.m.0) p q

-- a point of a star
pub record StarPoint (p : Point) : Type 0 where
  pub depth : p.m.0 ≤ 7
  pub wide : nat_abs p.a * 3 ^ (7 - p.m.0) ≤ 600000
  pub high : nat_abs p.b * 3 ^ (7 - p.m.0) ≤ 600000
