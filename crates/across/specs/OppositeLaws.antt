-- The opposite of a corner as a point of the pattern table, the first or the second: `Opposite`, `chosen-opposite`. How far the points of a star lie,
-- as the machine wants it: `adjacent-bound`, `chosen-bound`; `size-wide`, `size-high`, `wide-bound`, `high-bound`, `raised-bound` what that says of a
-- numerator.
-- Assumes nothing.
use Rattle.std.specs.Prelude.{◌≡◌, refl, Bool, true, false, cond, List, ℕ, zero, suc, ◌+◌, ◌*◌, ◌-◌, ◌^◌, ◌≤◌, ◌<◌, ℤ, nat_abs, Option, Some, None}
use Rattle.std.proofs.Common.{sym, ap, ◌∙◌, subst, arith, mul_assoc, le_trans, mul-le-mul, mul-le-mul_right, mul-le-mul_left, mul-one, lit≤, lit<, pow-add}
use Rattle.std.proofs.Math.Nat.{one-le-pow, pow-le-pow_right}
use Rattle.laws.specs.Sizes.{abs-add, abs-mul}
use Rattle.lattice.specs.Points.{lift}
use Rattle.lattice.specs.Places.{wide, high, sum-wide, sum-high, sum-depth}
use Rattle.lattice.specs.Bounds.{Near}
use Rattle.lattice.specs.Patterns.{orient, pattern_of, adjacent_of, on_spot}
use Rattle.lattice.specs.PatternLaws.{orient-depth, adjacent-close, first-close, second-close, Close, close-near, adjacent-near}
use Rattle.lattice.specs.Stars.{scale_of, step_of, adjacent_at, first_at, second_at}
use Rattle.lattice.specs.RecordLaws.{Inner}
use Rattle.lattice.specs.declared.points.Point.{Point}
use Rattle.lattice.specs.declared.records.Record.{Record}
use Rattle.table.specs.Entries.{holds}
use Rattle.queries.specs.Queries.{there, chosen_at}
use Rattle.across.specs.Across.{StarPoint}

-- ---- the opposites of a corner, as pattern points

-- the first and the second
abbrev pub opposite_of : ℕ → ℕ → ℕ → Option Point
opposite_of d j zero = Some (pattern_of d j).first
opposite_of d j (suc w) = (pattern_of d j).second

pub record Opposite (v : Record) (j : ℕ) (o : Point) : Type 0 where
  pub pattern : Point
  pub which : ℕ
  pub two : which < 2
  pub row : opposite_of v.d j which ≡ Some pattern
  pub is : step_of v.at v.n (orient v.k pattern) ≡ o

spot-inj : (p q : Point) → Some p ≡ Some q → p ≡ q
spot-inj p q e = cc

spot-none : {A : Type 0} {p : Point} → None ≡ Some p → A
spot-none e = absurd (let z : ◌≡◌ {A = ℕ} 0 1 = cc in omega arith)

pub chosen-opposite : (t : List ℕ) (v : Record) (j : ℕ) (o : Point) → chosen_at t v j ≡ Some o → Opposite v j o
unfolding chosen_at
chosen-opposite t v j o e = first (holds t (first_at v j)) e
  where
    step : Point → Point
    step p = step_of v.at v.n (orient v.k p)

    second : (s : Option Point) → (pattern_of v.d j).second ≡ s → there t (on_spot (step_of v.at v.n) (on_spot (orient v.k) s)) ≡ Some o → Opposite v j o
    second None x g = spot-none g
    second (Some p) x g = found (holds t (step p)) g
      where
        found : (b : Bool) → cond b (Some (step p)) None ≡ Some o → Opposite v j o
        found true y = record { pattern = p; which = 1; two = omega arith; row = x; is = spot-inj (step p) o y }
        found false y = spot-none y

    first : (b : Bool) → cond b (Some (first_at v j)) (there t (second_at v j)) ≡ Some o → Opposite v j o
    first true g = record { pattern = (pattern_of v.d j).first; which = 0; two = omega arith; row = refl; is = spot-inj (first_at v j) o g }
    first false g = second (pattern_of v.d j).second refl g

-- ---- how far the points of a star lie

module _ (p : Point) where
  pub size-wide : nat_abs (wide 7 p) ≡ nat_abs p.a * 3 ^ (7 - p.m.0)
  size-wide = abs-mul p.a (3 ^ (7 - p.m.0))

  pub size-high : nat_abs (high 7 p) ≡ nat_abs p.b * 3 ^ (7 - p.m.0)
  size-high = abs-mul p.b (3 ^ (7 - p.m.0))

grows : (n k b : ℕ) → n * 3 ^ k ≤ b → n ≤ b
grows n k b h = le_trans (subst (λ (m : ℕ). m ≤ n * 3 ^ k) (mul-one n) (mul-le-mul_left n (one-le-pow k 3 (lit< tt)))) h

pub wide-bound : (p : Point) → StarPoint p → nat_abs p.a ≤ 600000
wide-bound p w = grows (nat_abs p.a) (7 - p.m.0) 600000 w.wide

pub high-bound : (p : Point) → StarPoint p → nat_abs p.b ≤ 600000
high-bound p w = grows (nat_abs p.b) (7 - p.m.0) 600000 w.high

-- at a depth up to 7 its numerators are no larger
pub raised-bound : (x : ℤ) (m d : ℕ) → d ≤ 7 → nat_abs x * 3 ^ (7 - m) ≤ 600000 → nat_abs (lift x m d) ≤ 600000
raised-bound x m d h b =
    let l : d - m ≤ 7 - m = omega arith in
    subst (λ (n : ℕ). n ≤ 600000) (sym (abs-mul x (3 ^ (d - m)))) (le_trans (mul-le-mul_left (nat_abs x) (pow-le-pow_right (lit< tt) l)) b)

-- a point that a star steps to
step-bound : (v : Record) → Inner v → (x : Point) → Near v.n x → StarPoint (step_of v.at v.n x)
step-bound v i x r =
    record {
      depth = omega (arith, sum-depth v.at y, i.depth, r.depth);
      wide = omega (
        arith,
        size-wide s,
        ap nat_abs (sum-wide v.at y 7 hv r.depth),
        abs-add (wide 7 v.at) (wide 7 y),
        size-wide v.at,
        size-wide y,
        far (nat_abs v.at.a) i.wide,
        near (nat_abs x.a) r.hex.a,
      );
      high = omega (
        arith,
        size-high s,
        ap nat_abs (sum-high v.at y 7 hv r.depth),
        abs-add (high 7 v.at) (high 7 y),
        size-high v.at,
        size-high y,
        far (nat_abs v.at.b) i.high,
        near (nat_abs x.b) r.hex.b,
      );
    }
  where
    y : Point
    y = scale_of v.n x

    s : Point
    s = step_of v.at v.n x

    hv : v.at.m.0 ≤ 7
    hv = omega (arith, i.depth)

    far : (n : ℕ) → n ≤ 251 * 3 ^ v.at.m.0 → n * 3 ^ (7 - v.at.m.0) ≤ 548937
    far n h =
        let m = v.at.m.0 in
        let f : m + (7 - m) ≡ 7 = omega arith in
        let e : 251 * 3 ^ m * 3 ^ (7 - m) ≡ 251 * 3 ^ 7 =
        mul_assoc 251 (3 ^ m) (3 ^ (7 - m)) ∙ ap (λ (k : ℕ). 251 * k) (sym (pow-add 3 m (7 - m)) ∙ ap (λ (k : ℕ). 3 ^ k) f) in
        le_trans (mul-le-mul_right (3 ^ (7 - m)) h) (subst (λ (k : ℕ). k ≤ 548937) (sym e) (lit≤ tt))

    near : (n : ℕ) → n ≤ 10 → n * 3 ^ (7 - y.m.0) ≤ 21870
    near n h = let w : 7 - y.m.0 ≤ 7 = omega arith in le_trans (mul-le-mul h (pow-le-pow_right (lit< tt) w)) (lit≤ tt)

module _ (v : Record) (i : Inner v) where
  pub adjacent-depth : (j : ℕ) → j < v.d → (adjacent_of v.d v.k j).m.0 ≤ 2
  adjacent-depth j h = let x = orient-depth v.k (pattern_of v.d j).adjacent in let y = (adjacent-close v.d j i.low i.top h).depth in omega arith

  -- an opposite's pattern point is near
  opposite-close : (j : ℕ) (o : Point) → j < v.d → (x : Opposite v j o) → Close x.pattern
  opposite-close j o h x = go x.which x.row
    where
      go : (w : ℕ) → opposite_of v.d j w ≡ Some x.pattern → Close x.pattern
      go zero e = subst Close (spot-inj (pattern_of v.d j).first x.pattern e) (first-close v.d j i.low i.top h)
      go (suc w) e = second-close v.d j i.low i.top h x.pattern e

  pub opposite-depth : (j : ℕ) (o : Point) → j < v.d → (x : Opposite v j o) → (orient v.k x.pattern).m.0 ≤ 2
  opposite-depth j o h x = let y = orient-depth v.k x.pattern in let z = (opposite-close j o h x).depth in omega arith

  pub adjacent-bound : (j : ℕ) → j < v.d → StarPoint (adjacent_at v j)
  adjacent-bound j h = step-bound v i (adjacent_of v.d v.k j) (adjacent-near v i j h)

  pub opposite-bound : (j : ℕ) (o : Point) → j < v.d → (x : Opposite v j o) → StarPoint (step_of v.at v.n (orient v.k x.pattern))
  opposite-bound j o h x =
      step-bound v i (orient v.k x.pattern) (close-near v.k v.n (opposite-close j o h x) i.parity i.level)

  pub chosen-bound : (t : List ℕ) (j : ℕ) (o : Point) → j < v.d → chosen_at t v j ≡ Some o → StarPoint o
  chosen-bound t j o h c = let x = chosen-opposite t v j o c in subst StarPoint x.is (opposite-bound j o h x)
