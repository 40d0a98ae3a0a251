-- Steps at a point's own depth: those from a point of depth above 0 to its parents are such.
-- `way_of` the step in a direction, `way-turned` two directions on, `way-near` it is short · `step_end` where it ends, `step_by` by its numerators ·
-- `parent-step`, `parent-by` a parent is the end of one · `lowest-terms` normalising, by whether a first third comes out.
-- Assumes nothing.
use Rattle.std.specs.Prelude.{◌≡◌, Bool, true, false, cond, ◌&&◌, ℕ, suc, ◌+◌, ◌*◌, ◌-◌, ◌/◌, ◌≤◌, ◌<◌, max, ℤ, pos, nat_abs, ◌+ℤ◌}
use Rattle.std.proofs.Common.{sym, ◌∙◌, ap, subst, arith, lit≤}
use Rattle.std.specs.Int.Signed.{quot_z}
use Rattle.lattice.specs.Points.{pt, by3, normal_of, lift, turn60_of}
use Rattle.lattice.specs.PointLaws.{normal-step}
use Rattle.lattice.specs.Patterns.{orient}
use Rattle.lattice.specs.PatternLaws.{hex-orient, orient-depth}
use Rattle.lattice.specs.Ranks.{rank_of, birth_of, parent_of}
use Rattle.lattice.specs.RankBounds.{rank-top, birth-parity}
use Rattle.lattice.specs.declared.points.Point.{Point}
use Rattle.geometry.specs.RankLaws.{times-one}
use Rattle.std.specs.Int.{from_bool}
use Rattle.local.specs.BornLaws.{rank-least}

-- the step in direction e
abbrev pub way_of : ℕ → Point
way_of e = orient e (pt (pos 1) (pos 0) 0)

-- two directions on it is turned by 60 degrees
pub way-turned : (e : ℕ) {w r : Point} → r ≡ turn60_of w → w ≡ way_of e → r ≡ way_of (suc (suc e))
unfolding orient
way-turned e r h = r ∙ ap turn60_of h

pub way-near : (e : ℕ) {w : Point} → w ≡ way_of e → (nat_abs w.a ≤ 10) × (nat_abs w.b ≤ 10)
way-near e h =
    let x = hex-orient e {p = pt (pos 1) (pos 0) 0} (record { a = lit≤ tt; b = lit≤ tt; c = lit≤ tt }) in
    subst (λ (q : Point). (nat_abs q.a ≤ 10) × (nat_abs q.b ≤ 10)) (sym h) (x.a, x.b)

-- from [a, b, m] in direction e, both numerators over 3^m
abbrev pub step_end : ℤ → ℤ → ℕ → ℕ → Point
step_end a b m e = normal_of (a +ℤ (way_of e).a) (b +ℤ (way_of e).b) m

-- from [a, b, m] by x and y, both numerators over 3^m
abbrev pub step_by : ℤ → ℤ → ℕ → ℤ → ℤ → Point
step_by a b m x y = normal_of (a +ℤ x) (b +ℤ y) m

-- two numerators of one depth, added over it
abbrev added : ℤ → ℤ → ℕ → ℕ → ℕ → ℤ
added x y m k d = lift x m d +ℤ lift y k d

flat : (x y : ℤ) (m k : ℕ) → k ≡ m → added x y m k (max m k) ≡ x +ℤ y
flat x y m k e = λ i. times-one x (max m k - m) (omega arith) i +ℤ times-one y (max m k - k) (omega arith) i

-- a parent lies one step away, over the point's own denominator
pub parent-step : (p : Point) (j : ℕ) → 0 < p.m.0 → step_end p.a p.b p.m.0 (birth_of p + 4 * j) ≡ parent_of p j
unfolding parent_of
parent-step p j h =
    let m = p.m.0 in
    let e = birth_of p + 4 * j in
    let k = (way_of e).m.0 + (rank_of p - 1) / 2 in
    let same : k ≡ m = omega (arith, orient-depth e (pt (pos 1) (pos 0) 0), birth-parity p, rank-top p, rank-least p h) in
    let deep : m ≡ max m k = omega arith in
    λ i. normal_of (sym (flat p.a (way_of e).a m k same) i) (sym (flat p.b (way_of e).b m k same) i) (deep i)

-- the same by the two numerators of the step
abbrev way : Point → ℕ → Point
way p j = way_of (birth_of p + 4 * j)

pub parent-by : (p : Point) (j : ℕ) → 0 < p.m.0 → step_by p.a p.b p.m.0 (way p j).a (way p j).b ≡ parent_of p j
parent-by p j h = parent-step p j h

-- lowest terms, by whether a first third comes out
pub lowest-terms : (x y : ℤ) (m : ℕ) (w : Bool) → by3 x && by3 y ≡ w → 0 < m
    → normal_of (cond w (quot_z x (pos 3)) x) (cond w (quot_z y (pos 3)) y) (m - from_bool w) ≡ normal_of x y m
lowest-terms x y m true e h = normal-step x y m h e
lowest-terms x y m false e h = let z : m - 0 ≡ m = omega arith in ap (normal_of x y) z
