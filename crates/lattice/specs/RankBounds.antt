-- Bounds and parities of ranks, what the code of ranks needs.
-- `rank-top`, `birth-below`, `birth-parity` · `move-first` a direction is that of a first adjacent point, `move-place` a place of the degree 6 pattern ·
-- `move-near` a step can be taken · `move-depth` how deep it ends.
-- Assumes nothing.
use Rattle.std.specs.Prelude.{◌≡◌, refl, Bool, true, false, cond, ℕ, ◌+◌, ◌*◌, ◌%◌, ◌/◌, ◌≤◌, ◌<◌, ◌-◌, max, eqb, pos}
use Rattle.std.proofs.Common.{arith, lit≤, lit<, eq-eqb, ne_eqb}
use Rattle.std.proofs.Math.Decide.{ℕ_discrete}
use Rattle.laws.specs.Rules.{rule}
use Rattle.laws.specs.Residue.{mod_z}
use Rattle.lattice.specs.Stars.{scale_of}
use Rattle.lattice.specs.Points.{class_of}
use Rattle.lattice.specs.Ranks.{rank_of, birth_of, level, move_of, parent_of}
use Rattle.lattice.specs.PointLaws.{alike, alike-eq}
use Rattle.lattice.specs.Patterns.{three, four, five, six, rows_of, pattern_of, orient, adjacent_of}
use Rattle.lattice.specs.Places.{sum-depth}
use Rattle.lattice.specs.Bounds.{Near}
use Rattle.lattice.specs.Points.{pt}
use Rattle.lattice.specs.PatternLaws.{orient-depth, adjacent-close, close-near}
use Rattle.lattice.specs.declared.points.Point.{Point}

-- the cases of the two definitions, by depth and class
data Kind (p : Point) : Type 0 where
  shallow : p.m.0 ≡ 0 → rank_of p ≤ 1 → birth_of p % 2 ≡ 0 → birth_of p ≤ 2 → Kind p
  middle : 0 < p.m.0 → rank_of p ≡ 2 * p.m.0 → birth_of p % 2 ≡ 1 → birth_of p ≤ 3 → Kind p
  deep : 0 < p.m.0 → rank_of p ≡ 2 * p.m.0 + 1 → birth_of p % 2 ≡ 0 → birth_of p ≤ 2 → Kind p

either : (b : Bool) {x y : ℕ} (P : ℕ → Type 0) → P x → P y → P (cond b x y)
either true P p q = p
either false P p q = q

kind : (p : Point) → Kind p
unfolding rank_of birth_of
kind p = go (ℕ_discrete p.m.0 0) (ℕ_discrete (class_of p) 0)
  where
    go : Dec (p.m.0 ≡ 0) → Dec (class_of p ≡ 0) → Kind p
    go (yes m) c =
        shallow m
        (simp (eq-eqb p.m.0 0 m) (either (eqb (class_of p) 1) (λ x. x ≤ 1) (omega arith) (omega arith)))
        (simp (eq-eqb p.m.0 0 m) (either (eqb (class_of p) 2) (λ x. x % 2 ≡ 0) (omega arith) (omega arith)))
        (simp (eq-eqb p.m.0 0 m) (either (eqb (class_of p) 2) (λ x. x ≤ 2) (omega arith) (omega arith)))
    go (no m) (yes c) =
        middle (omega arith)
        (simp (ne_eqb p.m.0 0 m, eq-eqb (class_of p) 0 c))
        (simp (ne_eqb p.m.0 0 m, eq-eqb (class_of p) 0 c) (either (eqb (mod_z p.a 3) 1) (λ x. x % 2 ≡ 1) (omega arith) (omega arith)))
        (simp (ne_eqb p.m.0 0 m, eq-eqb (class_of p) 0 c) (either (eqb (mod_z p.a 3) 1) (λ x. x ≤ 3) (omega arith) (omega arith)))
    go (no m) (no c) =
        deep (omega arith)
        (simp (ne_eqb p.m.0 0 m, ne_eqb (class_of p) 0 c))
        (simp (ne_eqb p.m.0 0 m, ne_eqb (class_of p) 0 c) (either (eqb (class_of p) 1) (λ x. x % 2 ≡ 0) (omega arith) (omega arith)))
        (simp (ne_eqb p.m.0 0 m, ne_eqb (class_of p) 0 c) (either (eqb (class_of p) 1) (λ x. x ≤ 2) (omega arith) (omega arith)))

pub rank-top : (p : Point) → rank_of p ≤ 2 * p.m.0 + 1
rank-top p = go (kind p)
  where
    go : Kind p → rank_of p ≤ 2 * p.m.0 + 1
    go (shallow m r b h) = omega arith
    go (middle m r b h) = omega arith
    go (deep m r b h) = omega arith

pub birth-below : (p : Point) → birth_of p < 4
birth-below p = go (kind p)
  where
    go : Kind p → birth_of p < 4
    go (shallow m r b h) = omega arith
    go (middle m r b h) = omega arith
    go (deep m r b h) = omega arith

-- the birth orientation suits the level below the rank
pub birth-parity : (p : Point) → birth_of p % 2 ≡ (rank_of p - 1) % 2
birth-parity p = go (kind p)
  where
    go : Kind p → birth_of p % 2 ≡ (rank_of p - 1) % 2
    go (shallow m r b h) = omega arith
    go (middle m r b h) = omega arith
    go (deep m r b h) = omega arith

-- ---- directions
abbrev unit : Point
unit = pt (pos 1) (pos 0) 0

-- direction e is place e / 2 of the degree 6 pattern at orientation e mod 2
pub move-place : (e : ℕ) → e < 12 → adjacent_of 6 (e % 2) (e / 2) ≡ orient e unit
unfolding orient pattern_of rows_of three four five six
move-place e h = alike-eq _ _ (rule 12 (λ e. alike (adjacent_of 6 (e % 2) (e / 2)) (orient e unit)) tt e h)

-- direction e is that of the first adjacent point at orientation e
pub move-first : (e : ℕ) → adjacent_of 6 e 0 ≡ orient e unit
unfolding pattern_of rows_of six
move-first e = refl

pub move-near : (e i : ℕ) → e % 2 ≡ i % 2 → i ≤ 12 → Near (level i) (orient e unit)
unfolding pattern_of rows_of six
move-near e i h l = close-near e (level i) (adjacent-close 6 0 (lit≤ tt) (lit≤ tt) (lit< tt)) h l

-- a step of level i ends no deeper than its start, or than half of i rounded up
pub move-depth : (p : Point) (e i : ℕ) → e % 2 ≡ i % 2 → (move_of p e i).m.0 ≤ max p.m.0 ((i + 1) / 2)
move-depth p e i h =
    let d = sum-depth p (scale_of (level i) (orient e unit)) in
    let o = orient-depth e unit in
    omega arith

-- a parent of a point of depth at most 6 has depth at most 6
pub parent-depth : (p : Point) (t : ℕ) → p.m.0 ≤ 6 → (parent_of p t).m.0 ≤ 6
unfolding parent_of
parent-depth p t h =
    let e : (birth_of p + 4 * t) % 2 ≡ (rank_of p - 1) % 2 = omega (arith, birth-parity p) in
    omega (arith, move-depth p (birth_of p + 4 * t) (rank_of p - 1) e, rank-top p)
