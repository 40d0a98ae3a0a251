-- Which points have parents, and what valid records have.
-- `valid-depth`, `valid-small`, `valid-born` · `small_size` · `rank-least`, `rank-deep`, `rank-centre` ranks by depth · `parent-corner` the parents of a
-- centre are corners of it · `turn_even` the directions to hexagons.
-- Assumes nothing.
use Rattle.std.specs.Prelude.{◌≡◌, refl, Bool, true, false, cond, ◌&&◌, ℕ, ◌+◌, ◌*◌, ◌-◌, ◌%◌, ◌^◌, ◌≤◌, ◌<◌, eqb, leb, nat_abs}
use Rattle.std.proofs.Common.{◌∙◌, subst, lit≤, lit<, mul-one, eq-eqb, ne_eqb, leb-true}
use Rattle.std.proofs.Math.Path.{ap}
use native.Mathlib.Omega.{arith}
use Rattle.laws.specs.Each.{both_left, both_right}
use Rattle.lattice.specs.Bounds.{Small, small-range, small-wide, small-high, summable}
use Rattle.lattice.specs.Points.{is_normal, class_of}
use Rattle.lattice.specs.Ranks.{rank_of, birth_of, move_of, parent_of}
use Rattle.lattice.specs.Records.{within, suits_of, valid_of}
use Rattle.lattice.specs.declared.points.Point.{Point}
use Rattle.lattice.specs.declared.records.Record.{Record}
use Rattle.local.specs.Parents.{Born}
use Rattle.local.specs.Places.{turn_of}

-- ---- what valid records have
module _ (r : Record) (h : valid_of r ≡ true) where
  abbrev m : ℕ
  m = r.at.m.0

  abbrev suits : Bool
  suits = suits_of r.d r.k r.n.0

  ranged : leb m 6 && (within r.at.a m && (within r.at.b m && suits)) ≡ true
  ranged = both_right (is_normal r.at) (leb m 6 && (within r.at.a m && (within r.at.b m && suits))) h

  sized : within r.at.a m && (within r.at.b m && suits) ≡ true
  sized = both_right (leb m 6) (within r.at.a m && (within r.at.b m && suits)) ranged

  pub valid-depth : m ≤ 6
  valid-depth = leb-true m 6 (both_left (leb m 6) (within r.at.a m && (within r.at.b m && suits)) ranged)

  pub valid-small : Small r.at
  valid-small =
      small-range r.at valid-depth
      (leb-true (nat_abs r.at.a) (251 * 3 ^ m) (both_left (within r.at.a m) (within r.at.b m && suits) sized))
      (leb-true (nat_abs r.at.b) (251 * 3 ^ m)
      (both_left (within r.at.b m) suits (both_right (within r.at.a m) (within r.at.b m && suits) sized)))

  pub valid-born : 0 < rank_of r.at → Born r.at
  valid-born l = record { small = valid-small; depth = valid-depth; rank = l }

-- the numerators of a point that can be stepped from
pub small_size : (p : Point) → Small p → (nat_abs p.a ≤ summable) × (nat_abs p.b ≤ summable)
small_size p s = (plain (nat_abs p.a) (small-wide p 0 (lit≤ tt) s), plain (nat_abs p.b) (small-high p 0 (lit≤ tt) s))
  where
    plain : (n : ℕ) → n * 3 ^ (0 - p.m.0) ≤ summable → n ≤ summable
    plain n h =
        let z : 0 - p.m.0 ≡ 0 = omega arith in
        subst (λ (k : ℕ). k ≤ summable) (ap (λ (k : ℕ). n * 3 ^ k) z ∙ mul-one n) h

-- ---- ranks by depth
pub rank-least : (p : Point) → 0 < p.m.0 → 2 * p.m.0 ≤ rank_of p
unfolding rank_of
rank-least p h = let n : p.m.0 ≡ 0 → ⊥ = λ e. omega arith in simp (ne_eqb p.m.0 0 n) (go (eqb (class_of p) 0))
  where
    go : (b : Bool) → 2 * p.m.0 ≤ cond b (2 * p.m.0) (2 * p.m.0 + 1)
    go true = omega arith
    go false = omega arith

pub rank-deep : (p : Point) → 0 < p.m.0 → 1 < rank_of p
rank-deep p h = omega (arith, rank-least p h)

module _ (p : Point) (m : p.m.0 ≡ 0) (c : class_of p ≡ 0) where
  pub rank-centre : rank_of p ≡ 1
  unfolding rank_of
  rank-centre = simp (eq-eqb p.m.0 0 m, c)

  birth-centre : birth_of p ≡ 0
  unfolding birth_of
  birth-centre = simp (eq-eqb p.m.0 0 m, c)

  -- the parents of a centre are corners of it
  pub parent-corner : (j : ℕ) → parent_of p j ≡ move_of p (4 * j) 0
  unfolding parent_of
  parent-corner j = let e : 0 + 4 * j ≡ 4 * j = omega arith in (λ i. move_of p (birth-centre i + 4 * j) (rank-centre i - 1)) ∙ ap (λ (e : ℕ). move_of p e 0) e

pub turn_even : (c : ℕ) → (turn_of c < 4) × (turn_of c % 2 ≡ 0)
turn_even c = go (eqb c 1)
  where
    go : (b : Bool) → (cond b 2 0 < 4) × (cond b 2 0 % 2 ≡ 0)
    go true = (lit< tt, refl)
    go false = (lit< tt, refl)
