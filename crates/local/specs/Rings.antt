-- Three points round one, in every fourth direction, and how many of them are there: the hexagons round a corner, and the corners of a centre that
-- are not its parents.
-- `ring_of` how many · `ring-all` all three · `ringed`, `ring-corner` what a corner asks, by that number · `ring-none`, `ring-boundary`,
-- `ring_cut`, `ring-whole` its cases.
-- Assumes nothing.
use Rattle.std.specs.Prelude.{◌≡◌, refl, Bool, true, false, cond, ◌&&◌, ◌||◌, not, ℕ, ◌+◌, ◌≤◌, ◌<◌, eqb, ltb}
use Rattle.std.specs.Int.{from_bool}
use Rattle.std.proofs.Common.{sym, eq-eqb, ne_eqb, lt-ltb, le-ltb}
use Rattle.std.proofs.Math.Bool.{and-true}
use Rattle.lattice.specs.Ranks.{move_of}
use Rattle.lattice.specs.declared.points.Point.{Point}
use Rattle.growth.specs.Sheets.{Sheet}
use Rattle.growth.specs.Local.{there}

abbrev pub ring_of : Sheet → Point → ℕ → ℕ
ring_of R p e = from_bool (there R (move_of p e 0)) + from_bool (there R (move_of p (e + 4) 0)) + from_bool (there R (move_of p (e + 8) 0))

pub ring-all : (x y z : Bool) → eqb (from_bool x + from_bool y + from_bool z) 3 ≡ x && (y && z)
ring-all true true true = refl
ring-all true true false = refl
ring-all true false true = refl
ring-all true false false = refl
ring-all false true true = refl
ring-all false true false = refl
ring-all false false true = refl
ring-all false false false = refl

-- what a corner asks of the number of hexagons round it: one at least, and all three where and only where it is no boundary vertex
abbrev pub ringed : ℕ → Bool → Bool
ringed h boundary = cond (eqb h 0) false (cond boundary (ltb h 3) (not (ltb h 3)))

pub ring-corner : (x y z boundary : Bool)
    → (x || (y || z)) && cond (z && (y && (x && true))) (not boundary) boundary ≡ ringed (from_bool x + from_bool y + from_bool z) boundary
ring-corner true true true true = refl
ring-corner true true true false = refl
ring-corner true true false true = refl
ring-corner true true false false = refl
ring-corner true false true true = refl
ring-corner true false true false = refl
ring-corner true false false true = refl
ring-corner true false false false = refl
ring-corner false true true true = refl
ring-corner false true true false = refl
ring-corner false true false true = refl
ring-corner false true false false = refl
ring-corner false false true true = refl
ring-corner false false true false = refl
ring-corner false false false b = refl

-- the same with the test of a star, by cases
module _ (h d : ℕ) (star : Bool) where
  abbrev asked : Bool
  asked = ringed h (eqb d 0) && (eqb d 0 || star)

  pub ring-none : h ≡ 0 → false ≡ asked
  ring-none z = simp (eq-eqb h 0 z)

  pub ring-boundary : (h ≡ 0 → ⊥) → d ≡ 0 → ltb h 3 ≡ asked
  ring-boundary n z = simp (ne_eqb h 0 n, eq-eqb d 0 z) (sym (and-true (ltb h 3)))

  pub ring_cut : (h ≡ 0 → ⊥) → (d ≡ 0 → ⊥) → h < 3 → false ≡ asked
  ring_cut n z l = simp (ne_eqb h 0 n, ne_eqb d 0 z, lt-ltb h 3 l)

  pub ring-whole : (h ≡ 0 → ⊥) → (d ≡ 0 → ⊥) → 3 ≤ h → star ≡ asked
  ring-whole n z l = simp (ne_eqb h 0 n, ne_eqb d 0 z, le-ltb h 3 l)
