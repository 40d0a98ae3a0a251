-- The parts of growth's `local_test` as the code takes them: first the kind of point with the star, then what degree 6 asks.
-- `starred` a test of a place, and the star's · `place_test` · `turn_of` the first direction to a hexagon.
-- Assumes nothing.
use Rattle.std.specs.Prelude.{Bool, cond, ◌&&◌, ◌||◌, ℕ, eqb}
use Rattle.lattice.specs.Points.{class_of}
use Rattle.lattice.specs.declared.records.Record.{Record}
use Rattle.growth.specs.Sheets.{Sheet}
use Rattle.growth.specs.Local.{centre_test, corner_test, deep_test, star_test}

-- the place passes, and degree 0 or the star does
abbrev pub starred : Bool → Sheet → Record → Bool
starred place R r = place && (eqb r.d 0 || star_test R r)

unfoldable pub place_test : Sheet → Record → Bool
place_test R r = starred (cond (eqb r.at.m.0 0) (cond (eqb (class_of r.at) 0) (centre_test R r) (corner_test R r)) (deep_test R r)) R r

abbrev pub turn_of : ℕ → ℕ
turn_of c = cond (eqb c 1) 2 0
