-- Document 01, "The twelve directions": the star patterns, as adjacent | first opposite | second opposite, and how they turn.
-- What the promises cite: `adjacent_of`, `first_opposite_of`, `second_opposite_of` at a degree d, an orientation k and a place j.
-- Assumes nothing.
use Rattle.std.specs.Prelude.{List, [], ◌∷◌, ℕ, zero, suc, eqb, cond, ℤ, pos, negsuc, get_or, Option, Some, None}
use Rattle.lattice.specs.Points.{pt, turn60_of, turn30_of}
use Rattle.lattice.specs.declared.points.Point.{Point}

-- one place of a star: its adjacent point, and the two opposites of the corner after it, of which the second may be none
pub record Row : Type 0 where
  pub adjacent : Point
  pub first : Point
  pub second : Option Point

abbrev row : Point → Point → Option Point → Row
row a f s = record { adjacent = a; first = f; second = s }

abbrev 0z : ℤ
0z = pos 0

abbrev 1z : ℤ
1z = pos 1

abbrev 2z : ℤ
2z = pos 2

abbrev -1z : ℤ
-1z = negsuc 0

abbrev -2z : ℤ
-2z = negsuc 1

-- "d 3: 1,0,0 | 0,1,0 | 0,2,0; -1,1,0 | -1,0,0 | -2,0,0; 0,-1,0 | 1,-1,0 | 2,-2,0"
unfoldable pub three : List Row
three =
    row (pt 1z 0z 0) (pt 0z 1z 0) (Some (pt 0z 2z 0)) ∷
    row (pt -1z 1z 0) (pt -1z 0z 0) (Some (pt -2z 0z 0)) ∷
    row (pt 0z -1z 0) (pt 1z -1z 0) (Some (pt 2z -2z 0)) ∷ []

-- "d 4: 1,0,0 | 0,1,0 | 0,2,0; -1,1,0 | -1,0,0 | none; -1,-1,1 | 0,-2,1 | 0,-1,0; 1,-2,1 | 1,-1,0 | none"
unfoldable pub four : List Row
four =
    row (pt 1z 0z 0) (pt 0z 1z 0) (Some (pt 0z 2z 0)) ∷
    row (pt -1z 1z 0) (pt -1z 0z 0) None ∷
    row (pt -1z -1z 1) (pt 0z -2z 1) (Some (pt 0z -1z 0)) ∷
    row (pt 1z -2z 1) (pt 1z -1z 0) None ∷ []

-- "d 5: 1,0,0 | 0,1,0 | none; -1,2,1 | -2,2,1 | -1,1,0; -2,1,1 | -2,0,1 | -1,0,0; -1,-1,1 | 0,-2,1 | 0,-1,0; 1,-2,1 | 1,-1,0 | none"
unfoldable pub five : List Row
five =
    row (pt 1z 0z 0) (pt 0z 1z 0) None ∷
    row (pt -1z 2z 1) (pt -2z 2z 1) (Some (pt -1z 1z 0)) ∷
    row (pt -2z 1z 1) (pt -2z 0z 1) (Some (pt -1z 0z 0)) ∷
    row (pt -1z -1z 1) (pt 0z -2z 1) (Some (pt 0z -1z 0)) ∷
    row (pt 1z -2z 1) (pt 1z -1z 0) None ∷ []

abbrev pub on_spot : (Point → Point) → Option Point → Option Point
on_spot f (Some p) = Some (f p)
on_spot f None = None

abbrev turn_row : Row → Row
turn_row r = row (turn60_of r.adjacent) (turn60_of r.first) (on_spot turn60_of r.second)

-- n rows: each is the one before it, turned by 60 degrees
abbrev spun : ℕ → Row → List Row
spun zero r = []
spun (suc n) r = r ∷ spun n (turn_row r)

-- "d 6: 1,0,0 | 2,2,1 | 1,1,0; the other five are this row turned by 60 degrees, one turn more each time"
unfoldable pub six : List Row
six = spun 6 (row (pt 1z 0z 0) (pt 2z 2z 1) (Some (pt 1z 1z 0)))

unfoldable pub rows_of : ℕ → List Row
unfolding three four five six
rows_of d = cond (eqb d 3) three (cond (eqb d 4) four (cond (eqb d 5) five (cond (eqb d 6) six [])))

-- row j of degree d, at orientation 0
unfoldable pub pattern_of : ℕ → ℕ → Row
unfolding rows_of
pattern_of d j = get_or (rows_of d) j (row (pt 0z 0z 0) (pt 0z 0z 0) None)

-- "Orientation 1 is orientation 0 under the 30 degree rule; orientation k, for k at least 2, is orientation k-2 turned by 60 degrees."
unfoldable pub orient : ℕ → Point → Point
orient zero p = p
orient (suc zero) p = turn30_of p
orient (suc (suc k)) p = turn60_of (orient k p)

-- place j of degree d and orientation k: the adjacent point, and the opposites of corner j
abbrev pub adjacent_of : ℕ → ℕ → ℕ → Point
adjacent_of d k j = orient k (pattern_of d j).adjacent

abbrev pub first_opposite_of : ℕ → ℕ → ℕ → Point
first_opposite_of d k j = orient k (pattern_of d j).first

abbrev pub second_opposite_of : ℕ → ℕ → ℕ → Option Point
second_opposite_of d k j = on_spot (orient k) (pattern_of d j).second
