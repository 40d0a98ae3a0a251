-- The points of a base and the record of each: what the laws for the floors above speak of.
-- `in_base` the points of a base, `points_in` how many they are · `base_record` the record of a point.
-- Assumes nothing.
use Rattle.std.specs.Prelude.{Bool, cond, ◌||◌, List, ℕ, zero, suc, ◌+◌, eqb, ℤ}
use Rattle.lattice.specs.Points.{class_of}
use Rattle.table.specs.Search.{same_point}
use Rattle.lattice.specs.declared.points.Point.{Point}
use Rattle.lattice.specs.declared.records.Record.{Record}
use Rattle.laws.specs.Rules.{among}
use Rattle.base.specs.Base.{centre_at, centres_in, corner_of, centre_record, corner_record}

-- "Each centre gives itself and its six unit neighbours": point k of the hexagon at c
abbrev pub hexagon_point : Point → ℕ → Point
hexagon_point c zero = c
hexagon_point c (suc j) = corner_of c j

-- p is one of the first k points of the hexagon at c
unfoldable pub in_hexagon : Point → ℕ → Point → Bool
in_hexagon c k p = among k (λ i. same_point (hexagon_point c i) p)

-- p is a point of one of the first n hexagons
unfoldable pub in_first : List ℤ → ℕ → Point → Bool
in_first cs n p = among n (λ i. in_hexagon (centre_at cs i) 7 p)

abbrev pub in_base : List ℤ → Point → Bool
in_base cs p = in_first cs (centres_in cs) p

-- the record that document 01 gives a point: a centre's where a - b leaves 0, else a corner's
abbrev pub base_record : (Point → Bool) → Point → Record
base_record listed p = cond (eqb (class_of p) 0) (centre_record p) (corner_record listed p)

-- how many of the first k points of the hexagon at c are new, where `laid` tells the points before it
unfoldable pub new_points : (Point → Bool) → Point → ℕ → ℕ
new_points laid c zero = 0
new_points laid c (suc k) = new_points laid c k + cond (in_hexagon c k (hexagon_point c k) || laid (hexagon_point c k)) 0 1

-- the number of different points of the first n hexagons
unfoldable pub points_in : List ℤ → ℕ → ℕ
points_in cs zero = 0
points_in cs (suc n) = points_in cs n + new_points (in_first cs n) (centre_at cs n) 7
