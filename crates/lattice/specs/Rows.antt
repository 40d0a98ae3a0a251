-- The rows of the star patterns as the code's constant tables have them: three bytes a point, in the document's order, at orientations 0 and 1.
-- `part_of` a point of a row · `point_of` a point in bytes · `orient_row` a row at orientation 0 or 1 · `table_of` a degree's table, `number_in`, `point_in` what
-- is read in it, `TableRule` its rule. Their laws: RowLaws.
-- Assumes nothing.
use Rattle.std.specs.Prelude.{List, [], ◌∷◌, ◌≡◌, ℕ, zero, suc, ◌+◌, ◌*◌, ◌%◌, ◌/◌, ◌<◌, ℤ, pos, nat_abs, T, get_or, Option, Some, None}
use Rattle.std.specs.Int.Signed.{non_neg}
use Rattle.std.specs.Int.{w8}
use Rattle.std.proofs.Common.{Fits, to_z, of_z}
use Rattle.lattice.specs.Patterns.{Row, rows_of, pattern_of, orient, on_spot}
use Rattle.lattice.specs.Points.{pt}
use Rattle.lattice.specs.declared.points.Point.{Point}
use Rattle.lattice.specs.declared.patterns.P.{P}

-- the vertex itself: it stands where there is no second opposite
abbrev pub own : Point
own = pt (pos 0) (pos 0) 0

abbrev pub held : Option Point → Point
held (Some p) = p
held None = own

-- a row's points: 0 the adjacent one, 1 and 2 the opposites
abbrev pub part_of : ℕ → Row → Point
part_of zero r = r.adjacent
part_of (suc zero) r = r.first
part_of (suc (suc c)) r = held r.second

abbrev pub point_of : P → Point
point_of p = pt p.0 p.1 p.2

-- a row at orientation h
abbrev pub orient_row : ℕ → Row → Row
orient_row h r = record { adjacent = orient h r.adjacent; first = orient h r.first; second = on_spot (orient h) r.second }

-- degree d's table, as it has to be: each place as the document has it, and below it the same under the 30 degree rule
abbrev numbers_of : Row → List ℤ
numbers_of r =
    let p = r.adjacent in
    let q = r.first in
    let s = held r.second in
    p.a ∷ p.b ∷ pos p.m.0 ∷ q.a ∷ q.b ∷ pos q.m.0 ∷ s.a ∷ s.b ∷ pos s.m.0 ∷ []

abbrev both_rows : List Row → List (List ℤ)
both_rows [] = []
both_rows (r ∷ l) = numbers_of (orient_row 0 r) ∷ numbers_of (orient_row 1 r) ∷ both_rows l

abbrev pub table_of : ℕ → List (List ℤ)
table_of d = both_rows (rows_of d)

-- number n of row i of a table, as the code reads it, and point c of the row
abbrev pub number_in : List (List ℤ) → ℕ → ℕ → ℤ
number_in rows i n = to_z w8 (of_z w8 (get_or (get_or rows i []) n (pos 0)))

abbrev pub point_in : List (List ℤ) → ℕ → ℕ → Point
point_in rows i c = pt (number_in rows i (3 * c)) (number_in rows i (3 * c + 1)) (nat_abs (number_in rows i (3 * c + 2)))

-- the rule of degree d's table: row i is place i / 2, under the 30 degree rule where i is odd; depths are not negative
pub record TableRule (d : ℕ) : Type 0 where
  pub part : (i c : ℕ) → i < 2 * d → c < 3 → point_in (table_of d) i c ≡ part_of c (orient_row (i % 2) (pattern_of d (i / 2)))
  pub depth : (i c : ℕ) → i < 2 * d → c < 3 → T (non_neg (number_in (table_of d) i (3 * c + 2))) × Fits w8 (nat_abs (number_in (table_of d) i (3 * c + 2)))
