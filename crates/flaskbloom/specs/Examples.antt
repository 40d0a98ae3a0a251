-- A point's numbers in a row, and a record by its fields, as the C interface has them: each number another, computed.
-- Assumes nothing.
use Rattle.std.specs.Prelude.{◌≡◌, refl, [], ◌∷◌, pos, negsuc}
use Rattle.lattice.specs.Points.{pt}
use Rattle.flaskbloom.specs.Numbers.{point_numbers, record_of}

point-row : point_numbers (pt (pos 5) (negsuc 6) 2) ≡ pos 5 ∷ negsuc 6 ∷ pos 2 ∷ []
point-row = refl

-- "Six fields: a, b, m, degree d, orientation k, level n."
record-fields : record_of (pos 5) (negsuc 6) 2 4 9 3 ≡ record { at = pt (pos 5) (negsuc 6) 2; d = 4; k = 9; n = record { 0 = 3 } }
record-fields = refl
