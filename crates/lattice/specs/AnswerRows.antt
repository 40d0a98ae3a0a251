-- An answer as the C interface has it: whole numbers in a row. What the promises cite: `answer_numbers`.
-- Assumes nothing.
use Rattle.std.specs.Prelude.{List, [], ◌∷◌, ℤ, pos}
use Rattle.lattice.specs.declared.points.Point.{Point}
use Rattle.lattice.specs.declared.stars.Answer.{Answer}

-- a point: a, b, m
abbrev pub point_numbers : Point → List ℤ
point_numbers p = p.a ∷ p.b ∷ pos p.m.0 ∷ []

-- points one after the other
unfoldable pub points_numbers : List Point → List ℤ
points_numbers [] = []
points_numbers (p ∷ ps) = p.a ∷ p.b ∷ pos p.m.0 ∷ points_numbers ps

-- "a count, which is d, and six points"
unfoldable pub answer_numbers : Answer → List ℤ
answer_numbers r = pos r.count ∷ points_numbers r.points
