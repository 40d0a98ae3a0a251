-- The slots that a list takes, and the points that `subdivide_all` is asked for: each by computing.
-- Assumes nothing.
use Rattle.std.specs.Prelude.{◌≡◌, refl, List, [], ◌∷◌, ℤ, pos, negsuc}
use Rattle.lattice.specs.Points.{same_point, pt, normal_of, turns}
use Rattle.base.specs.Vertices.{points_in, new_points, in_hexagon, in_first}
use Rattle.agreed.specs.Tables.{slots_for}
use Rattle.agreed.specs.Made.{asked_of}

-- Three has 16 records, and each subdivision enters six
three : List ℤ
three = pos 0 ∷ pos 0 ∷ pos 1 ∷ pos 1 ∷ pos 2 ∷ negsuc 0 ∷ []

slots : (slots_for three 0 ≡ 16) × (slots_for three 2 ≡ 28)
unfolding three points_in new_points in_hexagon in_first same_point normal_of turns
slots = (refl, refl)

-- [3, 0, 1], then [2, -1, 0]: the last first, normalised; what is past them is not among the first two
asked : asked_of (pos 3 ∷ pos 0 ∷ pos 1 ∷ pos 2 ∷ negsuc 0 ∷ pos 0 ∷ pos 5 ∷ pos 5 ∷ pos 0 ∷ []) 2 ≡ pt (pos 2) (negsuc 0) 0 ∷ pt (pos 1) (pos 0) 0 ∷ []
unfolding asked_of normal_of
asked = refl
