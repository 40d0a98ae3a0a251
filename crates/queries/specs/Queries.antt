-- Document 01's queries: the neighbours of a vertex, and the faces round it. What the promises cite: `neighbours_of`, `faces_of`.
-- `chosen_at` the opposite of a corner, with `there`, `is_point` · `neighbours_at`, `faces_at` what a vertex that has a star is answered · `query_of` what
-- the two share.
-- Assumes nothing.
use Rattle.std.specs.Prelude.{Bool, true, false, cond, ◌&&◌, List, ℕ, eqb, ltb, ℤ, Option, Some, None}
use Rattle.laws.specs.Rules.{upto}
use Rattle.laws.specs.Choices.{unless}
use Rattle.lattice.specs.Stars.{adjacent_at, first_at, second_at, nowhere, answer, refused, given}
use Rattle.lattice.specs.Points.{normal_of}
use Rattle.table.specs.Entries.{look_up, holds}
use Rattle.table.specs.Order.{in_order_of}
use Rattle.lattice.specs.declared.points.Point.{Point}
use Rattle.lattice.specs.declared.records.Record.{Record}
use Rattle.lattice.specs.declared.stars.Answer.{Answer}

-- each adjacent point of the star is in the table
unfoldable pub adjacents_there : List ℕ → Record → Bool
adjacents_there t v = upto v.d (λ j. holds t (adjacent_at v j))

-- a point, if there is one and it is in the table
abbrev pub there : List ℕ → Option Point → Option Point
there t None = None
there t (Some p) = cond (holds t p) (Some p) None

-- "The opposite is the first one if that is in the table, else the second."
unfoldable pub chosen_at : List ℕ → Record → ℕ → Option Point
chosen_at t v j = cond (holds t (first_at v j)) (Some (first_at v j)) (there t (second_at v j))

-- there is a point
abbrev pub is_point : Option Point → Bool
is_point (Some p) = true
is_point None = false

-- each corner has an opposite in the table
unfoldable pub corners_there : List ℕ → Record → Bool
corners_there t v = upto v.d (λ j. is_point (chosen_at t v j))

-- the point, or [0, 0, 0] where there is none
abbrev pub point_or0 : Option Point → Point
point_or0 (Some p) = p
point_or0 None = nowhere

-- "the chosen opposite of each corner", unused ones [0, 0, 0]
abbrev pub face_cell : List ℕ → Record → ℕ → Point
face_cell t v j = cond (ltb j v.d) (point_or0 (chosen_at t v j)) nowhere

abbrev pub faces_given : List ℕ → Record → Answer
faces_given t v = answer 0 v.d (face_cell t v 0) (face_cell t v 1) (face_cell t v 2) (face_cell t v 3) (face_cell t v 4) (face_cell t v 5)

-- "Torn, neighbours: an adjacent is absent."
abbrev pub neighbours_at : List ℕ → Record → Answer
neighbours_at t v = unless (adjacents_there t v) (refused 7) (given v)

-- "Torn, faces: that, or a corner with no opposite in the table."
abbrev pub faces_at : List ℕ → Record → Answer
faces_at t v = unless (adjacents_there t v && corners_there t v) (refused 7) (faces_given t v)

-- "Queries 1, 3, 14, 7."; "Every point in a request is normalised before it is looked up"
abbrev pub query_looked : (Record → Answer) → Option Record → Answer
query_looked f None = refused 3
query_looked f (Some v) = cond (eqb v.d 0) (refused 14) (f v)

abbrev pub query_of : (Record → Answer) → List ℕ → ℤ → ℤ → ℕ → Answer
query_of f t a b m = unless (in_order_of t) (refused 1) (query_looked f (look_up t (normal_of a b m)))

unfoldable pub neighbours_of : List ℕ → ℤ → ℤ → ℕ → Answer
neighbours_of t a b m = query_of (neighbours_at t) t a b m

unfoldable pub faces_of : List ℕ → ℤ → ℤ → ℕ → Answer
faces_of t a b m = query_of (faces_at t) t a b m
