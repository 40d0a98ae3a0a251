-- Document 01, "The twelve directions": the star of a record, and what the star call answers.
-- What the promises cite: `adjacent_at`, `first_at`, `second_at` (place j of a record's star), `star_of` (the call).
-- Assumes nothing.
use Rattle.std.specs.Prelude.{ℕ, ◌+◌, ◌/◌, eqb, ltb, cond, [], ◌∷◌, pos, Option}
use Rattle.lattice.specs.Patterns.{on_spot, adjacent_of, first_opposite_of, second_opposite_of}
use Rattle.lattice.specs.Records.{valid_of}
use Rattle.lattice.specs.Points.{pt, sum_of}
use Rattle.lattice.specs.declared.points.Point.{Point}
use Rattle.lattice.specs.declared.records.Record.{Record}
use Rattle.lattice.specs.declared.records.Level.{Level}
use Rattle.lattice.specs.declared.stars.Answer.{Answer}

-- "each pattern point, with its m raised by half of n rounded down": n is the star's level
abbrev pub scale_of : Level → Point → Point
scale_of n p = pt p.a p.b (p.m.0 + n.0 / 2)

-- "The star of v adds each pattern point, .. to v, and normalises."
abbrev pub step_of : Point → Level → Point → Point
step_of v n p = sum_of v (scale_of n p)

abbrev pub adjacent_at : Record → ℕ → Point
adjacent_at r j = step_of r.at r.n (adjacent_of r.d r.k j)

abbrev pub first_at : Record → ℕ → Point
first_at r j = step_of r.at r.n (first_opposite_of r.d r.k j)

abbrev pub second_at : Record → ℕ → Option Point
second_at r j = on_spot (step_of r.at r.n) (second_opposite_of r.d r.k j)

-- ---- the star call
abbrev pub nowhere : Point
nowhere = pt (pos 0) (pos 0) 0

-- "a count, which is d, and six points"
abbrev pub answer : ℕ → ℕ → Point → Point → Point → Point → Point → Point → Answer
answer n d p q r s t u = record { number = n; count = d; points = p ∷ q ∷ r ∷ s ∷ t ∷ u ∷ [] }

-- "Refused, count 0 and all zeros."
abbrev pub refused : ℕ → Answer
refused n = answer n 0 nowhere nowhere nowhere nowhere nowhere nowhere

-- "unused ones [0, 0, 0]"
abbrev pub cell_of : Record → ℕ → Point
cell_of r j = cond (ltb j r.d) (adjacent_at r j) nowhere

-- "adjacent points in star order"
abbrev pub given : Record → Answer
given r = answer 0 r.d (cell_of r 0) (cell_of r 1) (cell_of r 2) (cell_of r 3) (cell_of r 4) (cell_of r 5)

-- "a record that isn't valid gets 9, and a valid one of degree 0 gets 14"
unfoldable pub star_of : Record → Answer
star_of r = cond (valid_of r) (cond (eqb r.d 0) (refused 14) (given r)) (refused 9)
