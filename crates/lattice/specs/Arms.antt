-- The arms of a regular star, whose angles are all the same: document 01's rows of degree 6 are one row turned, and those of degree 3 are too.
-- `regular_of` the degrees 3 and 6 · `arm_by` a vertex and a step of its star, over one denominator, `arm_of`, `near_arm`, `far_arm` to which points ·
-- `next_arm` an arm, turned to the next place.
-- Assumes nothing.
use Rattle.std.specs.Prelude.{Bool, cond, ◌||◌, ℕ, eqb, neg_ℤ, ◌+ℤ◌}
use Rattle.lattice.specs.Patterns.{adjacent_of, first_opposite_of, second_opposite_of}
use Rattle.lattice.specs.Rows.{held}
use Rattle.lattice.specs.Stars.{scale_of}
use Rattle.lattice.specs.Terms.{terms_of}
use Rattle.lattice.specs.declared.points.Point.{Point}
use Rattle.lattice.specs.declared.points.Terms.{Terms}
use Rattle.lattice.specs.declared.records.Record.{Record}

abbrev pub regular_of : ℕ → Bool
regular_of d = eqb d 3 || eqb d 6

-- what `step_of` adds up: a vertex, and a pattern point
abbrev pub arm_by : Record → Point → Terms
arm_by v q = terms_of v.at (scale_of v.n q)

-- to the adjacent point at place j, and to the opposites of corner j: of a regular star's corners each has both
abbrev pub arm_of : Record → ℕ → Terms
arm_of v j = arm_by v (adjacent_of v.d v.k j)

abbrev pub near_arm : Record → ℕ → Terms
near_arm v j = arm_by v (first_opposite_of v.d v.k j)

abbrev pub far_arm : Record → ℕ → Terms
far_arm v j = arm_by v (held (second_opposite_of v.d v.k j))

-- turned by 60 degrees at degree 6, else by 120
abbrev pub next_arm : ℕ → Terms → Terms
next_arm d w =
    record {
      a = w.a;
      b = w.b;
      x = neg_ℤ (cond (eqb d 6) w.y (w.x +ℤ w.y));
      y = cond (eqb d 6) (w.x +ℤ w.y) w.x;
      m = w.m;
    }
