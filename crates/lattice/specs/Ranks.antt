-- The points of a grown mesh by their numbers: when a point can first be subdivided, how it is turned at birth, and whose subdivisions make it.
-- These are ours, for the floors above; document 01 has none of them. A grown mesh is told by them (docs, the model).
-- `rank_of` the least level at which the point can be subdivided · `birth_of` its orientation when it enters, of degree 3 ·
-- `move_of` one step in one of the twelve directions ·
-- `parent_of` the three neighbours it has at birth · `creator_of` the one of them whose subdivision enters it.
-- Assumes nothing.
use Rattle.std.specs.Prelude.{ℕ, ◌+◌, ◌*◌, ◌-◌, eqb, ltb, cond, pos}
use Rattle.laws.specs.Residue.{mod_z}
use Rattle.lattice.specs.Stars.{step_of}
use Rattle.lattice.specs.Patterns.{orient}
use Rattle.lattice.specs.Points.{class_of, pt}
use Rattle.lattice.specs.declared.points.Point.{Point}
use Rattle.lattice.specs.declared.records.Level.{Level}

-- depth 0: 0 where a - b leaves 1, else 1; depth m: 2m where it leaves 0, else 2m + 1
unfoldable pub rank_of : Point → ℕ
rank_of p =
    cond (eqb p.m.0 0)
    (cond (eqb (class_of p) 1) 0 1)
    (cond (eqb (class_of p) 0) (2 * p.m.0) (2 * p.m.0 + 1))

-- depth 0: 2 where a - b leaves 2, else 0; depth above 0, where a - b leaves 0: 3 where a leaves 1, else 1; where it leaves 1: 2; where it leaves 2: 0
unfoldable pub birth_of : Point → ℕ
birth_of p =
    cond (eqb p.m.0 0)
    (cond (eqb (class_of p) 2) 2 0)
    (cond (eqb (class_of p) 0)
    (cond (eqb (mod_z p.a 3) 1) 3 1)
    (cond (eqb (class_of p) 1) 2 0))

abbrev pub level : ℕ → Level
level i = record { 0 = i }

-- from p, the step of level i in direction e: 30e degrees round, by the power i of one over the square root of 3 (e and i both even or both odd)
abbrev pub move_of : Point → ℕ → ℕ → Point
move_of p e i = step_of p (level i) (orient e (pt (pos 1) (pos 0) 0))

-- the neighbours of p when it is of degree 3: every fourth direction, one level below its rank
unfoldable pub parent_of : Point → ℕ → Point
unfolding rank_of birth_of
parent_of p t = move_of p (birth_of p + 4 * t) (rank_of p - 1)

-- the parent that could be subdivided a level earlier still: its subdivision enters p, which is so for depth above 0
unfoldable pub creator_of : Point → Point
unfolding parent_of rank_of
creator_of p =
    cond (ltb (rank_of (parent_of p 0)) (rank_of p - 1)) (parent_of p 0)
    (cond (ltb (rank_of (parent_of p 1)) (rank_of p - 1)) (parent_of p 1)
    (parent_of p 2))
