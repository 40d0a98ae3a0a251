-- M3's test: what one record has to pass for the mesh to be grown. It asks at most 12 other points, so a table is judged in one pass.
-- `there`, `over` what looking a point up tells · `local_test` the test, as code computes it ·
-- `Local` what it says, in the words of the model (specs/LocalTests has that it does).
-- Assumes nothing.
use Rattle.std.specs.Prelude.{◌≡◌, ◌≢◌, Bool, true, false, cond, ◌&&◌, ◌||◌, not, ℕ, ◌*◌, ◌-◌, ◌%◌, ◌≤◌, ◌<◌, T, eqb, ltb, leb, Option, Some, None}
use Rattle.laws.specs.Rules.{upto}
use Rattle.lattice.specs.Stars.{adjacent_at}
use Rattle.lattice.specs.Points.{class_of}
use Rattle.lattice.specs.Ranks.{rank_of, birth_of, move_of, parent_of, creator_of}
use Rattle.lattice.specs.declared.points.Point.{Point}
use Rattle.lattice.specs.declared.records.Record.{Record}
use Rattle.growth.specs.Sheets.{Sheet, vertex, hexagon_round}
use Rattle.growth.specs.Model.{by_splits}

-- ---- what looking a point up tells
abbrev pub is_there : Option Record → Bool
is_there None = false
is_there (Some u) = true

abbrev pub is_over : ℕ → Option Record → Bool
is_over b None = false
is_over b (Some u) = eqb u.d 6 && ltb b u.n.0

-- p is there
unfoldable pub there : Sheet → Point → Bool
there R p = is_there (R p)

-- "q was subdivided at level b", read off the table: q has degree 6 and a level above b
unfoldable pub over : Sheet → Point → ℕ → Bool
over R q b = is_over b (R q)

-- ---- the test
-- depth 0, a-b divisible by 3: a centre, which is no boundary vertex, and its six corners are there
abbrev pub centre_test : Sheet → Record → Bool
centre_test R r = not (eqb r.d 0) && upto 6 (λ j. there R (move_of r.at (2 * j) 0))

-- other depth 0: a corner, at least one hexagon round it is there; degree 0 exactly where not all three are
abbrev pub corner_test : Sheet → Record → Bool
corner_test R r =
    (there R (hexagon_round r.at 0) || (there R (hexagon_round r.at 1) || there R (hexagon_round r.at 2)))
    && cond (upto 3 (λ t. there R (hexagon_round r.at t))) (not (eqb r.d 0)) (eqb r.d 0)

-- depth > 0: degree is not 0, all three parents are there, its creator has degree 6 and a level of at least rank - 1
abbrev pub deep_test : Sheet → Record → Bool
deep_test R r = not (eqb r.d 0) && (upto 3 (λ t. there R (parent_of r.at t)) && over R (creator_of r.at) (rank_of r.at - 2))

-- the record that its parents say, with the level n that it has
abbrev pub said_by : Sheet → Point → ℕ → Record
said_by R p n =
    by_splits p (over R (parent_of p 0) (rank_of p - 1)) (over R (parent_of p 1) (rank_of p - 1)) (over R (parent_of p 2) (rank_of p - 1)) (birth_of p) (rank_of p - 1) n

unfoldable pub expected : Sheet → Record → Record
unfolding by_splits over
expected R r = cond (eqb (rank_of r.at) 0) (vertex r.at 6 (r.n.0 % 2) r.n.0) (said_by R r.at r.n.0)

-- degree not 0: d, k, n are what its parents say
abbrev pub star_test : Sheet → Record → Bool
star_test R r = eqb r.d (expected R r).d && (eqb r.k (expected R r).k && eqb r.n.0 (expected R r).n.0)

-- degree 6: level at least the rank, and all six adjacents are there
abbrev pub six_test : Sheet → Record → Bool
six_test R r = leb (rank_of r.at) r.n.0 && upto 6 (λ j. there R (adjacent_at r j))

unfoldable pub local_test : Sheet → Record → Bool
unfolding there over expected
local_test R r =
    cond (eqb r.at.m.0 0) (cond (eqb (class_of r.at) 0) (centre_test R r) (corner_test R r)) (deep_test R r)
    && ((eqb r.d 0 || star_test R r) && (not (eqb r.d 6) || six_test R r))

-- ---- what it says
abbrev pub Here : Sheet → Point → Type 0
Here R p = T (there R p)

pub record Local (R : Sheet) (r : Record) : Type 0 where
  pub centre : r.at.m.0 ≡ 0 → class_of r.at ≡ 0 → (r.d ≢ 0) × ((j : ℕ) → j < 6 → Here R (move_of r.at (2 * j) 0))
  pub corner : r.at.m.0 ≡ 0 → class_of r.at ≢ 0
      → ((t : ℕ) × (t < 3) × Here R (hexagon_round r.at t)) × (r.d ≢ 0 → (t : ℕ) → t < 3 → Here R (hexagon_round r.at t))
      × (((t : ℕ) → t < 3 → Here R (hexagon_round r.at t)) → r.d ≢ 0)
  pub deep : 0 < r.at.m.0 → (r.d ≢ 0) × ((t : ℕ) → t < 3 → Here R (parent_of r.at t)) × T (over R (creator_of r.at) (rank_of r.at - 2))
  pub star : r.d ≢ 0 → r ≡ expected R r
  pub six : r.d ≡ 6 → (rank_of r.at ≤ r.n.0) × ((j : ℕ) → j < 6 → Here R (adjacent_at r j))
