-- Document 01's meshes, as this crate sees them. A `Sheet` is what looking points up in a table answers; the bytes are the floors' above.
-- `UntornAt` a subdivision is not torn · `Step` what a subdivision makes · `base_sheet` the sheet of a base, `CentreSet` which sets of centres are one ·
-- `GrownSheet` made by a base and subdivisions.
-- Assumes nothing.
use Rattle.std.specs.Prelude.{◌≡◌, ◌≢◌, Bool, cond, ◌&&◌, ◌||◌, false, List, [], ◌∷◌, ℕ, ◌+◌, ◌*◌, ◌<◌, T, eqb, leb, nat_abs, Option, Some, None}
use Rattle.laws.specs.Rules.{run}
use Rattle.lattice.specs.PointLaws.{alike}
use Rattle.lattice.specs.Points.{class_of}
use Rattle.lattice.specs.Ranks.{move_of}
use Rattle.lattice.specs.Stars.{adjacent_at}
use Rattle.lattice.specs.Subdivision.{centre_of, new_of, back_of, update_of, accepts_of}
use Rattle.lattice.specs.declared.points.Point.{Point}
use Rattle.lattice.specs.declared.records.Record.{Record}

abbrev pub Sheet : Type 0
Sheet = Point → Option Record

-- a record by its parts: where, degree, orientation, level
abbrev pub vertex : Point → ℕ → ℕ → ℕ → Record
vertex p d k n = record { at = p; d = d; k = k; n = record { 0 = n } }

-- ---- "Torn, subdivision: an adjacent is absent; or an internal adjacent has d 6, or a level other than n, or no rule above for its k' ..; or a new
-- point is already there."
-- the subdivision of v is not torn
pub record UntornAt (R : Sheet) (v : Record) : Type 0 where
  pub there : (j : ℕ) → j < 6 → (u : Record) × (R (adjacent_at v j) ≡ Some u) × T (accepts_of (back_of v.k j) v.n.0 u)
  pub free : (j : ℕ) → j < 6 → R (new_of v j).at ≡ None

-- ---- "Subdivision of v (d 6, orientation k, level n)": it takes R to R'
pub record Step (R : Sheet) (v : Record) (R' : Sheet) : Type 0 where
  pub centre : R' v.at ≡ Some (centre_of v)
  pub new : (j : ℕ) → j < 6 → R' (new_of v j).at ≡ Some (new_of v j)
  pub old : (j : ℕ) → j < 6 → (u : Record) → R (adjacent_at v j) ≡ Some u → R' (adjacent_at v j) ≡ Some (update_of (back_of v.k j) u)
  -- "All else is untouched."
  pub rest : (p : Point) → p ≢ v.at → ((j : ℕ) → j < 6 → p ≢ (new_of v j).at) → ((j : ℕ) → j < 6 → p ≢ adjacent_at v j) → R' p ≡ R p

-- ---- "Base". H says which centres are listed
-- the three hexagons round a corner, by their centres: in directions 60, 180, 300 where a-b leaves 1, in 0, 120, 240 where it leaves 2
abbrev pub hexagon_round : Point → ℕ → Point
hexagon_round p t = move_of p (cond (eqb (class_of p) 1) 2 0 + 4 * t) 0

-- "Each centre gives itself and its six unit neighbours."
abbrev pub given_by : (Point → Bool) → Point → Bool
given_by H p = cond (eqb (class_of p) 0) (H p) (H (hexagon_round p 0) || (H (hexagon_round p 1) || H (hexagon_round p 2)))

-- "A corner is internal when all three hexagons round it are listed": so is a centre
abbrev pub inside_base : (Point → Bool) → Point → Bool
inside_base H p = cond (eqb (class_of p) 0) (H p) (H (hexagon_round p 0) && (H (hexagon_round p 1) && H (hexagon_round p 2)))

-- "A centre has d 3, k 0. .. with a-b leaving 1 on division by 3 it has d 6, k 0; leaving 2, d 3, k 2. Other corners have degree 0. All m and n are 0."
abbrev pub base_vertex : (Point → Bool) → Point → Record
base_vertex H p = cond (inside_base H p) (cond (eqb (class_of p) 0) (vertex p 3 0 0) (cond (eqb (class_of p) 1) (vertex p 6 0 0) (vertex p 3 2 0))) (vertex p 0 0 0)

unfoldable pub base_sheet : (Point → Bool) → Sheet
base_sheet H p = cond (eqb p.m.0 0 && given_by H p) (Some (base_vertex H p)) None

-- "centres [a, b] with a, b in -250..250 and a-b divisible by 3"
abbrev pub centre_test : Point → Bool
centre_test p = eqb p.m.0 0 && (leb (nat_abs p.a) 250 && (leb (nat_abs p.b) 250 && eqb (class_of p) 0))

-- p is one of the list
abbrev pub in_list : List Point → Point → Bool
in_list [] p = false
in_list (c ∷ cs) p = run (alike c p) || in_list cs p

-- "A base is a list of centres", as a set, so that a centre may stand in it twice: a set of centres that is listed, none of them out of range, and at least one
pub record CentreSet (H : Point → Bool) : Type 0 where
  pub list : List Point
  pub lists : (p : Point) → H p ≡ in_list list p
  pub ranges : (p : Point) → T (H p) → T (centre_test p)
  pub some-centre : (p : Point) × T (H p)

-- ---- "A mesh is grown if its records result from a base and a sequence of subdivisions accepted in a table of room enough."
-- ("room enough" asks nothing of a sheet)
pub data GrownSheet : Sheet → Type 0 where
  start : (H : Point → Bool) (R : Sheet) → CentreSet H → ((p : Point) → R p ≡ base_sheet H p) → GrownSheet R
  grow : (R : Sheet) (v : Record) (R' : Sheet) → GrownSheet R → R v.at ≡ Some v → v.d ≡ 6 → v.n.0 < 12 → UntornAt R v → Step R v R' → GrownSheet R'
