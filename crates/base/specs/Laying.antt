-- How the code lays the hexagons: what the promises of the functions below the call cite besides Base.
-- `Within` points near enough to be stepped from · `laid_by` what was laid, as the code answers it · `lay_corners` a hexagon's corners.
-- Assumes nothing.
use Rattle.std.specs.Prelude.{◌≡◌, Bool, cond, List, ℕ, zero, suc, ◌≤◌, nat_abs}
use Rattle.lattice.specs.declared.points.Point.{Point}
use Rattle.base.specs.Base.{corner_of, corner_record, Laid, Room, NoRoom, lay}

-- a point of depth 0, whose numbers are at most n
pub record Within (n : ℕ) (p : Point) : Type 0 where
  pub wide : nat_abs p.a ≤ n
  pub high : nat_abs p.b ≤ n
  pub depth : p.m.0 ≡ 0

-- what was laid, by the code's answer and the table after
abbrev pub laid_by : Bool → List ℕ → Laid
laid_by v t = cond v (Room t) NoRoom

-- the first j corners of the hexagon at p, laid as its centre was
unfoldable pub lay_corners : (Point → Bool) → Point → ℕ → Laid → Laid
lay_corners listed p zero l = l
lay_corners listed p (suc j) l = lay (lay_corners listed p j l) (corner_record listed (corner_of p j))
