-- Document 01: "A mesh is *grown* if its records result from a base and a sequence of subdivisions accepted in a table of room enough."
-- `Reached` a table that an accepted base and accepted subdivisions make · `Grown` a table with the records of such a one, whatever its own room.
-- Assumes nothing.
use Rattle.std.specs.Prelude.{◌≡◌, List, ℕ, ℤ}
use Rattle.base.specs.Base.{base_of}
use Rattle.table.specs.Entries.{look_up}
use Rattle.table.specs.Order.{InOrder}
use Rattle.lattice.specs.declared.points.Point.{Point}
use Rattle.mesh.specs.Subdivide.{subdivide_of}

-- "a base and a sequence of subdivisions accepted"
pub data Reached : List ℕ → Type 0 where
  laid : (t : List ℕ) (cs : List ℤ) → (base_of t cs).number ≡ 0 → Reached (base_of t cs).bytes
  divided : (t : List ℕ) → Reached t → (a b : ℤ) (m : ℕ) → (subdivide_of t a b m).number ≡ 0 → Reached (subdivide_of t a b m).bytes

-- "its records result from" that: the table is in order, and the two hold the same record at each point
pub record Grown (t : List ℕ) : Type 0 where
  pub order : InOrder t
  pub table : List ℕ
  pub reached : Reached table
  pub same : (p : Point) → look_up t p ≡ look_up table p
