-- Sequences of accepted subdivisions, in a table's own room, and those that reach a goal: as `bring` has them.
-- `Division` which point, at which level · `Run` a sequence, the last first · `run_on` one after another · `run-free` its room ·
-- `Alike` the same records, whatever the room · `Six` a vertex of degree 6 stands at a point · `Reaching` the sequences that reach the goal · `risen`
-- the vertex brought.
-- Assumes nothing.
pub use Rattle.bring.specs.Runs.{Division, divide_at, Run, here, next, run_on, run-free}
pub use Rattle.bring.specs.BringLaws.{Alike, Six, Reaching}
use Rattle.std.specs.Prelude.{ℕ, suc, ◌%◌}
use Rattle.lattice.specs.declared.points.Point.{Point}
use Rattle.lattice.specs.declared.records.Record.{Record}
use Rattle.growth.specs.Sheets.{vertex}

-- a vertex of level n, brought: degree 6 at its own level and one more, its orientation the level's parity
abbrev pub risen : Point → ℕ → Record
risen p n = vertex p 6 (suc n % 2) (suc n)
