-- Points and records as the C interface has them: whole numbers in a row. What the promises cite: `record_of`, and the lattice's `point_numbers`,
-- `answer_numbers`.
-- Assumes nothing.
use Rattle.std.specs.Prelude.{ℕ, ℤ}
use Rattle.lattice.specs.Points.{pt}
use Rattle.lattice.specs.declared.records.Record.{Record}
pub use Rattle.lattice.specs.AnswerRows.{point_numbers}
unfoldable pub use Rattle.lattice.specs.AnswerRows.{points_numbers, answer_numbers}

-- "Six fields: a, b, m, degree d, orientation k, level n."
abbrev pub record_of : ℤ → ℤ → ℕ → ℕ → ℕ → ℕ → Record
record_of a b m d k n = record { at = pt a b m; d = d; k = k; n = record { 0 = n } }
