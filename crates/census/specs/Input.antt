-- The census program's reading. What is read no promise can say; how far, one can: `Within`.
-- Assumes nothing.
use Rattle.std.specs.Prelude.{ℕ, ◌≤◌, Result, IfOk}
use Rattle.std.specs.declared.io.Error.{Error}

-- the room has n bytes: no more were filled, if no read failed
abbrev pub Within : ℕ → Result ℕ Error → Type 0
Within n r = IfOk r (λ k. k ≤ n)
