-- The loop of `viewer_lines::lines::write_vertices`: `Left`, the keys left and the lines written. Assumes nothing.
use Rattle.std.proofs.Common.{List, ℕ, ◌-◌, length, drop}
use Rattle.viewer_lines.specs.ViewerLines.{texts}
use Rattle.numbering.specs.Ranks.{ordered}
use Rattle.viewer_lines.specs.Backward.{Left}
use Rattle.viewer_lines.specs.Lines.{vertex_line}
use Rattle.viewer_lines.specs.declared.styles.Style.{Style}
use Rattle.viewer_lines.proofs.lines.write_vertices.Given as goal

-- where the lines begin
abbrev pub from_of : List ℕ → Style → ℕ → ℕ
from_of t s end = end - length (texts (vertex_line s t) (ordered t))

-- how much of them there is
abbrev pub Going : List ℕ → Style → ℕ → List ℕ → List ℕ → ℕ → ℕ → Type 0
Going t s end rest out left at = Left (vertex_line s t) (from_of t s end) (ordered t) rest out left at

abbrev pub invariant-loop-i : goal.invariant-loop-i
invariant-loop-i l = Going l.t l.s l.end (drop l.end l.initial.out) l.out l.i l.at
