-- The loop of `viewer_lines::lines::write_faces`: `Left`, the keys left and the lines written. Assumes nothing.
use Rattle.std.proofs.Common.{List, ℕ, ◌-◌, length, drop}
use Rattle.viewer_lines.specs.ViewerLines.{texts}
use Rattle.viewer_lines.specs.Backward.{Left}
use Rattle.viewer_lines.specs.Lines.{key_line, Queue}
use Rattle.viewer_lines.specs.declared.styles.Style.{Style}
use Rattle.viewer_lines.proofs.lines.write_faces.Given as goal

-- where the lines begin
abbrev pub from_of : List ℕ → Style → ℕ → ℕ
from_of ks s end = end - length (texts (key_line s) ks)

-- how much of them there is
abbrev pub Going : List ℕ → Style → ℕ → List ℕ → List ℕ → ℕ → ℕ → Type 0
Going ks s end rest out left at = Left (key_line s) (from_of ks s end) ks rest out left at

abbrev pub invariant-loop-i : goal.invariant-loop-i
invariant-loop-i l = (ks : List ℕ) → Queue l.s ks l.initial.out l.k l.end → Going ks l.s l.end (drop l.end l.initial.out) l.out l.i l.at
