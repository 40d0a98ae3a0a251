-- The loop of `viewer_lines::lengths::faces_length`: the slots so far are added up. Assumes nothing.
use Rattle.std.proofs.Common.{◌≡◌, ◌*◌, ◌≤◌, length}
use Rattle.mesh_faces.specs.Once.{fresh_below}
use Rattle.viewer_lines.specs.ViewerLines.{texts}
use Rattle.viewer_lines.specs.Lines.{face_line, star_most}
use Rattle.viewer_lines.proofs.lengths.faces_length.Given as goal

abbrev pub invariant-loop-k : goal.invariant-loop-k
invariant-loop-k l = (l.total ≡ length (texts (face_line l.s l.t) (fresh_below l.t l.k))) × (l.total ≤ star_most * l.k)
