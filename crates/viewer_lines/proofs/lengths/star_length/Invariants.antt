-- The loop of `viewer_lines::lengths::star_length`: the corners so far are added up. Assumes nothing.
use Rattle.std.proofs.Common.{◌≡◌, ◌*◌, ◌≤◌, length}
use Rattle.firsts.specs.Faces.{gather}
use Rattle.mesh_faces.specs.Once.{fresh_at}
use Rattle.viewer_lines.specs.ViewerLines.{texts}
use Rattle.viewer_lines.specs.Lines.{face_line, face_most}
use Rattle.viewer_lines.proofs.lengths.star_length.Given as goal

abbrev pub invariant-loop-j : goal.invariant-loop-j
invariant-loop-j l = (l.total ≡ length (texts (face_line l.s l.t) (gather l.j (fresh_at l.t l.k l.v)))) × (l.total ≤ face_most * l.j)
