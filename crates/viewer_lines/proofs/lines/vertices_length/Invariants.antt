-- The loop of `viewer_lines::lines::vertices_length`: the lines of the slots so far are counted. Assumes nothing.
use Rattle.std.proofs.Common.{◌≡◌, ◌*◌, ◌≤◌, length}
use Rattle.table.specs.Slots.{slot_at}
use Rattle.writers.specs.Kept.{standing}
use Rattle.viewer_lines.specs.ViewerLines.{vertex_text, texts}
use Rattle.viewer_lines.specs.Lines.{vertex_most}
use Rattle.viewer_lines.proofs.lines.vertices_length.Given as goal

abbrev pub invariant-loop-i : goal.invariant-loop-i
invariant-loop-i l = (l.total ≡ length (texts (vertex_text l.s) (standing (slot_at l.t) l.i))) × (l.total ≤ vertex_most * l.i)
