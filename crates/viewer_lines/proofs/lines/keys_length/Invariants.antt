-- The loop of `viewer_lines::lines::keys_length`: the lines of the keys so far are counted. Assumes nothing.
use Rattle.std.proofs.Common.{◌≡◌, length}
use Rattle.sorting.specs.Sorting.{keys_in}
use Rattle.viewer_lines.specs.ViewerLines.{texts}
use Rattle.viewer_lines.specs.Lines.{key_line}
use Rattle.viewer_lines.proofs.lines.keys_length.Given as goal

abbrev pub invariant-loop-i : goal.invariant-loop-i
invariant-loop-i l = l.total ≡ length (texts (key_line l.s) (keys_in l.out l.i))
