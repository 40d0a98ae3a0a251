-- `viewer_lines::corners::pack` meets its promise. Assumes nothing.
use Rattle.std.proofs.Common.{rules}
use Rattle.viewer_lines.specs.Packed.{packed}
use Rattle.viewer_lines.proofs.corners.pack.Goals as goal

pub returns : goal.returns
unfolding packed
returns c = search rules
