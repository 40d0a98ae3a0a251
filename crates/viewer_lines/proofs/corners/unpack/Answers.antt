-- `viewer_lines::corners::unpack` meets its promise. Assumes nothing.
use Rattle.std.proofs.Common.{refl, arith}
use Rattle.viewer_lines.specs.Packed.{unpacked}
use Rattle.viewer_lines.proofs.corners.unpack.Goals as goal

pub returns : goal.returns
unfolding unpacked
returns c = let f = c.ranges.v in (refl, record { a = omega (arith, f); b = omega arith; c = omega arith; d = omega arith })
