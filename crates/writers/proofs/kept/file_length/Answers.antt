-- One slot more.
use Rattle.std.proofs.Common.{arith}
use Rattle.writers.specs.Kept.{kept_at}
use Rattle.writers.specs.KeptLaws.{standing-start, standing-length}
use Rattle.writers.proofs.kept.file_length.Goals as goal

pub loop-i-init : goal.loop-i-init
loop-i-init c = record { counted = standing-start (kept_at c.args.table.now c.args.marks.now); most = omega arith }

pub loop-i-preserved : goal.loop-i-preserved
loop-i-preserved c = record {
  counted = omega (arith, standing-length (kept_at c.args.table.now c.args.marks.now) c.loop-i.i, c.length_at-total.ensures.0);
  most = omega (arith, c.length_at-total.ensures.1);
}
