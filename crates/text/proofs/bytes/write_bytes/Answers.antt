-- `text::write_bytes` meets its promise: one byte more is stored. Assumes nothing.
use Rattle.std.proofs.Common.{arith}
use Rattle.text.specs.Copy.{copied_more}
use Rattle.text.proofs.bytes.write_bytes.Goals as goal

pub loop-i-preserved : goal.loop-i-preserved
loop-i-preserved c =
    let a = c.args in
    copied_more a.out.now a.at a.bytes.now c.loop-i.i c.loop-i.out c.loop-i.invariant (omega arith)
