-- `salvage_lines::line::tidy` meets its promise. Assumes nothing.
use Rattle.text.specs.Line.{rec}
use Rattle.salvage_lines.specs.OldLines.{tidied}
use Rattle.salvage_lines.proofs.line.tidy.Goals as goal

pub returns : goal.returns
unfolding tidied
returns c = λ i. rec (c.normal.ensures i) c.args.r.d (c.orientation.ensures i) c.args.r.n.0
