-- `salvage_lines::line::orientation` meets its promise. Assumes nothing.
use Rattle.std.proofs.Common.{eq-eqb, ne_eqb}
use Rattle.salvage_lines.specs.OldLines.{orientation_of}
use Rattle.salvage_lines.proofs.line.orientation.Goals as goal

pub returns-then-d-eq3 : goal.returns-then-d-eq3
unfolding orientation_of
returns-then-d-eq3 c = simp (eq-eqb c.args.d 3 c.if-d-eq3.true)

pub returns-then-d-eq6 : goal.returns-then-d-eq6
unfolding orientation_of
returns-then-d-eq6 c = simp (ne_eqb c.args.d 3 c.if-d-eq3.false, eq-eqb c.args.d 6 c.if-d-eq6.true)

pub returns : goal.returns
unfolding orientation_of
returns c = simp (ne_eqb c.args.d 3 c.if-d-eq3.false, ne_eqb c.args.d 6 c.if-d-eq6.false)
