-- `table::stands` meets its promise: where the slot guessed holds the point it is there. Assumes nothing.
use Rattle.std.proofs.Common.{◌∙◌, arith, ltb, ltb-true}
use Rattle.laws.specs.Machine.{asked₂}
use Rattle.laws.specs.Each.{both_left, both_right}
use Rattle.lattice.specs.Points.{pt}
use Rattle.table.specs.Reading.{reads_as}
use Rattle.table.specs.GroupLaws.{read_held}
use Rattle.table.proofs.ordered.stands.Goals as goal

pub returns-then-reads_as-m : goal.returns-then-reads_as-m
returns-then-reads_as-m c =
    let a = c.args in
    let g = c.guess_in_group-guess.result in
    let read = asked₂ (λ x y. reads_as a.t.now (pt x y a.m) g) c.ranges.a c.ranges.b c.reads_as.ensures in
    let deep = ltb-true a.m 255 (both_right c.reads_as.result (ltb a.m 255) c.if-reads_as-m.true) in
    read_held a.t.now (pt a.a a.b a.m) a.n c.requires.table c.requires.t_value deep g
    (omega (arith, c.if-n-eq-MOST.true, c.if-h-lt-MOST.true, c.guess_in_group-guess.ensures.lower_bound))
    (read ∙ both_left c.reads_as.result (ltb a.m 255) c.if-reads_as-m.true)
