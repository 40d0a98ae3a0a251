-- `table::slot_by_guess` meets its promise: a slot that holds the point is where its search ends. Assumes nothing.
use Rattle.std.proofs.Common.{ap, sym, ◌∙◌, SFits, ltb, ltb-true}
use Rattle.std.specs.Int.{w32}
use borrow.Author.Rules.{rules}
use Rattle.laws.specs.Each.{both_left, both_right}
use Rattle.laws.specs.Machine.{asked₂}
use Rattle.lattice.specs.Points.{pt, normal_of}
use Rattle.lattice.specs.declared.points.Point.{Point}
use Rattle.table.specs.Search.{find_of}
use Rattle.table.specs.Entries.{slot_found}
use Rattle.table.specs.Reading.{reads_as}
use Rattle.table.specs.GroupLaws.{read_found}
use Rattle.table.proofs.ordered.slot_by_guess.Goals as goal

pub returns-then-reads_as-p : goal.returns-then-reads_as-p
returns-then-reads_as-p c =
    let a = c.args in
    let q = c.normalise-p.result in
    let fa : SFits w32 q.a = search rules in
    let fb : SFits w32 q.b = search rules in
    let read = asked₂ (λ x y. reads_as a.t.now (pt x y q.m.0) a.guess) fa fb c.reads_as.ensures in
    let asked = sym (asked₂ (λ x y. normal_of x y a.m) c.ranges.a c.ranges.b c.normalise-p.ensures) in
    read_found a.t.now q a.n c.requires.table c.requires.t_value (ltb-true q.m.0 255 (both_right c.reads_as.result (ltb q.m.0 255) c.if-reads_as-p.true))
    a.guess c.if-guess-n.true (read ∙ both_left c.reads_as.result (ltb q.m.0 255) c.if-reads_as-p.true)
    ∙ ap (λ (x : Point). slot_found a.n (find_of a.t.now x)) asked
