-- `outlines::passes::undo_all` meets its promise. Assumes nothing.
use Rattle.std.proofs.Common.{◌≡◌, ◌∙◌, ap, ◌-◌, arith}
use Rattle.text.specs.LineOrder.{point_of}
use Rattle.outlines.specs.PassLaws.{point_in, steps-last, steps-none, steps-undone, steps-table}
use Rattle.outlines.proofs.passes.undo_all.Goals as goal

pub loop-left-init : goal.loop-left-init
loop-left-init c = record { table = c.requires.table.0; some = c.requires.by_index; each = λ u w. w }

pub key-requires : goal.key-requires
key-requires c = omega (arith, c.requires.table.1)

pub undo_last-requires : goal.undo_last-requires
undo_last-requires c =
    let l = c.loop-left in
    let w = l.invariant.some in
    let m = steps-last c.args.keys.now w.0 l.left l.t c.loop-left-test.true w.1 in
    (l.invariant.table, (m.0, rw (c.ordered.ensures, c.key.ensures) m.2))

pub loop-left-preserved : goal.loop-left-preserved
loop-left-preserved c =
    let l = c.loop-left in
    let keys = c.args.keys.now in
    let t' = c.undo_last.new.t in
    let w = l.invariant.some in
    let more = c.loop-left-test.true in
    let point : c.ordered.result ≡ point_in keys (l.left - 1) = c.ordered.ensures ∙ ap point_of c.key.ensures in
    record {
      table = steps-table keys w.0 l.left l.t t' c.ordered.result c.args.n point more c.undo_last.ensures w.1 l.invariant.table;
      some = (w.0, steps-undone keys w.0 l.left l.t t' c.ordered.result point more c.undo_last.ensures w.1);
      each = λ x h. steps-undone keys x l.left l.t t' c.ordered.result point more c.undo_last.ensures (l.invariant.each x h);
    }

pub returns : goal.returns
returns c = λ u w. steps-none c.args.keys.now u c.loop-left.left c.loop-left.t (omega arith) (c.loop-left.invariant.each u w)
