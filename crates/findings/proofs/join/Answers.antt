-- `findings::join` meets its promise: 1, then 15, then what is written. Assumes nothing.
use Rattle.std.proofs.Common.{sym, ◌∙◌, subst}
use Rattle.table.specs.Slots.{Table}
use Rattle.table.specs.MapLaws.{test-order}
use Rattle.findings.specs.JudgeLaws.{judged-sound, judged-faulty}
use Rattle.findings.specs.JoinLaws.{join-disorder, join-faulty, join-sound}
use Rattle.findings.proofs.join.Goals as goal

pub returns-then-not-in_order : goal.returns-then-not-in_order
returns-then-not-in_order c =
    join-disorder c.args.table.now c.args.list.now c.args.out.now (sym c.in_order.ensures ∙ c.if-not-in_order.true)

pub judge-requires : goal.judge-requires
judge-requires c =
    subst (Table c.args.table.now) (sym c.slots_of-n.ensures) (test-order c.args.table.now (sym c.in_order.ensures ∙ c.if-not-in_order.false)).fits

pub write_joined-requires-clause-in_order : goal.write_joined-requires-clause-in_order
write_joined-requires-clause-in_order c =
    let t = c.args.table.now in
    let l = c.args.list.now in (
      test-order t (sym c.in_order.ensures ∙ c.if-not-in_order.false),
      (c.slots_of-n.ensures, (judged-sound t l c.in-Ok.parts (sym c.in-Ok.is ∙ c.judge.ensures)).0),
    )

pub write_joined-requires-clause-parts_value : goal.write_joined-requires-clause-parts_value
write_joined-requires-clause-parts_value c = (judged-sound c.args.table.now c.args.list.now c.in-Ok.parts (sym c.in-Ok.is ∙ c.judge.ensures)).1

pub returns-in-Err : goal.returns-in-Err
returns-in-Err c =
    let t = c.args.table.now in
    let l = c.args.list.now in
    let h = judged-faulty t l c.in-Err.line (sym c.in-Err.is ∙ c.judge.ensures) in
    join-faulty t l c.args.out.now (sym c.in_order.ensures ∙ c.if-not-in_order.false) c.in-Err.line h

pub returns-in-Ok : goal.returns-in-Ok
returns-in-Ok c =
    let t = c.args.table.now in
    let l = c.args.list.now in
    let told = judged-sound t l c.in-Ok.parts (sym c.in-Ok.is ∙ c.judge.ensures) in
    c.write_joined.ensures ∙ join-sound t l c.args.out.now (sym c.in_order.ensures ∙ c.if-not-in_order.false) told.0
