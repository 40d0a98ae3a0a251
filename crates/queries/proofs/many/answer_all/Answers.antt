-- `queries::answer_all` meets its promise: by whether the table is in order, and whether there is room. Assumes nothing.
use Rattle.std.proofs.Common.{sym, ◌∙◌, subst, arith}
use Rattle.table.specs.Slots.{Table}
use Rattle.table.specs.MapLaws.{test-order, order-table}
use Rattle.queries.specs.Queries.{query_of}
use Rattle.queries.specs.Asked.{answer_at}
use Rattle.queries.specs.ManyLaws.{all-1, all-13, all-0, after-parts}
use Rattle.queries.proofs.many.answer_all.Goals as goal

pub returns-then-not-in_order : goal.returns-then-not-in_order
returns-then-not-in_order c =
    let a = c.args in
    let o = sym c.in_order.ensures ∙ c.if-not-in_order.true in
    let p = after-parts (all-1 (query_of (answer_at a.q a.t.now) a.t.now) a.t.now a.points.now a.answers.now o) in
    record { value = p.0; answers_after = p.1 }

pub returns-then-answers-count : goal.returns-then-answers-count
returns-then-answers-count c =
    let a = c.args in
    let o = sym c.in_order.ensures ∙ c.if-not-in_order.false in
    let p = after-parts (all-13 (query_of (answer_at a.q a.t.now) a.t.now) a.t.now a.points.now a.answers.now o (omega (arith, c.if-answers-count.true))) in
    record { value = p.0; answers_after = p.1 }

pub answer_each-requires : goal.answer_each-requires
answer_each-requires c =
    let o = sym c.in_order.ensures ∙ c.if-not-in_order.false in
    record {
      count_in_bounds = omega arith;
      count_in_bounds_2 = omega (arith, c.if-answers-count.false);
      table = subst (Table _) (sym c.slots_of-n.ensures) (order-table _ (test-order _ o));
      t_value = o;
    }

pub returns : goal.returns
returns c =
    let a = c.args in
    let o = sym c.in_order.ensures ∙ c.if-not-in_order.false in
    let p = after-parts (all-0 (query_of (answer_at a.q a.t.now) a.t.now) a.t.now a.points.now a.answers.now o (omega (arith, c.if-answers-count.false))) in
    record { value = p.0; answers_after = c.answer_each.ensures ∙ p.1 }
