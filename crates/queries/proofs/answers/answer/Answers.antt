-- `queries::answer` meets its promise: by the test of the table, and by the slot of the point. Assumes nothing.
use Rattle.std.proofs.Common.{ap, refl, sym, subst, ◌∙◌, to_z-of_z}
use Rattle.lattice.specs.Refusals.{number_told}
use Rattle.lattice.specs.AnswerRowLaws.{answer-parts}
use Rattle.lattice.specs.Points.{normal_of}
use Rattle.table.specs.Entries.{slot_found}
use Rattle.table.specs.MapLaws.{test-order, order-table}
use Rattle.table.specs.Search.{find_of}
use Rattle.table.specs.Slots.{Table}
use Rattle.queries.specs.Asked.{answer_at}
use Rattle.queries.specs.QueryLaws.{query-refused, query-looked, slot-answer}
use Rattle.queries.proofs.answers.answer.Goals as goal

pub returns-then-not-in_order : goal.returns-then-not-in_order
returns-then-not-in_order c =
    let a = c.args in
    let p = answer-parts (query-refused (answer_at a.q a.t.now) a.t.now a.a a.b a.m (sym c.in_order.ensures ∙ c.if-not-in_order.true)) in
    record { value = ap number_told c.refuse_answer.ensures.value ∙ p.0; out_after = c.refuse_answer.ensures.out_after ∙ p.1 }

pub slot_by_guess-i-requires : goal.slot_by_guess-i-requires
slot_by_guess-i-requires c =
    let o = sym c.in_order.ensures ∙ c.if-not-in_order.false in
    record { table = subst (Table _) (sym c.slots_of-n.ensures) (order-table _ (test-order _ o)); t_value = o }

pub answer_in_slot-requires : goal.answer_in_slot-requires
answer_in_slot-requires c =
    let o = sym c.in_order.ensures ∙ c.if-not-in_order.false in
    record { table = subst (Table _) (sym c.slots_of-n.ensures) (order-table _ (test-order _ o)); t_value = o }

pub returns : goal.returns
returns c =
    let a = c.args in
    let t = a.t.now in
    let n = c.slots_of-n.result in
    let o = sym c.in_order.ensures ∙ c.if-not-in_order.false in
    let fit = subst (Table t) (sym c.slots_of-n.ensures) (order-table _ (test-order _ o)) in
    let e = c.slot_by_guess-i.ensures ∙ (λ i. slot_found n (find_of t (normal_of (to_z-of_z c.ranges.a i) (to_z-of_z c.ranges.b i) a.m))) in
    let p = answer-parts (slot-answer a.q t n fit o (normal_of a.a a.b a.m) _ e ∙ query-looked (answer_at a.q t) t a.a a.b a.m o _ refl) in
    record { value = c.answer_in_slot.ensures.value ∙ p.0; out_after = c.answer_in_slot.ensures.out_after ∙ p.1 }
