-- `counts::end_has` meets its promise: by one end, then the other; all slots count. Assumes nothing.
use Rattle.std.proofs.Common.{Bool, ◌||◌, ap, sym, ◌∙◌}
use Rattle.table.specs.Slots.{slots_of}
use Rattle.firsts.specs.Earlier.{near_in, near_before, end_has}
use Rattle.counts.proofs.sides.end_has.Goals as goal

pub returns-then-near_in : goal.returns-then-near_in
unfolding end_has
returns-then-near_in c =
    let a = c.args in
    ap (λ (x : Bool). x || near_before a.t.now (slots_of a.t.now) a.p.at a.q.at)
    (sym c.if-near_in.true ∙ c.near_in.ensures ∙ (λ i. near_in a.t.now (c.requires.in_order.1 i) a.q.at (c.requires.slot_value.0 i)))

pub returns : goal.returns
unfolding end_has
returns c =
    let a = c.args in
    c.near_in-2.ensures ∙ (λ i. near_in a.t.now (c.requires.in_order.1 i) a.p.at (c.requires.slot_value.1 i))
    ∙ ap (λ (x : Bool). x || near_before a.t.now (slots_of a.t.now) a.p.at a.q.at)
    (sym c.if-near_in.false ∙ c.near_in.ensures ∙ (λ i. near_in a.t.now (c.requires.in_order.1 i) a.q.at (c.requires.slot_value.0 i)))
