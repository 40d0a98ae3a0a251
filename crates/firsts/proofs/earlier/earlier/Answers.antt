-- `firsts::earlier` meets its promise: by whether the slot comes before. Assumes nothing.
use Rattle.std.specs.Prelude.{None}
use Rattle.std.proofs.Common.{Bool, cond, sym, ◌∙◌, ap, lt-ltb, le-ltb}
use Rattle.table.specs.Slots.{slot_at}
use Rattle.table.specs.Entries.{held_in}
use Rattle.firsts.specs.Earlier.{earlier_in}
use Rattle.firsts.proofs.earlier.earlier.Goals as goal

pub returns-then-s-k : goal.returns-then-s-k
unfolding earlier_in
returns-then-s-k c =
    let a = c.args in
    c.held_in.ensures ∙ ap (λ (b : Bool). cond b (held_in (slot_at a.t.now a.s)) None) (sym (lt-ltb a.s a.k c.if-s-k.true))

pub returns-else-s-k : goal.returns-else-s-k
unfolding earlier_in
returns-else-s-k c =
    let a = c.args in
    ap (λ (b : Bool). cond b (held_in (slot_at a.t.now a.s)) None) (sym (le-ltb a.s a.k c.if-s-k.false))
