-- `table::placed` meets its promise: by what the slot holds. Assumes nothing.
use Rattle.std.specs.Prelude.{Option, Some, None}
use Rattle.lattice.specs.declared.records.Record.{Record}
use Rattle.std.proofs.Common.{◌≡◌, List, ℕ, Bool, ◌&&◌, ap, sym, ◌∙◌}
use Rattle.table.specs.Slots.{slot_at}
use Rattle.table.specs.Search.{find_of}
use Rattle.table.specs.SearchLaws.{own-hit}
use Rattle.table.specs.Order.{is_at, placed_slot, placed_at}
use Rattle.table.proofs.order.placed.Goals as goal

-- the test of what was read
at_slot : (t : List ℕ) (i : ℕ) (x : Option Record) → x ≡ slot_at t i → placed_slot t i x ≡ placed_at t i
unfolding placed_at
at_slot t i x e = ap (placed_slot t i) e

pub returns-in-None : goal.returns-in-None
returns-in-None c = at_slot c.args.t.now c.args.i None c.in-None.ensures

pub found_at-requires-clause-p_value : goal.found_at-requires-clause-p_value
found_at-requires-clause-p_value c = own-hit _ c.in-Some.r (sym c.in-Some.ensures)

pub returns-then-valid : goal.returns-then-valid
returns-then-valid c =
    let a = c.args in
    let r = c.in-Some.r in
    c.found_at.ensures ∙ ap (λ (b : Bool). b && is_at (find_of a.t.now r.at) a.i) (sym (sym c.valid.ensures ∙ c.if-valid.true))
    ∙ at_slot a.t.now a.i (Some r) c.in-Some.ensures

pub returns-else-valid : goal.returns-else-valid
returns-else-valid c =
    let a = c.args in
    let r = c.in-Some.r in
    c.if-valid.false ∙ ap (λ (b : Bool). b && is_at (find_of a.t.now r.at) a.i) (sym (sym c.valid.ensures ∙ c.if-valid.false))
    ∙ at_slot a.t.now a.i (Some r) c.in-Some.ensures
