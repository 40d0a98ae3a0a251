-- `viewer_lines::lines::put_vertex` meets its promise: by what the slot holds. Assumes nothing.
use Rattle.std.specs.Prelude.{Option, Some}
use Rattle.lattice.specs.declared.records.Record.{Record}
use Rattle.std.proofs.Common.{◌≡◌, ◌+◌, ◌*◌, ℕ, refl, sym, ◌∙◌, ap, subst}
use Rattle.table.specs.Slots.{slot_at}
use Rattle.text.specs.LineOrder.{close}
use Rattle.sorting.specs.Keys.{Put}
use Rattle.writers.specs.Kept.{places, Added}
use Rattle.numbering.specs.Keyed.{key_of, keyed}
use Rattle.viewer_lines.proofs.lines.put_vertex.Goals as goal
use Rattle.viewer_lines.proofs.lines.put_vertex.Goals.{In-Some}

-- the slot holds a record
holds : (c : In-Some) → slot_at c.args.t.now c.args.i ≡ Some c.in-Some.r
holds c = sym c.read_slot.ensures ∙ c.in-Some.is

pub order-requires : goal.order-requires
order-requires c = close c.in-Some.r (c.requires.in_order.0.valid c.args.i c.in-Some.r c.requires.in_order.1 (sym c.read_slot.ensures ∙ c.in-Some.is))

pub returns-in-Some : goal.returns-in-Some
unfolding key_of
returns-in-Some c =
    let h = holds (goal.at.returns-in-Some c).In-Some in
    let a = c.args in
    let o = a.out.now in
    let o' = c.put_key.new.out in
    subst (λ (x : Option Record). Added o a.k (keyed a.i x) o' (a.k + 1)) (sym h)
    (subst (λ (v : ℕ). Put o a.k v o') (ap (λ (x : ℕ). x * places + a.i) c.order.ensures.0) c.put_key.ensures, refl)
