-- `mesh::checks::fits_in` meets its promise: by what the slot holds. Assumes nothing.
use Rattle.std.specs.Prelude.{Option, Some, None}
use Rattle.std.proofs.Common.{◌≡◌, sym, ◌∙◌, arith}
use Rattle.laws.specs.Choices.{of-true}
use Rattle.lattice.specs.RecordLaws.{valid-turn}
use Rattle.lattice.specs.declared.records.Record.{Record}
use Rattle.table.specs.Slots.{slot_at}
use Rattle.table.specs.Entries.{held_in}
use Rattle.mesh.specs.WriteLaws.{ready-turn}
use Rattle.mesh.proofs.checks.fits_in.Goals as goal

pub back-requires : goal.back-requires
back-requires c = (ready-turn c.requires.0, c.requires.1.0)

-- a record that a slot is known to hold
holds_of : (s : Option Record) (u : Record) → held_in s ≡ Some u → s ≡ Some u
holds_of None u e = cc
holds_of (Some r) u e = cc

pub accepts-requires : goal.accepts-requires
accepts-requires c =
    let a = c.args in
    let x = holds_of (slot_at a.t.now a.i) c.in-Some.u (sym c.held_in.ensures ∙ c.in-Some.is) in
    let k = valid-turn c.in-Some.u (of-true (c.requires.0.order.valid a.i c.in-Some.u c.requires.1.1 x)) in
    omega arith
