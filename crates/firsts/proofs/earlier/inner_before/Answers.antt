-- `firsts::inner_before` meets its promise: by what the slot holds. Assumes nothing.
use Rattle.std.proofs.Common.{ltb, sym, ◌∙◌, ap}
use Rattle.lattice.specs.declared.records.Record.{Record}
use Rattle.firsts.specs.Earlier.{held_and, inner_in}
use Rattle.firsts.proofs.earlier.inner_before.Goals as goal

pub returns-in-None : goal.returns-in-None
unfolding inner_in
returns-in-None c = ap (held_and (λ (u : Record). ltb 0 u.d)) (sym c.in-None.is ∙ c.earlier.ensures)

pub returns-in-Some : goal.returns-in-Some
unfolding inner_in
returns-in-Some c = ap (held_and (λ (u : Record). ltb 0 u.d)) (sym c.in-Some.is ∙ c.earlier.ensures)
