-- By what the slot holds and the mark.
use Rattle.std.proofs.Common.{refl, sym, ◌∙◌, eq-eqb, ne_eqb}
use Rattle.writers.specs.KeptLaws.{kept-at, kept-gone, kept-stays}
use Rattle.writers.proofs.kept.kept.Goals as goal

pub returns-in-Some : goal.returns-in-Some
returns-in-Some c = kept-gone _ _ _ c.in-Some.r _ (sym c.in-Some.ensures) c.if-marked.ensures (eq-eqb c.in-Some.r.d 3 c.if-r-eq3.true)

pub returns-in_default : goal.returns-in_default
returns-in_default c = kept-stays _ _ _ c.in-Some.r _ (sym c.in-Some.ensures) c.if-marked.ensures (ne_eqb c.in-Some.r.d 3 c.if-r-eq3.false)

pub returns-in_default-2 : goal.returns-in_default-2
returns-in_default-2 c = kept-stays _ _ _ c.in-Some.r _ (sym c.in-Some.ensures) c.if-marked.ensures refl

pub returns-in_default-3 : goal.returns-in_default-3
returns-in_default-3 c = c.read_slot.ensures ∙ sym c.in_default.ensures ∙ kept-at _ _ _ _ (sym c.in_default.ensures)
