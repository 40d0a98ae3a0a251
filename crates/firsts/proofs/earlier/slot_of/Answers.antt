-- `firsts::slot_of` meets its promise: by where the search ended. Assumes nothing.
use Rattle.std.proofs.Common.{sym, ◌∙◌, ap}
use Rattle.table.specs.Slots.{slots_of}
use Rattle.table.specs.MapLaws.{table-slots}
use Rattle.table.specs.Entries.{slot_found}
use Rattle.firsts.specs.Earlier.{slot_in}
use Rattle.firsts.proofs.earlier.slot_of.Goals as goal

pub returns-in-At : goal.returns-in-At
unfolding slot_in
returns-in-At c = ap (slot_found (slots_of c.args.t.now)) (sym c.in-At.is ∙ c.find-f.ensures.value)

pub returns-in-Free : goal.returns-in-Free
unfolding slot_in
returns-in-Free c =
    sym (table-slots c.args.t.now c.args.n c.requires) ∙ ap (slot_found (slots_of c.args.t.now)) (sym c.in-Free.is ∙ c.find-f.ensures.value)

pub returns-in-Full : goal.returns-in-Full
unfolding slot_in
returns-in-Full c =
    sym (table-slots c.args.t.now c.args.n c.requires) ∙ ap (slot_found (slots_of c.args.t.now)) (sym c.in-Full.is ∙ c.find-f.ensures.value)
