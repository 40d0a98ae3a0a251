-- `undoing::undo::replace` meets its promise: by where the search ended. Assumes nothing.
use Rattle.std.proofs.Common.{◌≡◌, sym, ◌∙◌, refl, List, ℕ}
use Rattle.lattice.specs.declared.records.Record.{Record}
use Rattle.table.specs.Entries.{replace_at}
use Rattle.table.specs.MapLaws.{at_room}
use Rattle.table.specs.declared.probe.Found.{Found}
use Rattle.table.specs.declared.probe.Found.TheVariants as found
use Rattle.undoing.specs.UndoLaws.{replaced-at}
use Rattle.undoing.proofs.undo.replace.Goals as goal

pub write_slot-requires : goal.write_slot-requires
write_slot-requires c = at_room c.args.t.now c.args.n c.requires c.args.r.at c.in-At.i (sym c.in-At.ensures.value)

pub returns-in-At : goal.returns-in-At
returns-in-At c = c.write_slot.ensures ∙ replaced-at c.args.t.now c.args.r (found.At c.in-At.i) (sym c.in-At.ensures.value)

-- where the search ended at no record, nothing is replaced
kept : (t : List ℕ) (r : Record) (o : Found) → ((i : ℕ) → o ≡ found.At i → ⊥) → t ≡ replace_at t r o
kept t r (found.At i) n = absurd (n i (λ x. found.At i))
kept t r (found.Free i) n = refl
kept t r found.Full n = refl

pub returns-in_default : goal.returns-in_default
returns-in_default c =
    kept c.args.t.now c.args.r c.find.result c.in_default.not-At ∙ replaced-at c.args.t.now c.args.r c.find.result (sym c.find.ensures.value)
