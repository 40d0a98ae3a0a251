-- `table::enter_from` meets its promise: by where the search ended. Assumes nothing.
use Rattle.std.proofs.Common.{◌≡◌, List, ℕ, refl, ap, sym, ◌∙◌}
use Rattle.lattice.specs.declared.records.Record.{Record}
use Rattle.table.specs.Search.{find_of}
use Rattle.table.specs.Entries.{enter_at, enter_of}
use Rattle.table.specs.EntryLaws.{free-room}
use Rattle.table.specs.declared.probe.Found.{Found}
use Rattle.table.specs.declared.probe.Found.TheVariants as found
use Rattle.table.proofs.entries.enter_from.Goals as goal

-- past the search, by what it found
past : (t : List ℕ) (r : Record) (o : Found) → o ≡ find_of t r.at → enter_at t r o ≡ enter_of t r
unfolding enter_of
past t r o e = ap (enter_at t r) e

-- where no slot was free nothing is entered
kept : (t : List ℕ) (r : Record) (o : Found) → ((x : ℕ) → o ≡ found.Free x → ⊥) → t ≡ enter_at t r o
kept t r (found.At i) n = refl
kept t r (found.Free i) n = absurd (n i refl)
kept t r found.Full n = refl

pub write_slot-requires : goal.write_slot-requires
write_slot-requires c = free-room c.args.t.now c.args.n c.requires.0 c.args.r.at c.in-Free.j (sym c.find_from-f.ensures.value ∙ c.in-Free.is)

pub returns-in-Free-clause-t_after : goal.returns-in-Free-clause-t_after
returns-in-Free-clause-t_after c = c.write_slot.ensures ∙ past c.args.t.now c.args.r (found.Free c.in-Free.j) (sym c.in-Free.is ∙ c.find_from-f.ensures.value)

pub returns-in_default : goal.returns-in_default
returns-in_default c =
    let t = c.args.t.now in
    let o = c.find_from-f.result in
    record { value = c.find_from-f.ensures.value; t_after = kept t c.args.r o c.in_default.not-Free ∙ past t c.args.r o c.find_from-f.ensures.value }
