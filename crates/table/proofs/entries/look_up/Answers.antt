-- `table::look_up` meets its promise: by where the search ended. Assumes nothing.
use Rattle.std.proofs.Common.{◌≡◌, List, ℕ, ap, sym, ◌∙◌, inl, inr}
use Rattle.lattice.specs.declared.points.Point.{Point}
use Rattle.table.specs.Search.{find_of}
use Rattle.table.specs.Entries.{looked_at, look_up}
use Rattle.table.specs.EntryLaws.{at_room}
use Rattle.table.specs.declared.probe.Found.{Found}
use Rattle.table.specs.declared.probe.Found.TheVariants as found
use Rattle.table.proofs.entries.look_up.Goals as goal

pub held_in-requires : goal.held_in-requires
held_in-requires c = at_room c.args.t.now c.args.n c.requires c.args.p _ (sym c.in-At.ensures.value)

-- past the search, by what it found
past : (t : List ℕ) (p : Point) (o : Found) → o ≡ find_of t p → looked_at t o ≡ look_up t p
unfolding look_up
past t p o e = ap (looked_at t) e

pub returns-in-At : goal.returns-in-At
returns-in-At c = c.held_in.ensures ∙ past c.args.t.now c.args.p (found.At c.in-At.i) c.in-At.ensures.value

pub returns-in-Free : goal.returns-in-Free
returns-in-Free c =
    let t = c.args.t.now in
    let p = c.args.p in
    elim c.in-Free.is [
      | inl f ↦ past t p (found.Free f.0) (sym f.1 ∙ c.find.ensures.value)
      | inr f ↦ past t p found.Full (sym f ∙ c.find.ensures.value)
    ]
