-- `table::is_there` meets its promise: by where the search ended. Assumes nothing.
use Rattle.std.proofs.Common.{◌≡◌, List, ℕ, false, refl, ap, sym}
use Rattle.lattice.specs.declared.points.Point.{Point}
use Rattle.table.specs.Search.{find_of}
use Rattle.table.specs.Entries.{is_held, looked_at, look_up, holds}
use Rattle.table.specs.declared.probe.Found.{Found}
use Rattle.table.specs.declared.probe.Found.TheVariants as found
use Rattle.table.specs.MapLaws.{table_of, at_held}
use Rattle.table.proofs.entries.is_there.Goals as goal

pub returns-in-At : goal.returns-in-At
returns-in-At c =
    let a = c.args in
    sym (ap is_held (at_held a.t.now (table_of a.t.now a.n c.requires) a.p _ (sym c.in-At.ensures.value)).looked)

-- a search that did not find its point
missed : (t : List ℕ) (p : Point) (o : Found) → o ≡ find_of t p → ((x : ℕ) → o ≡ found.At x → ⊥) → false ≡ holds t p
unfolding look_up
missed t p (found.At i) e n = absurd (n i refl)
missed t p (found.Free i) e n = ap (λ (o : Found). is_held (looked_at t o)) e
missed t p found.Full e n = ap (λ (o : Found). is_held (looked_at t o)) e

pub returns-in_default : goal.returns-in_default
returns-in_default c = missed c.args.t.now c.args.p c.find.result c.find.ensures.value c.in_default.not-At
