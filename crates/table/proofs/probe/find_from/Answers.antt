-- `table::find_from` meets its promise. Assumes nothing.
use Rattle.std.proofs.Common.{◌≡◌, List, ℕ, ◌<◌, ◌-◌, refl, sym, ap, subst, ◌∙◌}
use Rattle.lattice.specs.declared.points.Point.{Point}
use Rattle.table.specs.Slots.{Table, slot_at}
use Rattle.table.specs.Search.{meets, search_from, find_of}
use Rattle.table.specs.Told.{Reaches, Told}
use Rattle.table.specs.SlotLaws.{table-slots}
use Rattle.table.specs.SearchLaws.{search-none, search-meets, next-below}
use Rattle.table.specs.EntryLaws.{resumed-find, find-told}
use Rattle.table.specs.declared.probe.Found.{Found}
use Rattle.table.specs.declared.probe.Meet.TheVariants.{Hit, Gap, Other}
use Rattle.table.proofs.probe.find_from.Goals as goal

record Ended (t : List ℕ) (p : Point) (o : Found) : Type 0 where
  value : o ≡ find_of t p
  told : Told t p o

-- where the search from the slot given ends the search from home ends, and it tells as much
ended : (t : List ℕ) (n : ℕ) (p : Point) (start : ℕ) (o : Found) → Table t n → Reaches t p start
    → o ≡ search_from (λ j. meets (slot_at t j) p) n start n → Ended t p o
ended t n p start o fits r e =
    let v = resumed-find t n fits p start r o e in
    record { value = v; told = find-told t n fits p o v }

pub loop-left-init : goal.loop-left-init
loop-left-init c =
    record { below = subst (λ (k : ℕ). c.args.start < k) (table-slots c.args.t.now c.args.n c.requires.0) c.requires.1.below; same = refl }

pub loop-left-preserved : goal.loop-left-preserved
loop-left-preserved c =
    let a = c.args in
    record {
      below = subst (λ (x : ℕ). x < a.n) (sym c.after-i.ensures) (next-below _ _ c.loop-left.invariant.below);
      same = ap (λ (x : ℕ). search_from (λ j. meets (slot_at a.t.now j) a.p) a.n x (c.loop-left.left - 1)) c.after-i.ensures
          ∙ sym (search-meets _ _ _ _ c.if-left-eq0.false Other (sym c.in-Other.is ∙ c.look.ensures)) ∙ c.loop-left.invariant.same;
    }

pub returns-then-left-eq0 : goal.returns-then-left-eq0
returns-then-left-eq0 c =
    let e = ended c.args.t.now c.args.n c.args.p c.args.start _ c.requires.0 c.requires.1
    (search-none _ _ _ _ c.if-left-eq0.true ∙ c.loop-left.invariant.same) in
    record { value = e.value; told = e.told }

pub returns-in-Hit : goal.returns-in-Hit
returns-in-Hit c =
    let e = ended c.args.t.now c.args.n c.args.p c.args.start _ c.requires.0 c.requires.1
    (sym (search-meets _ _ _ _ c.if-left-eq0.false Hit (sym c.in-Hit.is ∙ c.look.ensures)) ∙ c.loop-left.invariant.same) in
    record { value = e.value; told = e.told }

pub returns-in-Gap : goal.returns-in-Gap
returns-in-Gap c =
    let e = ended c.args.t.now c.args.n c.args.p c.args.start _ c.requires.0 c.requires.1
    (sym (search-meets _ _ _ _ c.if-left-eq0.false Gap (sym c.in-Gap.is ∙ c.look.ensures)) ∙ c.loop-left.invariant.same) in
    record { value = e.value; told = e.told }
