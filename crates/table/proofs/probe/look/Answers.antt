-- `table::look` meets its promise: by the two tests of the slot's bytes. Assumes nothing.
use Rattle.std.specs.Prelude.{Some, None}
use Rattle.std.proofs.Common.{◌≡◌, List, ℕ, ◌*◌, Bool, true, false, cond, sym, ap, ◌∙◌}
use Rattle.lattice.specs.declared.points.Point.{Point}
use Rattle.table.specs.Slots.{slot_width, free_at, record_at, slot_at}
use Rattle.table.specs.Search.{same_point, meets}
use Rattle.table.specs.declared.probe.Meet.TheVariants.{Hit, Gap, Other}
use Rattle.table.proofs.probe.look.Goals as goal

-- what a search meets, by the two tests
module _ (t : List ℕ) (i : ℕ) (p : Point) where
  at_gap : free_at t (slot_width * i) ≡ true → Gap ≡ meets (slot_at t i) p
  unfolding slot_at
  at_gap e = sym (ap (λ (b : Bool). meets (cond b None (Some (record_at t (slot_width * i)))) p) e)

  at-record : free_at t (slot_width * i) ≡ false → (b : Bool) → same_point (record_at t (slot_width * i)).at p ≡ b → cond b Hit Other ≡ meets (slot_at t i) p
  unfolding slot_at
  at-record e b h = sym (ap (λ (f : Bool). meets (cond f None (Some (record_at t (slot_width * i)))) p) e ∙ ap (λ (x : Bool). cond x Hit Other) h)

pub returns-then-is_gap : goal.returns-then-is_gap
returns-then-is_gap c = at_gap c.args.t.now c.args.i c.args.p (sym c.is_gap.ensures ∙ c.if-is_gap.true)

pub returns-then-is_hit : goal.returns-then-is_hit
returns-then-is_hit c =
    at-record c.args.t.now c.args.i c.args.p (sym c.is_gap.ensures ∙ c.if-is_gap.false) true (sym c.is_hit.ensures ∙ c.if-is_hit.true)

pub returns-else-is_hit : goal.returns-else-is_hit
returns-else-is_hit c =
    at-record c.args.t.now c.args.i c.args.p (sym c.is_gap.ensures ∙ c.if-is_gap.false) false (sym c.is_hit.ensures ∙ c.if-is_hit.false)
