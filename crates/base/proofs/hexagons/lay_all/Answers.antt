-- `base::lay_all` meets its promise. Assumes nothing.
use Rattle.std.proofs.Common.{◌≡◌, ℕ, Bool, sym, ap, subst, ◌∙◌, ◌+◌, arith}
use Rattle.table.specs.SlotLaws.{table_same}
use Rattle.base.specs.Laying.{Within, laid_by}
use Rattle.base.specs.Base.{centres_in, Room, lay_hexagon, lay_all}
use Rattle.base.specs.LayLaws.{centre-within, all_none, all_more, all-full}
use Rattle.base.proofs.hexagons.lay_all.Goals as goal

pub loop-i-init : goal.loop-i-init
loop-i-init c = all_none c.args.centres.now (Room c.args.table.now)

pub lay_hexagon-requires : goal.lay_hexagon-requires
lay_hexagon-requires c = (
  table_same c.args.table.now c.loop-i.table c.args.n c.loop-i.auto.table c.requires.table,
  subst (Within 250) (sym c.centre_at.ensures) (centre-within c.args.marks.now c.args.centres.now c.loop-i.i c.requires.marks_value (omega arith)),
)

pub loop-i-preserved : goal.loop-i-preserved
loop-i-preserved c =
    all_more c.args.centres.now (Room c.args.table.now) c.loop-i.i (Room c.loop-i.table) c.loop-i.invariant
    ∙ sym (c.lay_hexagon.ensures ∙ (λ k. lay_hexagon (c.requires.marks_value k) (c.centre_at.ensures k) 7 (Room c.loop-i.table)))
    ∙ ap (λ (v : Bool). laid_by v c.lay_hexagon.new.table) c.if-not-lay_hexagon.false

pub returns-then-not-lay_hexagon : goal.returns-then-not-lay_hexagon
returns-then-not-lay_hexagon c =
    let e = all_more c.args.centres.now (Room c.args.table.now) c.loop-i.i (Room c.loop-i.table) c.loop-i.invariant
    ∙ sym (c.lay_hexagon.ensures ∙ (λ k. lay_hexagon (c.requires.marks_value k) (c.centre_at.ensures k) 7 (Room c.loop-i.table)))
    ∙ ap (λ (v : Bool). laid_by v c.lay_hexagon.new.table) c.if-not-lay_hexagon.true in
    sym (all-full c.args.centres.now (Room c.args.table.now) (centres_in c.args.centres.now) (c.loop-i.i + 1) (omega arith) e)

pub returns : goal.returns
returns c =
    let e : c.loop-i.i ≡ centres_in c.args.centres.now = omega arith in
    sym (ap (λ (k : ℕ). lay_all c.args.centres.now k (Room c.args.table.now)) (sym e) ∙ c.loop-i.invariant)
