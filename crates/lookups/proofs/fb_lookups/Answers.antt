-- `lookups::fb_lookups` meets its promise: past the test of the length every search is in a table. Assumes nothing.
use Rattle.std.proofs.Common.{◌≡◌, ◌/◌, ◌+◌, ◌∙◌, arith, length, refl, sym, ap, Bool, true, false}
use mir.Val.{bool_byte}
use Rattle.lattice.specs.declared.points.Point.{Point}
use Rattle.table.specs.SlotLaws.{table-test, slots-table, no-slots}
use Rattle.table.specs.Entries.{holds}
use Rattle.lookups.specs.Lookups.{one, one-most, held_to, held_none, held_more, lookups-fit, lookups-unfit}
use Rattle.lookups.proofs.fb_lookups.Goals as goal

counted : (b : Bool) → bool_byte b ≡ one b
counted true = refl
counted false = refl

pub returns-then-n-eq0 : goal.returns-then-n-eq0
returns-then-n-eq0 c =
    lookups-unfit c.args.table.now c.args.points.now c.args.m (no-slots c.args.table.now (sym c.slots_of-n.ensures ∙ c.if-n-eq0.true))

pub loop-i-init : goal.loop-i-init
loop-i-init c = record { most = omega arith; count = held_none c.args.table.now c.args.points.now c.args.m }

pub is_there-requires : goal.is_there-requires
is_there-requires c = slots-table _ _ c.slots_of-n.ensures c.if-n-eq0.false

pub loop-i-preserved : goal.loop-i-preserved
loop-i-preserved c =
    let a = c.args in
    let h = holds a.table.now in
    let e : c.from-found.result ≡ one (h c.point_at.result) = c.from-found.ensures ∙ counted c.is_there.result ∙ ap one c.is_there.ensures in
    let m = one-most (h c.point_at.result) in
    record {
      most = omega (arith, e, m, c.loop-i.invariant.most);
      count = (λ j. c.loop-i.invariant.count j + (e ∙ ap (λ (p : Point). one (h p)) c.point_at.ensures) j) ∙ held_more a.table.now a.points.now a.m c.loop-i.i;
    }

pub returns : goal.returns
returns c =
    let a = c.args in
    let e : c.loop-i.i ≡ length a.points.now / 2 = omega arith in
    c.loop-i.invariant.count ∙ ap (held_to a.table.now a.points.now a.m) e
    ∙ lookups-fit a.table.now a.points.now a.m (table-test a.table.now c.slots_of-n.result (slots-table _ _ c.slots_of-n.ensures c.if-n-eq0.false))
