-- `firsts::kept` meets its promise: by whether there is a point, and whether the table holds it. Assumes nothing.
use Rattle.std.proofs.Common.{◌≡◌, Bool, true, false, cond, Some, None, sym, ◌∙◌, ap}
use Rattle.table.specs.Entries.{holds}
use Rattle.firsts.specs.EarlierLaws.{slot-there, slot-absent}
use Rattle.firsts.specs.Earlier.{placed_of}
use Rattle.firsts.specs.Choices.{opposite, kept_of}
use Rattle.firsts.specs.declared.earlier.Placed.{Placed}
use Rattle.firsts.proofs.choices.kept.Goals as goal

pub returns-then-placed-n : goal.returns-then-placed-n
returns-then-placed-n c =
    let p = c.in-Some.p in
    let there : holds c.args.t.now p ≡ true =
    slot-there c.args.t.now c.args.n c.requires p c.with_slot-placed.result c.with_slot-placed.ensures c.if-placed-n.true in
    ap (λ (o : Placed). Some (opposite true o)) c.with_slot-placed.ensures
    ∙ ap (λ (b : Bool). cond b (Some (opposite true (placed_of c.args.t.now p))) None) (sym there)
    ∙ ap (kept_of c.args.t.now) (sym c.in-Some.is)

pub returns-else-placed-n : goal.returns-else-placed-n
returns-else-placed-n c =
    let p = c.in-Some.p in
    let absent : holds c.args.t.now p ≡ false =
    slot-absent c.args.t.now c.args.n c.requires p c.with_slot-placed.result c.with_slot-placed.ensures c.if-placed-n.false in
    ap (λ (b : Bool). cond b (Some (opposite true (placed_of c.args.t.now p))) None) (sym absent)
    ∙ ap (kept_of c.args.t.now) (sym c.in-Some.is)
