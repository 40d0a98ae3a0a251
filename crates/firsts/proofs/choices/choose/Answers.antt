-- `firsts::choose` meets its promise: the first opposite where it is there, else the second. Assumes nothing.
use Rattle.std.proofs.Common.{◌≡◌, Bool, true, false, cond, Some, sym, ◌∙◌, ap}
use Rattle.lattice.specs.Stars.{first_at, second_at}
use Rattle.table.specs.Entries.{holds}
use Rattle.firsts.specs.EarlierLaws.{slot-there, slot-absent}
use Rattle.firsts.specs.Earlier.{placed_of}
use Rattle.firsts.specs.Choices.{opposite, kept_of, choice_of}
use Rattle.firsts.specs.declared.earlier.Placed.{Placed}
use Rattle.firsts.proofs.choices.choose.Goals as goal

pub returns-then-placed-n : goal.returns-then-placed-n
unfolding choice_of
returns-then-placed-n c =
    let t = c.args.t.now in
    let p = first_at c.args.v c.args.j in
    let is = c.with_slot-placed.ensures ∙ ap (placed_of t) c.first_of.ensures in
    let there : holds t p ≡ true = slot-there t c.args.n c.requires.table p c.with_slot-placed.result is c.if-placed-n.true in
    ap (λ (o : Placed). Some (opposite false o)) is
    ∙ ap (λ (b : Bool). cond b (Some (opposite false (placed_of t p))) (kept_of t (second_at c.args.v c.args.j))) (sym there)

pub returns : goal.returns
unfolding choice_of
returns c =
    let t = c.args.t.now in
    let p = first_at c.args.v c.args.j in
    let is = c.with_slot-placed.ensures ∙ ap (placed_of t) c.first_of.ensures in
    let absent : holds t p ≡ false = slot-absent t c.args.n c.requires.table p c.with_slot-placed.result is c.if-placed-n.false in
    c.kept.ensures ∙ ap (kept_of t) c.second_of.ensures
    ∙ ap (λ (b : Bool). cond b (Some (opposite false (placed_of t p))) (kept_of t (second_at c.args.v c.args.j))) (sym absent)
