-- `table::group_reaches` meets its promise: the taken slots before slot i go back to the home, and so does the group. Assumes nothing.
use Rattle.std.proofs.Common.{◌≡◌, ℕ, ◌+◌, ◌-◌, sym, subst, ◌∙◌, SFits, arith, eqb-true}
use Rattle.std.specs.Int.{w32}
use borrow.Author.Rules.{rules}
use Rattle.laws.specs.Machine.{asked₂}
use Rattle.lattice.specs.Points.{pt}
use Rattle.table.specs.Slots.{slot_at}
use Rattle.table.specs.Reading.{group, reads_as}
use Rattle.table.specs.RunLaws.{run-most, Near, near-test, run-group}
use Rattle.table.proofs.order.group_reaches.Goals as goal

pub overflow_add-h : goal.overflow_add-h
overflow_add-h c = omega (arith, c.requires.run_value, c.requires.table, run-most (slot_at c.args.t.now) c.args.i)

pub returns-then-h-i : goal.returns-then-h-i
returns-then-h-i c v =
    let a = c.args in
    let near = near-test a.h a.i a.run group c.if-h-i.true in
    let fa : SFits w32 a.p.a = search rules in
    let fb : SFits w32 a.p.b = search rules in
    let past : c.guess_in_group.result ≡ a.i - group + group = eqb-true c.guess_in_group.result a.i v ∙ omega (arith, near) in
    run-group a.t.now a.p a.n c.requires.table.0 a.h a.i group c.requires.table.1 c.requires.h_value.0
    (subst (λ (r : ℕ). Near a.h a.i r group) c.requires.run_value near)
    (λ m j l. asked₂ (λ x y. reads_as a.t.now (pt x y m) (a.i - group + j)) fa fb (sym (c.guess_in_group.ensures.none_in past m j l)))
