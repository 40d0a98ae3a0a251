-- `undoing::earlier` meets its promise: by the degree. Assumes nothing.
use Rattle.std.proofs.Common.{◌+◌, ◌%◌, eq-eqb, ne_eqb}
use Rattle.undoing.specs.Earlier.{earlier_of}
use Rattle.undoing.proofs.former.earlier.Goals as goal

pub returns-then-d-eq4 : goal.returns-then-d-eq4
unfolding earlier_of
returns-then-d-eq4 c = simp (eq-eqb c.args.w.d 4 c.if-d-eq4.true)

pub returns-then-w-back : goal.returns-then-w-back
unfolding earlier_of
returns-then-w-back c =
    let w = c.args.w in
    simp (ne_eqb w.d 4 c.if-d-eq4.false, eq-eqb w.d 5 c.if-d-eq5.true, eq-eqb w.k ((c.args.back + 4) % 12) c.if-w-back.true)

pub returns-then-d-eq5 : goal.returns-then-d-eq5
unfolding earlier_of
returns-then-d-eq5 c =
    let w = c.args.w in
    simp (ne_eqb w.d 4 c.if-d-eq4.false, eq-eqb w.d 5 c.if-d-eq5.true, ne_eqb w.k ((c.args.back + 4) % 12) c.if-w-back.false)

pub returns-then-d-eq6 : goal.returns-then-d-eq6
unfolding earlier_of
returns-then-d-eq6 c =
    let w = c.args.w in
    rw c.saturating_sub.ensures (simp (ne_eqb w.d 4 c.if-d-eq4.false, ne_eqb w.d 5 c.if-d-eq5.false, eq-eqb w.d 6 c.if-d-eq6.true))

pub returns : goal.returns
unfolding earlier_of
returns c =
    let w = c.args.w in
    simp (ne_eqb w.d 4 c.if-d-eq4.false, ne_eqb w.d 5 c.if-d-eq5.false, ne_eqb w.d 6 c.if-d-eq6.false)
