-- `counts::near_in` meets its promise: by what stands before the slot. Assumes nothing.
use Rattle.std.proofs.Common.{ap, sym, ◌∙◌, arith}
use Rattle.firsts.specs.Earlier.{held_and, has_near, near_in}
use Rattle.firsts.specs.EarlierLaws.{earlier-valid}
use Rattle.counts.proofs.sides.near_in.Goals as goal

pub has_near-requires-clause-u_value : goal.has_near-requires-clause-u_value
has_near-requires-clause-u_value c =
    let a = c.args in
    earlier-valid a.t.now c.requires.0 a.k (omega arith) a.s c.in-Some.u (sym c.earlier.ensures ∙ c.in-Some.is)

pub returns-in-None : goal.returns-in-None
unfolding near_in
returns-in-None c = ap (held_and (has_near c.args.t.now c.args.p)) (sym c.in-None.is ∙ c.earlier.ensures)

pub returns-in-Some : goal.returns-in-Some
unfolding near_in
returns-in-Some c = c.has_near.ensures ∙ ap (held_and (has_near c.args.t.now c.args.p)) (sym c.in-Some.is ∙ c.earlier.ensures)
