-- `counts::apex_seen` meets its promise: by what stands before the slot. Assumes nothing.
use Rattle.std.proofs.Common.{ap, sym, ◌∙◌, arith}
use Rattle.firsts.specs.Earlier.{held_and, earlier_in}
use Rattle.firsts.specs.EarlierLaws.{earlier-valid}
use Rattle.counts.specs.Counted.{has_either, apex_seen}
use Rattle.counts.proofs.sides.apex_seen.Goals as goal

pub has_either-requires-clause-u_value : goal.has_either-requires-clause-u_value
has_either-requires-clause-u_value c =
    let a = c.args in
    earlier-valid a.t.now c.requires.0 a.k (omega arith) c.slot_of-s.result c.in-Some.u (sym c.earlier.ensures ∙ c.in-Some.is)

pub returns-in-None : goal.returns-in-None
unfolding apex_seen
returns-in-None c =
    let a = c.args in
    ap (held_and (has_either a.t.now a.p a.q)) (sym c.in-None.is ∙ c.earlier.ensures ∙ ap (earlier_in a.t.now a.k) c.slot_of-s.ensures)

pub returns-in-Some : goal.returns-in-Some
unfolding apex_seen
returns-in-Some c =
    let a = c.args in
    c.has_either.ensures ∙ ap (held_and (has_either a.t.now a.p a.q)) (sym c.in-Some.is ∙ c.earlier.ensures ∙ ap (earlier_in a.t.now a.k) c.slot_of-s.ensures)
