-- `counts::far_seen` meets its promise: by what stands before the slot. Assumes nothing.
use Rattle.std.proofs.Common.{ap, sym, ◌∙◌, arith}
use Rattle.firsts.specs.Earlier.{held_and, has_far, slot_in, earlier_in}
use Rattle.firsts.specs.EarlierLaws.{earlier-valid}
use Rattle.counts.specs.Counted.{far_seen}
use Rattle.counts.proofs.sides.far_seen.Goals as goal

pub has_far-requires-clause-u_value : goal.has_far-requires-clause-u_value
has_far-requires-clause-u_value c =
    let a = c.args in
    earlier-valid a.t.now c.requires.in_order.0 a.k (omega arith) c.slot_of-s.result c.in-Some.u (sym c.earlier.ensures ∙ c.in-Some.is)

pub returns-in-None : goal.returns-in-None
unfolding far_seen
returns-in-None c =
    let a = c.args in
    ap (held_and (has_far a.t.now a.p a.q)) (sym c.in-None.is ∙ c.earlier.ensures
    ∙ ap (earlier_in a.t.now a.k) (c.slot_of-s.ensures ∙ ap (slot_in a.t.now) c.across.ensures))

pub returns-in-Some : goal.returns-in-Some
unfolding far_seen
returns-in-Some c =
    let a = c.args in
    c.has_far.ensures ∙ ap (held_and (has_far a.t.now a.p a.q)) (sym c.in-Some.is ∙ c.earlier.ensures
    ∙ ap (earlier_in a.t.now a.k) (c.slot_of-s.ensures ∙ ap (slot_in a.t.now) c.across.ensures))
