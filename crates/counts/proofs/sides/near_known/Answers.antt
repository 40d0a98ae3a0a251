-- `counts::near_known` meets its promise: by where the slot stands, then by what is known. Assumes nothing.
use Rattle.std.specs.Prelude.{None}
use Rattle.std.proofs.Common.{Bool, cond, ap, sym, ◌∙◌, arith, le-ltb}
use Rattle.table.specs.Slots.{slot_at}
use Rattle.table.specs.Entries.{held_in}
use Rattle.firsts.specs.Earlier.{held_and, has_near, earlier_in, near_in}
use Rattle.firsts.specs.ToldLaws.{near-earlier}
use Rattle.counts.proofs.sides.near_known.Goals as goal

pub returns-then-k-s : goal.returns-then-k-s
unfolding near_in earlier_in
returns-then-k-s c =
    let a = c.args in
    ap (λ (b : Bool). held_and (has_near a.t.now a.p) (cond b (held_in (slot_at a.t.now a.s)) None)) (sym (le-ltb a.s a.k c.if-k-s.true))

pub returns-then-known : goal.returns-then-known
returns-then-known c =
    let a = c.args in
    sym (near-earlier a.t.now a.k a.s a.p c.if-k-s.false (omega arith) ∙ c.requires.s_value c.if-known.true)
