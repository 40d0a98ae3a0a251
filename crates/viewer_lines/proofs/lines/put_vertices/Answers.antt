-- `viewer_lines::lines::put_vertices` meets its promise. Assumes nothing.
use Rattle.std.proofs.Common.{sym, subst, ℕ, List, arith}
use Rattle.table.specs.Slots.{slot_at}
use Rattle.writers.specs.KeptLaws.{Filled, filled_none}
use Rattle.numbering.specs.Keyed.{keys_none, keys-room, filled_more}
use Rattle.viewer_lines.proofs.lines.put_vertices.Goals as goal

pub loop-i-init : goal.loop-i-init
loop-i-init c =
    let a = c.args in
    subst (λ (ks : List ℕ). Filled a.out.now ks a.out.now 0) (sym (keys_none (slot_at a.t.now))) (filled_none a.out.now)

pub put_vertex-k-requires-clause-i_in_bounds : goal.put_vertex-k-requires-clause-i_in_bounds
put_vertex-k-requires-clause-i_in_bounds c =
    let h = c.loop-i.invariant in
    omega (arith, h.count, h.long, keys-room (slot_at c.args.t.now) c.loop-i.i c.args.n (omega arith))

pub loop-i-preserved : goal.loop-i-preserved
loop-i-preserved c =
    filled_more (slot_at c.args.t.now) c.loop-i.i c.args.out.now c.loop-i.out _ c.loop-i.k c.put_vertex-k.result c.loop-i.invariant c.put_vertex-k.ensures
