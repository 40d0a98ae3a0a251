-- `viewer::keys::put_faces` meets its promise. Assumes nothing.
use Rattle.std.proofs.Common.{arith}
use Rattle.mesh_faces.specs.Once.{fresh_slot, fresh_below, fresh_start, fresh-more, grown-room}
use Rattle.viewer.specs.BodyLaws.{faces-none, faces-then}
use Rattle.viewer.proofs.keys.put_faces.Goals as goal

pub loop-k-init : goal.loop-k-init
loop-k-init c = let a = c.args in faces-none a.t.now a.out.now a.vertices _ (fresh_start a.t.now)

pub put_slot_faces-at-requires-clause-vertices_le_at : goal.put_slot_faces-at-requires-clause-vertices_le_at
put_slot_faces-at-requires-clause-vertices_le_at c =
    let t = c.args.t.now in
    let h = c.loop-k.invariant in
    let room = grown-room (fresh_below t) (fresh_slot t) (fresh-more t) c.loop-k.k c.args.n (omega arith) in
    (omega (arith, h.count), omega (arith, h.count, h.stored.long, room))

pub loop-k-preserved : goal.loop-k-preserved
loop-k-preserved c =
    let t = c.args.t.now in
    let l = c.loop-k in
    faces-then t c.args.out.now l.out _ c.args.vertices l.at c.put_slot_faces-at.result (fresh_below t l.k) (fresh_slot t l.k) _ l.invariant
    c.put_slot_faces-at.ensures (fresh-more t l.k)
