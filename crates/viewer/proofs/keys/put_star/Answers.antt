-- `viewer::keys::put_star` meets its promise. Nothing without a star. Assumes nothing.
use Rattle.std.specs.Prelude.{Some}
use Rattle.std.proofs.Common.{List, ◌≡◌, refl, ap, ◌∙◌, Bool, true, false, cond, ℕ, ◌<◌, arith, eqb}
use Rattle.lattice.specs.declared.records.Record.{Record}
use Rattle.lattice.specs.RecordLaws.{Inner}
use Rattle.lattice.specs.Stars.{adjacent_at}
use Rattle.table.specs.Slots.{slots_of, slot_at}
use Rattle.table.specs.Order.{InOrder}
use Rattle.firsts.specs.Faces.{gather}
use Rattle.firsts.specs.Earlier.{placed_of}
use Rattle.firsts.specs.EarlierLaws.{valid-inner}
use Rattle.mesh_faces.specs.Once.{fresh_at, gather-start, gather-more, grown-room}
use Rattle.mesh_faces.specs.Plain.{plain-corner}
use Rattle.viewer.specs.BodyLaws.{faces-none, faces-then}
use Rattle.viewer.proofs.keys.put_star.Invariants.{round}
use Rattle.viewer.proofs.keys.put_star.Goals as goal

round-first : (d : ℕ) → 0 ≡ round d 0
round-first d = go (eqb 0 d)
  where
    go : (b : Bool) → ◌≡◌ {A = ℕ} 0 (cond b 0 0)
    go true = refl
    go false = refl

pub returns-then-v-eq0 : goal.returns-then-v-eq0
returns-then-v-eq0 c =
    let a = c.args in
    let t = a.t.now in
    faces-none t a.out.now a.from _ (ap (λ (d : ℕ). gather d (fresh_at t a.k a.v)) c.if-v-eq0.true ∙ gather-start (fresh_at t a.k a.v))

-- there is a star
star : (t : List ℕ) (k n : ℕ) (v : Record) (j : ℕ) → InOrder t → n ≡ slots_of t → k < n → slot_at t k ≡ Some v → j < v.d → Inner v
star t k n v j o e l h = valid-inner v j (o.valid k v (omega arith) h)

pub ring-requires : goal.ring-requires
ring-requires c = let p = c.requires in star c.args.t.now c.args.k c.args.n c.args.v 0 p.in_order.0 p.in_order.1.0 p.k_lt_n.0 p.k_lt_n.1 (omega arith)

pub point_at-requires-clause-inner : goal.point_at-requires-clause-inner
point_at-requires-clause-inner c =
    let p = c.requires in
    (star c.args.t.now c.args.k c.args.n c.args.v 0 p.in_order.0 p.in_order.1.0 p.k_lt_n.0 p.k_lt_n.1 (omega arith), omega arith)

pub loop-j-init : goal.loop-j-init
loop-j-init c =
    let a = c.args in
    let t = a.t.now in (
      faces-none t a.out.now a.from _ (gather-start (fresh_at t a.k a.v)),
      c.with_slot-first.ensures ∙ ap (placed_of t) (c.point_at.ensures ∙ ap (adjacent_at a.v) (round-first a.v.d)),
    )

pub next_placed-b-requires-clause-inner : goal.next_placed-b-requires-clause-inner
next_placed-b-requires-clause-inner c =
    let p = c.requires in
    (star c.args.t.now c.args.k c.args.n c.args.v c.loop-j.j p.in_order.0 p.in_order.1.0 p.k_lt_n.0 p.k_lt_n.1 (omega arith), omega arith)

pub put_corner-at-requires-clause-inner : goal.put_corner-at-requires-clause-inner
put_corner-at-requires-clause-inner c =
    let p = c.requires in
    (star c.args.t.now c.args.k c.args.n c.args.v c.loop-j.j p.in_order.0 p.in_order.1.0 p.k_lt_n.0 p.k_lt_n.1 (omega arith), omega arith)

pub put_corner-at-requires-clause-vertices_le_at : goal.put_corner-at-requires-clause-vertices_le_at
put_corner-at-requires-clause-vertices_le_at c =
    let g = fresh_at c.args.t.now c.args.k c.args.v in
    let h = c.loop-j.invariant.0 in
    let room = grown-room (λ j. gather j g) g (gather-more g) c.loop-j.j c.args.v.d (omega arith) in
    (omega (arith, h.count), omega (arith, h.count, h.stored.long, room))

pub put_corner-at-requires-clause-j_value : goal.put_corner-at-requires-clause-j_value
put_corner-at-requires-clause-j_value c =
    let p = c.requires in
    λ q. plain-corner c.args.t.now (p.t_value q) c.args.k c.args.v (omega arith) p.k_lt_n.1 c.loop-j.j (omega arith)

pub loop-j-preserved : goal.loop-j-preserved
loop-j-preserved c =
    let a = c.args in
    let t = a.t.now in
    let g = fresh_at t a.k a.v in
    let j = c.loop-j.j in (
      faces-then t a.out.now c.loop-j.out _ a.from c.loop-j.at c.put_corner-at.result (gather j g) (g j) _ c.loop-j.invariant.0
          c.put_corner-at.ensures (gather-more g j),
      c.next_placed-b.ensures,
    )
