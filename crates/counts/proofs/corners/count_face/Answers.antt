-- `counts::count_face` meets its promise: the side to the adjacent point, the face, the two sides across. Assumes nothing.
use Rattle.std.proofs.Common.{◌≡◌, ◌<◌, ◌+◌, Bool, ◌&&◌, not, ltb, ap, sym, ◌∙◌, subst, arith}
use Rattle.lattice.specs.Stars.{adjacent_at}
use Rattle.lattice.specs.declared.points.Point.{Point}
use Rattle.table.specs.Slots.{slots_of}
use Rattle.queries.specs.Queries.{is_point}
use Rattle.firsts.specs.Faces.{face}
use Rattle.firsts.specs.Earlier.{face_before, face_on, inners_in, inners_before}
use Rattle.firsts.specs.EarlierLaws.{placed_at, placed-slot, holds-slot}
use Rattle.firsts.specs.Strides.{ToldOf}
use Rattle.firsts.specs.CaseLaws.{plain-face}
use Rattle.firsts.specs.declared.earlier.Placed.{Placed}
use Rattle.firsts.specs.declared.faces.Face.{Face}
use Rattle.counts.specs.Counted.{faces_and_sides, Spared}
use Rattle.counts.specs.EdgeLaws.{far-spared}
use Rattle.counts.specs.CaseLaws.{faced-first, corner-counted, bit-from}
use Rattle.counts.proofs.corners.count_face.Goals as goal

pub near_count-near-requires-clause-has_value : goal.near_count-near-requires-clause-has_value
near_count-near-requires-clause-has_value c = faced-first c.args.t.now c.args.v c.args.j (ap is_point c.requires.round.chosen)

pub face_seen-seen-requires-clause-told_of : goal.face_seen-seen-requires-clause-told_of
face_seen-seen-requires-clause-told_of c =
    let a = c.args in
    let t = a.t.now in
    let r = c.requires.round in
    subst (λ (g : Face). ToldOf t g a.a.slot a.o.slot a.b.slot c.fits_of-fits.result)
    (λ i. face a.v.at (sym (placed_at t _ _ r.adjacent) i) a.o.at (sym (placed_at t _ _ r.next) i)) c.fits_of-fits.ensures

pub far_count-requires-clause-spared : goal.far_count-requires-clause-spared
far_count-requires-clause-spared c =
    let a = c.args in
    let t = a.t.now in
    let r = c.requires.round in
    let l : a.k < slots_of t = omega arith in
    let is : face a.v.at a.a.at a.o.at a.b.at ≡ face_on a.v a.j a.o.at =
    λ i. face a.v.at (placed_at t _ _ r.adjacent i) a.o.at (placed_at t _ _ r.next i) in
    let x = far-spared t c.requires.in_order.0 a.k a.v l c.requires.k_value a.j a.o.at c.face_seen-seen.result r.chosen
    (c.face_seen-seen.ensures ∙ ap (face_before t a.k) is) in (
      subst (λ (p : Point). Spared t a.k a.v.at p a.o.at c.face_seen-seen.result) (sym (placed_at t _ _ r.adjacent)) x.0,
      subst (λ (p : Point). Spared t a.k a.v.at p a.o.at c.face_seen-seen.result) (sym (placed_at t _ _ r.next)) x.1,
    )

pub returns-clause-value : goal.returns-clause-value
returns-clause-value c =
    let a = c.args in
    let t = a.t.now in
    let r = c.requires.round in
    let asked : Face = face a.v.at a.a.at a.o.at a.b.at in
    let is : asked ≡ face_on a.v a.j a.o.at = λ i. face a.v.at (placed_at t _ _ r.adjacent i) a.o.at (placed_at t _ _ r.next i) in
    let e = c.near_count-near.ensures in
    let f = c.far_count.ensures in
    let there = (λ i. ltb (ap (λ (x : Placed). x.slot) r.adjacent i) (c.requires.in_order.1.0 i))
    ∙ sym (holds-slot t c.requires.in_order.0.fits (adjacent_at a.v a.j)) in
    let before : inners_in t a.k a.a.slot a.o.slot a.b.slot ≡ inners_before t a.k asked =
    λ i. inners_in t a.k (placed-slot t _ _ r.adjacent i) (r.opposite i) (placed-slot t _ _ r.next i) in
    λ i. faces_and_sides
    ((c.from-faces.ensures ∙ bit-from (not c.face_seen-seen.result)
    ∙ corner-counted t a.k a.v a.j a.o.at r.chosen asked is _ (sym c.face_seen-seen.ensures)) i)
    (e.0 i + f.0 i)
    ((ap (λ (x : Bool). ltb a.a.slot a.n && x) c.is_first.ensures
    ∙ plain-face t a.k a.v a.j a.o.at r.chosen asked is _ _ _ there before c.face_seen-seen.ensures) i)
