-- `counts::far_count` meets its promise: the two sides, one after the other. Assumes nothing.
use Rattle.std.proofs.Common.{◌≡◌, ℕ, ◌+◌, ap, sym, ◌∙◌, subst, arith}
use Rattle.lattice.specs.Stars.{adjacent_at}
use Rattle.lattice.specs.declared.points.Point.{Point}
use Rattle.across.specs.Across.{StarPoint}
use Rattle.across.specs.OppositeLaws.{adjacent-bound, chosen-bound}
use Rattle.firsts.specs.Faces.{next_place}
use Rattle.firsts.specs.Earlier.{slot_in, end_has, face_on}
use Rattle.firsts.specs.EarlierLaws.{placed_at, placed-slot}
use Rattle.firsts.specs.FaceLaws.{next-below}
use Rattle.firsts.specs.ToldLaws.{before-ended, after-ended}
use Rattle.counts.specs.Counted.{far_one}
use Rattle.counts.specs.CaseLaws.{far-counted}
use Rattle.counts.proofs.sides.far_count.Goals as goal

pub far_one-before-requires-clause-star_point : goal.far_one-before-requires-clause-star_point
far_one-before-requires-clause-star_point c =
    let a = c.args in
    let i = c.requires.inner in (
      subst StarPoint (sym (placed_at a.t.now _ _ c.requires.round.adjacent)) (adjacent-bound a.v i.0 a.j i.1),
      chosen-bound a.v i.0 a.t.now a.j a.o.at i.1 c.requires.round.chosen,
    )

pub far_one-before-requires-clause-slot_value : goal.far_one-before-requires-clause-slot_value
far_one-before-requires-clause-slot_value c = (placed-slot c.args.t.now _ _ c.requires.round.adjacent, c.requires.round.opposite)

pub far_one-before-requires-clause-at_value : goal.far_one-before-requires-clause-at_value
far_one-before-requires-clause-at_value c h =
    let a = c.args in
    let t = a.t.now in
    let r = c.requires.round in
    let before : a.a.at ≡ adjacent_at a.v a.j = placed_at t _ _ r.adjacent in
    ap (λ (p : Point). end_has t p a.o.at) before
    ∙ before-ended t 0 (omega arith) (face_on a.v a.j a.o.at) a.a.slot a.o.slot a.b.slot a.fits c.requires.told_round
    (placed-slot t _ _ r.adjacent ∙ ap (slot_in t) before) r.opposite h

pub far_one-after-requires-clause-star_point : goal.far_one-after-requires-clause-star_point
far_one-after-requires-clause-star_point c =
    let a = c.args in
    let i = c.requires.inner in (
      subst StarPoint (sym (placed_at a.t.now _ _ c.requires.round.next)) (adjacent-bound a.v i.0 (next_place a.v.d a.j) (next-below a.v.d a.j i.1)),
      chosen-bound a.v i.0 a.t.now a.j a.o.at i.1 c.requires.round.chosen,
    )

pub far_one-after-requires-clause-slot_value : goal.far_one-after-requires-clause-slot_value
far_one-after-requires-clause-slot_value c = (placed-slot c.args.t.now _ _ c.requires.round.next, c.requires.round.opposite)

pub far_one-after-requires-clause-at_value : goal.far_one-after-requires-clause-at_value
far_one-after-requires-clause-at_value c h =
    let a = c.args in
    let t = a.t.now in
    let r = c.requires.round in
    let after : a.b.at ≡ adjacent_at a.v (next_place a.v.d a.j) = placed_at t _ _ r.next in
    ap (λ (p : Point). end_has t p a.o.at) after
    ∙ after-ended t 0 (omega arith) (face_on a.v a.j a.o.at) a.a.slot a.o.slot a.b.slot a.fits c.requires.told_round
    (placed-slot t _ _ r.next ∙ ap (slot_in t) after) r.opposite h

pub returns : goal.returns
returns c =
    let a = c.args in
    let r = c.requires.round in
    let one : Point → ℕ = λ p. far_one a.t.now a.k a.v.at p a.o.at in (
      (λ i. (c.far_one-before.ensures.0 ∙ ap one (placed_at a.t.now _ _ r.adjacent)) i
          + (c.far_one-after.ensures.0 ∙ ap one (placed_at a.t.now _ _ r.next)) i) ∙ far-counted a.t.now a.k a.v a.j a.o.at r.chosen,
      omega (arith, c.far_one-before.ensures.1, c.far_one-after.ensures.1),
    )
