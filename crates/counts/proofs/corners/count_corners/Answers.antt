-- `counts::count_corners` meets its promise: slot by slot. Assumes nothing.
use Rattle.std.proofs.Common.{◌≡◌, ℕ, refl, ap, ◌∙◌, arith}
use Rattle.laws.specs.Rules.{upto}
use Rattle.firsts.specs.Earlier.{sum_below, slot_faces, plain_slot, plain_of}
use Rattle.firsts.specs.FaceLaws.{faces-counted}
use Rattle.counts.specs.Counted.{faces_and_sides, slot_sides}
use Rattle.counts.specs.EdgeLaws.{edges-counted}
use Rattle.counts.specs.CaseLaws.{summed-start, summed-more, all_more}
use Rattle.counts.specs.declared.corners.Counted.{Counted}
use Rattle.counts.proofs.corners.count_corners.Goals as goal

pub loop-k-init : goal.loop-k-init
loop-k-init c = record { faces = summed-start (slot_faces c.args.t.now) 6; sides = summed-start (slot_sides c.args.t.now) 18; plain = refl }

pub overflow_add-faces : goal.overflow_add-faces
overflow_add-faces c = record { fits = omega (arith, c.count_slot-s.ensures.faces_bound.0) }

pub overflow_add-sides : goal.overflow_add-sides
overflow_add-sides c = record { fits = omega (arith, c.count_slot-s.ensures.faces_bound.1) }

pub loop-k-preserved : goal.loop-k-preserved
loop-k-preserved c =
    let t = c.args.t.now in
    let e = c.count_slot-s.ensures in
    let v = c.loop-k.invariant in
    record {
      faces = summed-more (slot_faces t) 6 c.loop-k.k c.loop-k.faces _ v.faces (ap (λ (x : Counted). x.faces) e.value) e.faces_bound.0;
      sides = summed-more (slot_sides t) 18 c.loop-k.k c.loop-k.sides _ v.sides (ap (λ (x : Counted). x.sides) e.value) e.faces_bound.1;
      plain = all_more (plain_slot t) c.loop-k.k c.loop-k.plain _ v.plain (ap (λ (x : Counted). x.plain) e.value);
    }

pub returns : goal.returns
unfolding plain_of
returns c =
    let t = c.args.t.now in
    let v = c.loop-k.invariant in
    let e : c.loop-k.k ≡ c.args.n = omega arith in
    λ i.
    faces_and_sides ((v.faces.is ∙ ap (sum_below (slot_faces t)) (e ∙ c.requires.1) ∙ faces-counted t c.requires.0) i)
    ((v.sides.is ∙ ap (sum_below (slot_sides t)) (e ∙ c.requires.1) ∙ edges-counted t c.requires.0) i)
    ((v.plain ∙ ap (λ (k : ℕ). upto k (plain_slot t)) (e ∙ c.requires.1)) i)
