-- `counts::count_star` meets its promise: nothing without a star, else corner by corner. Assumes nothing.
use Rattle.std.proofs.Common.{◌≡◌, ℕ, refl, ap, sym, ◌∙◌, arith}
use Rattle.laws.specs.Rules.{upto}
use Rattle.lattice.specs.Stars.{adjacent_at}
use Rattle.firsts.specs.Earlier.{sum_below, placed_of, corner_count, plain_at}
use Rattle.firsts.specs.DifferentLaws.{sum-none}
use Rattle.firsts.specs.EarlierLaws.{valid-inner, valid-degree}
use Rattle.counts.specs.Counted.{faces_and_sides, side_count}
use Rattle.counts.specs.CaseLaws.{summed-start, summed-more, all_more, wrapped-first, wrapped-below}
use Rattle.counts.specs.declared.corners.Counted.{Counted}
use Rattle.counts.proofs.corners.count_star.Goals as goal

pub returns-then-d-eq0 : goal.returns-then-d-eq0
returns-then-d-eq0 c =
    let a = c.args in
    let none : (f : ℕ → ℕ) → 0 ≡ sum_below f a.v.d = λ f. sym (sum-none f) ∙ ap (sum_below f) (sym c.if-d-eq0.true) in
    let all = ap (λ (d : ℕ). upto d (plain_at a.t.now a.k a.v)) (sym c.if-d-eq0.true) in
    record {
      value = λ i. faces_and_sides (none (corner_count a.t.now a.k a.v) i) (none (side_count a.t.now a.k a.v) i) (all i);
      faces_bound = (omega arith, omega arith);
    }

pub ring-requires : goal.ring-requires
ring-requires c = valid-inner c.args.v 0 c.requires.v_value (omega (arith, c.if-d-eq0.false))

pub point_at-requires : goal.point_at-requires
point_at-requires c = record {
  row_value = c.ring.ensures;
  inner = (valid-inner c.args.v 0 c.requires.v_value (omega (arith, c.if-d-eq0.false)), omega (arith, c.if-d-eq0.false));
}

pub loop-j-init : goal.loop-j-init
loop-j-init c =
    let a = c.args in
    let t = a.t.now in
    record {
      faces = summed-start (corner_count t a.k a.v) 1;
      sides = summed-start (side_count t a.k a.v) 3;
      next = c.with_slot-first.ensures ∙ ap (placed_of t) (c.point_at.ensures ∙ ap (adjacent_at a.v) (wrapped-first a.v.d));
      plain = refl;
    }

pub next_placed-b-requires-clause-inner : goal.next_placed-b-requires-clause-inner
next_placed-b-requires-clause-inner c =
    (valid-inner c.args.v c.loop-j.j c.requires.v_value (omega (arith, c.loop-j-test.true)), omega (arith, c.loop-j-test.true))

pub count_corner-c-requires-clause-inner : goal.count_corner-c-requires-clause-inner
count_corner-c-requires-clause-inner c =
    (valid-inner c.args.v c.loop-j.j c.requires.v_value (omega (arith, c.loop-j-test.true)), omega (arith, c.loop-j-test.true))

pub count_corner-c-requires-clause-a_value : goal.count_corner-c-requires-clause-a_value
count_corner-c-requires-clause-a_value c =
    let a = c.args in (
      c.loop-j.invariant.next ∙ ap (λ (j : ℕ). placed_of a.t.now (adjacent_at a.v j)) (wrapped-below a.v.d c.loop-j.j (omega (arith, c.loop-j-test.true))),
      c.next_placed-b.ensures,
    )

pub overflow_add-faces : goal.overflow_add-faces
overflow_add-faces c = record { fits = omega (arith, valid-degree c.args.v c.requires.v_value, c.count_corner-c.ensures.faces_bound.0) }

pub overflow_add-sides : goal.overflow_add-sides
overflow_add-sides c = record { fits = omega (arith, valid-degree c.args.v c.requires.v_value, c.count_corner-c.ensures.faces_bound.1) }

pub loop-j-preserved : goal.loop-j-preserved
loop-j-preserved c =
    let a = c.args in
    let t = a.t.now in
    let l = c.loop-j in
    let v = l.invariant in
    let e = c.count_corner-c.ensures in
    record {
      faces = summed-more (corner_count t a.k a.v) 1 l.j l.faces _ v.faces (ap (λ (x : Counted). x.faces) e.value) e.faces_bound.0;
      sides = summed-more (side_count t a.k a.v) 3 l.j l.sides _ v.sides (ap (λ (x : Counted). x.sides) e.value) e.faces_bound.1;
      next = c.next_placed-b.ensures;
      plain = all_more (plain_at t a.k a.v) l.j l.plain _ v.plain (ap (λ (x : Counted). x.plain) e.value);
    }

pub returns : goal.returns
returns c =
    let a = c.args in
    let t = a.t.now in
    let v = c.loop-j.invariant in
    let e : c.loop-j.j ≡ a.v.d = omega arith in
    let d = valid-degree a.v c.requires.v_value in
    record {
      value = λ i. faces_and_sides ((v.faces.is ∙ ap (sum_below (corner_count t a.k a.v)) e) i)
          ((v.sides.is ∙ ap (sum_below (side_count t a.k a.v)) e) i) ((v.plain ∙ ap (λ (j : ℕ). upto j (plain_at t a.k a.v)) e) i);
      faces_bound = (omega (arith, v.faces.most, d), omega (arith, v.sides.most, d));
    }
