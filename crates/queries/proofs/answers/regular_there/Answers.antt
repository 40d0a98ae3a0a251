-- `queries::regular_there` meets its promise. Assumes nothing.
use Rattle.std.proofs.Common.{◌≡◌, List, ℕ, ◌+◌, ◌*◌, refl, sym, ap, subst, ◌∙◌, SFits, arith, to_z-of_z, ℤ}
use Rattle.std.specs.Int.{w32}
use Rattle.std.proofs.lemmas.List.Edits.{sets}
use borrow.Author.Rules.{rules}
use Rattle.laws.specs.Each.{upto-more, upto-fails}
use Rattle.laws.specs.Rules.{upto}
use Rattle.lattice.specs.AnswerRowLaws.{row-start}
use Rattle.lattice.specs.AnswerRows.{point_numbers}
use Rattle.lattice.specs.ArmLaws.{ArmsPut, arms_start, arms-light, arms_more, arms_end}
use Rattle.lattice.specs.Points.{pt}
use Rattle.lattice.specs.Stars.{adjacent_at}
use Rattle.lattice.specs.Terms.{added_of}
use Rattle.lattice.specs.declared.points.Point.{Point}
use Rattle.table.specs.Entries.{holds}
use Rattle.queries.specs.Queries.{adjacents_there}
use Rattle.queries.specs.QueryLaws.{asked-inner}
use Rattle.queries.proofs.answers.regular_there.Goals as goal

pub first_arm-w-requires : goal.first_arm-w-requires
first_arm-w-requires c = asked-inner c.requires.asked

pub loop-j-init : goal.loop-j-init
loop-j-init c = record {
  put = rw c.from.ensures (arms_start c.args.v _ _ (row-start c.args.v.d (omega (arith, (asked-inner c.requires.asked).top))) c.first_arm-w.ensures);
  there = refl;
}

pub added-p-requires : goal.added-p-requires
added-p-requires c = arms-light c.args.v (asked-inner c.requires.asked) c.loop-j.j _ _ c.loop-j.invariant.put c.loop-j-test.true

pub put_point-requires : goal.put_point-requires
put_point-requires c = omega (arith, (asked-inner c.requires.asked).top)

pub stands-requires : goal.stands-requires
stands-requires c = record { table = c.requires.asked.table; t_value = c.requires.asked.order }

pub next_arm-w-requires : goal.next_arm-w-requires
next_arm-w-requires c = arms-light c.args.v (asked-inner c.requires.asked) c.loop-j.j _ _ c.loop-j.invariant.put c.loop-j-test.true

pub returns-then-not-stands : goal.returns-then-not-stands
unfolding adjacents_there
returns-then-not-stands c =
    let t = c.args.t.now in
    let v = c.args.v in
    let p = c.added-p.result in
    let fa : SFits w32 p.a = search rules in
    let fb : SFits w32 p.b = search rules in
    let q = (λ i. pt (to_z-of_z fa i) (to_z-of_z fb i) p.m.0) ∙ c.added-p.ensures ∙ ap added_of (c.loop-j.invariant.put.arm c.loop-j-test.true) in
    record {
      value = sym (upto-fails (λ j. holds t (adjacent_at v j)) c.loop-j.j v.d c.loop-j-test.true
          (ap (holds t) (sym q) ∙ sym c.stands.ensures ∙ c.if-not-stands.true));
      when_true = tt;
    }

pub loop-j-preserved : goal.loop-j-preserved
loop-j-preserved c =
    let t = c.args.t.now in
    let v = c.args.v in
    let p = c.added-p.result in
    let j = c.loop-j.j in
    let fa : SFits w32 p.a = search rules in
    let fb : SFits w32 p.b = search rules in
    let q = (λ i. pt (to_z-of_z fa i) (to_z-of_z fb i) p.m.0) ∙ c.added-p.ensures ∙ ap added_of (c.loop-j.invariant.put.arm c.loop-j-test.true) in
    let e = c.put_point.ensures ∙ ap (λ (k : ℕ). sets c.loop-j.out (3 * k + 1) (point_numbers p)) c.from-in-loop-j.ensures
    ∙ ap (λ (q : Point). sets c.loop-j.out (3 * j + 1) (point_numbers q)) c.added-p.ensures in
    let m = arms_more v (asked-inner c.requires.asked) c.requires.d_value j _ _ c.loop-j.invariant.put c.loop-j-test.true in
    record {
      put = subst (λ (o : List ℤ). ArmsPut v (j + 1) o c.next_arm-w.result) (sym e) (subst (ArmsPut v (j + 1) _) (sym c.next_arm-w.ensures) m);
      there = upto-more (λ j. holds t (adjacent_at v j)) j c.loop-j.invariant.there (ap (holds t) (sym q) ∙ sym c.stands.ensures ∙ c.if-not-stands.false);
    }

pub returns : goal.returns
unfolding adjacents_there
returns c =
    let v = c.args.v in
    let e : c.loop-j.j ≡ v.d = omega (arith, c.loop-j.invariant.put.most) in
    record {
      value = sym c.loop-j.invariant.there ∙ ap (λ (k : ℕ). upto k (λ j. holds c.args.t.now (adjacent_at v j))) e;
      when_true = arms_end v c.loop-j.j _ _ c.loop-j.invariant.put (λ h. omega (arith, h, e));
    }
