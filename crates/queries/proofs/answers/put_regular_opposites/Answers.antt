-- `queries::put_regular_opposites` meets its promise. Assumes nothing.
use Rattle.std.proofs.Common.{ℕ, sym, ap, subst, ◌∙◌, ◌+◌, ◌*◌, arith}
use Rattle.std.proofs.lemmas.List.Edits.{sets}
use Rattle.lattice.specs.AnswerRows.{point_numbers}
use Rattle.queries.specs.QueryLaws.{asked-inner}
use Rattle.queries.specs.OppositeLaws.{OppositesPut, opposites-start, opposites-more, opposites-fail, opposites-end}
use Rattle.queries.specs.OppositeLaws.{arms-turned, both-light, chosen-arms}
use Rattle.queries.proofs.answers.put_regular_opposites.Goals as goal

pub near_arm-near-requires : goal.near_arm-near-requires
near_arm-near-requires c = asked-inner c.requires.asked

pub far_arm-far-requires : goal.far_arm-far-requires
far_arm-far-requires c = (asked-inner c.requires.asked, c.requires.d_value)

pub loop-j-init : goal.loop-j-init
loop-j-init c = record {
  put = opposites-start c.args.t.now c.args.v _ c.requires.out_value;
  arms = record { first = λ h. c.near_arm-near.ensures; second = λ h. c.far_arm-far.ensures };
}

pub opposite_by-requires : goal.opposite_by-requires
opposite_by-requires c = record {
  table = c.requires.asked.table;
  light = both-light c.args.v c.requires.d_value c.loop-j.j _ _ c.loop-j-test.true c.loop-j.invariant.arms (asked-inner c.requires.asked);
}

pub put_point-requires : goal.put_point-requires
put_point-requires c = omega (arith, (asked-inner c.requires.asked).top)

-- the corner has no opposite
pub returns-in-None : goal.returns-in-None
returns-in-None c =
    let t = c.args.t.now in
    let v = c.args.v in
    let e = chosen-arms v c.requires.d_value c.loop-j.j _ _ c.loop-j-test.true c.loop-j.invariant.arms t in
    record {
      value = opposites-fail t v c.loop-j.j c.loop-j.out c.loop-j-test.true (sym e ∙ sym c.opposite_by.ensures ∙ c.in-None.is);
      when_true = tt;
    }

pub next_arm-near-requires : goal.next_arm-near-requires
next_arm-near-requires c =
    (both-light c.args.v c.requires.d_value c.loop-j.j _ _ c.loop-j-test.true c.loop-j.invariant.arms (asked-inner c.requires.asked)).0

pub next_arm-far-requires : goal.next_arm-far-requires
next_arm-far-requires c =
    (both-light c.args.v c.requires.d_value c.loop-j.j _ _ c.loop-j-test.true c.loop-j.invariant.arms (asked-inner c.requires.asked)).1

-- the corner has one: the next point, and both arms turned
pub loop-j-preserved : goal.loop-j-preserved
loop-j-preserved c =
    let t = c.args.t.now in
    let v = c.args.v in
    let j = c.loop-j.j in
    let i = asked-inner c.requires.asked in
    let e = sym (chosen-arms v c.requires.d_value j _ _ c.loop-j-test.true c.loop-j.invariant.arms t) ∙ sym c.opposite_by.ensures ∙ c.in-Some.is in
    let o = c.put_point.ensures ∙ ap (λ (k : ℕ). sets c.loop-j.out (3 * k + 1) (point_numbers c.in-Some.p)) c.from.ensures in
    record {
      put = subst (OppositesPut t v (j + 1)) (sym o) (opposites-more t v j c.loop-j.out c.loop-j-test.true i c.loop-j.invariant.put _ e);
      arms = arms-turned v c.requires.d_value j _ _ c.loop-j.invariant.arms _ _ c.next_arm-near.ensures c.next_arm-far.ensures;
    }

pub returns : goal.returns
returns c =
    let r = opposites-end c.args.t.now c.args.v c.loop-j.j _ c.loop-j.invariant.put (λ h. omega (arith, h)) in
    record { value = r.0; when_true = r.1 }
