-- `queries::put_each_opposite` meets its promise. Assumes nothing.
use Rattle.std.proofs.Common.{ℕ, sym, ap, subst, ◌∙◌, ◌+◌, ◌*◌, arith}
use Rattle.std.proofs.lemmas.List.Edits.{sets}
use Rattle.lattice.specs.AnswerRows.{point_numbers}
use Rattle.queries.specs.QueryLaws.{asked-inner}
use Rattle.queries.specs.OppositeLaws.{OppositesPut, opposites-start, opposites-more, opposites-fail, opposites-end}
use Rattle.queries.proofs.answers.put_each_opposite.Goals as goal

pub loop-j-init : goal.loop-j-init
loop-j-init c = opposites-start c.args.t.now c.args.v _ c.requires.out_value

pub chosen-requires : goal.chosen-requires
chosen-requires c = record { table = c.requires.asked.table; inner = (asked-inner c.requires.asked, c.loop-j-test.true) }

pub put_point-requires : goal.put_point-requires
put_point-requires c = omega (arith, (asked-inner c.requires.asked).top)

-- the corner has no opposite
pub returns-in-None : goal.returns-in-None
returns-in-None c = record {
  value = opposites-fail c.args.t.now c.args.v c.loop-j.j c.loop-j.out c.loop-j-test.true (sym c.chosen.ensures ∙ c.in-None.is);
  when_true = tt;
}

-- the corner has one: the next point
pub loop-j-preserved : goal.loop-j-preserved
loop-j-preserved c =
    let t = c.args.t.now in
    let v = c.args.v in
    let j = c.loop-j.j in
    let e = c.put_point.ensures ∙ ap (λ (k : ℕ). sets c.loop-j.out (3 * k + 1) (point_numbers c.in-Some.p)) c.from.ensures in
    subst (OppositesPut t v (j + 1)) (sym e)
    (opposites-more t v j c.loop-j.out c.loop-j-test.true (asked-inner c.requires.asked) c.loop-j.invariant _ (sym c.chosen.ensures ∙ c.in-Some.is))

pub returns : goal.returns
returns c =
    let r = opposites-end c.args.t.now c.args.v c.loop-j.j _ c.loop-j.invariant (λ h. omega (arith, h)) in
    record { value = r.0; when_true = r.1 }
