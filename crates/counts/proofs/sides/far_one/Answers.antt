-- `counts::far_one` meets its promise: by its ends, then by whether it is counted elsewhere. Assumes nothing.
use Rattle.std.proofs.Common.{Bool, not, ◌||◌, ap, sym, ◌∙◌, arith}
use Rattle.counts.specs.Counted.{narrow_else}
use Rattle.counts.specs.CaseLaws.{far-ended, far-across, bit-from, from-most}
use Rattle.counts.proofs.sides.far_one.Goals as goal

pub across_else-elsewhere-requires-clause-spared_across : goal.across_else-elsewhere-requires-clause-spared_across
across_else-elsewhere-requires-clause-spared_across c =
    let a = c.args in
    λ e w. sym (ap (λ (b : Bool). b || narrow_else a.t.now a.k a.p.at a.q.at) (sym c.end_has.ensures ∙ c.if-end_has.false)) ∙ c.requires.spared e w

pub returns-then-known : goal.returns-then-known
returns-then-known c =
    let a = c.args in
    (far-ended a.t.now a.k a.v a.p.at a.q.at (c.requires.at_value c.if-known.true), omega arith)

pub returns-then-end_has : goal.returns-then-end_has
returns-then-end_has c =
    let a = c.args in
    (far-ended a.t.now a.k a.v a.p.at a.q.at (sym c.end_has.ensures ∙ c.if-end_has.true), omega arith)

pub returns : goal.returns
returns c =
    let a = c.args in (
      c.from.ensures ∙ bit-from (not c.across_else-elsewhere.result)
          ∙ far-across a.t.now a.k a.v a.p.at a.q.at (sym c.end_has.ensures ∙ c.if-end_has.false) _ (sym c.across_else-elsewhere.ensures),
      omega (arith, c.from.ensures, from-most),
    )
