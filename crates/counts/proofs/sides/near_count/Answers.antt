-- `counts::near_count` meets its promise: by whether the side is in a face, and whether it was counted before. Assumes nothing.
use Rattle.std.proofs.Common.{not, ap, sym, ◌∙◌, arith}
use Rattle.firsts.specs.declared.earlier.Placed.{Placed}
use Rattle.counts.specs.CaseLaws.{near_none, near-counted, bit-from, from-most}
use Rattle.counts.proofs.sides.near_count.Goals as goal

pub returns-then-not-has : goal.returns-then-not-has
returns-then-not-has c = (near_none c.args.t.now c.args.k c.args.v c.args.j (sym c.requires.has_value ∙ c.if-not-has.true), omega arith)

pub returns : goal.returns
returns c =
    let a = c.args in (
      c.from.ensures ∙ bit-from (not c.near_known-before.result)
          ∙ near-counted a.t.now a.k a.v a.j (sym c.requires.has_value ∙ c.if-not-has.false) a.a.slot
          (ap (λ (x : Placed). x.slot) c.requires.a_value) _ (sym c.near_known-before.ensures),
      omega (arith, c.from.ensures, from-most),
    )
