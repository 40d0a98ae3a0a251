-- One slot more.
use Rattle.std.proofs.Common.{◌≡◌, ℕ, sym, ◌∙◌, ap, arith}
use Rattle.table.specs.Entries.{records_below}
use Rattle.numbering.specs.Numbering.{how_many}
use Rattle.numbering.specs.Ranks.{lower, below_of, below_none, below_more}
use Rattle.numbering.proofs.numbers.count_below.Goals as goal

pub loop-i-init : goal.loop-i-init
loop-i-init c = record { counted = sym (below_none c.args.table.now c.args.x); most = omega arith }

pub loop-i-preserved : goal.loop-i-preserved
loop-i-preserved c = record {
  counted = omega (arith, below_more c.args.table.now c.args.x c.loop-i.i, c.is_below-count.ensures.0);
  most = omega (arith, c.is_below-count.ensures.1);
}

pub returns : goal.returns
unfolding below_of
returns c =
    let e : c.loop-i.i ≡ c.args.n = omega arith in
    c.loop-i.invariant.counted ∙ ap (λ (k : ℕ). how_many (lower c.args.x) (records_below c.args.table.now k)) (e ∙ c.requires.1)
