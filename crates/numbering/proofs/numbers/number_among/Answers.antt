-- Either half, and what a search that ended found.
use Rattle.std.proofs.Common.{◌≡◌, ℕ, ◌+◌, ◌*◌, ◌-◌, ◌/◌, ◌<◌, sym, ◌∙◌, ap, subst, arith}
use Rattle.writers.specs.Kept.{places}
use Rattle.numbering.specs.Ranks.{Searched, searched-low, searched-high, stand-number}
use Rattle.numbering.proofs.numbers.number_among.Goals as goal

pub loop-low-preserved-then-key-x : goal.loop-low-preserved-then-key-x
loop-low-preserved-then-key-x c =
    let l = c.loop-low in
    let middle = l.low + (l.high - l.low) / 2 in
    let inside : middle < c.args.k = omega arith in
    record {
      order = omega arith;
      most = omega arith;
      search = λ t w.
          searched-low t _ l.low l.high middle (l.invariant.search t w) (omega (arith, w.count))
          (omega (arith, sym (w.keys middle inside) ∙ sym c.key.ensures));
    }

pub loop-low-preserved : goal.loop-low-preserved
loop-low-preserved c =
    let l = c.loop-low in
    let middle = l.low + (l.high - l.low) / 2 in
    let inside : middle < c.args.k = omega arith in
    record {
      order = omega arith;
      most = omega arith;
      search = λ t w.
          searched-high t _ l.low l.high middle (l.invariant.search t w) (omega (arith, w.count))
          (omega (arith, sym (w.keys middle inside) ∙ sym c.key.ensures));
    }

pub returns : goal.returns
returns c t o w =
    let l = c.loop-low in
    let e : l.high ≡ l.low = omega arith in
    let x = ap (λ (v : ℕ). v * places) c.order-x.ensures.0 in
    let y = subst (λ (v : ℕ). Searched t v l.low l.low) x (subst (λ (h : ℕ). Searched t (c.order-x.result * places) l.low h) e (l.invariant.search t w)) in
    stand-number t o c.args.p c.requires.0 l.low (omega (arith, w.count)) y.below y.above
