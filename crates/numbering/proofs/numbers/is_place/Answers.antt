-- The key is not below, the one before it is.
use Rattle.std.proofs.Common.{◌-◌, ◌<◌, sym, ◌∙◌, arith, ltb-true}
use Rattle.numbering.specs.Ranks.{searched-at}
use Rattle.numbering.proofs.numbers.is_place.Goals as goal

pub returns-then-g-eq0 : goal.returns-then-g-eq0
returns-then-g-eq0 c q =
    let inside : c.args.g < c.args.k = omega arith in (
      omega arith,
      λ t w. searched-at t c.args.x c.args.g (omega (arith, w.count)) (omega (arith, sym (w.keys c.args.g inside) ∙ sym c.key.ensures))
          (λ h. absurd (omega arith)),
    )

pub returns-else-g-eq0 : goal.returns-else-g-eq0
returns-else-g-eq0 c q =
    let inside : c.args.g < c.args.k = omega arith in
    let before : c.args.g - 1 < c.args.k = omega arith in (
      omega arith,
      λ t w. searched-at t c.args.x c.args.g (omega (arith, w.count)) (omega (arith, sym (w.keys c.args.g inside) ∙ sym c.key.ensures))
          (λ h. omega (arith, sym (w.keys (c.args.g - 1) before) ∙ sym c.key-else-g-eq0.ensures, ltb-true c.key-else-g-eq0.result c.args.x q)),
    )
