-- The guess is the place.
use Rattle.std.proofs.Common.{ℕ, ◌*◌, ap, subst, arith}
use Rattle.writers.specs.Kept.{places}
use Rattle.numbering.specs.Ranks.{Searched, stand-number}
use Rattle.numbering.proofs.numbers.number_near.Goals as goal

pub returns-then-is_place : goal.returns-then-is_place
returns-then-is_place c t o w =
    let g = c.args.g in
    let f = c.is_place.ensures c.if-is_place.true in
    let y = subst (λ (v : ℕ). Searched t v g g) (ap (λ (v : ℕ). v * places) c.order-x.ensures.0) (f.1 t w) in
    stand-number t o c.args.p c.requires.0 g (omega (arith, f.0, w.count)) y.below y.above
