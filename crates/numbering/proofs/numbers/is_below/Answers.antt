-- By what the slot holds.
use Rattle.std.proofs.Common.{ℕ, sym, ◌∙◌, ap, arith, ltb}
use Rattle.firsts.specs.Faces.{bit}
use Rattle.text.specs.LineOrder.{close}
use Rattle.numbering.specs.Ranks.{slot_below, below_at}
use Rattle.numbering.proofs.Bits.{byte-bit, byte-most}
use Rattle.numbering.proofs.numbers.is_below.Goals as goal

pub order-requires : goal.order-requires
order-requires c = close c.in-Some.r (c.requires.0.valid c.args.i c.in-Some.r c.requires.1 (sym c.in-Some.ensures))

pub returns-in-None : goal.returns-in-None
unfolding below_at
returns-in-None c = (ap (slot_below c.args.x) c.in-None.ensures, omega arith)

pub returns-in-Some : goal.returns-in-Some
unfolding below_at
returns-in-Some c =
    let x = c.args.x in
    let lower = ltb c.order.result x in (
      c.from.ensures ∙ byte-bit lower ∙ ap (λ (y : ℕ). bit (ltb y x)) c.order.ensures.0 ∙ ap (slot_below x) c.in-Some.ensures,
      omega (arith, c.from.ensures, byte-most lower),
    )
