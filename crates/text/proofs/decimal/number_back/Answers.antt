-- `text::number_back` meets its contract: the byte that ends it, and the digits before it. Assumes nothing.
use Rattle.std.proofs.Common.{refl, [], ◌∷◌, ◌-◌, set, arith, length-append}
use Rattle.laws.specs.Stores.{Wrote}
use Rattle.text.specs.Decimal.{digits}
use Rattle.text.specs.Back.{wrote-before}
use Rattle.text.proofs.decimal.number_back.Goals as goal

pub returns : goal.returns
returns c =
    let o = c.args.out.now in
    let last = c.args.end - 1 in
    let a : Wrote o last (c.args.stop ∷ []) (set o last c.args.stop) c.args.end =
    record { bytes = refl; past = omega (arith, length-append (digits c.args.n) (c.args.stop ∷ []), c.requires.0) } in
    wrote-before a c.digits_back.ensures
