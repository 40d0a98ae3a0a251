-- `text::signed_back` meets its contract. Assumes nothing.
use Rattle.std.proofs.Common.{◌≡◌, refl, sym, subst, ap, List, [], ◌∷◌, ℕ, ◌-◌, length, set, arith}
use Rattle.std.proofs.lemmas.Int.{to_z-of_z}
use mir.Syntax.{w32}
use Rattle.laws.specs.Stores.{Wrote}
use Rattle.text.specs.Decimal.{minus, digits, numeral, ended}
use Rattle.text.specs.DecimalLaws.{numeral-minus}
use Rattle.text.specs.Back.{wrote-before}
use Rattle.text.proofs.decimal.signed_back.Goals as goal

pub returns-then-z-lt0 : goal.returns-then-z-lt0
returns-then-z-lt0 c =
    let a = c.args in
    let same = to_z-of_z w32 a.z c.ranges.z in
    let below : numeral a.z ≡ minus ∷ digits c.size-n.result
    = numeral-minus a.z c.size-n.result (simp same at c.if-z-lt0.true) (simp same at c.size-n.ensures) in
    let o₁ = c.number_back-at.new.out in
    let at = c.number_back-at.result in
    let sign : Wrote o₁ (at - 1) (minus ∷ []) (set o₁ (at - 1) minus) at = record
    { bytes = refl; past = omega (arith, ap (λ (l : List ℕ). length (ended l a.stop)) below) } in
    subst (λ (l : List ℕ). Wrote a.out.now (at - 1) (ended l a.stop) (set o₁ (at - 1) minus) a.end) (sym below)
    (wrote-before c.number_back-at.ensures sign)
