-- `coordinates::texts::coordinate_back` meets its promise. Assumes nothing.
use Rattle.std.proofs.Common.{◌≡◌, refl, sym, subst, ap, List, [], ◌∷◌, ℕ, ◌-◌, length, set, arith}
use Rattle.std.proofs.lemmas.Int.{to_z-of_z}
use mir.Syntax.{w32}
use Rattle.laws.specs.Stores.{Wrote}
use Rattle.text.specs.Decimal.{minus}
use Rattle.text.specs.Back.{wrote-before}
use Rattle.coordinates.specs.Coordinates.{decimals, coordinate}
use Rattle.coordinates.specs.TextLaws.{coordinate-minus, coordinate-plus}
use Rattle.coordinates.proofs.texts.coordinate_back.Goals as goal

pub decimals_back-at-requires : goal.decimals_back-at-requires
decimals_back-at-requires c =
    let same = to_z-of_z w32 c.args.z c.ranges.z in
    let below = ap length (coordinate-minus c.args.z c.args.n (simp same at c.if-z-lt0.true)) in
    (omega (arith, c.requires.0), c.requires.1)

pub overflow_sub-at : goal.overflow_sub-at
overflow_sub-at c =
    let same = to_z-of_z w32 c.args.z c.ranges.z in
    let below = ap length (coordinate-minus c.args.z c.args.n (simp same at c.if-z-lt0.true)) in
    omega (arith, c.decimals_back-at.ensures.past, c.requires.0)

pub bounds-out-at : goal.bounds-out-at
bounds-out-at c =
    let same = to_z-of_z w32 c.args.z c.ranges.z in
    let below = ap length (coordinate-minus c.args.z c.args.n (simp same at c.if-z-lt0.true)) in
    omega (arith, c.decimals_back-at.ensures.past, c.decimals_back-at.auto.out, c.requires)

pub returns-then-z-lt0 : goal.returns-then-z-lt0
returns-then-z-lt0 c =
    let a = c.args in
    let same = to_z-of_z w32 a.z c.ranges.z in
    let below : coordinate a.z a.n ≡ minus ∷ decimals a.n = coordinate-minus a.z a.n (simp same at c.if-z-lt0.true) in
    let long = ap length below in
    let o₁ = c.decimals_back-at.new.out in
    let at = c.decimals_back-at.result in
    let sign : Wrote o₁ (at - 1) (minus ∷ []) (set o₁ (at - 1) minus) at = record
    { bytes = refl; past = omega (arith, c.decimals_back-at.ensures.past, c.requires.0) } in
    subst (λ (l : List ℕ). Wrote a.out.now (at - 1) l (set o₁ (at - 1) minus) a.end) (sym below)
    (wrote-before c.decimals_back-at.ensures sign)

pub decimals_back-requires : goal.decimals_back-requires
decimals_back-requires c =
    let same = to_z-of_z w32 c.args.z c.ranges.z in
    let above = ap length (coordinate-plus c.args.z c.args.n (simp same at c.if-z-lt0.false)) in
    (omega (arith, c.requires.0), c.requires.1)

pub returns : goal.returns
returns c =
    let a = c.args in
    let same = to_z-of_z w32 a.z c.ranges.z in
    let above : coordinate a.z a.n ≡ decimals a.n = coordinate-plus a.z a.n (simp same at c.if-z-lt0.false) in
    subst (λ (l : List ℕ). Wrote a.out.now c.decimals_back.result l c.decimals_back.new.out a.end) (sym above) c.decimals_back.ensures
