-- `across::raised` meets its promise: the product, with the bounds of the `requires`. Assumes nothing.
use Rattle.std.proofs.Common.{◌≡◌, ℕ, ◌≤◌, ◌^◌, ℤ, pos, nat_abs, ◌*ℤ◌, sym, ap, subst, ◌∙◌, arith, lit<}
use Rattle.std.proofs.Math.Nat.{pow-le-pow_right}
use Rattle.std.specs.Int.{w32}
use Rattle.laws.specs.Machine.{back, need, whole, ◌*ᵐ◌}
use Rattle.across.proofs.raised.Goals as goal

few : (z : ℤ) (k : ℕ) → k ≤ 7 → z ≡ pos (3 ^ k) → nat_abs z ≤ 3 ^ 7
few z k h e = subst (λ (z : ℤ). nat_abs z ≤ 3 ^ 7) (sym e) (pow-le-pow_right (lit< tt) h)

pub overflow_mul-result : goal.overflow_mul-result
overflow_mul-result c =
    let f = few c.power.result _ (omega (arith, c.requires.1.0)) c.power.ensures in
    need {w = w32} (whole c.args.x 600000 c.requires.1.1 *ᵐ whole c.power.result (3 ^ 7) f) tt

pub returns : goal.returns
returns c =
    let f = few c.power.result _ (omega (arith, c.requires.1.0)) c.power.ensures in
    back {w = w32} (whole c.args.x 600000 c.requires.1.1 *ᵐ whole c.power.result (3 ^ 7) f) tt
    ∙ ap (λ (z : ℤ). c.args.x *ℤ z) c.power.ensures
