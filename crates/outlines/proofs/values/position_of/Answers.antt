-- `outlines::values::position_of` meets its promise: the rounded operations are those of the definition. Assumes nothing.
use mathlib.Core.Path.{◌≡◌, sym, ◌∙◌}
use Prim.Native.Nat.{◌≤◌}
use native.Mathlib.Omega.{arith}
use lib.IntN.{ℤ, pos, nat_abs}
use lib.Ieee.{binary64, mul, div, of_int}
use mir.Syntax.{w32}
use mir.Val.{SFits, to_z, of_z}
use mir.Facts.{to_z-of_z}
use Rattle.laws.specs.Sizes.{fits}
use Rattle.laws.specs.Machine.{asked₂}
use Rattle.outlines.specs.Outlines.{root3, across_of}
use Rattle.outlines.proofs.values.position_of.Goals as goal

small : (z : ℤ) → nat_abs z ≤ 1000000 → SFits w32 z
small z h = fits w32 z (omega arith)

pub returns : goal.returns
unfolding root3
returns c =
    let p = c.args.p in
    let fa = small p.a c.requires.wide in
    let fb = small p.b c.requires.high in
    let ex : to_z w32 (of_z w32 c.across-x.result) ≡ across_of p.a p.b =
    to_z-of_z {w = w32} (record { sfits = c.across-x.type_inv }) ∙ sym (asked₂ across_of fa fb c.across-x.ensures) in
    let eb : to_z w32 (of_z w32 p.b) ≡ p.b = to_z-of_z fb in
    let eo = c.twice_power-over.ensures in
    λ i. record {
      x = div binary64 (of_int binary64 (ex i)) (of_int binary64 (pos (eo i)));
      y = div binary64 (mul binary64 (of_int binary64 (eb i)) root3) (of_int binary64 (pos (eo i)));
    }
