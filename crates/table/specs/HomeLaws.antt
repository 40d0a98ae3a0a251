-- The home slot without a division, where there are 65,536 slots.
-- `weight-below` a weight is below `over` · `lift-fits`, `lift-is` a weight with `over` added is not negative and leaves the same.
-- Assumes nothing.
use Rattle.std.specs.Prelude.{◌≡◌, refl, ℕ, suc, ◌+◌, ◌-◌, ◌*◌, ◌%◌, ◌≤◌, ◌<◌, T, ℤ, pos, negsuc, nat_abs, ◌+ℤ◌}
use Rattle.std.proofs.Common.{sym, ap, ◌∙◌, subst, arith, le-ltb, lit≤, SFits, Fits}
use Rattle.std.specs.Int.Signed.{non_neg}
use Rattle.std.specs.Int.{w32, w64}
use Rattle.laws.specs.Machine.{Mx, any, whole, cast, ◌+ᵐ◌, ◌*ᵐ◌, sized}
use Rattle.laws.specs.Residue.{mod_z}
use Rattle.table.specs.Search.{weight_of}
use Rattle.table.specs.Reading.{over}

pub weight-below : (a b : ℤ) (m : ℕ) → SFits w32 a → SFits w32 b → m ≤ 255 → nat_abs (weight_of a b m) < over
weight-below a b m fa fb h =
    let x : Mx w64 = cast (any {w = w32} a fa) in
    let y : Mx w64 = cast (any {w = w32} b fb) in
    let e : Mx w64 = whole (pos 7919) 7919 (lit≤ tt) *ᵐ x +ᵐ whole (pos 104729) 104729 (lit≤ tt) *ᵐ y +ᵐ whole (pos m) 255 h in
    omega (arith, sized e)

-- a weight with `over` added
abbrev lifted : ℤ → ℕ
lifted (pos x) = x + over
lifted (negsuc x) = over - suc x

lift-sum : (s : ℤ) → nat_abs s < over → s +ℤ pos over ≡ pos (lifted s)
lift-sum (pos x) h = refl
lift-sum (negsuc x) h = let l : suc x ≤ over = omega arith in rw (le-ltb over (suc x) l)

lift-below : (s : ℤ) → nat_abs s < over → lifted s < 2 * over
lift-below (pos x) h = omega arith
lift-below (negsuc x) h = omega arith

lift-mod : (s : ℤ) → nat_abs s < over → lifted s % 65536 ≡ mod_z s 65536
lift-mod (pos x) h = omega arith
lift-mod (negsuc x) h = omega arith

-- z is the sum as the machine has it
module _ (s z : ℤ) (h : nat_abs s < over) (e : z ≡ s +ℤ pos over) where
  pub lift-fits : T (non_neg z) × Fits w64 (nat_abs z)
  lift-fits =
      subst (λ (y : ℤ). T (non_neg y) × Fits w64 (nat_abs y)) (sym (e ∙ lift-sum s h)) (tt, record { fits = omega (arith, lift-below s h) })

  pub lift-is : nat_abs z % 65536 ≡ mod_z s 65536
  lift-is = ap (λ (y : ℤ). nat_abs y % 65536) (e ∙ lift-sum s h) ∙ lift-mod s h
