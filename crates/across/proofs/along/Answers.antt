-- `across::along` meets its promise: the code's expressions, with the bounds of the `requires`, and what antt computes of them. Assumes nothing.
use Rattle.std.proofs.Common.{◌≤◌, ℤ, pos, nat_abs, ◌∙◌, lit≤}
use Rattle.std.specs.Int.{w32}
use Rattle.laws.specs.Machine.{Mx, back, need, whole, ◌+ᵐ◌, ◌-ᵐ◌, ◌*ᵐ◌}
use Rattle.lattice.specs.Points.{normal_of}
use Rattle.across.proofs.along.Goals as goal

module _ (x y e h : ℤ) (hx : (nat_abs x ≤ 6) × (nat_abs y ≤ 6)) (he : (nat_abs e ≤ 1200000) × (nat_abs h ≤ 1200000)) where
  abbrev X : Mx w32
  X = whole x 6 hx.0

  abbrev Y : Mx w32
  Y = whole y 6 hx.1

  abbrev E : Mx w32
  E = whole e 1200000 he.0

  abbrev H : Mx w32
  H = whole h 1200000 he.1

  module _ (a b : ℤ) (ha : (nat_abs a ≤ 600000) × (nat_abs b ≤ 600000)) where
    abbrev wide : Mx w32
    wide = whole (pos 3) 3 (lit≤ tt) *ᵐ whole a 600000 ha.0 +ᵐ (X *ᵐ E -ᵐ Y *ᵐ H)

    abbrev high : Mx w32
    high = whole (pos 3) 3 (lit≤ tt) *ᵐ whole b 600000 ha.1 +ᵐ (Y *ᵐ E +ᵐ (X +ᵐ Y) *ᵐ H)

pub overflow_sub-x : goal.overflow_sub-x
overflow_sub-x c =
    let v = c.args in
    let r = c.requires in
    need (X v.x v.y v.e v.h r.x_bound r.e_bound *ᵐ E v.x v.y v.e v.h r.x_bound r.e_bound
    -ᵐ Y v.x v.y v.e v.h r.x_bound r.e_bound *ᵐ H v.x v.y v.e v.h r.x_bound r.e_bound) tt

pub overflow_add-a : goal.overflow_add-a
overflow_add-a c = let v = c.args in let r = c.requires in need (wide v.x v.y v.e v.h r.x_bound r.e_bound v.a v.b r.a_bound) tt

pub overflow_mul-x-2 : goal.overflow_mul-x-2
overflow_mul-x-2 c =
    let v = c.args in
    let r = c.requires in
    need ((X v.x v.y v.e v.h r.x_bound r.e_bound +ᵐ Y v.x v.y v.e v.h r.x_bound r.e_bound) *ᵐ H v.x v.y v.e v.h r.x_bound r.e_bound) tt

pub overflow_add-y : goal.overflow_add-y
overflow_add-y c =
    let v = c.args in
    let r = c.requires in
    need (Y v.x v.y v.e v.h r.x_bound r.e_bound *ᵐ E v.x v.y v.e v.h r.x_bound r.e_bound
    +ᵐ (X v.x v.y v.e v.h r.x_bound r.e_bound +ᵐ Y v.x v.y v.e v.h r.x_bound r.e_bound) *ᵐ H v.x v.y v.e v.h r.x_bound r.e_bound) tt

pub overflow_add-b : goal.overflow_add-b
overflow_add-b c = let v = c.args in let r = c.requires in need (high v.x v.y v.e v.h r.x_bound r.e_bound v.a v.b r.a_bound) tt

pub returns : goal.returns
returns c =
    let v = c.args in
    let r = c.requires in
    let p = back (wide v.x v.y v.e v.h r.x_bound r.e_bound v.a v.b r.a_bound) tt in
    let q = back (high v.x v.y v.e v.h r.x_bound r.e_bound v.a v.b r.a_bound) tt in
    c.normalise.ensures ∙ (λ i. normal_of (p i) (q i) 8)
