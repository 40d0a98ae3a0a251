-- `centres::number` meets its promise: a good centre's numbers, raised by 250, are not negative. Assumes nothing.
use Rattle.std.proofs.Common.{◌≡◌, sym, ap, subst, arith, ℕ, pos, nat_abs, to_z, w32, w64, Fits, lit≤, ◌+◌, ◌*◌, ◌/◌, ◌<◌}
use Rattle.laws.specs.Machine.{Mx, whole, ◌+ᵐ◌, back, need, need-nat, run}
use Rattle.centres.specs.Marks.{number_of, places}
use Rattle.centres.specs.MarkLaws.{Good, good-is, raised, raised_is, number-below}
use Rattle.lattice.specs.declared.points.Point.{Point}
use Rattle.centres.proofs.number.Goals as goal

module _ (p : Point) (good : Good p) where
  abbrev x : Mx w32
  x = whole p.a 250 good.wide +ᵐ whole (pos 250) 250 (lit≤ tt)

  abbrev y : Mx w32
  y = whole p.b 250 good.high +ᵐ whole (pos 250) 250 (lit≤ tt)

  x-is : nat_abs (to_z w32 (run x)) ≡ raised p.a
  x-is = ap nat_abs (back x tt)

  y-is : nat_abs (to_z w32 (run y)) ≡ raised p.b
  y-is = ap nat_abs (back y tt)

  is : nat_abs (to_z w32 (run x)) * 167 + nat_abs (to_z w32 (run y)) / 3 ≡ number_of p
  unfolding number_of
  is = λ i. x-is i * 167 + y-is i / 3

pub overflow_add-x : goal.overflow_add-x
overflow_add-x c = need (x c.args.p (good-is c.args.p c.requires)) tt

pub overflow_cast-x : goal.overflow_cast-x
overflow_cast-x c =
    let g = good-is c.args.p c.requires in
    need-nat w64 (x c.args.p g) tt tt (raised_is c.args.p.a g.wide).2

pub overflow_add-y : goal.overflow_add-y
overflow_add-y c = need (y c.args.p (good-is c.args.p c.requires)) tt

pub overflow_cast-y : goal.overflow_cast-y
overflow_cast-y c =
    let g = good-is c.args.p c.requires in
    need-nat w64 (y c.args.p g) tt tt (raised_is c.args.p.b g.high).2

pub overflow_mul-result : goal.overflow_mul-result
overflow_mul-result c =
    let g = good-is c.args.p c.requires in
    let b = (raised_is c.args.p.a g.wide).1 in
    subst (λ (n : ℕ). Fits w64 (n * 167)) (sym (x-is c.args.p g)) (record { fits = omega arith })

pub overflow_add-result : goal.overflow_add-result
overflow_add-result c =
    let g = good-is c.args.p c.requires in
    let b = number-below c.args.p g in
    subst (Fits w64) (sym (is c.args.p g)) (record { fits = omega arith })

pub returns : goal.returns
returns c =
    let g = good-is c.args.p c.requires in
    (is c.args.p g, subst (λ (n : ℕ). n < places) (sym (is c.args.p g)) (number-below c.args.p g))
