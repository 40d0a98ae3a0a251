-- The star call's three cases: `star-invalid`, `star-boundary`, `star-inner` · `step-asked`, `step_given` a step, asked of the numbers of two points,
-- `arm-given` the same before it is added up.
-- Assumes nothing.
use Rattle.std.specs.Prelude.{◌≡◌, ℕ, ◌+◌, ◌/◌, Bool, true, false, cond, eqb}
use Rattle.std.proofs.Common.{sym, ◌∙◌, ap, subst, arith, eq-eqb, ne_eqb, to_z, of_z, to_z-of_z}
use Rattle.std.specs.Int.{w32}
use Rattle.laws.specs.Sizes.{fits}
use Rattle.lattice.specs.Bounds.{Small, Near, small-a, small_b}
use Rattle.lattice.specs.Points.{pt}
use Rattle.lattice.specs.Stars.{scale_of, step_of, refused, given, star_of}
use Rattle.lattice.specs.Terms.{terms_of}
use Rattle.lattice.specs.Records.{valid_of}
use Rattle.lattice.specs.declared.points.Point.{Point}
use Rattle.lattice.specs.declared.records.Level.{Level}
use Rattle.lattice.specs.declared.records.Record.{Record}

-- a step by the numbers of two points, as the machine hands them on
module _ (v : Point) (n : Level) (p : Point) (s : Small v) (k : Near n p) where
  va : to_z w32 (of_z w32 v.a) ≡ v.a
  va = to_z-of_z (small-a v s)

  vb : to_z w32 (of_z w32 v.b) ≡ v.b
  vb = to_z-of_z (small_b v s)

  pa : to_z w32 (of_z w32 p.a) ≡ p.a
  pa = to_z-of_z (fits w32 p.a (omega (arith, k.hex.a)))

  pb : to_z w32 (of_z w32 p.b) ≡ p.b
  pb = to_z-of_z (fits w32 p.b (omega (arith, k.hex.b)))

  pub step-asked :
      Small (pt (to_z w32 (of_z w32 v.a)) (to_z w32 (of_z w32 v.b)) v.m.0)
      × Near n (pt (to_z w32 (of_z w32 p.a)) (to_z w32 (of_z w32 p.b)) p.m.0)
  step-asked = (subst Small (λ i. pt (sym va i) (sym vb i) v.m.0) s, subst (Near n) (λ i. pt (sym pa i) (sym pb i) p.m.0) k)

  pub step_given :
      step_of (pt (to_z w32 (of_z w32 v.a)) (to_z w32 (of_z w32 v.b)) v.m.0) n (pt (to_z w32 (of_z w32 p.a)) (to_z w32 (of_z w32 p.b)) p.m.0)
      ≡ step_of v n p
  step_given = λ i. step_of (pt (va i) (vb i) v.m.0) n (pt (pa i) (pb i) p.m.0)

  pub arm-given :
      (m : ℕ) → m ≡ p.m.0 + n.0 / 2
      → terms_of (pt (to_z w32 (of_z w32 v.a)) (to_z w32 (of_z w32 v.b)) v.m.0) (pt (to_z w32 (of_z w32 p.a)) (to_z w32 (of_z w32 p.b)) m)
      ≡ terms_of v (scale_of n p)
  arm-given m e = λ i. terms_of (pt (va i) (vb i) v.m.0) (pt (pa i) (pb i) (e i))

pub star-invalid : (r : Record) → valid_of r ≡ false → refused 9 ≡ star_of r
unfolding star_of
star-invalid r e = ap (λ (b : Bool). cond b (cond (eqb r.d 0) (refused 14) (given r)) (refused 9)) (sym e)

pub star-boundary : (r : Record) → valid_of r ≡ true → r.d ≡ 0 → refused 14 ≡ star_of r
unfolding star_of
star-boundary r e h =
    ap (λ (b : Bool). cond b (refused 14) (given r)) (sym (eq-eqb r.d 0 h))
    ∙ ap (λ (b : Bool). cond b (cond (eqb r.d 0) (refused 14) (given r)) (refused 9)) (sym e)

pub star-inner : (r : Record) → valid_of r ≡ true → (r.d ≡ 0 → ⊥) → given r ≡ star_of r
unfolding star_of
star-inner r e h =
    ap (λ (b : Bool). cond b (refused 14) (given r)) (sym (ne_eqb r.d 0 h))
    ∙ ap (λ (b : Bool). cond b (cond (eqb r.d 0) (refused 14) (given r)) (refused 9)) (sym e)
