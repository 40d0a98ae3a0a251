-- `lattice::arms::next_arm` meets its promise. Assumes nothing.
use Rattle.std.proofs.Common.{sym, ap, ◌∙◌, arith, pos, neg_ℤ, ◌+ℤ◌, w32, to_z-of_z, eq-eqb, ne_eqb, Bool, cond, lit≤}
use Rattle.lattice.specs.Bounds.{summable}
use Rattle.std.proofs.Math.IntN.{+ℤ_idl}
use Rattle.laws.specs.Machine.{Mx, back, whole, ◌+ᵐ◌, ◌-ᵐ◌}
use Rattle.laws.specs.Sizes.{fits}
use Rattle.lattice.specs.declared.points.Terms.{Terms}
use Rattle.lattice.proofs.arms.next_arm.Goals as goal

-- the arm after w, where b says that the degree is 6
abbrev by : Terms → Bool → Terms
by w b = record { a = w.a; b = w.b; x = neg_ℤ (cond b w.y (w.x +ℤ w.y)); y = cond b (w.x +ℤ w.y) w.x; m = w.m }

pub returns-then-d-eq6 : goal.returns-then-d-eq6
returns-then-d-eq6 c =
    let w = c.args.w in
    let f = c.requires in
    let sum : Mx w32 = whole w.x summable f.x +ᵐ whole w.y summable f.y in
    let minus : Mx w32 = whole (pos 0) 0 (lit≤ tt) -ᵐ whole w.y summable f.y in
    (λ i. record {
      a = to_z-of_z (fits w32 w.a (omega (arith, f.a))) i;
      b = to_z-of_z (fits w32 w.b (omega (arith, f.b))) i;
      x = (back minus tt ∙ +ℤ_idl (neg_ℤ w.y)) i;
      y = back sum tt i;
      m = w.m;
    })
    ∙ ap (by w) (sym (eq-eqb c.args.d 6 (omega arith)))

pub returns : goal.returns
returns c =
    let w = c.args.w in
    let f = c.requires in
    let minus : Mx w32 = whole (pos 0) 0 (lit≤ tt) -ᵐ (whole w.x summable f.x +ᵐ whole w.y summable f.y) in
    (λ i. record {
      a = to_z-of_z (fits w32 w.a (omega (arith, f.a))) i;
      b = to_z-of_z (fits w32 w.b (omega (arith, f.b))) i;
      x = (back minus tt ∙ +ℤ_idl (neg_ℤ (w.x +ℤ w.y))) i;
      y = to_z-of_z (fits w32 w.x (omega (arith, f.x))) i;
      m = w.m;
    })
    ∙ ap (by w) (sym (ne_eqb c.args.d 6 (λ e. omega arith)))
