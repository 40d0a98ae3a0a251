-- `across::across` meets its promise: the two points at depth 7, and the factor's two numbers, handed on. Assumes nothing.
use Rattle.std.proofs.Common.{◌≡◌, ℕ, ◌≤◌, ℤ, nat_abs, sym, ap, subst, ◌∙◌, arith, lit≤, T, SFits, to_z, of_z, to_z-of_z}
use Rattle.std.specs.Int.{w32}
use borrow.Author.Rules.{rules}
use Rattle.laws.specs.Machine.{Mx, run, bound, fine, sized, back, need, whole, value, ◌-ᵐ◌}
use Rattle.lattice.specs.Points.{lift}
use Rattle.lattice.specs.declared.points.Point.{Point}
use Rattle.across.specs.Across.{StarPoint, factor, along_of}
use Rattle.across.specs.OppositeLaws.{wide-bound, high-bound, size-wide, size-high}
use Rattle.across.specs.FactorLaws.{factor-size}
use Rattle.across.proofs.across.Goals as goal

-- the machine's number has the bound of the one that is meant
sized-back : (e : Mx w32) → T (fine e) → nat_abs (to_z w32 (run e)) ≤ bound e
sized-back e t = subst (λ (z : ℤ). nat_abs z ≤ bound e) (sym (back e t)) (sized e)

small : (z : ℤ) → nat_abs z ≤ 600000 → nat_abs (to_z w32 (of_z w32 z)) ≤ 600000
small z h = sized-back (whole z 600000 h) tt

-- a numerator that was brought to depth 7
module _ (z : ℤ) (m : ℕ) (r : ℤ) (ok : SFits w32 r) (e : r ≡ lift (to_z w32 (of_z w32 z)) m 7) where
  abbrev numerator : nat_abs z ≤ 600000 → nat_abs (lift z m 7) ≤ 600000 → Mx w32
  numerator h l = value (of_z w32 r) (lift z m 7) 600000 (to_z-of_z ok ∙ e ∙ ap (λ (y : ℤ). lift y m 7) (back (whole {w = w32} z 600000 h) tt)) l

-- a point's two numerators at depth 7
module _ (p : Point) (w : StarPoint p) (r : ℤ) (ok : SFits w32 r) where
  abbrev wide-at : r ≡ lift (to_z w32 (of_z w32 p.a)) p.m.0 7 → Mx w32
  wide-at e = numerator p.a p.m.0 r ok e (wide-bound p w) (omega (arith, size-wide p, w.wide))

  abbrev high-at : r ≡ lift (to_z w32 (of_z w32 p.b)) p.m.0 7 → Mx w32
  high-at e = numerator p.b p.m.0 r ok e (high-bound p w) (omega (arith, size-high p, w.high))

pub raised-a-requires : goal.raised-a-requires
raised-a-requires c = let p = c.args.p in let w = c.requires.0 in (w.depth, (lit≤ tt, small p.a (wide-bound p w)))

pub raised-b-requires : goal.raised-b-requires
raised-b-requires c = let p = c.args.p in let w = c.requires.0 in (w.depth, (lit≤ tt, small p.b (high-bound p w)))

pub raised-requires : goal.raised-requires
raised-requires c = let q = c.args.q in let w = c.requires.1.0 in (w.depth, (lit≤ tt, small q.a (wide-bound q w)))

pub raised-requires-2 : goal.raised-requires-2
raised-requires-2 c = let q = c.args.q in let w = c.requires.1.0 in (w.depth, (lit≤ tt, small q.b (high-bound q w)))

pub overflow_sub-e : goal.overflow_sub-e
overflow_sub-e c =
    need (wide-at c.args.q c.requires.1.0 c.raised.result (record { sfits = c.raised.type_inv }) c.raised.ensures
    -ᵐ wide-at c.args.p c.requires.0 c.raised-a.result (record { sfits = c.raised-a.type_inv }) c.raised-a.ensures) tt

pub overflow_sub-h : goal.overflow_sub-h
overflow_sub-h c =
    need (high-at c.args.q c.requires.1.0 c.raised-2.result (record { sfits = c.raised-2.type_inv }) c.raised-2.ensures
    -ᵐ high-at c.args.p c.requires.0 c.raised-b.result (record { sfits = c.raised-b.type_inv }) c.raised-b.ensures) tt

pub along-requires : goal.along-requires
along-requires c =
    let z = factor-size c.args.c c.requires.1.1 in
    let fx : SFits w32 c.factor-x.result.0 = search rules in
    let fy : SFits w32 c.factor-x.result.1 = search rules in
    let f = to_z-of_z fx ∙ c.factor-x.ensures.x_value in
    let g = to_z-of_z fy ∙ c.factor-x.ensures.y_value in
    let a = wide-at c.args.p c.requires.0 c.raised-a.result (record { sfits = c.raised-a.type_inv }) c.raised-a.ensures in
    let b = high-at c.args.p c.requires.0 c.raised-b.result (record { sfits = c.raised-b.type_inv }) c.raised-b.ensures in
    let x = wide-at c.args.q c.requires.1.0 c.raised.result (record { sfits = c.raised.type_inv }) c.raised.ensures in
    let y = high-at c.args.q c.requires.1.0 c.raised-2.result (record { sfits = c.raised-2.type_inv }) c.raised-2.ensures in
    record {
      x_bound = (subst (λ (n : ℤ). nat_abs n ≤ 6) (sym f) z.0, subst (λ (n : ℤ). nat_abs n ≤ 6) (sym g) z.1);
      a_bound = (sized-back a tt, sized-back b tt);
      e_bound = (sized-back (x -ᵐ a) tt, sized-back (y -ᵐ b) tt);
    }

pub returns : goal.returns
returns c =
    let fx : SFits w32 c.factor-x.result.0 = search rules in
    let fy : SFits w32 c.factor-x.result.1 = search rules in
    let f = to_z-of_z fx ∙ c.factor-x.ensures.x_value in
    let g = to_z-of_z fy ∙ c.factor-x.ensures.y_value in
    let a = wide-at c.args.p c.requires.0 c.raised-a.result (record { sfits = c.raised-a.type_inv }) c.raised-a.ensures in
    let b = high-at c.args.p c.requires.0 c.raised-b.result (record { sfits = c.raised-b.type_inv }) c.raised-b.ensures in
    let x = wide-at c.args.q c.requires.1.0 c.raised.result (record { sfits = c.raised.type_inv }) c.raised.ensures in
    let y = high-at c.args.q c.requires.1.0 c.raised-2.result (record { sfits = c.raised-2.type_inv }) c.raised-2.ensures in
    c.along.ensures ∙ (λ i. along_of (factor (f i) (g i)) (back a tt i) (back b tt i) (back (x -ᵐ a) tt i) (back (y -ᵐ b) tt i))
