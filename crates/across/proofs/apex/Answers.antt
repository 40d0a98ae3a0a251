-- `across::apex` meets its promise: the two points at the greater depth, and their sums. Assumes nothing.
use Rattle.std.proofs.Common.{◌≡◌, ℕ, ◌≤◌, max, ℤ, nat_abs, sym, ap, subst, ◌∙◌, arith, SFits, to_z, of_z, to_z-of_z}
use Rattle.std.specs.Int.{w32}
use Rattle.laws.specs.Machine.{Mx, back, need, whole, value, ◌+ᵐ◌, ◌-ᵐ◌}
use Rattle.lattice.specs.Points.{lift, normal_of}
use Rattle.lattice.specs.declared.points.Point.{Point}
use Rattle.across.specs.Across.{StarPoint, apex_at, apex_of}
use Rattle.across.specs.OppositeLaws.{wide-bound, high-bound, raised-bound}
use Rattle.across.proofs.apex.Goals as goal

small : (z : ℤ) → nat_abs z ≤ 600000 → nat_abs (to_z w32 (of_z w32 z)) ≤ 600000
small z h = subst (λ (y : ℤ). nat_abs y ≤ 600000) (sym (back (whole {w = w32} z 600000 h) tt)) h

-- a numerator that was brought to depth d
module _ (z : ℤ) (m d : ℕ) (r : ℤ) (ok : SFits w32 r) (e : r ≡ lift (to_z w32 (of_z w32 z)) m d) where
  abbrev numerator : nat_abs z ≤ 600000 → nat_abs (lift z m d) ≤ 600000 → Mx w32
  numerator h l = value (of_z w32 r) (lift z m d) 600000 (to_z-of_z ok ∙ e ∙ ap (λ (y : ℤ). lift y m d) (back (whole {w = w32} z 600000 h) tt)) l

-- a point's two numerators at depth d
module _ (p : Point) (w : StarPoint p) (d : ℕ) (seven : d ≤ 7) (r : ℤ) (ok : SFits w32 r) where
  abbrev wide-at : r ≡ lift (to_z w32 (of_z w32 p.a)) p.m.0 d → Mx w32
  wide-at e = numerator p.a p.m.0 d r ok e (wide-bound p w) (raised-bound p.a p.m.0 d seven w.wide)

  abbrev high-at : r ≡ lift (to_z w32 (of_z w32 p.b)) p.m.0 d → Mx w32
  high-at e = numerator p.b p.m.0 d r ok e (high-bound p w) (raised-bound p.b p.m.0 d seven w.high)

-- the greater depth
module _ (p q : Point) (w : StarPoint p) (v : StarPoint q) (d : ℕ) (e : d ≡ max p.m.0 q.m.0) where
  left : p.m.0 ≤ d
  left = omega (arith, e)

  right : q.m.0 ≤ d
  right = omega (arith, e)

  seven : d ≤ 7
  seven = omega (arith, e, w.depth, v.depth)

pub raised-a-requires : goal.raised-a-requires
raised-a-requires c =
    let p = c.args.p in
    let q = c.args.q in
    (left p q c.requires.0 c.requires.1 _ c.max.ensures, (seven p q c.requires.0 c.requires.1 _ c.max.ensures, small p.a (wide-bound p c.requires.0)))

pub raised-b-requires : goal.raised-b-requires
raised-b-requires c =
    let p = c.args.p in
    let q = c.args.q in
    (left p q c.requires.0 c.requires.1 _ c.max.ensures, (seven p q c.requires.0 c.requires.1 _ c.max.ensures, small p.b (high-bound p c.requires.0)))

pub raised-x-requires : goal.raised-x-requires
raised-x-requires c =
    let p = c.args.p in
    let q = c.args.q in
    (right p q c.requires.0 c.requires.1 _ c.max.ensures, (seven p q c.requires.0 c.requires.1 _ c.max.ensures, small q.a (wide-bound q c.requires.1)))

pub raised-y-requires : goal.raised-y-requires
raised-y-requires c =
    let p = c.args.p in
    let q = c.args.q in
    (right p q c.requires.0 c.requires.1 _ c.max.ensures, (seven p q c.requires.0 c.requires.1 _ c.max.ensures, small q.b (high-bound q c.requires.1)))

pub overflow_add-a : goal.overflow_add-a
overflow_add-a c =
    let a : Mx w32 = wide-at c.args.p c.requires.0 c.max.result (seven c.args.p c.args.q c.requires.0 c.requires.1 _ c.max.ensures) c.raised-a.result
    (record { sfits = c.raised-a.type_inv }) c.raised-a.ensures in
    let b : Mx w32 = high-at c.args.p c.requires.0 c.max.result (seven c.args.p c.args.q c.requires.0 c.requires.1 _ c.max.ensures) c.raised-b.result
    (record { sfits = c.raised-b.type_inv }) c.raised-b.ensures in
    need (a +ᵐ b) tt

pub overflow_sub-a : goal.overflow_sub-a
overflow_sub-a c =
    let a : Mx w32 = wide-at c.args.p c.requires.0 c.max.result (seven c.args.p c.args.q c.requires.0 c.requires.1 _ c.max.ensures) c.raised-a.result
    (record { sfits = c.raised-a.type_inv }) c.raised-a.ensures in
    let b : Mx w32 = high-at c.args.p c.requires.0 c.max.result (seven c.args.p c.args.q c.requires.0 c.requires.1 _ c.max.ensures) c.raised-b.result
    (record { sfits = c.raised-b.type_inv }) c.raised-b.ensures in
    let y : Mx w32 = high-at c.args.q c.requires.1 c.max.result (seven c.args.p c.args.q c.requires.0 c.requires.1 _ c.max.ensures) c.raised-y.result
    (record { sfits = c.raised-y.type_inv }) c.raised-y.ensures in
    need (a +ᵐ b -ᵐ y) tt

pub overflow_add-x : goal.overflow_add-x
overflow_add-x c =
    let x : Mx w32 = wide-at c.args.q c.requires.1 c.max.result (seven c.args.p c.args.q c.requires.0 c.requires.1 _ c.max.ensures) c.raised-x.result
    (record { sfits = c.raised-x.type_inv }) c.raised-x.ensures in
    let y : Mx w32 = high-at c.args.q c.requires.1 c.max.result (seven c.args.p c.args.q c.requires.0 c.requires.1 _ c.max.ensures) c.raised-y.result
    (record { sfits = c.raised-y.type_inv }) c.raised-y.ensures in
    need (x +ᵐ y) tt

pub overflow_sub-x : goal.overflow_sub-x
overflow_sub-x c =
    let x : Mx w32 = wide-at c.args.q c.requires.1 c.max.result (seven c.args.p c.args.q c.requires.0 c.requires.1 _ c.max.ensures) c.raised-x.result
    (record { sfits = c.raised-x.type_inv }) c.raised-x.ensures in
    let y : Mx w32 = high-at c.args.q c.requires.1 c.max.result (seven c.args.p c.args.q c.requires.0 c.requires.1 _ c.max.ensures) c.raised-y.result
    (record { sfits = c.raised-y.type_inv }) c.raised-y.ensures in
    let a : Mx w32 = wide-at c.args.p c.requires.0 c.max.result (seven c.args.p c.args.q c.requires.0 c.requires.1 _ c.max.ensures) c.raised-a.result
    (record { sfits = c.raised-a.type_inv }) c.raised-a.ensures in
    need (x +ᵐ y -ᵐ a) tt

pub returns : goal.returns
unfolding apex_of
returns c =
    let a : Mx w32 = wide-at c.args.p c.requires.0 c.max.result (seven c.args.p c.args.q c.requires.0 c.requires.1 _ c.max.ensures) c.raised-a.result
    (record { sfits = c.raised-a.type_inv }) c.raised-a.ensures in
    let b : Mx w32 = high-at c.args.p c.requires.0 c.max.result (seven c.args.p c.args.q c.requires.0 c.requires.1 _ c.max.ensures) c.raised-b.result
    (record { sfits = c.raised-b.type_inv }) c.raised-b.ensures in
    let x : Mx w32 = wide-at c.args.q c.requires.1 c.max.result (seven c.args.p c.args.q c.requires.0 c.requires.1 _ c.max.ensures) c.raised-x.result
    (record { sfits = c.raised-x.type_inv }) c.raised-x.ensures in
    let y : Mx w32 = high-at c.args.q c.requires.1 c.max.result (seven c.args.p c.args.q c.requires.0 c.requires.1 _ c.max.ensures) c.raised-y.result
    (record { sfits = c.raised-y.type_inv }) c.raised-y.ensures in
    c.normalise.ensures ∙ (λ i. normal_of (back (a +ᵐ b -ᵐ y) tt i) (back (x +ᵐ y -ᵐ a) tt i) c.max.result)
    ∙ ap (λ (d : ℕ). apex_at d c.args.p c.args.q) c.max.ensures
