-- `local::deep_parents` meets its promise: each parent is the end of a step. Assumes nothing.
use Rattle.std.proofs.Common.{◌≡◌, ◌≤◌, ◌<◌, List, ℕ, ◌+◌, ◌*◌, ℤ, nat_abs, w32, to_z, of_z, sym, ◌∙◌, ap, subst, arith}
use mir.Facts.{to_z-of_z}
use Rattle.laws.specs.Sizes.{fits}
use Rattle.lattice.specs.Bounds.{Small, small-a, small_b, summable}
use Rattle.lattice.specs.Ranks.{birth_of}
use Rattle.lattice.specs.RankBounds.{move-first}
use Rattle.lattice.specs.declared.points.Point.{Point}
use Rattle.local.specs.BornLaws.{small_size}
use Rattle.local.specs.Steps.{way_of, way-turned, way-near, step_by, parent-by}
use Rattle.local.specs.Parents.{stand_at, parent_at}
use Rattle.local.proofs.parents.deep_parents.Goals as goal

-- a numerator, as the code reads it
abbrev read : ℤ → ℤ
read z = to_z w32 (of_z w32 z)

module _ (p : Point) (small : Small p) where
  a-is : read p.a ≡ p.a
  a-is = to_z-of_z (small-a p small)

  b-is : read p.b ≡ p.b
  b-is = to_z-of_z (small_b p small)

  sized : (nat_abs (read p.a) ≤ summable) × (nat_abs (read p.b) ≤ summable)
  sized =
      let (x, y) = small_size p small in
      (subst (λ (z : ℤ). nat_abs z ≤ summable) (sym a-is) x, subst (λ (z : ℤ). nat_abs z ≤ summable) (sym b-is) y)

-- a step in direction e, as the code reads it
module _ {w : Point} (e : ℕ) (h : w ≡ way_of e) where
  x-is : read w.a ≡ w.a
  x-is = to_z-of_z (fits w32 w.a (omega (arith, (way-near e h).0)))

  y-is : read w.b ≡ w.b
  y-is = to_z-of_z (fits w32 w.b (omega (arith, (way-near e h).1)))

  short : (nat_abs (read w.a) ≤ 10) × (nat_abs (read w.b) ≤ 10)
  short = (subst (λ (z : ℤ). nat_abs z ≤ 10) (sym x-is) (way-near e h).0, subst (λ (z : ℤ). nat_abs z ≤ 10) (sym y-is) (way-near e h).1)

  end : (t : List ℕ) (p : Point) → Small p → 0 < p.m.0 → (j : ℕ) → e ≡ birth_of p + 4 * j
      → stand_at t (step_by (read p.a) (read p.b) p.m.0 (read w.a) (read w.b)) ≡ parent_at t p j
  end t p small deep j g =
      (λ i. stand_at t (step_by (a-is p small i) (b-is p small i) p.m.0 (x-is i) (y-is i)))
      ∙ (λ i. stand_at t (step_by p.a p.b p.m.0 ((h ∙ ap way_of g) i).a ((h ∙ ap way_of g) i).b)) ∙ ap (stand_at t) (parent-by p j deep)

pub turn60-requires : goal.turn60-requires
turn60-requires c =
    let first : c.foremost-x.result ≡ way_of (birth_of c.args.p) = c.foremost-x.ensures ∙ move-first _ ∙ ap way_of c.birth.ensures in
    let n = way-near _ first in
    (omega (arith, n.0), omega (arith, n.1))

pub turn60-y-requires : goal.turn60-y-requires
turn60-y-requires c =
    let first : c.foremost-x.result ≡ way_of (birth_of c.args.p) = c.foremost-x.ensures ∙ move-first _ ∙ ap way_of c.birth.ensures in
    let between = way-turned _ c.turn60.ensures first in
    let n = way-near _ between in
    (omega (arith, n.0), omega (arith, n.1))

pub turn60-requires-2 : goal.turn60-requires-2
turn60-requires-2 c =
    let first : c.foremost-x.result ≡ way_of (birth_of c.args.p) = c.foremost-x.ensures ∙ move-first _ ∙ ap way_of c.birth.ensures in
    let between = way-turned _ c.turn60.ensures first in
    let second = way-turned _ c.turn60-y.ensures between in
    let n = way-near _ second in
    (omega (arith, n.0), omega (arith, n.1))

pub turn60-z-requires : goal.turn60-z-requires
turn60-z-requires c =
    let first : c.foremost-x.result ≡ way_of (birth_of c.args.p) = c.foremost-x.ensures ∙ move-first _ ∙ ap way_of c.birth.ensures in
    let between = way-turned _ c.turn60.ensures first in
    let second = way-turned _ c.turn60-y.ensures between in
    let beyond = way-turned _ c.turn60-2.ensures second in
    let n = way-near _ beyond in
    (omega (arith, n.0), omega (arith, n.1))

pub deep_parent-first-requires-clause-a_bound : goal.deep_parent-first-requires-clause-a_bound
deep_parent-first-requires-clause-a_bound c = sized c.args.p c.requires.born.0.small

pub deep_parent-first-requires-clause-x_bound : goal.deep_parent-first-requires-clause-x_bound
deep_parent-first-requires-clause-x_bound c =
    let first : c.foremost-x.result ≡ way_of (birth_of c.args.p) = c.foremost-x.ensures ∙ move-first _ ∙ ap way_of c.birth.ensures in
    short _ first

pub deep_parent-second-requires-clause-a_bound : goal.deep_parent-second-requires-clause-a_bound
deep_parent-second-requires-clause-a_bound c = sized c.args.p c.requires.born.0.small

pub deep_parent-second-requires-clause-x_bound : goal.deep_parent-second-requires-clause-x_bound
deep_parent-second-requires-clause-x_bound c =
    let first : c.foremost-x.result ≡ way_of (birth_of c.args.p) = c.foremost-x.ensures ∙ move-first _ ∙ ap way_of c.birth.ensures in
    let between = way-turned _ c.turn60.ensures first in
    let second = way-turned _ c.turn60-y.ensures between in
    short _ second

pub deep_parent-third-requires-clause-a_bound : goal.deep_parent-third-requires-clause-a_bound
deep_parent-third-requires-clause-a_bound c = sized c.args.p c.requires.born.0.small

pub deep_parent-third-requires-clause-x_bound : goal.deep_parent-third-requires-clause-x_bound
deep_parent-third-requires-clause-x_bound c =
    let first : c.foremost-x.result ≡ way_of (birth_of c.args.p) = c.foremost-x.ensures ∙ move-first _ ∙ ap way_of c.birth.ensures in
    let between = way-turned _ c.turn60.ensures first in
    let second = way-turned _ c.turn60-y.ensures between in
    let beyond = way-turned _ c.turn60-2.ensures second in
    let third = way-turned _ c.turn60-z.ensures beyond in
    short _ third

pub returns : goal.returns
returns c =
    let t = c.args.t.now in
    let p = c.args.p in
    let small = c.requires.born.0.small in
    let deep = c.requires.born.1 in
    let first : c.foremost-x.result ≡ way_of (birth_of c.args.p) = c.foremost-x.ensures ∙ move-first _ ∙ ap way_of c.birth.ensures in
    let between = way-turned _ c.turn60.ensures first in
    let second = way-turned _ c.turn60-y.ensures between in
    let beyond = way-turned _ c.turn60-2.ensures second in
    let third = way-turned _ c.turn60-z.ensures beyond in
    let e₁ = c.deep_parent-first.ensures ∙ end _ first t p small deep 0 (omega arith) in
    let e₂ = c.deep_parent-second.ensures ∙ end _ second t p small deep 1 (omega arith) in
    let e₃ = c.deep_parent-third.ensures ∙ end _ third t p small deep 2 (omega arith) in
    λ i. record { first = e₁ i; second = e₂ i; third = e₃ i }
