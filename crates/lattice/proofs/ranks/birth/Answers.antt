-- `lattice::ranks::birth` meets its promise: depth 0 by the definition, above it remainder by remainder. Assumes nothing.
use Rattle.std.proofs.Common.{◌≡◌, sym, ap, ◌∙◌, arith, ℕ, w32, SFits, to_z-of_z, eq-eqb, ne_eqb, cond, ◌+◌, ◌*◌, ◌-◌, ◌/◌, ◌%◌, ◌^◌, ◌<◌}
use Rattle.laws.specs.Residue.{mod_z, left3-minus}
use Rattle.laws.specs.Rules.{◌≡?◌, rule2}
use Rattle.lattice.specs.Points.{class_of}
use Rattle.lattice.specs.Ranks.{birth_of}
use Rattle.lattice.specs.declared.points.Point.{Point}
use Rattle.std.specs.Prelude.{eqb}
use Rattle.lattice.proofs.ranks.birth.Goals as goal

-- above depth 0, by the class and what a leaves
abbrev above : ℕ → ℕ → ℕ
above c x = cond (eqb c 0) (cond (eqb x 1) 3 1) (cond (eqb c 1) 2 0)

above-is : (p : Point) → (p.m.0 ≡ 0 → ⊥) → above (class_of p) (mod_z p.a 3) ≡ birth_of p
unfolding birth_of
above-is p h = simp (ne_eqb p.m.0 0 h)

packed : (x : ℕ) → x < 3 → (y : ℕ) → y < 3 → 4832043521 / 2 ^ (4 * (3 * x + y)) % 16 ≡ above ((x + 3 - y) % 3) x
packed = rule2 3 3 (λ x y. 4832043521 / 2 ^ (4 * (3 * x + y)) % 16 ≡? above ((x + 3 - y) % 3) x) tt

pub returns-then-class-eq2 : goal.returns-then-class-eq2
unfolding birth_of
returns-then-class-eq2 c =
    let p = c.args.p in
    simp (eq-eqb p.m.0 0 c.if-p-eq0.true, eq-eqb (class_of p) 2 (sym c.class.ensures ∙ c.if-class-eq2.true))

pub returns-then-p-eq0 : goal.returns-then-p-eq0
unfolding birth_of
returns-then-p-eq0 c =
    let p = c.args.p in
    simp (eq-eqb p.m.0 0 c.if-p-eq0.true, ne_eqb (class_of p) 2 (λ e. c.if-class-eq2.false (c.class.ensures ∙ e)))

pub returns : goal.returns
returns c =
    let p = c.args.p in
    let fa : SFits w32 p.a = record { sfits = omega arith } in
    let fb : SFits w32 p.b = record { sfits = omega arith } in
    let a : c.left3.result ≡ mod_z p.a 3 = simp (to_z-of_z fa) at c.left3.ensures.0 in
    let b : c.left3-2.result ≡ mod_z p.b 3 = simp (to_z-of_z fb) at c.left3-2.ensures.0 in
    packed c.left3.result c.left3.ensures.1 c.left3-2.result c.left3-2.ensures.1
    ∙ (λ i. above ((a i + 3 - b i) % 3) (a i))
    ∙ ap (λ n. above n (mod_z p.a 3)) (sym (left3-minus p.a p.b))
    ∙ above-is p c.if-p-eq0.false
