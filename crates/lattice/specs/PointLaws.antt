-- The laws of points, of normalising and of turns.
-- `same_refl`, `same_true`, `same-ne`, `same_or_not` the test of two points, `same-derived` as `==` makes it · `alike`, `alike-eq`, `same_alike` the same as a
-- rule that is computed · `normal-step`, `normal-stop`, `normal-zero` one step of normalising ·
-- `turns-suc`, `turns-zero`, `turns-three` turns.
-- Assumes nothing.
use Rattle.std.specs.Prelude.{◌≡◌, refl, ◌≢◌, Bool, true, false, ◌&&◌, ℕ, zero, suc, ◌+◌, ◌<◌, ◌-◌, eqb, ℤ, neg_ℤ, pos}
use Rattle.std.proofs.Common.{sym, ap, ◌∙◌, arith, eq-eqb, eqb-true, add-one, int_eq}
use Rattle.std.proofs.lemmas.Bool.Decides.{Decides-and, Decides-like, Decides-int_eq, Decides-eqb, same_from_decides}
use Rattle.std.specs.Int.Signed.{quot_z}
use Rattle.laws.specs.Rules.{Test, ◌≡?◌, ◌≡ᶻ?◌, ◌&◌, Means, run, eq_z, eq_z→eq, eq_z-refl}
use Rattle.laws.specs.Choices.{of-true, is_true, is_false}
use Rattle.laws.specs.Each.{both_left, both_right, not-both}
use Rattle.laws.specs.Linear.{same, ‵, ◌⊕◌, ⊟}
use Rattle.lattice.specs.Points.{pt, same_point, by3, normal_of, turn60_of, turns}
use Rattle.lattice.specs.declared.points.Point.{Point}

-- ---- the test of two points

pub same_refl : (p : Point) → same_point p p ≡ true
unfolding same_point
same_refl p = rw (is_true (eq_z p.a p.a) (eq_z-refl p.a), is_true (eq_z p.b p.b) (eq_z-refl p.b), eq-eqb p.m.0 p.m.0 refl)

pub same_true : (p q : Point) → same_point p q ≡ true → p ≡ q
unfolding same_point
same_true p q h =
    let ab = both_left (eq_z p.a q.a && eq_z p.b q.b) (eqb p.m.0 q.m.0) h in
    let ea : p.a ≡ q.a = eq_z→eq p.a q.a (of-true (both_left (eq_z p.a q.a) (eq_z p.b q.b) ab)) in
    let eb : p.b ≡ q.b = eq_z→eq p.b q.b (of-true (both_right (eq_z p.a q.a) (eq_z p.b q.b) ab)) in
    let em : p.m.0 ≡ q.m.0 = eqb-true p.m.0 q.m.0 (both_right (eq_z p.a q.a && eq_z p.b q.b) (eqb p.m.0 q.m.0) h) in
    λ i. pt (ea i) (eb i) (em i)

pub same-ne : (p q : Point) → p ≢ q → same_point p q ≡ false
same-ne p q n = is_false (same_point p q) (λ t. n (same_true p q (is_true (same_point p q) t)))

-- two points are the same, or not
pub same_or_not : (p q : Point) → Dec (p ≡ q)
same_or_not p q = go (same_point p q) refl
  where
    go : (b : Bool) → same_point p q ≡ b → Dec (p ≡ q)
    go true e = yes (same_true p q e)
    go false e = no (λ x. not-both (ap (same_point p) (sym x) ∙ same_refl p) e)

-- what `==` answers at two points
pub same-derived : (p q : Point) → int_eq p.a q.a && (int_eq p.b q.b && eqb p.m.0 q.m.0) ≡ same_point p q
same-derived p q =
    let fields = Decides-and _ _ (Decides-int_eq p.a q.a) (Decides-and _ _ (Decides-int_eq p.b q.b) (Decides-eqb p.m.0 q.m.0)) in
    same_from_decides _ _
    (Decides-like _ (λ e. λ i. pt (e.0 i) (e.1.0 i) (e.1.1 i)) (λ e. (λ i. (e i).a, (λ i. (e i).b, λ i. (e i).m.0))) fields)
    (same_true p q, λ e. ap (same_point p) (sym e) ∙ same_refl p)

-- the same as a rule that is computed
abbrev pub alike : Point → Point → Test
alike p q = p.a ≡ᶻ? q.a & p.b ≡ᶻ? q.b & p.m.0 ≡? q.m.0

pub alike-eq : (p q : Point) → Means (alike p q) → p ≡ q
alike-eq p q r = λ i. pt (r.0 i) (r.1.0 i) (r.1.1 i)

pub same_alike : (p q : Point) → same_point p q ≡ run (alike p q)
unfolding same_point
same_alike p q = go (eq_z p.a q.a) (eq_z p.b q.b)
  where
    go : (a b : Bool) → (a && b) && eqb p.m.0 q.m.0 ≡ a && (b && eqb p.m.0 q.m.0)
    go true b = refl
    go false b = refl

-- ---- normalising and turns

pub normal-step : (a b : ℤ) (d : ℕ) → 0 < d → by3 a && by3 b ≡ true → normal_of (quot_z a (pos 3)) (quot_z b (pos 3)) (d - 1) ≡ normal_of a b d
unfolding normal_of
normal-step a b zero h e = absurd (omega arith)
normal-step a b (suc d) h e = let p : suc d - 1 ≡ d = omega arith in rw (p, e)

pub normal-stop : (a b : ℤ) (d : ℕ) → by3 a && by3 b ≡ false → pt a b d ≡ normal_of a b d
unfolding normal_of
normal-stop a b zero e = refl
normal-stop a b (suc d) e = rw e

pub normal-zero : (a b : ℤ) → pt a b 0 ≡ normal_of a b 0
unfolding normal_of
normal-zero a b = refl

pub turns-suc : (k : ℕ) (p : Point) → turn60_of (turns k p) ≡ turns (k + 1) p
unfolding turns
turns-suc k p = rw (add-one k)

pub turns-zero : (p : Point) → p ≡ turns 0 p
unfolding turns
turns-zero p = refl

-- three turns are a half turn
pub turns-three : (p : Point) → turns 3 p ≡ pt (neg_ℤ p.a) (neg_ℤ p.b) p.m.0
unfolding turns
turns-three p =
    let a = ‵ p.a in
    let b = ‵ p.b in
    let e₁ = ⊟ b in let f₁ = a ⊕ b in
    let e₂ = ⊟ f₁ in let f₂ = e₁ ⊕ f₁ in
    let e₃ = ⊟ f₂ in let f₃ = e₂ ⊕ f₂ in
    λ i. pt (same e₃ (⊟ a) (omega arith) i) (same f₃ (⊟ b) (omega arith) i) p.m.0
