-- Document 01, "Files": "Lines rise strictly by m, then a, then b." What the promises cite: `earlier`.
-- `order_of` a number for each point that rises as the lines do · `Close` the points of valid records, `close` · `order-earlier` the orders rise as the lines
-- do, `order-one` one order, one point · `point_of` the point of an order, `order-back`.
-- Assumes nothing.
use Rattle.std.specs.Prelude.{◌≡◌, refl, Bool, true, false, ◌&&◌, ◌||◌, ℕ, ◌+◌, ◌*◌, ◌/◌, ◌%◌, ◌≤◌, ◌<◌, eqb, T, ℤ, pos, nat_abs, ◌+ℤ◌, ◌-ℤ◌}
use Rattle.std.proofs.Common.{sym, ap, ◌∙◌, subst, lt-ltb, le-ltb, eq-eqb, ne_eqb}
use native.Mathlib.Omega.{arith}
use Rattle.std.proofs.Math.Decide.{dec_lt}
use Rattle.std.proofs.Math.Dec.{ltb}
use Rattle.std.specs.Int.Signed.{lt_z}
use Rattle.laws.specs.Choices.{of-true, is_true}
use Rattle.laws.specs.Each.{not-both}
use Rattle.laws.specs.Parts.{up, dn, apart, abs_is, add_is, minus_is, eqℤ, lt-true, lt-false}
use Rattle.laws.specs.Rules.{eq_z, eq_z→eq, eq_z-refl}
use Rattle.lattice.specs.Points.{pt}
use Rattle.lattice.specs.Records.{valid_of}
use Rattle.lattice.specs.declared.points.Point.{Point}
use Rattle.lattice.specs.declared.records.Record.{Record}
use Rattle.text.specs.Near.{widest, valid-near}

-- p is the point of an earlier line than q
unfoldable pub earlier : Point → Point → Bool
earlier p q =
    ltb p.m.0 q.m.0
    || (eqb p.m.0 q.m.0 && (lt_z p.a q.a || (eq_z p.a q.a && lt_z p.b q.b)))

-- ---- the order of a point

-- a numerator moved past zero: it lies between -middle and middle, and then below span
abbrev pub middle : ℕ
middle = 262144

abbrev pub span : ℕ
span = 524288

abbrev pub lifted : ℤ → ℕ
lifted z = nat_abs (z +ℤ pos middle)

-- seven depths, and span numerators a and b in each
abbrev pub orders : ℕ
orders = 7 * span * span

unfoldable pub order_of : Point → ℕ
order_of p = (p.m.0 * span + lifted p.a) * span + lifted p.b

-- the points of valid records, and more
pub record Close (p : Point) : Type 0 where
  pub a : nat_abs p.a ≤ widest
  pub b : nat_abs p.b ≤ widest
  pub m : p.m.0 ≤ 6

pub close : (r : Record) → valid_of r ≡ true → Close r.at
close r v = let n = valid-near r v in record { a = n.a; b = n.b; m = n.m }

module _ (z : ℤ) (h : nat_abs z ≤ widest) where
  pub lift-is : lifted z + dn z ≡ up z + middle
  lift-is = omega (arith, add_is z (pos middle), abs_is (z +ℤ pos middle), apart (z +ℤ pos middle), abs_is z, apart z)

  pub lift-below : lifted z < span
  lift-below = omega (arith, lift-is, abs_is z)

module _ (x y : ℤ) (hx : nat_abs x ≤ widest) (hy : nat_abs y ≤ widest) where
  lift-lt : lt_z x y ≡ ltb (lifted x) (lifted y)
  lift-lt = go (lt_z x y) refl
    where
      go : (b : Bool) → lt_z x y ≡ b → lt_z x y ≡ ltb (lifted x) (lifted y)
      go true e = let a = lift-is x hx in let b = lift-is y hy in let l = lt-true x y e in e ∙ sym (lt-ltb (lifted x) (lifted y) (omega arith))
      go false e = let a = lift-is x hx in let b = lift-is y hy in let l = lt-false x y e in e ∙ sym (le-ltb (lifted x) (lifted y) (omega arith))

  pub lift-one : lifted x ≡ lifted y → x ≡ y
  lift-one e = let a = lift-is x hx in let b = lift-is y hy in eqℤ x y (omega arith)

  lift-eq : eq_z x y ≡ eqb (lifted x) (lifted y)
  lift-eq = go (eq_z x y) refl
    where
      other : eq_z x y ≡ false → lifted x ≡ lifted y → ⊥
      other e q = not-both (is_true (eq_z x y) (subst (λ (z : ℤ). T (eq_z x z)) (lift-one q) (eq_z-refl x))) e

      go : (b : Bool) → eq_z x y ≡ b → eq_z x y ≡ eqb (lifted x) (lifted y)
      go true e = e ∙ sym (eq-eqb (lifted x) (lifted y) (ap (λ (z : ℤ). lifted z) (eq_z→eq x y (of-true e))))
      go false e = e ∙ sym (ne_eqb (lifted x) (lifted y) (other e))

-- numbers compared digit by digit
lex : (m a b m' a' b' : ℕ) → a < span → b < span → a' < span → b' < span
    → ltb m m' || (eqb m m' && (ltb a a' || (eqb a a' && ltb b b'))) ≡ ltb ((m * span + a) * span + b) ((m' * span + a') * span + b')
lex m a b m' a' b' ha hb ha' hb' = go (dec_lt m m') (dec_lt m' m) (dec_lt a a') (dec_lt a' a) (dec_lt b b')
  where
    go : Dec (m < m') → Dec (m' < m) → Dec (a < a') → Dec (a' < a) → Dec (b < b')
        → ltb m m' || (eqb m m' && (ltb a a' || (eqb a a' && ltb b b'))) ≡ ltb ((m * span + a) * span + b) ((m' * span + a') * span + b')
    go (yes p) q r s t =
        ap (λ (z : Bool). z || (eqb m m' && (ltb a a' || (eqb a a' && ltb b b')))) (lt-ltb m m' p)
        ∙ sym (lt-ltb ((m * span + a) * span + b) ((m' * span + a') * span + b') (omega arith))
    go (no p) (yes q) r s t =
        let e₁ = le-ltb m m' (omega arith) in
        let e₂ = ne_eqb m m' (omega arith) in
        (λ i. e₁ i || (e₂ i && (ltb a a' || (eqb a a' && ltb b b')))) ∙ sym (le-ltb ((m * span + a) * span + b) ((m' * span + a') * span + b') (omega arith))
    go (no p) (no q) (yes r) s t =
        let e₁ = le-ltb m m' (omega arith) in
        let e₂ = eq-eqb m m' (omega arith) in
        let e₃ = lt-ltb a a' r in
        (λ i. e₁ i || (e₂ i && (e₃ i || (eqb a a' && ltb b b')))) ∙ sym (lt-ltb ((m * span + a) * span + b) ((m' * span + a') * span + b') (omega arith))
    go (no p) (no q) (no r) (yes s) t =
        let e₁ = le-ltb m m' (omega arith) in
        let e₂ = eq-eqb m m' (omega arith) in
        let e₃ = le-ltb a a' (omega arith) in
        let e₄ = ne_eqb a a' (omega arith) in
        (λ i. e₁ i || (e₂ i && (e₃ i || (e₄ i && ltb b b')))) ∙ sym (le-ltb ((m * span + a) * span + b) ((m' * span + a') * span + b') (omega arith))
    go (no p) (no q) (no r) (no s) (yes t) =
        let e₁ = le-ltb m m' (omega arith) in
        let e₂ = eq-eqb m m' (omega arith) in
        let e₃ = le-ltb a a' (omega arith) in
        let e₄ = eq-eqb a a' (omega arith) in
        let e₅ = lt-ltb b b' t in
        (λ i. e₁ i || (e₂ i && (e₃ i || (e₄ i && e₅ i)))) ∙ sym (lt-ltb ((m * span + a) * span + b) ((m' * span + a') * span + b') (omega arith))
    go (no p) (no q) (no r) (no s) (no t) =
        let e₁ = le-ltb m m' (omega arith) in
        let e₂ = eq-eqb m m' (omega arith) in
        let e₃ = le-ltb a a' (omega arith) in
        let e₄ = eq-eqb a a' (omega arith) in
        let e₅ = le-ltb b b' (omega arith) in
        (λ i. e₁ i || (e₂ i && (e₃ i || (e₄ i && e₅ i)))) ∙ sym (le-ltb ((m * span + a) * span + b) ((m' * span + a') * span + b') (omega arith))

module _ (p q : Point) (c : Close p) (d : Close q) where
  pub order-earlier : earlier p q ≡ ltb (order_of p) (order_of q)
  unfolding earlier order_of
  order-earlier =
      let e₁ = lift-lt p.a q.a c.a d.a in
      let e₂ = lift-eq p.a q.a c.a d.a in
      let e₃ = lift-lt p.b q.b c.b d.b in
      (λ i. ltb p.m.0 q.m.0 || (eqb p.m.0 q.m.0 && (e₁ i || (e₂ i && e₃ i))))
      ∙ lex p.m.0 (lifted p.a) (lifted p.b) q.m.0 (lifted q.a) (lifted q.b) (lift-below p.a c.a) (lift-below p.b c.b)
      (lift-below q.a d.a) (lift-below q.b d.b)

  pub order-one : order_of p ≡ order_of q → p ≡ q
  unfolding order_of
  order-one e =
      let h₁ = lift-below p.a c.a in
      let h₂ = lift-below p.b c.b in
      let h₃ = lift-below q.a d.a in
      let h₄ = lift-below q.b d.b in
      let em : p.m.0 ≡ q.m.0 = omega arith in
      let ea : p.a ≡ q.a = lift-one p.a q.a c.a d.a (omega arith) in
      let eb : p.b ≡ q.b = lift-one p.b q.b c.b d.b (omega arith) in
      λ i. pt (ea i) (eb i) (em i)

-- ---- and back
abbrev pub lowered : ℕ → ℤ
lowered x = pos (x % span) -ℤ pos middle

-- the point of an order
abbrev pub point_of : ℕ → Point
point_of n = pt (lowered (n / span)) (lowered n) (n / (span * span) % 256)

lift-back : (z : ℤ) → nat_abs z ≤ widest → (x : ℕ) → x % span ≡ lifted z → lowered x ≡ z
lift-back z h x e = eqℤ (lowered x) z (omega (arith, lift-is z h, minus_is (pos (x % span)) (pos middle)))

pub order-back : (p : Point) → Close p → point_of (order_of p) ≡ p
unfolding order_of
order-back p c =
    let h = lift-below p.a c.a in
    let l = lift-below p.b c.b in
    let top = c.m in
    let n = (p.m.0 * span + lifted p.a) * span + lifted p.b in
    let q : n / span ≡ p.m.0 * span + lifted p.a = omega arith in
    let r : (p.m.0 * span + lifted p.a) % span ≡ lifted p.a = omega arith in
    let a : n / span % span ≡ lifted p.a = ap (λ (x : ℕ). x % span) q ∙ r in
    let b : n % span ≡ lifted p.b = omega arith in
    let d : n / (span * span) ≡ p.m.0 = omega arith in
    let e : p.m.0 % 256 ≡ p.m.0 = omega arith in
    let m : n / (span * span) % 256 ≡ p.m.0 = ap (λ (x : ℕ). x % 256) d ∙ e in
    λ i. pt (lift-back p.a c.a (n / span) a i) (lift-back p.b c.b n b i) (m i)
