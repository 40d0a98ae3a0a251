-- A point's place in the plane, as whole numbers at one common depth: what laws on points are proved by.
-- Two normalised points with one place are one point (`unique`), and the place of a sum is the sum of the places (`sum-wide`, `sum-high`); so a law on
-- points is two linear equations of whole numbers. `normal-place`, `normal-low`, `normal-depth` normalising · `sum-assoc`, `sum_away` sums ·
-- `turn60-wide`, `turn60-high` turns.
-- Assumes nothing.
use Rattle.std.specs.Prelude.{◌≡◌, refl, Bool, true, false, cond, ◌&&◌, ℕ, zero, suc, ◌+◌, ◌%◌, ◌≤◌, ◌<◌, ◌-◌, ◌^◌, max, ℤ, neg_ℤ, pos, ◌+ℤ◌, ◌*ℤ◌, nat_abs, T}
use Rattle.std.proofs.Common.{sym, ◌∙◌, ap, subst, arith, eq-eqb, mul_comm, eqb→eq, lit<, pow-add}
use Rattle.std.proofs.Math.IntN.{+ℤ_assoc}
use Rattle.std.proofs.Math.Nat.{one-le-pow, pow-succ'}
use Rattle.std.specs.Int.Signed.{quot_z}
use Rattle.laws.specs.Bools.{and_left, and_right}
use Rattle.laws.specs.Linear.{‵, ◌⊕◌, ⊟, same}
use Rattle.laws.specs.Multiples.{mul-mul, add_times, cancel, thrice, third-mod, neg-times}
use Rattle.lattice.specs.Points.{pt, by3, normal_of, turn60_of, lift, sum_of}
use Rattle.lattice.specs.declared.points.Point.{Point}

-- ---- a point's place at depth D
abbrev pub wide : ℕ → Point → ℤ
wide D p = lift p.a p.m.0 D

abbrev pub high : ℕ → Point → ℤ
high D p = lift p.b p.m.0 D

third-lift : (x : ℤ) (m D : ℕ) → suc m ≤ D → nat_abs x % 3 ≡ 0 → lift (quot_z x (pos 3)) m D ≡ lift x (suc m) D
third-lift x m D h e =
    let n = D - suc m in
    let d : D - m ≡ suc n = omega arith in
    ap (λ (k : ℕ). quot_z x (pos 3) *ℤ pos k) (ap (λ (k : ℕ). 3 ^ k) d ∙ pow-succ' 3 n)
    ∙ sym (mul-mul (quot_z x (pos 3)) 3 (3 ^ n))
    ∙ ap (λ (z : ℤ). z *ℤ pos (3 ^ n)) (thrice x e)

both_zero : (x y : ℤ) → by3 x && by3 y ≡ true → (nat_abs x % 3 ≡ 0) × (nat_abs y % 3 ≡ 0)
both_zero x y e =
    let t : T (by3 x && by3 y) = subst T (sym e) tt in
    (eqb→eq (nat_abs x % 3) 0 (and_left (by3 x) (by3 y) t), eqb→eq (nat_abs y % 3) 0 (and_right (by3 x) (by3 y) t))

-- lowest terms keep the place
pub normal-place : (a b : ℤ) (m D : ℕ) → m ≤ D → (wide D (normal_of a b m) ≡ lift a m D) × (high D (normal_of a b m) ≡ lift b m D)
unfolding normal_of
normal-place a b zero D h = (refl, refl)
normal-place a b (suc m) D h =
    let r = normal-place (quot_z a (pos 3)) (quot_z b (pos 3)) m D (omega arith) in
    go (by3 a && by3 b) refl r
  where
    go : (t : Bool) → by3 a && by3 b ≡ t →
        (wide D (normal_of (quot_z a (pos 3)) (quot_z b (pos 3)) m) ≡ lift (quot_z a (pos 3)) m D)
        × (high D (normal_of (quot_z a (pos 3)) (quot_z b (pos 3)) m) ≡ lift (quot_z b (pos 3)) m D) →
        (wide D (cond t (normal_of (quot_z a (pos 3)) (quot_z b (pos 3)) m) (pt a b (suc m))) ≡ lift a (suc m) D)
        × (high D (cond t (normal_of (quot_z a (pos 3)) (quot_z b (pos 3)) m) (pt a b (suc m))) ≡ lift b (suc m) D)
    go true e r = let z = both_zero a b e in (r.0 ∙ third-lift a m D h z.0, r.1 ∙ third-lift b m D h z.1)
    go false e r = (refl, refl)

-- raised from depth m to d and then to D
pub lift-lift : (x : ℤ) (m d D : ℕ) → m ≤ d → d ≤ D → lift (lift x m d) d D ≡ lift x m D
lift-lift x m d D h k =
    let e : d - m + (D - d) ≡ D - m = omega arith in
    mul-mul x (3 ^ (d - m)) (3 ^ (D - d)) ∙ ap (λ (n : ℕ). x *ℤ pos n) (sym (pow-add 3 (d - m) (D - d)) ∙ ap (λ (n : ℕ). 3 ^ n) e)

-- the place of a sum is the sum of the places
pub sum-wide : (p q : Point) (D : ℕ) → p.m.0 ≤ D → q.m.0 ≤ D → wide D (sum_of p q) ≡ wide D p +ℤ wide D q
sum-wide p q D h k =
    let m = p.m.0 in
    let n = q.m.0 in
    let d = max m n in
    (normal-place (lift p.a m d +ℤ lift q.a n d) (lift p.b m d +ℤ lift q.b n d) d D (omega arith)).0
    ∙ add_times (lift p.a m d) (lift q.a n d) (3 ^ (D - d))
    ∙ (λ i. lift-lift p.a m d D (omega arith) (omega arith) i +ℤ lift-lift q.a n d D (omega arith) (omega arith) i)

pub sum-high : (p q : Point) (D : ℕ) → p.m.0 ≤ D → q.m.0 ≤ D → high D (sum_of p q) ≡ high D p +ℤ high D q
sum-high p q D h k =
    let m = p.m.0 in
    let n = q.m.0 in
    let d = max m n in
    (normal-place (lift p.a m d +ℤ lift q.a n d) (lift p.b m d +ℤ lift q.b n d) d D (omega arith)).1
    ∙ add_times (lift p.b m d) (lift q.b n d) (3 ^ (D - d))
    ∙ (λ i. lift-lift p.b m d D (omega arith) (omega arith) i +ℤ lift-lift q.b n d D (omega arith) (omega arith) i)

-- ---- a point in lowest terms is told by its place
pub record Low (p : Point) : Type 0 where
  pub low : 0 < p.m.0 → by3 p.a && by3 p.b ≡ false

pub pow-over : (k : ℕ) → 0 < 3 ^ k
pow-over k = one-le-pow k 3 (lit< tt)

-- a place at a lesser depth is a multiple of 3 at the greater
multiple : (x y : ℤ) (m n D : ℕ) → m < n → n ≤ D → lift x m D ≡ lift y n D → nat_abs y % 3 ≡ 0
multiple x y m n D h k e =
    let t = n - suc m in
    let d : n - m ≡ suc t = omega arith in
    let f : lift x m n ≡ y = cancel (lift x m n) y (3 ^ (D - n)) (pow-over (D - n)) (lift-lift x m n D (omega arith) k ∙ e) in
    let g : x *ℤ pos (3 ^ t) *ℤ pos 3 ≡ y = mul-mul x (3 ^ t) 3
    ∙ ap (λ (j : ℕ). x *ℤ pos j) (mul_comm (3 ^ t) 3 ∙ sym (pow-succ' 3 t) ∙ ap (λ (j : ℕ). 3 ^ j) (sym d)) ∙ f in
    subst (λ (z : ℤ). nat_abs z % 3 ≡ 0) g (third-mod (x *ℤ pos (3 ^ t)))

both-by3 : (x y : ℤ) → nat_abs x % 3 ≡ 0 → nat_abs y % 3 ≡ 0 → by3 x && by3 y ≡ true
both-by3 x y p q = simp (eq-eqb (nat_abs x % 3) 0 p, eq-eqb (nat_abs y % 3) 0 q)

not-deeper : (p q : Point) (D : ℕ) → q.m.0 ≤ D → Low q → wide D p ≡ wide D q → high D p ≡ high D q → p.m.0 < q.m.0 → ⊥
not-deeper p q D k l e f h =
    let z : true ≡ false =
    sym (both-by3 q.a q.b (multiple p.a q.a p.m.0 q.m.0 D h k e) (multiple p.b q.b p.m.0 q.m.0 D h k f))
    ∙ l.low (omega arith) in
    subst T z tt

pub unique : (p q : Point) (D : ℕ) → p.m.0 ≤ D → q.m.0 ≤ D → Low p → Low q → wide D p ≡ wide D q → high D p ≡ high D q → p ≡ q
unique p q D hp hq lp lq e f =
    let n₁ = not-deeper p q D hq lq e f in
    let n₂ = not-deeper q p D hp lp (sym e) (sym f) in
    let d : p.m.0 ≡ q.m.0 = omega (arith, not-lt p.m.0 q.m.0 n₁, not-lt q.m.0 p.m.0 n₂) in
    let e' : lift p.a q.m.0 D ≡ wide D q = ap (λ (n : ℕ). lift p.a n D) (sym d) ∙ e in
    let f' : lift p.b q.m.0 D ≡ high D q = ap (λ (n : ℕ). lift p.b n D) (sym d) ∙ f in
    let o = pow-over (D - q.m.0) in
    λ i. pt (cancel p.a q.a (3 ^ (D - q.m.0)) o e' i) (cancel p.b q.b (3 ^ (D - q.m.0)) o f' i) (d i)
  where
    not-lt : (m n : ℕ) → (m < n → ⊥) → n ≤ m
    not-lt m n h = omega arith

pub normal-low : (a b : ℤ) (m : ℕ) → Low (normal_of a b m)
unfolding normal_of
normal-low a b zero = record { low = λ h. absurd (omega arith) }
normal-low a b (suc m) = go (by3 a && by3 b) refl (normal-low (quot_z a (pos 3)) (quot_z b (pos 3)) m)
  where
    go : (t : Bool) → by3 a && by3 b ≡ t → Low (normal_of (quot_z a (pos 3)) (quot_z b (pos 3)) m)
        → Low (cond t (normal_of (quot_z a (pos 3)) (quot_z b (pos 3)) m) (pt a b (suc m)))
    go true e r = r
    go false e r = record { low = λ h. e }

pub normal-depth : (a b : ℤ) (m : ℕ) → (normal_of a b m).m.0 ≤ m
unfolding normal_of
normal-depth a b zero = omega arith
normal-depth a b (suc m) = go (by3 a && by3 b) (normal-depth (quot_z a (pos 3)) (quot_z b (pos 3)) m)
  where
    go : (t : Bool) → (normal_of (quot_z a (pos 3)) (quot_z b (pos 3)) m).m.0 ≤ m
        → (cond t (normal_of (quot_z a (pos 3)) (quot_z b (pos 3)) m) (pt a b (suc m))).m.0 ≤ suc m
    go true r = omega arith
    go false r = omega arith

-- ---- so a law on points is one on whole numbers: the sum is associative
pub sum-depth : (p q : Point) → (sum_of p q).m.0 ≤ max p.m.0 q.m.0
sum-depth p q = normal-depth _ _ (max p.m.0 q.m.0)

pub sum-assoc : (p q r : Point) → sum_of (sum_of p q) r ≡ sum_of p (sum_of q r)
sum-assoc p q r =
    let D = p.m.0 + q.m.0 + r.m.0 in
    let dpq = sum-depth p q in
    let dqr = sum-depth q r in
    let dl = sum-depth (sum_of p q) r in
    let dr = sum-depth p (sum_of q r) in
    unique (sum_of (sum_of p q) r) (sum_of p (sum_of q r)) D (omega arith) (omega arith) (normal-low _ _ _) (normal-low _ _ _)
    (sum-wide (sum_of p q) r D (omega arith) (omega arith)
    ∙ ap (λ (z : ℤ). z +ℤ wide D r) (sum-wide p q D (omega arith) (omega arith))
    ∙ +ℤ_assoc (wide D p) (wide D q) (wide D r)
    ∙ ap (λ (z : ℤ). wide D p +ℤ z) (sym (sum-wide q r D (omega arith) (omega arith)))
    ∙ sym (sum-wide p (sum_of q r) D (omega arith) (omega arith)))
    (sum-high (sum_of p q) r D (omega arith) (omega arith)
    ∙ ap (λ (z : ℤ). z +ℤ high D r) (sum-high p q D (omega arith) (omega arith))
    ∙ +ℤ_assoc (high D p) (high D q) (high D r)
    ∙ ap (λ (z : ℤ). high D p +ℤ z) (sym (sum-high q r D (omega arith) (omega arith)))
    ∙ sym (sum-high p (sum_of q r) D (omega arith) (omega arith)))

-- ---- turns act on places, and there and back is nowhere: the shape of a geometric law
pub turn60-wide : (p : Point) (D : ℕ) → wide D (turn60_of p) ≡ neg_ℤ (high D p)
turn60-wide p D = neg-times p.b (3 ^ (D - p.m.0))

pub turn60-high : (p : Point) (D : ℕ) → high D (turn60_of p) ≡ wide D p +ℤ high D p
turn60-high p D = add_times p.a p.b (3 ^ (D - p.m.0))

abbrev pub away : Point → Point
away p = pt (neg_ℤ p.a) (neg_ℤ p.b) p.m.0

pub sum_away : (v a : Point) → Low v → sum_of (sum_of v a) (away a) ≡ v
sum_away v a l =
    let D = v.m.0 + a.m.0 in
    let d₁ = sum-depth v a in
    let d₂ = sum-depth (sum_of v a) (away a) in
    let k = 3 ^ (D - a.m.0) in
    unique (sum_of (sum_of v a) (away a)) v D (omega arith) (omega arith) (normal-low _ _ _) l
    (sum-wide (sum_of v a) (away a) D (omega arith) (omega arith)
    ∙ (λ i. sum-wide v a D (omega arith) (omega arith) i +ℤ neg-times a.a k i)
    ∙ same (‵ (wide D v) ⊕ ‵ (wide D a) ⊕ ⊟ (‵ (wide D a))) (‵ (wide D v)) (omega arith))
    (sum-high (sum_of v a) (away a) D (omega arith) (omega arith)
    ∙ (λ i. sum-high v a D (omega arith) (omega arith) i +ℤ neg-times a.b k i)
    ∙ same (‵ (high D v) ⊕ ‵ (high D a) ⊕ ⊟ (‵ (high D a))) (‵ (high D v)) (omega arith))
