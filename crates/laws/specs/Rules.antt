-- A rule that holds at each number below n, by one test that antt computes: `rule n f tt k h`. A `Test` computes (`run`) and says what it tests (`Means`).
-- `upto`, `upto-at` a plain truth value at each number below n, `among` at one of them · `Test`, `run`, `Means`, `sound`, `complete`, `rule` ·
-- `eq_z` equality of whole numbers as a test.
-- Assumes nothing.
use Rattle.std.specs.Prelude.{◌≡◌, Bool, true, false, ◌&&◌, not, ◌||◌, ℕ, zero, suc, ◌≤◌, ◌<◌, eqb, leb, T, ℤ, pos, negsuc}
use Rattle.std.proofs.Common.{sym, subst, arith, eqb→eq, leb→le, le→leb}
use Rattle.std.proofs.Math.Decide.{ℕ_discrete}
use Rattle.std.proofs.Math.Dec.{eqb_refl}
use Rattle.laws.specs.Bools.{and_left, and_right, and_both, then-of, of-then}

-- the test passes at each number below n
abbrev pub upto : ℕ → (ℕ → Bool) → Bool
upto zero f = true
upto (suc n) f = f n && upto n f

-- the test passes at a number below n
abbrev pub among : ℕ → (ℕ → Bool) → Bool
among zero f = false
among (suc n) f = f n || among n f

pub upto-at : (n : ℕ) (f : ℕ → Bool) → T (upto n f) → (k : ℕ) → k < n → T (f k)
upto-at zero f t k h = absurd (omega arith)
upto-at (suc n) f t k h = last (ℕ_discrete k n) (λ l. upto-at n f (and_right (f n) (upto n f) t) k l)
  where
    last : Dec (k ≡ n) → (k < n → T (f k)) → T (f k)
    last (yes e) r = subst (λ (m : ℕ). T (f m)) (sym e) (and_left (f n) (upto n f) t)
    last (no e) r = r (omega arith)

-- two whole numbers are equal, as a test
abbrev pub eq_z : ℤ → ℤ → Bool
eq_z (pos a) (pos b) = eqb a b
eq_z (pos a) (negsuc b) = false
eq_z (negsuc a) (pos b) = false
eq_z (negsuc a) (negsuc b) = eqb a b

pub eq_z→eq : (x y : ℤ) → T (eq_z x y) → x ≡ y
eq_z→eq (pos a) (pos b) t = λ i. pos (eqb→eq a b t i)
eq_z→eq (pos a) (negsuc b) t = absurd t
eq_z→eq (negsuc a) (pos b) t = absurd t
eq_z→eq (negsuc a) (negsuc b) t = λ i. negsuc (eqb→eq a b t i)

-- ---- tests that say what they test: `run` computes, and `Means` is the fact
infix 50 ◌≤?◌ ◌≡?◌ ◌≡ᶻ?◌
infixr 30 ◌&◌
infixr 20 ◌⇒◌
pub data Test : Type 0 where
  ◌≤?◌ ◌≡?◌ : ℕ → ℕ → Test
  ◌≡ᶻ?◌ : ℤ → ℤ → Test
  ◌&◌ ◌⇒◌ : Test → Test → Test

abbrev pub run : Test → Bool
run (m ≤? n) = leb m n
run (m ≡? n) = eqb m n
run (x ≡ᶻ? y) = eq_z x y
run (s & t) = run s && run t
run (s ⇒ t) = not (run s) || run t

abbrev pub Means : Test → Type 0
Means (m ≤? n) = m ≤ n
Means (m ≡? n) = m ≡ n
Means (x ≡ᶻ? y) = x ≡ y
Means (s & t) = Means s × Means t
Means (s ⇒ t) = Means s → Means t

pub eq_z-refl : (x : ℤ) → T (eq_z x x)
eq_z-refl (pos a) = eqb_refl a
eq_z-refl (negsuc a) = eqb_refl a

mutual
  pub sound : (t : Test) → T (run t) → Means t
  sound (m ≤? n) h = leb→le m n h
  sound (m ≡? n) h = eqb→eq m n h
  sound (x ≡ᶻ? y) h = eq_z→eq x y h
  sound (s & t) h = (sound s (and_left (run s) (run t) h), sound t (and_right (run s) (run t) h))
  sound (s ⇒ t) h = λ k. sound t (then-of (run s) (run t) h (complete s k))

  pub complete : (t : Test) → Means t → T (run t)
  complete (m ≤? n) h = le→leb m n h
  complete (m ≡? n) h = subst (λ (k : ℕ). T (eqb m k)) h (eqb_refl m)
  complete (x ≡ᶻ? y) h = subst (λ (z : ℤ). T (eq_z x z)) h (eq_z-refl x)
  complete (s & t) h = and_both (run s) (run t) (complete s h.0) (complete t h.1)
  complete (s ⇒ t) h = of-then (run s) (run t) (λ k. complete t (h (sound s k)))

-- what a test says at each number below n, where antt finds it so: `rule n f tt k h`
pub rule : (n : ℕ) (f : ℕ → Test) → T (upto n (λ k. run (f k))) → (k : ℕ) → k < n → Means (f k)
rule n f t k h = sound (f k) (upto-at n (λ k. run (f k)) t k h)

-- the same at each pair of numbers below m and n
pub rule2 : (m n : ℕ) (f : ℕ → ℕ → Test) → T (upto m (λ j. upto n (λ k. run (f j k)))) → (j : ℕ) → j < m → (k : ℕ) → k < n → Means (f j k)
rule2 m n f t j g k h = rule n (f j) (upto-at m (λ j. upto n (λ k. run (f j k))) t j g) k h
