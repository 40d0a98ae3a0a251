-- A test of each number below n, or of one of them, as an equation of truth values: `upto` and `among` of Rules.
-- `upto-more`, `upto-fails` a loop's one step · `upto-each`, `each-upto` what it says · `among-more`, `among-at`, `at-among`, `among_none` the same of `among`
-- · `both_left`, `both_right`, `and-false` conjunctions · `not-both`, `never` true is not false · `same_test` two tests that pass together are one.
-- Assumes nothing.
use Rattle.std.specs.Prelude.{◌≡◌, refl, Bool, true, false, ◌&&◌, ◌||◌, ℕ, zero, suc, ◌+◌, ◌<◌}
use Rattle.std.proofs.Common.{sym, ◌∙◌, ap, arith}
use Rattle.std.proofs.Math.Decide.{dec_lt}
use Rattle.laws.specs.Rules.{upto, among}

pub not-both : {b : Bool} → b ≡ true → b ≡ false → ⊥
not-both h k = let q : ◌≡◌ {A = ℕ} 0 1 = cc in omega arith

pub never : false ≡ true → ⊥
never h = not-both h refl

pub both_left : (a b : Bool) → a && b ≡ true → a ≡ true
both_left true b h = refl
both_left false b h = h

pub both_right : (a b : Bool) → a && b ≡ true → b ≡ true
both_right true b h = h
both_right false b h = absurd (not-both h refl)

pub and-false : (b : Bool) → b && false ≡ false
and-false true = refl
and-false false = refl

pub upto-more : (P : ℕ → Bool) (i : ℕ) → upto i P ≡ true → P i ≡ true → upto (i + 1) P ≡ true
upto-more P i a b = let e : i + 1 ≡ suc i = omega arith in ap (λ (k : ℕ). upto k P) e ∙ rw (a, b)

pub upto-fails : (P : ℕ → Bool) (i n : ℕ) → i < n → P i ≡ false → upto n P ≡ false
upto-fails P i zero h e = absurd (omega arith)
upto-fails P i (suc n) h e = go (λ l. upto-fails P i n l e) (dec_lt i n)
  where
    go : (i < n → upto n P ≡ false) → Dec (i < n) → P n && upto n P ≡ false
    go ih (yes l) = rw (ih l) (and-false (P n))
    go ih (no l) = let q : n ≡ i = omega arith in ap (λ (k : ℕ). P k && upto n P) q ∙ ap (λ (b : Bool). b && upto n P) e

pub upto-each : (P : ℕ → Bool) (n i : ℕ) → upto n P ≡ true → i < n → P i ≡ true
upto-each P zero i a h = absurd (omega arith)
upto-each P (suc n) i a h = go (λ l. upto-each P n i (both_right (P n) (upto n P) a) l) (dec_lt i n)
  where
    go : (i < n → P i ≡ true) → Dec (i < n) → P i ≡ true
    go ih (yes l) = ih l
    go ih (no l) = let q : i ≡ n = omega arith in ap P q ∙ both_left (P n) (upto n P) a

pub each-upto : (P : ℕ → Bool) (n : ℕ) → ((i : ℕ) → i < n → P i ≡ true) → upto n P ≡ true
each-upto P zero h = refl
each-upto P (suc n) h =
    let a = each-upto P n (λ i l. h i (omega arith)) in
    let b : n < suc n = omega arith in
    ap (λ (x : Bool). x && upto n P) (h n b) ∙ a

-- a number at which the test passes, and back
pub among-at : (P : ℕ → Bool) (n : ℕ) → among n P ≡ true → (i : ℕ) × (i < n) × (P i ≡ true)
among-at P zero h = absurd (not-both h refl)
among-at P (suc n) h = go (P n) refl h (λ k. among-at P n k)
  where
    go : (b : Bool) → P n ≡ b → b || among n P ≡ true → (among n P ≡ true → (i : ℕ) × (i < n) × (P i ≡ true)) → (i : ℕ) × (i < suc n) × (P i ≡ true)
    go true e k ih = (n, omega arith, e)
    go false e k ih = let x = ih k in (x.0, omega (arith, x.1), x.2)

pub at-among : (P : ℕ → Bool) (n i : ℕ) → i < n → P i ≡ true → among n P ≡ true
at-among P zero i h e = absurd (omega arith)
at-among P (suc n) i h e = go (P n) refl (λ l. at-among P n i l e)
  where
    go : (b : Bool) → P n ≡ b → (i < n → among n P ≡ true) → b || among n P ≡ true
    go true f ih = refl
    go false f ih = ih (last (dec_lt i n))
      where
        last : Dec (i < n) → i < n
        last (yes l) = l
        last (no l) = let q : n ≡ i = omega arith in absurd (not-both (ap P q ∙ e) f)

-- two tests that pass together are one
pub same_test : (a b : Bool) → (a ≡ true → b ≡ true) → (b ≡ true → a ≡ true) → a ≡ b
same_test true b f g = sym (f refl)
same_test false true f g = g refl
same_test false false f g = refl

-- none of them, and a loop's one step
pub among_none : (P : ℕ → Bool) (n : ℕ) → ((i : ℕ) → i < n → P i ≡ false) → among n P ≡ false
among_none P zero h = refl
among_none P (suc n) h = let l : n < suc n = omega arith in (λ i. h n l i || among n P) ∙ among_none P n (λ i m. h i (omega arith))

pub among-more : (P : ℕ → Bool) (i : ℕ) → among i P ≡ false → P i ≡ false → among (i + 1) P ≡ false
among-more P i a b = let e : i + 1 ≡ suc i = omega arith in ap (λ (k : ℕ). among k P) e ∙ (λ z. b z || a z)
