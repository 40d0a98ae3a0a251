-- Marks: one bit for each of many places, eight places a byte.
-- `marked_at` a place is marked · `Marks m P u` u marks what m does, and the places at which P passes: `marks-false`, `marks-same`, `marks-more` one
-- after the other, `with_bit`, `marks-with` one place ·
-- `marked-none` bytes of 0 mark nothing.
-- Assumes nothing.
use Rattle.std.specs.Prelude.{◌≡◌, refl, Bool, true, false, cond, ◌||◌, List, [], ◌∷◌, eqb, length, set, replicate}
use Rattle.std.proofs.Common.{sym, ap, ◌∙◌, subst, lit<, length-set, get_or-set_same, get_or-set_other}
use Rattle.std.proofs.Math.Bool.{or_assoc}
use Prim.Native.Nat.{ℕ, zero, suc, ◌+◌, ◌/◌, ◌%◌, ◌^◌, ◌<◌}
use native.Mathlib.Omega.{arith}
use Rattle.std.proofs.Math.Decide.{ℕ_discrete}
use Rattle.std.proofs.Math.Nat.{mod-lt, zero-div}
use borrow.Author.Tests.{eq-eqb, ne_eqb, eqb-false}
use Rattle.std.proofs.Math.ListN.{get_or}
use Rattle.laws.specs.Bits.{bit_of, bit-set}
use Rattle.laws.specs.Rules.{among}

unfoldable pub marked_at : List ℕ → ℕ → Bool
marked_at m i = eqb (bit_of (get_or m (i / 8) 0) (i % 8)) 1

-- a byte with bit k set, which it has or not
abbrev pub with_bit : ℕ → ℕ → ℕ
with_bit x k = cond (eqb (bit_of x k) 1) x (x + 2 ^ k)

-- u marks what m does, and the places at which P passes
pub record Marks (m : List ℕ) (P : ℕ → Bool) (u : List ℕ) : Type 0 where
  pub long : length u ≡ length m
  pub reads : (j : ℕ) → marked_at u j ≡ P j || marked_at m j

-- ---- one after the other

pub marks-false : (m : List ℕ) (P : ℕ → Bool) → ((i : ℕ) → P i ≡ false) → Marks m P m
marks-false m P h = record { long = refl; reads = λ j. sym (ap (λ (b : Bool). b || marked_at m j) (h j)) }

pub marks-same : (m u : List ℕ) (P Q : ℕ → Bool) → ((i : ℕ) → P i ≡ Q i) → Marks m P u → Marks m Q u
marks-same m u P Q h w = record { long = w.long; reads = λ j. w.reads j ∙ ap (λ (b : Bool). b || marked_at m j) (h j) }

-- one number more
pub marks-more : (m u w : List ℕ) (P : ℕ → ℕ → Bool) (k : ℕ) → Marks m (λ i. among k (λ j. P j i)) u → Marks u (P k) w
    → Marks m (λ i. among (k + 1) (λ j. P j i)) w
marks-more m u w P k a b = record {
  long = b.long ∙ a.long;
  reads = λ i. b.reads i ∙ ap (λ (x : Bool). P k i || x) (a.reads i) ∙ sym (or_assoc (P k i) (among k (λ j. P j i)) (marked_at m i))
      ∙ ap (λ (n : ℕ). among n (λ j. P j i) || marked_at m i) next;
}
  where
    next : suc k ≡ k + 1
    next = omega arith

-- ---- a bit set

marks-there : (m : List ℕ) (i : ℕ) → marked_at m i ≡ true → Marks m (eqb i) m
marks-there m i h = record { long = refl; reads = λ j. go j (ℕ_discrete i j) }
  where
    go : (j : ℕ) → Dec (i ≡ j) → marked_at m j ≡ eqb i j || marked_at m j
    go j (yes e) = sym (ap (marked_at m) e) ∙ h ∙ sym (ap (λ (b : Bool). b || marked_at m j) (eq-eqb i j e))
    go j (no e) = sym (ap (λ (b : Bool). b || marked_at m j) (ne_eqb i j e))

module _ (m : List ℕ) (i : ℕ) (clear : marked_at m i ≡ false) where
  mark-clear : bit_of (get_or m (i / 8) 0) (i % 8) ≡ 0
  unfolding marked_at
  mark-clear =
      let ne = eqb-false (bit_of (get_or m (i / 8) 0) (i % 8)) 1 clear in
      let l : bit_of (get_or m (i / 8) 0) (i % 8) < 2 = mod-lt (get_or m (i / 8) 0 / 2 ^ (i % 8)) (lit< tt) in
      omega arith

  read_back : i / 8 < length m → get_or m (i / 8) 0 < 256 → (j : ℕ) → marked_at (set m (i / 8) (get_or m (i / 8) 0 + 2 ^ (i % 8))) j ≡ eqb i j || marked_at m j
  unfolding marked_at
  read_back inside byte j = go (ℕ_discrete (j / 8) (i / 8)) (ℕ_discrete (j % 8) (i % 8))
    where
      x : ℕ
      x = get_or m (i / 8) 0

      u : List ℕ
      u = set m (i / 8) (x + 2 ^ (i % 8))

      bit : j / 8 ≡ i / 8 → bit_of (get_or u (j / 8) 0) (j % 8) ≡ cond (eqb (j % 8) (i % 8)) 1 (bit_of (get_or m (j / 8) 0) (j % 8))
      bit e =
          ap (λ (k : ℕ). bit_of (get_or u k 0) (j % 8)) e ∙ ap (λ (y : ℕ). bit_of y (j % 8)) (get_or-set_same m (i / 8) (x + 2 ^ (i % 8)) 0 inside)
          ∙ bit-set x byte (i % 8) (mod-lt i (lit< tt)) mark-clear (j % 8) (mod-lt j (lit< tt))
          ∙ ap (λ (k : ℕ). cond (eqb (j % 8) (i % 8)) 1 (bit_of (get_or m k 0) (j % 8))) (sym e)

      go : Dec (j / 8 ≡ i / 8) → Dec (j % 8 ≡ i % 8) → marked_at u j ≡ eqb i j || marked_at m j
      go (yes e) (yes f) =
          let same : i ≡ j = omega arith in
          ap (λ (y : ℕ). eqb y 1) (bit e ∙ ap (λ (b : Bool). cond b 1 (bit_of (get_or m (j / 8) 0) (j % 8))) (eq-eqb (j % 8) (i % 8) f))
          ∙ sym (ap (λ (b : Bool). b || marked_at m j) (eq-eqb i j same))
      go (yes e) (no f) =
          let other : i ≡ j → ⊥ = λ q. f (ap (λ (k : ℕ). k % 8) (sym q)) in
          ap (λ (y : ℕ). eqb y 1) (bit e ∙ ap (λ (b : Bool). cond b 1 (bit_of (get_or m (j / 8) 0) (j % 8))) (ne_eqb (j % 8) (i % 8) f))
          ∙ sym (ap (λ (b : Bool). b || marked_at m j) (ne_eqb i j other))
      go (no e) f =
          let other : i ≡ j → ⊥ = λ q. e (ap (λ (k : ℕ). k / 8) (sym q)) in
          ap (λ (y : ℕ). eqb (bit_of y (j % 8)) 1) (get_or-set_other m (i / 8) (j / 8) (x + 2 ^ (i % 8)) 0 e)
          ∙ sym (ap (λ (b : Bool). b || marked_at m j) (ne_eqb i j other))

  marks-set : i / 8 < length m → get_or m (i / 8) 0 < 256 → Marks m (eqb i) (set m (i / 8) (get_or m (i / 8) 0 + 2 ^ (i % 8)))
  marks-set inside byte = record { long = length-set m (i / 8) (get_or m (i / 8) 0 + 2 ^ (i % 8)); reads = λ j. read_back inside byte j }

set_self : (m : List ℕ) (i : ℕ) → set m i (get_or m i 0) ≡ m
set_self [] i = refl
set_self (x ∷ m) zero = refl
set_self (x ∷ m) (suc i) = ap (λ (l : List ℕ). x ∷ l) (set_self m i)

-- the place was marked already, or its bit is added
pub marks-with : (m : List ℕ) (i : ℕ) → i / 8 < length m → get_or m (i / 8) 0 < 256 → Marks m (eqb i) (set m (i / 8) (with_bit (get_or m (i / 8) 0) (i % 8)))
unfolding marked_at
marks-with m i inside byte = go (marked_at m i) refl
  where
    go : (b : Bool) → marked_at m i ≡ b → Marks m (eqb i) (set m (i / 8) (with_bit (get_or m (i / 8) 0) (i % 8)))
    go true e =
        subst (Marks m (eqb i)) (sym (ap (λ (b : Bool). set m (i / 8) (cond b (get_or m (i / 8) 0) (get_or m (i / 8) 0 + 2 ^ (i % 8)))) e ∙ set_self m (i / 8)))
        (marks-there m i e)
    go false e =
        subst (Marks m (eqb i)) (sym (ap (λ (b : Bool). set m (i / 8) (cond b (get_or m (i / 8) 0) (get_or m (i / 8) 0 + 2 ^ (i % 8)))) e))
        (marks-set m i e inside byte)

-- ---- nothing marked

zeros : (n i : ℕ) → ◌≡◌ {A = ℕ} (get_or (replicate n 0) i 0) 0
zeros zero i = refl
zeros (suc n) zero = refl
zeros (suc n) (suc i) = zeros n i

pub marked-none : (n i : ℕ) → marked_at (replicate n 0) i ≡ false
unfolding marked_at
marked-none n i = ap (λ (x : ℕ). eqb (bit_of x (i % 8)) 1) (zeros n (i / 8)) ∙ ap (λ (x : ℕ). eqb (x % 2) 1) (zero-div (2 ^ (i % 8)))
