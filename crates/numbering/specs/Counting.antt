-- How many elements of a list pass a test: `many-append`, `many-same`, `many_more` by the tests · `many-fewer` not more than there are, fewer where one
-- fails · `many-sort` in any order · `many-rank` how many are below x, where a list rises.
-- Assumes nothing.
use Rattle.std.specs.Prelude.{◌≡◌, ◌⊎◌, Bool, cond, ltb}
use Rattle.std.proofs.Math.Path.{refl, ap}
use Rattle.std.proofs.Common.{sym, ◌∙◌, inl, inr, lt-ltb, le-ltb}
use Rattle.std.proofs.Math.Bool.{true, false}
use mathlib.Core.List.Memᴰ
use mathlib.Core.List.{List, [], ◌∷◌, ◌++◌, Memᴰ}
use Prim.Native.Nat.{ℕ, zero, suc, ◌+◌, ◌≤◌, ◌<◌}
use native.Mathlib.Omega.{arith}
use Rattle.std.proofs.Math.ListN.{length}
use Rattle.laws.specs.Each.{never}
use Rattle.firsts.specs.Faces.{bit}
use Rattle.sorting.specs.Sorting.{insert_by, sort_by}
use Rattle.sorting.specs.Tally.{nth}
use Rattle.numbering.specs.Numbering.{how_many}

bit-small : (b : Bool) → bit b ≤ 1
bit-small true = omega arith
bit-small false = omega arith

step : (b c : Bool) → (b ≡ true → c ≡ true) → bit b ≤ bit c
step true true h = omega arith
step true false h = absurd (never (h refl))
step false true h = omega arith
step false false h = omega arith

module _ {A : Type 0} where
  pub many-append : (f : A → Bool) (xs ys : List A) → how_many f (xs ++ ys) ≡ how_many f xs + how_many f ys
  unfolding how_many
  many-append f [] ys = omega arith
  many-append f (x ∷ xs) ys = let a = many-append f xs ys in omega arith

  pub many-same : (f g : A → Bool) (xs : List A) → ((x : A) → Memᴰ x xs → f x ≡ g x) → how_many f xs ≡ how_many g xs
  unfolding how_many
  many-same f g [] h = refl
  many-same f g (x ∷ xs) h =
      let a = many-same f g xs (λ y m. h y (Memᴰ.tail m)) in
      let b : bit (f x) ≡ bit (g x) = ap bit (h x (Memᴰ.head refl)) in
      omega arith

  pub many_more : (f g : A → Bool) (xs : List A) → ((x : A) → f x ≡ true → g x ≡ true) → how_many f xs ≤ how_many g xs
  unfolding how_many
  many_more f g [] h = omega arith
  many_more f g (x ∷ xs) h = let a = many_more f g xs h in let b = step (f x) (g x) (h x) in omega arith

  pub many-most : (f : A → Bool) (xs : List A) → how_many f xs ≤ length xs
  unfolding how_many
  many-most f [] = omega arith
  many-most f (x ∷ xs) = let a = many-most f xs in let b = bit-small (f x) in omega arith

  pub many-fewer : (f : A → Bool) (xs : List A) (x : A) → Memᴰ x xs → f x ≡ false → how_many f xs < length xs
  unfolding how_many
  many-fewer f [] x m e = absurd (Memᴰ.not-nil m)
  many-fewer f (y ∷ ys) x m e = go (Memᴰ.cases_cons m) (λ k. many-fewer f ys x k e)
    where
      go : (x ≡ y) ⊎ Memᴰ x ys → (Memᴰ x ys → how_many f ys < length ys) → bit (f y) + how_many f ys < suc (length ys)
      go (inl q) ih = let a : bit (f y) ≡ 0 = ap bit (ap f (sym q) ∙ e) in let b = many-most f ys in omega arith
      go (inr k) ih = let a = ih k in let b = bit-small (f y) in omega arith

  pub many-insert : (f : A → Bool) (lt : A → A → Bool) (x : A) (ys : List A) → how_many f (insert_by lt x ys) ≡ bit (f x) + how_many f ys
  unfolding how_many insert_by
  many-insert f lt x [] = refl
  many-insert f lt x (y ∷ ys) = go (lt x y) (many-insert f lt x ys)
    where
      go : (b : Bool) → how_many f (insert_by lt x ys) ≡ bit (f x) + how_many f ys
          → how_many f (cond b (x ∷ y ∷ ys) (y ∷ insert_by lt x ys)) ≡ bit (f x) + (bit (f y) + how_many f ys)
      go true e = refl
      go false e = omega arith

  pub many-sort : (f : A → Bool) (lt : A → A → Bool) (xs : List A) → how_many f (sort_by lt xs) ≡ how_many f xs
  unfolding how_many sort_by
  many-sort f lt [] = refl
  many-sort f lt (x ∷ xs) = let a = many-insert f lt x (sort_by lt xs) in let b = many-sort f lt xs in omega arith

-- how many numbers of a list are below x, where those before place j are, and those from it on are not
pub many-rank : (x : ℕ) (vs : List ℕ) (j : ℕ) → j ≤ length vs → ((i : ℕ) → i < j → nth vs i < x) → ((i : ℕ) → j ≤ i → i < length vs → x ≤ nth vs i)
    → how_many (λ v. ltb v x) vs ≡ j
unfolding how_many
many-rank x [] j h low high = omega arith
many-rank x (v ∷ vs) zero h low high =
    let a = many-rank x vs 0 (omega arith) (λ i l. absurd (omega arith)) (λ i l m. high (suc i) (omega arith) (omega arith)) in
    let b : bit (ltb v x) ≡ 0 = ap bit (le-ltb v x (high 0 (omega arith) (omega arith))) in
    omega arith
many-rank x (v ∷ vs) (suc j) h low high =
    let a = many-rank x vs j (omega arith) (λ i l. low (suc i) (omega arith)) (λ i l m. high (suc i) (omega arith) (omega arith)) in
    let b : bit (ltb v x) ≡ 1 = ap bit (lt-ltb v x (low 0 (omega arith))) in
    omega arith
