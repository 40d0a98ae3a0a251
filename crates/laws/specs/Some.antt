-- A test that passes at some element of a list: `some_of` · `some-append` of two lists · `some_at`, `at_some`, `none-at`, `at_none` what it says.
-- Assumes nothing.
use Rattle.std.specs.Prelude.{◌≡◌, refl, ◌⊎◌, Bool, true, false, ◌||◌}
use Rattle.std.proofs.Common.{sym, ap, ◌∙◌, inl, inr}
use Rattle.std.proofs.Math.Bool.{or_assoc}
use mathlib.Core.List.Memᴰ
use mathlib.Core.List.{List, [], ◌∷◌, ◌++◌, Memᴰ}
use Rattle.laws.specs.Each.{not-both}

abbrev pub some_of : {A : Type 0} → (A → Bool) → List A → Bool
some_of f [] = false
some_of f (x ∷ xs) = f x || some_of f xs

module _ {A : Type 0} (f : A → Bool) where
  pub some-append : (xs ys : List A) → some_of f (xs ++ ys) ≡ some_of f xs || some_of f ys
  some-append [] ys = refl
  some-append (x ∷ xs) ys = ap (λ (b : Bool). f x || b) (some-append xs ys) ∙ sym (or_assoc (f x) (some_of f xs) (some_of f ys))

  -- the element at which it passes
  abbrev Passes : List A → Type 0
  Passes xs = (x : A) × Memᴰ x xs × (f x ≡ true)

  pub some_at : (xs : List A) → some_of f xs ≡ true → Passes xs
  some_at [] e = absurd (not-both e refl)
  some_at (y ∷ ys) e = go (f y) refl e (some_at ys)
    where
      go : (b : Bool) → f y ≡ b → b || some_of f ys ≡ true → (some_of f ys ≡ true → Passes ys) → Passes (y ∷ ys)
      go true h k ih = (y, Memᴰ.head refl, h)
      go false h k ih = let (x, m, t) = ih k in (x, Memᴰ.tail m, t)

  pub at_some : (xs : List A) (x : A) → Memᴰ x xs → f x ≡ true → some_of f xs ≡ true
  at_some [] x m e = absurd (Memᴰ.not-nil m)
  at_some (y ∷ ys) x m e = go (f y) refl (Memᴰ.cases_cons m) (λ k. at_some ys x k e)
    where
      go : (b : Bool) → f y ≡ b → (x ≡ y) ⊎ Memᴰ x ys → (Memᴰ x ys → some_of f ys ≡ true) → b || some_of f ys ≡ true
      go true h w ih = refl
      go false h (inl k) ih = absurd (not-both (sym (ap f k) ∙ e) h)
      go false h (inr k) ih = ih k

  pub none-at : (xs : List A) (x : A) → some_of f xs ≡ false → Memᴰ x xs → f x ≡ false
  none-at xs x e m = go (f x) refl
    where
      go : (b : Bool) → f x ≡ b → f x ≡ false
      go false h = h
      go true h = absurd (not-both (at_some xs x m h) e)

  pub at_none : (xs : List A) → ((x : A) → Memᴰ x xs → f x ≡ false) → some_of f xs ≡ false
  at_none xs h = go (some_of f xs) refl
    where
      go : (b : Bool) → some_of f xs ≡ b → some_of f xs ≡ false
      go false e = e
      go true e = let (x, m, t) = some_at xs e in absurd (not-both t (h x m))
