-- The findings of a list that pass a test, and the lines of several. `keep_join`, `texts-join` two lists one after the other · `keep_one`, `keep-none`,
-- `texts-one` one finding more · `mem-keep`, `keep-mem` what passes · `keep-rising` what passes rises as all do.
-- Assumes nothing.
use Rattle.std.specs.Prelude.{◌≡◌, ◌⊎◌, Bool, ℕ}
use Rattle.std.proofs.Math.Path.{refl, sym, ap}
use Rattle.std.proofs.Common.{◌∙◌, inl, inr}
use Rattle.std.proofs.Math.Bool.{true, false, cond}
use mathlib.Core.List.Memᴰ
use mathlib.Core.List.{List, [], ◌∷◌, ◌++◌, append_assoc, append-nil, Memᴰ}
use Rattle.laws.specs.Each.{not-both}
use Rattle.sorting.specs.SortLaws.{Rising}
use Rattle.findings.specs.Findings.{keep, texts}
use Rattle.findings.specs.declared.line.Finding.{Finding}

module _ (test : Finding → Bool) where
  pub keep_join : (xs ys : List Finding) → keep test (xs ++ ys) ≡ keep test xs ++ keep test ys
  unfolding keep
  keep_join [] ys = refl
  keep_join (x ∷ xs) ys = go (test x) (keep_join xs ys)
    where
      go : (b : Bool) → keep test (xs ++ ys) ≡ keep test xs ++ keep test ys
          → cond b (x ∷ keep test (xs ++ ys)) (keep test (xs ++ ys)) ≡ cond b (x ∷ keep test xs) (keep test xs) ++ keep test ys
      go true e = ap (λ (l : List Finding). x ∷ l) e
      go false e = e

  -- one finding more, which passes or does not
  pub keep_one : (xs : List Finding) (f : Finding) → test f ≡ true → keep test (xs ++ f ∷ []) ≡ keep test xs ++ f ∷ []
  unfolding keep
  keep_one xs f e = keep_join xs (f ∷ []) ∙ ap (λ (b : Bool). keep test xs ++ cond b (f ∷ []) []) e

  pub keep-none : (xs : List Finding) (f : Finding) → test f ≡ false → keep test (xs ++ f ∷ []) ≡ keep test xs
  unfolding keep
  keep-none xs f e = keep_join xs (f ∷ []) ∙ ap (λ (b : Bool). keep test xs ++ cond b (f ∷ []) []) e ∙ append-nil (keep test xs)

  pub mem-keep : (fs : List Finding) (f : Finding) → Memᴰ f (keep test fs) → Memᴰ f fs × (test f ≡ true)
  unfolding keep
  mem-keep [] f m = absurd (Memᴰ.not-nil m)
  mem-keep (g ∷ fs) f m = go (test g) refl m (λ k. mem-keep fs f k)
    where
      later : Memᴰ f fs × (test f ≡ true) → Memᴰ f (g ∷ fs) × (test f ≡ true)
      later w = (Memᴰ.tail w.0, w.1)

      first : test g ≡ true → (f ≡ g) ⊎ Memᴰ f (keep test fs) → (Memᴰ f (keep test fs) → Memᴰ f fs × (test f ≡ true))
          → Memᴰ f (g ∷ fs) × (test f ≡ true)
      first e (inl h) ih = (Memᴰ.head h, ap test h ∙ e)
      first e (inr k) ih = later (ih k)

      go : (b : Bool) → test g ≡ b → Memᴰ f (cond b (g ∷ keep test fs) (keep test fs))
          → (Memᴰ f (keep test fs) → Memᴰ f fs × (test f ≡ true)) → Memᴰ f (g ∷ fs) × (test f ≡ true)
      go true e k ih = first e (Memᴰ.cases_cons k) ih
      go false e k ih = later (ih k)

  pub keep-mem : (fs : List Finding) (f : Finding) → Memᴰ f fs → test f ≡ true → Memᴰ f (keep test fs)
  unfolding keep
  keep-mem [] f m h = absurd (Memᴰ.not-nil m)
  keep-mem (g ∷ fs) f m h = go (test g) refl (Memᴰ.cases_cons m) (λ k. keep-mem fs f k h)
    where
      go : (b : Bool) → test g ≡ b → (f ≡ g) ⊎ Memᴰ f fs → (Memᴰ f fs → Memᴰ f (keep test fs))
          → Memᴰ f (cond b (g ∷ keep test fs) (keep test fs))
      go true e (inl k) ih = Memᴰ.head k
      go true e (inr k) ih = Memᴰ.tail (ih k)
      go false e (inl k) ih = absurd (not-both (sym (ap test k) ∙ h) e)
      go false e (inr k) ih = ih k

  pub keep-rising : (R : Finding → Finding → Type 0) (fs : List Finding) → Rising R fs → Rising R (keep test fs)
  unfolding keep
  keep-rising R [] r = tt
  keep-rising R (f ∷ fs) r = go (test f) (keep-rising R fs r.1)
    where
      go : (b : Bool) → Rising R (keep test fs) → Rising R (cond b (f ∷ keep test fs) (keep test fs))
      go true ih = (λ g m. r.0 g (mem-keep fs g m).0, ih)
      go false ih = ih

module _ (text : Finding → List ℕ) where
  pub texts-join : (xs ys : List Finding) → texts text (xs ++ ys) ≡ texts text xs ++ texts text ys
  unfolding texts
  texts-join [] ys = refl
  texts-join (x ∷ xs) ys = ap (λ (l : List ℕ). text x ++ l) (texts-join xs ys) ∙ sym (append_assoc (text x) (texts text xs) (texts text ys))

  pub texts-one : (xs : List Finding) (f : Finding) → texts text (xs ++ f ∷ []) ≡ texts text xs ++ text f
  unfolding texts
  texts-one xs f = texts-join xs (f ∷ []) ∙ ap (λ (l : List ℕ). texts text xs ++ l) (append-nil (text f))
