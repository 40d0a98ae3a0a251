-- Truth values again: a disjunction, and what a test is when it passes or fails.
-- `or_split`, `or_left`, `or_right` · `is_true`, `is_false`, `of-true` a test as an equation · `apart` it is not both ·
-- `when_true_lem`, `when_false` a conditional · `unless` a refusal.
-- Assumes nothing.
use Rattle.std.specs.Prelude.{◌≡◌, refl, ◌⊎◌, Bool, true, false, cond, ◌||◌, T}
use Rattle.std.proofs.Common.{sym, subst, inl, inr}

pub or_split : (s t : Bool) → T (s || t) → T s ⊎ T t
or_split true t h = inl tt
or_split false t h = inr h

pub or_left : (s t : Bool) → T s → T (s || t)
or_left true t h = tt
or_left false t h = absurd h

pub or_right : (s t : Bool) → T t → T (s || t)
or_right true t h = tt
or_right false t h = h

pub is_true : (b : Bool) → T b → b ≡ true
is_true true h = refl
is_true false h = absurd h

pub is_false : (b : Bool) → (T b → ⊥) → b ≡ false
is_false true h = absurd (h tt)
is_false false h = refl

pub of-true : {b : Bool} → b ≡ true → T b
of-true e = subst T (sym e) tt

pub apart : {b : Bool} → T b → b ≡ false → ⊥
apart t e = subst T e t

pub when_true_lem : {A : Type 0} (b : Bool) (x y : A) → T b → cond b x y ≡ x
when_true_lem true x y h = refl
when_true_lem false x y h = absurd h

pub when_false : {A : Type 0} (b : Bool) (x y : A) → (T b → ⊥) → cond b x y ≡ y
when_false true x y h = absurd (h tt)
when_false false x y h = refl

-- refusals one under the other, in the order of their numbers: where the test fails this answer, else what stands below
abbrev pub unless : {A : Type 0} → Bool → A → A → A
unless passed refusal rest = cond passed rest refusal
