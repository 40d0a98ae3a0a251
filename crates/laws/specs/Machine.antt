-- What the machine computes on signed integers, against what is meant. A local holds bits: an operation reads its operands through `to_z w` and writes
-- its result through `of_z w`.
-- `Mx w` is an expression as the code has it, each leaf with what is known of its size; `run` is its bits, `ideal` the whole number that is meant, and
-- `fine` a test that antt computes: by the leaves' bounds no step leaves the range. Where it passes (`tt`), `back` says that the two agree, `need` that
-- the last step fits, `lt-taken` and its kin what a branch tells, `asked` what a callee answers on a parameter that is handed on.
-- Assumes nothing.
use Rattle.std.specs.Prelude.{◌≡◌, refl, Bool, true, false, ◌&&◌, ℕ, ◌+◌, ◌*◌, ◌≤◌, ◌<◌, ◌^◌, ltb, T, ℤ, pos, negsuc, ◌+ℤ◌, ◌*ℤ◌, nat_abs, ◌-ℤ◌}
use Rattle.std.proofs.Common.{sym, ◌∙◌, subst, ap, arith, ltb→lt, le_trans, lt_of_le_of_lt, mul-le-mul, add-le-add, div-le_self}
use Rattle.std.specs.Int.Signed.{quot_z, rem_z, lt_z, non_neg}
use Rattle.std.proofs.Math.Nat.{mod-le}
use mir.Val.{SFits, to_z, of_z, hbits, Fits, bits}
use Rattle.std.proofs.lemmas.Int.{to_z-of_z, to_z_pos}
use Rattle.std.specs.Int.{Width}
use Rattle.laws.specs.Parts.{lt-true, lt-false, up, dn}
use Rattle.laws.specs.Sizes.{abs-add, abs-sub, fits, fits-size, abs-times, abs-quot, abs-rem, fits-quot, fits-rem}
use Rattle.laws.specs.Bools.{and_left, and_right}

infixl 6 ◌+ᵐ◌ ◌-ᵐ◌
infixl 7 ◌*ᵐ◌ ◌/ᵐ◌ ◌%ᵐ◌
pub data Mx : Width → Type 0 where
  any : {w : Width} (z : ℤ) → SFits w z → Mx w  -- a number of which only its type is known
  whole : {w : Width} (z : ℤ) (b : ℕ) → nat_abs z ≤ b → Mx w  -- a parameter, a field, a literal or a call's result, and a bound
  held : {w : Width} (n : ℕ) (b : ℕ) → nat_abs (to_z w n) ≤ b → Mx w  -- a variable of a loop: its bits, and a bound
  value : {w : Width} (n : ℕ) (z : ℤ) (b : ℕ) → to_z w n ≡ z → nat_abs z ≤ b
      → Mx w  -- bits that are known to be z, as those of an expression with a better bound than its parts give
  ◌+ᵐ◌ ◌-ᵐ◌ ◌*ᵐ◌ : {w : Width} → Mx w → Mx w → Mx w
  ◌/ᵐ◌ ◌%ᵐ◌ : {w : Width} → Mx w → ℕ → Mx w  -- the quotient and the remainder by a literal
  quot-by rem-by : {w : Width} → Mx w → (k : ℕ) → k < 2 ^ hbits w → Mx w  -- by a number that was cast from an unsigned one
  cast : {v w : Width} → Mx v → Mx w  -- as another signed type

abbrev pub ideal : {w : Width} → Mx w → ℤ
ideal (any z f) = z
ideal (whole z b h) = z
ideal (held {w} n b h) = to_z w n
ideal (value n z b e h) = z
ideal (e +ᵐ f) = ideal e +ℤ ideal f
ideal (e -ᵐ f) = ideal e -ℤ ideal f
ideal (e *ᵐ f) = ideal e *ℤ ideal f
ideal (e /ᵐ k) = quot_z (ideal e) (pos k)
ideal (e %ᵐ k) = rem_z (ideal e) (pos k)
ideal (quot-by e k h) = quot_z (ideal e) (pos k)
ideal (rem-by e k h) = rem_z (ideal e) (pos k)
ideal (cast e) = ideal e

-- the bits
abbrev pub run : {w : Width} → Mx w → ℕ
run (any {w} z f) = of_z w z
run (whole {w} z b h) = of_z w z
run (held n b h) = n
run (value n z b e h) = n
run (◌+ᵐ◌ {w} e f) = of_z w (to_z w (run e) +ℤ to_z w (run f))
run (◌-ᵐ◌ {w} e f) = of_z w (to_z w (run e) -ℤ to_z w (run f))
run (◌*ᵐ◌ {w} e f) = of_z w (to_z w (run e) *ℤ to_z w (run f))
run (◌/ᵐ◌ {w} e k) = of_z w (quot_z (to_z w (run e)) (pos k))
run (◌%ᵐ◌ {w} e k) = of_z w (rem_z (to_z w (run e)) (pos k))
run (quot-by {w} e k h) = of_z w (quot_z (to_z w (run e)) (to_z w k))
run (rem-by {w} e k h) = of_z w (rem_z (to_z w (run e)) (to_z w k))
run (cast {v} {w} e) = of_z w (to_z v (run e))

-- what the last step gives, before it is written as bits
abbrev pub last : {w : Width} → Mx w → ℤ
last (any z f) = z
last (whole z b h) = z
last (held {w} n b h) = to_z w n
last (value n z b e h) = z
last (◌+ᵐ◌ {w} e f) = to_z w (run e) +ℤ to_z w (run f)
last (◌-ᵐ◌ {w} e f) = to_z w (run e) -ℤ to_z w (run f)
last (◌*ᵐ◌ {w} e f) = to_z w (run e) *ℤ to_z w (run f)
last (◌/ᵐ◌ {w} e k) = quot_z (to_z w (run e)) (pos k)
last (◌%ᵐ◌ {w} e k) = rem_z (to_z w (run e)) (pos k)
last (quot-by {w} e k h) = quot_z (to_z w (run e)) (to_z w k)
last (rem-by {w} e k h) = rem_z (to_z w (run e)) (to_z w k)
last (cast {v} {w} e) = to_z v (run e)

abbrev pub bound : {w : Width} → Mx w → ℕ
bound (any {w} z f) = 2 ^ hbits w
bound (whole z b h) = b
bound (held n b h) = b
bound (value n z b e h) = b
bound (e +ᵐ f) = bound e + bound f
bound (e -ᵐ f) = bound e + bound f
bound (e *ᵐ f) = bound e * bound f
bound (e /ᵐ k) = bound e
bound (e %ᵐ k) = bound e
bound (quot-by e k h) = bound e
bound (rem-by e k h) = bound e
bound (cast e) = bound e

abbrev pub fine : {w : Width} → Mx w → Bool
fine (any z f) = true
fine (whole {w} z b h) = ltb b (2 ^ hbits w)
fine (held {w} n b h) = ltb b (2 ^ hbits w)
fine (value {w} n z b e h) = ltb b (2 ^ hbits w)
fine (◌+ᵐ◌ {w} e f) = ltb (bound e + bound f) (2 ^ hbits w) && (fine e && fine f)
fine (◌-ᵐ◌ {w} e f) = ltb (bound e + bound f) (2 ^ hbits w) && (fine e && fine f)
fine (◌*ᵐ◌ {w} e f) = ltb (bound e * bound f) (2 ^ hbits w) && (fine e && fine f)
fine (e /ᵐ k) = fine e
fine (e %ᵐ k) = fine e
fine (quot-by e k h) = fine e
fine (rem-by e k h) = fine e
fine (cast {v} {w} e) = ltb (bound e) (2 ^ hbits w) && fine e

pub sized : {w : Width} (e : Mx w) → nat_abs (ideal e) ≤ bound e
sized (any {w} z f) = fits-size w z f
sized (whole z b h) = h
sized (held n b h) = h
sized (value n z b e h) = h
sized (e +ᵐ f) = le_trans (abs-add (ideal e) (ideal f)) (add-le-add (sized e) (sized f))
sized (e -ᵐ f) = le_trans (abs-sub (ideal e) (ideal f)) (add-le-add (sized e) (sized f))
sized (e *ᵐ f) = subst (λ (n : ℕ). n ≤ bound e * bound f) (sym (abs-times (ideal e) (ideal f))) (mul-le-mul (sized e) (sized f))
sized (e /ᵐ k) = subst (λ (n : ℕ). n ≤ bound e) (sym (abs-quot (ideal e) k)) (le_trans (div-le_self (nat_abs (ideal e)) k) (sized e))
sized (e %ᵐ k) = subst (λ (n : ℕ). n ≤ bound e) (sym (abs-rem (ideal e) k)) (le_trans (mod-le (nat_abs (ideal e)) k) (sized e))
sized (quot-by e k h) = subst (λ (n : ℕ). n ≤ bound e) (sym (abs-quot (ideal e) k)) (le_trans (div-le_self (nat_abs (ideal e)) k) (sized e))
sized (rem-by e k h) = subst (λ (n : ℕ). n ≤ bound e) (sym (abs-rem (ideal e) k)) (le_trans (mod-le (nat_abs (ideal e)) k) (sized e))
sized (cast e) = sized e

within : {w : Width} (e : Mx w) (b : ℕ) → nat_abs (ideal e) ≤ b → T (ltb b (2 ^ hbits w)) → SFits w (ideal e)
within {w} e b h t = fits w (ideal e) (lt_of_le_of_lt h (ltb→lt b (2 ^ hbits w) t))

-- the number that is meant fits
pub ideal-fits : {w : Width} (e : Mx w) → T (fine e) → SFits w (ideal e)
ideal-fits (any z f) t = f
ideal-fits (whole z b h) t = within (whole z b h) b h t
ideal-fits (held n b h) t = within (held n b h) b h t
ideal-fits (value n z b e h) t = within (value n z b e h) b h t
ideal-fits (◌+ᵐ◌ {w} e f) t = within (e +ᵐ f) (bound e + bound f) (sized (e +ᵐ f)) (and_left (ltb (bound e + bound f) (2 ^ hbits w)) (fine e && fine f) t)
ideal-fits (◌-ᵐ◌ {w} e f) t = within (e -ᵐ f) (bound e + bound f) (sized (e -ᵐ f)) (and_left (ltb (bound e + bound f) (2 ^ hbits w)) (fine e && fine f) t)
ideal-fits (◌*ᵐ◌ {w} e f) t = within (e *ᵐ f) (bound e * bound f) (sized (e *ᵐ f)) (and_left (ltb (bound e * bound f) (2 ^ hbits w)) (fine e && fine f) t)
ideal-fits (◌/ᵐ◌ {w} e k) t = fits-quot w (ideal e) k (ideal-fits e t)
ideal-fits (◌%ᵐ◌ {w} e k) t = fits-rem w (ideal e) k (ideal-fits e t)
ideal-fits (quot-by {w} e k h) t = fits-quot w (ideal e) k (ideal-fits e t)
ideal-fits (rem-by {w} e k h) t = fits-rem w (ideal e) k (ideal-fits e t)
ideal-fits (cast {v} {w} e) t = within {w = w} (cast e) (bound e) (sized e) (and_left (ltb (bound e) (2 ^ hbits w)) (fine e) t)

-- written as bits and read again
again : (w : Width) {x y : ℤ} → x ≡ y → SFits w y → to_z w (of_z w x) ≡ y
again w {x} {y} p f = ap (λ (z : ℤ). to_z w (of_z w z)) p ∙ to_z-of_z w y f

first : (s t u : Bool) → T (s && (t && u)) → T t
first s t u h = and_left t u (and_right s (t && u) h)

second : (s t u : Bool) → T (s && (t && u)) → T u
second s t u h = and_right t u (and_right s (t && u) h)

-- the machine's number is the one that is meant
pub back : {w : Width} (e : Mx w) → T (fine e) → to_z w (run e) ≡ ideal e
back (any {w} z f) t = to_z-of_z w z f
back (whole {w} z b h) t = to_z-of_z w z (ideal-fits (whole z b h) t)
back (held n b h) t = refl
back (value n z b e h) t = e
back (◌+ᵐ◌ {w} e f) t = again w (λ i. back e (first (ltb (bound e + bound f) (2 ^ hbits w)) (fine e) (fine f) t) i +ℤ back f
    (second (ltb (bound e + bound f) (2 ^ hbits w)) (fine e) (fine f) t) i) (ideal-fits (e +ᵐ f) t)
back (◌-ᵐ◌ {w} e f) t = again w (λ i. back e (first (ltb (bound e + bound f) (2 ^ hbits w)) (fine e) (fine f) t) i -ℤ back f
    (second (ltb (bound e + bound f) (2 ^ hbits w)) (fine e) (fine f) t) i) (ideal-fits (e -ᵐ f) t)
back (◌*ᵐ◌ {w} e f) t = again w (λ i. back e (first (ltb (bound e * bound f) (2 ^ hbits w)) (fine e) (fine f) t) i *ℤ back f
    (second (ltb (bound e * bound f) (2 ^ hbits w)) (fine e) (fine f) t) i) (ideal-fits (e *ᵐ f) t)
back (◌/ᵐ◌ {w} e k) t = again w (λ i. quot_z (back e t i) (pos k)) (ideal-fits (e /ᵐ k) t)
back (◌%ᵐ◌ {w} e k) t = again w (λ i. rem_z (back e t i) (pos k)) (ideal-fits (e %ᵐ k) t)
back (quot-by {w} e k h) t = again w (λ i. quot_z (back e t i) (to_z_pos w k h i)) (ideal-fits (quot-by e k h) t)
back (rem-by {w} e k h) t = again w (λ i. rem_z (back e t i) (to_z_pos w k h i)) (ideal-fits (rem-by e k h) t)
back (cast {v} {w} e) t = again w (back e (and_right (ltb (bound e) (2 ^ hbits w)) (fine e) t)) (ideal-fits {w = w} (cast e) t)

-- the last step's number is the one that is meant
pub meant : {w : Width} (e : Mx w) → T (fine e) → last e ≡ ideal e
meant (any z f) t = refl
meant (whole z b h) t = refl
meant (held n b h) t = refl
meant (value n z b e h) t = refl
meant (◌+ᵐ◌ {w} e f) t = λ i. back e (first (ltb (bound e + bound f) (2 ^ hbits w)) (fine e) (fine f) t) i +ℤ back f
    (second (ltb (bound e + bound f) (2 ^ hbits w)) (fine e) (fine f) t) i
meant (◌-ᵐ◌ {w} e f) t = λ i. back e (first (ltb (bound e + bound f) (2 ^ hbits w)) (fine e) (fine f) t) i -ℤ back f
    (second (ltb (bound e + bound f) (2 ^ hbits w)) (fine e) (fine f) t) i
meant (◌*ᵐ◌ {w} e f) t = λ i. back e (first (ltb (bound e * bound f) (2 ^ hbits w)) (fine e) (fine f) t) i *ℤ back f
    (second (ltb (bound e * bound f) (2 ^ hbits w)) (fine e) (fine f) t) i
meant (e /ᵐ k) t = λ i. quot_z (back e t i) (pos k)
meant (e %ᵐ k) t = λ i. rem_z (back e t i) (pos k)
meant (quot-by {w} e k h) t = λ i. quot_z (back e t i) (to_z_pos w k h i)
meant (rem-by {w} e k h) t = λ i. rem_z (back e t i) (to_z_pos w k h i)
meant (cast {v} {w} e) t = back e (and_right (ltb (bound e) (2 ^ hbits w)) (fine e) t)

-- what a need of the last operation asks: `+`, `-`, `*`, and a cast to a signed type
pub need : {w : Width} (e : Mx w) → T (fine e) → SFits w (last e)
need {w} e t = subst (SFits w) (sym (meant e t)) (ideal-fits e t)

up-only : (z : ℤ) → dn z ≡ 0 → T (non_neg z)
up-only (pos n) h = tt
up-only (negsuc n) h = absurd (omega arith)

-- a cast to an unsigned type, of a number that is not negative: what it asks, and what it gives
pub need-nat : {w : Width} (v : Width) (e : Mx w) → T (fine e) → T (ltb (bound e) (2 ^ bits v)) → dn (ideal e) ≡ 0
    → T (non_neg (to_z w (run e))) × Fits v (nat_abs (to_z w (run e)))
need-nat {w} v e t u h =
    subst (λ (z : ℤ). T (non_neg z) × Fits v (nat_abs z)) (sym (back e t))
    (up-only (ideal e) h, record { fits = lt_of_le_of_lt (sized e) (ltb→lt (bound e) (2 ^ bits v) u) })

-- what a branch tells, of the numbers that are meant
module _ {w : Width} (e f : Mx w) (t : T (fine e)) (u : T (fine f)) where
  pub lt-taken : lt_z (to_z w (run e)) (to_z w (run f)) ≡ true → up (ideal e) + dn (ideal f) < up (ideal f) + dn (ideal e)
  lt-taken h = lt-true (ideal e) (ideal f) (sym (λ i. lt_z (back e t i) (back f u i)) ∙ h)

  pub lt-left : lt_z (to_z w (run e)) (to_z w (run f)) ≡ false → up (ideal f) + dn (ideal e) ≤ up (ideal e) + dn (ideal f)
  lt-left h = lt-false (ideal e) (ideal f) (sym (λ i. lt_z (back e t i) (back f u i)) ∙ h)

-- what a callee answers on a signed parameter that is handed on: f of the parameter itself
pub asked : {w : Width} {X : Type 0} {x : ℤ} {r : X} (f : ℤ → X) → SFits w x → r ≡ f (to_z w (of_z w x)) → f x ≡ r
asked {w} {x = x} f h e = sym (ap f (to_z-of_z w x h)) ∙ sym e

pub asked₂ : {w : Width} {X : Type 0} {x y : ℤ} {r : X} (f : ℤ → ℤ → X) → SFits w x → SFits w y → r ≡ f (to_z w (of_z w x)) (to_z w (of_z w y)) → f x y ≡ r
asked₂ {w} {x = x} {y = y} f h k e = sym (λ i. f (to_z-of_z w x h i) (to_z-of_z w y k i)) ∙ sym e

-- the flag of a comparison, where a contract speaks of it
pub lt-flag : {w : Width} (e f : Mx w) → T (fine e) → T (fine f) → lt_z (to_z w (run e)) (to_z w (run f)) ≡ lt_z (ideal e) (ideal f)
lt-flag e f t u = λ i. lt_z (back e t i) (back f u i)
