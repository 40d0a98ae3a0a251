-- 17 as the code tests it: a number is at least -1,000 and at most 1,000 exactly where it is finite and not beyond 1,000 either way; no comparison is true
-- of what is no number, and an infinity is beyond. `fits-words`.
-- Assumes nothing.
use Rattle.std.specs.Prelude.{◌≡◌, Bool, true, false, not, ◌&&◌, ◌||◌, ℕ, zero, suc, ◌+◌, ◌*◌, ◌<◌, eqb, ltb, ℤ, pos, Float}
use Rattle.std.proofs.Math.Path.{refl}
use Rattle.std.proofs.Common.{sym, ◌∙◌, ap, arith, lt-ltb, le-ltb, eq-eqb, ne_eqb}
use Rattle.std.proofs.Math.Decide.{dec_lt}
use Rattle.std.specs.Float.{nan, inf, fin}
use Rattle.std.specs.Float.Ieee.{up, down, below, level, lt, eq, le, neg, of_bits, of_fields, odd}
use Rattle.std.specs.Int.Count.{count_trailing_zeros}
use Rattle.outlines.specs.Outlines.{thousand, is_finite, beyond, number_fits}

-- of two whole numbers with signs, one is at most the other or above it
either_way : (s t : Bool) (a b : ℕ) → below s a t b || level s a t b ≡ not (below t b s a)
either_way false false a b = go (dec_lt a b) (dec_lt b a)
  where
    go : Dec (a < b) → Dec (b < a) → ltb a b || (eqb a b && true) ≡ not (ltb b a)
    go (yes h) k = rw (lt-ltb a b h, le-ltb b a (omega arith))
    go (no h) (yes k) = rw (le-ltb a b (omega arith), ne_eqb a b (λ e. omega arith), lt-ltb b a k)
    go (no h) (no k) = rw (le-ltb a b (omega arith), eq-eqb a b (omega arith), le-ltb b a (omega arith))
either_way true true a b = go (dec_lt a b) (dec_lt b a)
  where
    go : Dec (a < b) → Dec (b < a) → ltb b a || (eqb a b && true) ≡ not (ltb a b)
    go (yes h) k = rw (le-ltb b a (omega arith), ne_eqb a b (λ e. omega arith), lt-ltb a b h)
    go (no h) (yes k) = rw (lt-ltb b a k, le-ltb a b (omega arith))
    go (no h) (no k) = rw (le-ltb b a (omega arith), eq-eqb a b (omega arith), le-ltb a b (omega arith))
either_way false true zero zero = refl
either_way false true zero (suc b) = rw (ne_eqb 0 (suc b) (λ e. omega arith), lt-ltb 0 (suc b + 0) (omega arith))
either_way false true (suc a) b =
    ap (λ (c : Bool). eqb (suc a) b && (false || c)) (ne_eqb (suc a) 0 (λ e. omega arith)) ∙ none (eqb (suc a) b)
    ∙ sym (ap not (lt-ltb 0 (b + suc a) (omega arith)))
  where
    none : (c : Bool) → c && false ≡ false
    none true = refl
    none false = refl
either_way true false zero zero = refl
either_way true false zero (suc b) = rw (lt-ltb 0 (0 + suc b) (omega arith))
either_way true false (suc a) b = rw (lt-ltb 0 (suc a + b) (omega arith))

le_not_lt : (s : Bool) (m : ℕ) (e : ℤ) (t : Bool) (n : ℕ) (d : ℤ) → le (fin s m e) (fin t n d) ≡ not (lt (fin t n d) (fin s m e))
unfolding le lt eq
le_not_lt s m e t n d = either_way s t (m * up e * down d) (n * up d * down e)

thousand-is : thousand ≡ fin false 125 (pos 3)
unfolding thousand of_bits of_fields odd count_trailing_zeros
thousand-is = refl

minus_is : neg thousand ≡ fin true 125 (pos 3)
unfolding neg
minus_is = ap neg thousand-is

both-not : (a b : Bool) → not a && not b ≡ not (b || a)
both-not true true = refl
both-not true false = refl
both-not false true = refl
both-not false false = refl

abbrev most : Float
most = fin false 125 (pos 3)

abbrev least : Float
least = fin true 125 (pos 3)

finite : (s : Bool) (m : ℕ) (e : ℤ) → le least (fin s m e) && le (fin s m e) most ≡ not (lt most (fin s m e) || lt (fin s m e) least)
finite s m e =
    (λ i. le_not_lt true 125 (pos 3) s m e i && le_not_lt s m e false 125 (pos 3) i) ∙ both-not (lt (fin s m e) least) (lt most (fin s m e))

in_words : (x : Float) → le least x && le x most ≡ is_finite x && not (lt most x || lt x least)
unfolding is_finite
in_words nan = unfold le in unfold lt in unfold eq in refl
in_words (inf true) = unfold le in unfold lt in unfold eq in refl
in_words (inf false) = unfold le in unfold lt in unfold eq in refl
in_words (fin s m e) = finite s m e

pub fits-words : (x : Float) → le (neg thousand) x && le x thousand ≡ number_fits x
unfolding number_fits beyond
fits-words x =
    (λ i. le (minus_is i) x && le x (thousand-is i)) ∙ in_words x ∙ (λ i. is_finite x && not (lt (sym thousand-is i) x || lt x (sym minus_is i)))
