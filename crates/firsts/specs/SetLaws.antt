-- How many different ones a list has is told by which ones it has, whatever their order and however often: `different-set`.
--
-- One element may change its place with those before it (`different-turn`), so one list may with another (`different-swap`); what was all seen before
-- adds nothing (`different-old`).
-- Assumes nothing.
use Rattle.std.specs.Prelude.{◌≡◌, Bool, not, ◌||◌, ◌+◌}
use Rattle.std.proofs.Math.Path.{refl, sym, ap}
use Rattle.std.proofs.Common.{◌∙◌, arith}
use Rattle.std.proofs.Math.Bool.{true, false, or_comm}
use mathlib.Core.List.{List, [], ◌∷◌, ◌++◌, append_assoc, append-nil}
use Rattle.laws.specs.Some.{some_of, some-append}
use Rattle.firsts.specs.Faces.{bit, different_after, different}
use Rattle.firsts.specs.DifferentLaws.{some_one}

-- "the same", as a test: each is the same as itself, and two that are the same are the same as the same ones
pub record Alike {A : Type 0} (same : A → A → Bool) : Type 0 where
  pub self : (x : A) → same x x ≡ true
  pub turn : (x y : A) → same x y ≡ same y x
  pub both : (x y : A) → same x y ≡ true → (z : A) → same x z ≡ same y z

module _ {A : Type 0} (same : A → A → Bool) (a : Alike same) where
  -- which ones a list has
  abbrev has : List A → A → Bool
  has xs x = some_of (same x) xs

  has-alike : (xs : List A) (x y : A) → same x y ≡ true → has xs x ≡ has xs y
  has-alike [] x y e = refl
  has-alike (z ∷ xs) x y e = λ i. a.both x y e z i || has-alike xs x y e i

  has_more : (xs ys : List A) (x : A) → has (xs ++ ys) x ≡ has xs x || has ys x
  has_more xs ys x = some-append (same x) xs ys

  -- only which ones were seen matters
  different-seen : (s r xs : List A) → ((x : A) → has s x ≡ has r x) → different_after same s xs ≡ different_after same r xs
  unfolding different_after
  different-seen s r [] h = refl
  different-seen s r (x ∷ xs) h =
      let b = ap (λ (c : Bool). bit (not c)) (h x) in
      let e = different-seen (s ++ x ∷ []) (r ++ x ∷ []) xs (λ y. has_more s (x ∷ []) y ∙ (λ i. h y i || has (x ∷ []) y) ∙ sym (has_more r (x ∷ []) y)) in
      omega (arith, b, e)

  -- two elements in either order
  two : (s : List A) (x y : A) → bit (not (has s x)) + bit (not (has (s ++ x ∷ []) y)) ≡ bit (not (has s y)) + bit (not (has (s ++ y ∷ []) x))
  two s x y =
      let l = ap (λ (b : Bool). bit (not b)) (has_more s (x ∷ []) y ∙ ap (λ (b : Bool). has s y || b) (some_one (same y) x)) in
      let r = ap (λ (b : Bool). bit (not b)) (has_more s (y ∷ []) x ∙ ap (λ (b : Bool). has s x || b) (some_one (same x) y)) in
      let m = go (same x y) refl in
      omega (arith, l, r, m)
    where
      count : (p q : Bool) → bit (not p) + bit (not (q || false)) ≡ bit (not q) + bit (not (p || false))
      count true true = refl
      count true false = refl
      count false true = refl
      count false false = refl

      once : (p : Bool) → bit (not p) + bit (not (p || true)) ≡ bit (not p) + bit (not (p || true))
      once p = refl

      go : (b : Bool) → same x y ≡ b → bit (not (has s x)) + bit (not (has s y || same y x)) ≡ bit (not (has s y)) + bit (not (has s x || same x y))
      go false e = rw (sym (a.turn x y), e) (count (has s x) (has s y))
      go true e = rw (sym (a.turn x y), e, has-alike s x y e) (once (has s y))

  -- one element before or after those of a list
  different-turn : (s xs : List A) (y : A) → different_after same s xs + bit (not (has (s ++ xs) y)) ≡ bit (not (has s y)) + different_after same (s ++ y ∷ []) xs
  unfolding different_after
  different-turn s [] y = let e = ap (λ (l : List A). bit (not (has l y))) (append-nil s) in omega (arith, e)
  different-turn s (x ∷ xs) y =
      let i = different-turn (s ++ x ∷ []) xs y in
      let e = ap (λ (l : List A). bit (not (has l y))) (append_assoc s (x ∷ []) xs) in
      let t = two s x y in
      let w = different-seen ((s ++ x ∷ []) ++ y ∷ []) ((s ++ y ∷ []) ++ x ∷ []) xs (λ z. swapped x y z) in
      omega (arith, i, e, t, w)
    where
      last : (p q r : Bool) → (p || q) || r ≡ (p || r) || q
      last true q r = refl
      last false q r = or_comm q r

      swapped : (x y z : A) → has ((s ++ x ∷ []) ++ y ∷ []) z ≡ has ((s ++ y ∷ []) ++ x ∷ []) z
      swapped x y z =
          has_more (s ++ x ∷ []) (y ∷ []) z ∙ ap (λ (b : Bool). b || has (y ∷ []) z) (has_more s (x ∷ []) z) ∙ last (has s z) (has (x ∷ []) z) (has (y ∷ []) z)
          ∙ ap (λ (b : Bool). b || has (x ∷ []) z) (sym (has_more s (y ∷ []) z)) ∙ sym (has_more (s ++ y ∷ []) (x ∷ []) z)

  -- two lists in either order
  different-swap : (s xs ys : List A) → different_after same s xs + different_after same (s ++ xs) ys
      ≡ different_after same s ys + different_after same (s ++ ys) xs
  unfolding different_after
  different-swap s xs [] = let e = ap (λ (l : List A). different_after same l xs) (append-nil s) in omega (arith, e)
  different-swap s xs (y ∷ ys) =
      let i = different-swap (s ++ y ∷ []) xs ys in
      let t = different-turn s xs y in
      let e = ap (λ (l : List A). different_after same l xs) (append_assoc s (y ∷ []) ys) in
      let w = different-seen ((s ++ xs) ++ y ∷ []) ((s ++ y ∷ []) ++ xs) ys moved in
      omega (arith, i, t, e, w)
    where
      last : (p q r : Bool) → (p || q) || r ≡ (p || r) || q
      last true q r = refl
      last false q r = or_comm q r

      moved : (z : A) → has ((s ++ xs) ++ y ∷ []) z ≡ has ((s ++ y ∷ []) ++ xs) z
      moved z =
          has_more (s ++ xs) (y ∷ []) z ∙ ap (λ (b : Bool). b || has (y ∷ []) z) (has_more s xs z) ∙ last (has s z) (has xs z) (has (y ∷ []) z)
          ∙ ap (λ (b : Bool). b || has xs z) (sym (has_more s (y ∷ []) z)) ∙ sym (has_more (s ++ y ∷ []) xs z)

  -- what was all seen before
  different-old : (s xs : List A) → ((x : A) → has xs x ≡ true → has s x ≡ true) → different_after same s xs ≡ 0
  unfolding different_after
  different-old s [] h = refl
  different-old s (x ∷ xs) h =
      let b = ap (λ (c : Bool). bit (not c)) (h x (ap (λ (c : Bool). c || has xs x) (a.self x))) in
      let e = different-old (s ++ x ∷ []) xs (λ y k. has_more s (x ∷ []) y
      ∙ ap (λ (c : Bool). c || has (x ∷ []) y) (h y (ap (λ (c : Bool). same y x || c) k ∙ or_comm (same y x) true))) in
      omega (arith, b, e)

  pub different-set : (xs ys : List A) → ((x : A) → has xs x ≡ has ys x) → different same xs ≡ different same ys
  different-set xs ys h =
      let e = different-swap [] xs ys in
      let l = different-old xs ys (λ x k. h x ∙ k) in
      let r = different-old ys xs (λ x k. sym (h x) ∙ k) in
      omega (arith, e, l, r)
