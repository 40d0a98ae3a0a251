-- Inventories gathered from others, and sums over them.
-- `each_in`, `in-each`, `each-distinct`, `each-length` what the elements of a list give · `kept` those that pass a test, `kept_in`, `in_kept`,
-- `kept-distinct` · `over` a sum over a list, `over-same`, `over_ones`, `over-each`, `over-kept`, `kept-over`, `kept-length` · `inventory-as`,
-- `inventory-length` two inventories of one thing are as long.
-- Assumes nothing.
use Rattle.std.specs.Prelude.{◌≡◌, ◌⊎◌, Bool, ℕ, ◌+◌, ◌*◌}
use Rattle.std.proofs.Math.Path.{refl, sym, ap}
use Rattle.std.proofs.Common.{◌∙◌, subst, inl, inr}
use Rattle.std.proofs.Math.Bool.{true, false, cond, not}
use mathlib.Core.List.Memᴰ
use mathlib.Core.List.{List, [], ◌∷◌, ◌++◌, Memᴰ}
use Rattle.std.proofs.Math.Nat.{suc-mul}
use native.Mathlib.Omega.{arith}
use Rattle.std.proofs.Math.ListN.{length}
use Rattle.laws.specs.Each.{not-both}
use Rattle.laws.specs.Some.{some_at, at_some}
use Rattle.firsts.specs.Faces.{bit, each, different}
use Rattle.firsts.specs.SetLaws.{Alike}
use Rattle.together.specs.Inventory.{Distinct, nothing, more, Inventory, append-distinct, append-length, different-labels}

-- ---- what the elements of a list give
module _ {A B : Type 0} (g : A → List B) where
  pub each_in : (xs : List A) (z : B) → Memᴰ z (each g xs) → (x : A) × Memᴰ x xs × Memᴰ z (g x)
  unfolding each
  each_in [] z m = absurd (Memᴰ.not-nil m)
  each_in (x ∷ xs) z m = go (Memᴰ.append_cases (g x) m) (each_in xs z)
    where
      go : Memᴰ z (g x) ⊎ Memᴰ z (each g xs) → (Memᴰ z (each g xs) → (y : A) × Memᴰ y xs × Memᴰ z (g y))
          → (y : A) × Memᴰ y (x ∷ xs) × Memᴰ z (g y)
      go (inl k) ih = (x, Memᴰ.head refl, k)
      go (inr k) ih = let (y, n, l) = ih k in (y, Memᴰ.tail n, l)

  pub in-each : (xs : List A) (x : A) (z : B) → Memᴰ x xs → Memᴰ z (g x) → Memᴰ z (each g xs)
  unfolding each
  in-each [] x z m k = absurd (Memᴰ.not-nil m)
  in-each (y ∷ xs) x z m k = go (Memᴰ.cases_cons m) (λ n. in-each xs x z n k)
    where
      go : (x ≡ y) ⊎ Memᴰ x xs → (Memᴰ x xs → Memᴰ z (each g xs)) → Memᴰ z (g y ++ each g xs)
      go (inl e) ih = Memᴰ.append_left (each g xs) (subst (λ (w : A). Memᴰ z (g w)) e k)
      go (inr n) ih = Memᴰ.append_right (g y) (ih n)

  -- no two of them give the same
  pub each-distinct : (xs : List A) → Distinct xs → ((x : A) → Memᴰ x xs → Distinct (g x))
      → ((x y : A) (z : B) → Memᴰ x xs → Memᴰ y xs → Memᴰ z (g x) → Memᴰ z (g y) → x ≡ y) → Distinct (each g xs)
  unfolding each
  each-distinct [] d one apart = nothing
  each-distinct (x ∷ xs) (more n d) one apart =
      append-distinct (g x) (each g xs) (one x (Memᴰ.head refl))
      (each-distinct xs d (λ y m. one y (Memᴰ.tail m)) (λ y w z a b. apart y w z (Memᴰ.tail a) (Memᴰ.tail b)))
      (λ z a b.
      (let (y, m, k) = each_in xs z b in
      n (subst (λ (w : A). Memᴰ w xs) (sym (apart x y z (Memᴰ.head refl) (Memᴰ.tail m) a k)) m)))

  pub each-length : (n : ℕ) → ((x : A) → length (g x) ≡ n) → (xs : List A) → length (each g xs) ≡ length xs * n
  unfolding each
  each-length n h [] = omega arith
  each-length n h (x ∷ xs) =
      let a = append-length (g x) (each g xs) in
      let b = h x in
      let c = each-length n h xs in
      let d = suc-mul (length xs) n in
      sum (length (g x ++ each g xs)) (length (g x)) (length (each g xs)) (length xs * n) n a b c ∙ sym d
    where
      sum : (r x y z n : ℕ) → r ≡ x + y → x ≡ n → y ≡ z → r ≡ z + n
      sum r x y z n h i j = omega arith

-- ---- those that pass
unfoldable pub kept : {A : Type 0} → (A → Bool) → List A → List A
kept q [] = []
kept q (x ∷ xs) = cond (q x) (x ∷ kept q xs) (kept q xs)

module _ {A : Type 0} (q : A → Bool) where
  pub kept_in : (xs : List A) (z : A) → Memᴰ z (kept q xs) → Memᴰ z xs × (q z ≡ true)
  unfolding kept
  kept_in [] z m = absurd (Memᴰ.not-nil m)
  kept_in (x ∷ xs) z m = go (q x) refl m (kept_in xs z)
    where
      go : (b : Bool) → q x ≡ b → Memᴰ z (cond b (x ∷ kept q xs) (kept q xs)) → (Memᴰ z (kept q xs) → Memᴰ z xs × (q z ≡ true))
          → Memᴰ z (x ∷ xs) × (q z ≡ true)
      go false e k ih = let (a, b) = ih k in (Memᴰ.tail a, b)
      go true e k ih = by (Memᴰ.cases_cons k)
        where
          by : (z ≡ x) ⊎ Memᴰ z (kept q xs) → Memᴰ z (x ∷ xs) × (q z ≡ true)
          by (inl f) = (Memᴰ.head f, ap q f ∙ e)
          by (inr n) = let (a, b) = ih n in (Memᴰ.tail a, b)

  pub in_kept : (xs : List A) (z : A) → Memᴰ z xs → q z ≡ true → Memᴰ z (kept q xs)
  unfolding kept
  in_kept [] z m p = absurd (Memᴰ.not-nil m)
  in_kept (x ∷ xs) z m p = go (q x) refl (Memᴰ.cases_cons m) (λ n. in_kept xs z n p)
    where
      go : (b : Bool) → q x ≡ b → (z ≡ x) ⊎ Memᴰ z xs → (Memᴰ z xs → Memᴰ z (kept q xs)) → Memᴰ z (cond b (x ∷ kept q xs) (kept q xs))
      go true e (inl f) ih = Memᴰ.head f
      go true e (inr n) ih = Memᴰ.tail (ih n)
      go false e (inl f) ih = absurd (not-both (sym (ap q f) ∙ p) e)
      go false e (inr n) ih = ih n

  pub kept-distinct : (xs : List A) → Distinct xs → Distinct (kept q xs)
  unfolding kept
  kept-distinct [] d = nothing
  kept-distinct (x ∷ xs) (more n d) = go (q x) (kept-distinct xs d)
    where
      go : (b : Bool) → Distinct (kept q xs) → Distinct (cond b (x ∷ kept q xs) (kept q xs))
      go true ih = more (λ m. n (kept_in xs x m).0) ih
      go false ih = ih

-- ---- sums
unfoldable pub over : {A : Type 0} → (A → ℕ) → List A → ℕ
over f [] = 0
over f (x ∷ xs) = f x + over f xs

module _ {A : Type 0} where
  pub over-append : (f : A → ℕ) (xs ys : List A) → over f (xs ++ ys) ≡ over f xs + over f ys
  unfolding over
  over-append f [] ys = omega arith
  over-append f (x ∷ xs) ys = let a = over-append f xs ys in omega (arith, a)

  pub over-same : (f g : A → ℕ) (xs : List A) → ((x : A) → Memᴰ x xs → f x ≡ g x) → over f xs ≡ over g xs
  unfolding over
  over-same f g [] h = refl
  over-same f g (x ∷ xs) h =
      let a = h x (Memᴰ.head refl) in
      let b = over-same f g xs (λ y m. h y (Memᴰ.tail m)) in
      omega (arith, a, b)

  pub over_ones : (xs : List A) → over (λ _. 1) xs ≡ length xs
  unfolding over
  over_ones [] = refl
  over_ones (x ∷ xs) = let a = over_ones xs in omega (arith, a)

  -- a sum of those that pass
  pub over-kept : (q : A → Bool) (f : A → ℕ) (xs : List A) → over f (kept q xs) ≡ over (λ x. cond (q x) (f x) 0) xs
  unfolding over kept
  over-kept q f [] = refl
  over-kept q f (x ∷ xs) = go (q x) (over-kept q f xs)
    where
      go : (b : Bool) → over f (kept q xs) ≡ over (λ x. cond (q x) (f x) 0) xs
          → over f (cond b (x ∷ kept q xs) (kept q xs)) ≡ cond b (f x) 0 + over (λ x. cond (q x) (f x) 0) xs
      go true ih = omega (arith, ih)
      go false ih = omega (arith, ih)

  pub kept-over : (q : A → Bool) (xs : List A) → length (kept q xs) ≡ over (λ x. bit (q x)) xs
  unfolding over kept
  kept-over q [] = refl
  kept-over q (x ∷ xs) = go (q x) (kept-over q xs)
    where
      go : (b : Bool) → length (kept q xs) ≡ over (λ x. bit (q x)) xs → length (cond b (x ∷ kept q xs) (kept q xs)) ≡ bit b + over (λ x. bit (q x)) xs
      go true ih = omega (arith, ih)
      go false ih = omega (arith, ih)

  -- those that pass, and the others
  pub kept-length : (q : A → Bool) (xs : List A) → length (kept (λ x. not (q x)) xs) + over (λ x. bit (q x)) xs ≡ length xs
  unfolding over kept
  kept-length q [] = refl
  kept-length q (x ∷ xs) = go (q x) (kept-length q xs)
    where
      go : (b : Bool) → length (kept (λ x. not (q x)) xs) + over (λ x. bit (q x)) xs ≡ length xs
          → length (cond (not b) (x ∷ kept (λ x. not (q x)) xs) (kept (λ x. not (q x)) xs)) + (bit b + over (λ x. bit (q x)) xs) ≡ length (x ∷ xs)
      go true ih = omega (arith, ih)
      go false ih = omega (arith, ih)

pub over-each : {A B : Type 0} (f : B → ℕ) (g : A → List B) (xs : List A) → over f (each g xs) ≡ over (λ x. over f (g x)) xs
unfolding over each
over-each f g [] = refl
over-each f g (x ∷ xs) = let a = over-append f (g x) (each g xs) in let b = over-each f g xs in omega (arith, a, b)

-- ---- two inventories of one thing
pub inventory-as : {B : Type 0} (P Q : B → Type 0) → ((x : B) → P x → Q x) → ((x : B) → Q x → P x) → (xs : List B) → Inventory P xs → Inventory Q xs
inventory-as P Q to back xs I = record { distinct = I.distinct; sound = λ x m. to x (I.sound x m); full = λ x q. I.full x (back x q) }

pub inventory-length : {B : Type 0} (same : B → B → Bool) → Alike same → ((x y : B) → same x y ≡ true → x ≡ y) → (P : B → Type 0) (xs ys : List B)
    → Inventory P xs → Inventory P ys → length xs ≡ length ys
inventory-length {B} same a eq P xs ys X Y = sym (counted xs X) ∙ counted ys Y
  where
    counted : (zs : List B) → Inventory P zs → different same xs ≡ length zs
    counted zs Z =
        different-labels same a (λ x y. x ≡ y) (λ x z y w h k s. sym h ∙ eq x z s ∙ k) (λ x z y h k. ap (same x) (k ∙ sym h) ∙ a.self x) xs P zs Z
        (λ x h. (let (y, m, e) = some_at (same x) xs h in (y, X.sound y m, eq x y e)))
        (λ y p. (y, at_some (same y) xs y (X.full y p) (a.self y), refl))
