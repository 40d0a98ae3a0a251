-- Counting by labels. Where each element of a list has a label, two elements are the same exactly where their labels are equal, and a list without repeats
-- has just these labels, there are as many different elements as labels: `different-labels`.
-- `Distinct` no element twice · `Inventory` a list has just what P says, each once, `inventory-of` there is one · `up_to` the values below a number ·
-- `append-distinct`, `append-length` two lists.
-- Assumes nothing.
use Rattle.std.specs.Prelude.{◌≡◌, ◌⊎◌, Bool, length}
use Rattle.std.proofs.Math.Path.{refl}
use Rattle.std.proofs.Common.{sym, ◌∙◌, ap, subst, inl, inr}
use Rattle.std.proofs.Math.Bool.{true, false}
use mathlib.Core.List.Memᴰ
use mathlib.Core.List.{List, [], ◌∷◌, ◌++◌, Memᴰ}
use Prim.Native.Nat.{ℕ, zero, suc, ◌+◌, ◌<◌}
use native.Mathlib.Omega.{arith}
use Rattle.std.proofs.Math.Decide.{ℕ_discrete}
use Rattle.laws.specs.Each.{same_test}
use Rattle.laws.specs.Some.{some_of, some_at, at_some, at_none}
use Rattle.firsts.specs.Faces.{different_after, different}
use Rattle.firsts.specs.DifferentLaws.{different-append, different-one}
use Rattle.firsts.specs.SetLaws.{Alike, different-set}

pub data Distinct {B : Type 0} : List B → Type 0 where
  nothing : Distinct []
  more : {y : B} {ys : List B} → (Memᴰ y ys → ⊥) → Distinct ys → Distinct (y ∷ ys)

pub record Inventory {B : Type 0} (P : B → Type 0) (ys : List B) : Type 0 where
  pub distinct : Distinct ys
  pub sound : (y : B) → Memᴰ y ys → P y
  pub full : (y : B) → P y → Memᴰ y ys

-- ---- two lists
pub append-distinct : {B : Type 0} (xs ys : List B) → Distinct xs → Distinct ys → ((z : B) → Memᴰ z xs → Memᴰ z ys → ⊥) → Distinct (xs ++ ys)
append-distinct [] ys d e h = e
append-distinct (x ∷ xs) ys (more n d) e h = more (λ m. go (Memᴰ.append_cases xs m)) (append-distinct xs ys d e (λ z a b. h z (Memᴰ.tail a) b))
  where
    go : Memᴰ x xs ⊎ Memᴰ x ys → ⊥
    go (inl a) = n a
    go (inr b) = h x (Memᴰ.head refl) b

pub append-length : {B : Type 0} (xs ys : List B) → length (xs ++ ys) ≡ length xs + length ys
append-length [] ys = omega arith
append-length (x ∷ xs) ys = let z = append-length xs ys in omega arith

-- ---- the values of f at 0, 1, .. below n
unfoldable pub up_to : {B : Type 0} → (ℕ → B) → ℕ → List B
up_to f zero = []
up_to f (suc n) = f n ∷ up_to f n

module _ {B : Type 0} (f : ℕ → B) where
  pub upto-in : (n : ℕ) (z : B) → Memᴰ z (up_to f n) → (j : ℕ) × (j < n) × (z ≡ f j)
  unfolding up_to
  upto-in zero z h = absurd (Memᴰ.not-nil h)
  upto-in (suc n) z h = go (Memᴰ.cases_cons h) (upto-in n z)
    where
      go : (z ≡ f n) ⊎ Memᴰ z (up_to f n) → (Memᴰ z (up_to f n) → (j : ℕ) × (j < n) × (z ≡ f j)) → (j : ℕ) × (j < suc n) × (z ≡ f j)
      go (inl e) ih = (n, omega arith, e)
      go (inr m) ih = let (j, l, e) = ih m in (j, omega arith, e)

  pub in-upto : (n j : ℕ) → j < n → Memᴰ (f j) (up_to f n)
  unfolding up_to
  in-upto zero j h = absurd (omega arith)
  in-upto (suc n) j h = go (ℕ_discrete j n) (in-upto n j)
    where
      go : Dec (j ≡ n) → (j < n → Memᴰ (f j) (up_to f n)) → Memᴰ (f j) (f n ∷ up_to f n)
      go (yes e) ih = Memᴰ.head (ap f e)
      go (no e) ih = Memᴰ.tail (ih (omega arith))

  pub upto-distinct : (n : ℕ) → ((i j : ℕ) → i < n → j < n → f i ≡ f j → i ≡ j) → Distinct (up_to f n)
  unfolding up_to
  upto-distinct zero h = nothing
  upto-distinct (suc n) h =
      more (λ m. (let (j, l, e) = upto-in n (f n) m in let z = h n j (omega arith) (omega arith) e in omega arith))
      (upto-distinct n (λ i j a b. h i j (omega arith) (omega arith)))

  pub upto-length : (n : ℕ) → length (up_to f n) ≡ n
  unfolding up_to
  upto-length zero = refl
  upto-length (suc n) = let z = upto-length n in omega arith

-- ---- counted by labels: R x y, y is a label of x
module _ {A B : Type 0} (same : A → A → Bool) (a : Alike same) (R : A → B → Type 0)
    (agree : (x z : A) (y w : B) → R x y → R z w → same x z ≡ true → y ≡ w) (alike : (x z : A) (y : B) → R x y → R z y → same x z ≡ true) where
  abbrev has : List A → A → Type 0
  has xs x = some_of (same x) xs ≡ true

  -- one element for each label
  picked : (ys : List B) → Distinct ys → ((y : B) → Memᴰ y ys → (x : A) × R x y)
      → (zs : List A) × (different same zs ≡ length ys) × ((z : A) → Memᴰ z zs → (y : B) × Memᴰ y ys × R z y)
      × ((y : B) → Memᴰ y ys → (z : A) × Memᴰ z zs × R z y)
  unfolding different_after
  picked [] d h = ([], refl, λ z m. absurd (Memᴰ.not-nil m), λ y m. absurd (Memᴰ.not-nil m))
  picked (y ∷ ys) (more n d) h =
      let (x, r) = h y (Memᴰ.head refl) in
      let (zs, l, to, back) = picked ys d (λ w m. h w (Memᴰ.tail m)) in
      let new : some_of (same x) zs ≡ false = at_none (same x) zs (λ z m. apart x r (same x z) z refl (to z m)) in
      let s = different-append same [] zs (x ∷ []) in
      let o = different-one same zs x false new in
      (zs ++ x ∷ [], omega (arith, l, s, o), λ z m. into x r zs to z (Memᴰ.append_cases zs m), λ w m. out x r zs back w (Memᴰ.cases_cons m))
    where
      apart : (x : A) → R x y → (b : Bool) (z : A) → same x z ≡ b → (w : B) × Memᴰ w ys × R z w → same x z ≡ false
      apart x r false z e k = e
      apart x r true z e (w, m, q) = absurd (n (subst (λ (v : B). Memᴰ v ys) (sym (agree x z y w r q e)) m))

      into : (x : A) → R x y → (zs : List A) → ((z : A) → Memᴰ z zs → (w : B) × Memᴰ w ys × R z w) → (z : A) → Memᴰ z zs ⊎ Memᴰ z (x ∷ [])
          → (w : B) × Memᴰ w (y ∷ ys) × R z w
      into x r zs to z (inl m) = let (w, k, q) = to z m in (w, Memᴰ.tail k, q)
      into x r zs to z (inr m) = (y, Memᴰ.head refl, subst (λ (v : A). R v y) (sym (Memᴰ.eq_of_singleton m)) r)

      out : (x : A) → R x y → (zs : List A) → ((w : B) → Memᴰ w ys → (z : A) × Memᴰ z zs × R z w) → (w : B) → (w ≡ y) ⊎ Memᴰ w ys
          → (z : A) × Memᴰ z (zs ++ x ∷ []) × R z w
      out x r zs back w (inl e) = (x, Memᴰ.append_right zs (Memᴰ.head refl), subst (R x) (sym e) r)
      out x r zs back w (inr m) = let (z, k, q) = back w m in (z, Memᴰ.append_left (x ∷ []) k, q)

  pub different-labels : (xs : List A) (P : B → Type 0) (ys : List B) → Inventory P ys → ((x : A) → has xs x → (y : B) × P y × R x y)
      → ((y : B) → P y → (x : A) × has xs x × R x y) → different same xs ≡ length ys
  different-labels xs P ys L lab back =
      let (zs, l, to, of) = picked ys L.distinct (λ y m. (let (x, _, r) = back y (L.sound y m) in (x, r))) in
      different-set same a xs zs (λ v. same_test (some_of (same v) xs) (some_of (same v) zs) (left zs of v) (right zs to v)) ∙ l
    where
      left : (zs : List A) → ((y : B) → Memᴰ y ys → (z : A) × Memᴰ z zs × R z y) → (v : A) → has xs v → has zs v
      left zs of v h =
          let (y, p, r) = lab v h in
          let (z, m, q) = of y (L.full y p) in
          at_some (same v) zs z m (alike v z y r q)

      right : (zs : List A) → ((z : A) → Memᴰ z zs → (y : B) × Memᴰ y ys × R z y) → (v : A) → has zs v → has xs v
      right zs to v h =
          let (z, m, e) = some_at (same v) zs h in
          let (y, k, q) = to z m in
          let (x, g, r) = back y (L.sound y k) in
          let (w, n, s) = some_at (same x) xs g in
          at_some (same v) xs w n (a.both v z e w ∙ a.both z x (alike z x y q r) w ∙ s)

  -- ---- there is such a list, where labels can be told apart
  module _ (label? : (y w : B) → Dec (y ≡ w)) where
    mem? : (y : B) (ys : List B) → Dec (Memᴰ y ys)
    mem? y [] = no (λ h. Memᴰ.not-nil h)
    mem? y (w ∷ ys) = go (label? y w) (mem? y ys)
      where
        neither : ((y ≡ w) → ⊥) → (Memᴰ y ys → ⊥) → (y ≡ w) ⊎ Memᴰ y ys → ⊥
        neither n k (inl e) = n e
        neither n k (inr m) = k m

        go : Dec (y ≡ w) → Dec (Memᴰ y ys) → Dec (Memᴰ y (w ∷ ys))
        go (yes e) q = yes (Memᴰ.head e)
        go (no e) (yes k) = yes (Memᴰ.tail k)
        go (no e) (no k) = no (λ h. neither e k (Memᴰ.cases_cons h))

    -- the labels of a list, each once
    labels : (xs : List A) → ((x : A) → Memᴰ x xs → (y : B) × R x y) → (ys : List B) × Distinct ys
        × ((y : B) → Memᴰ y ys → (x : A) × Memᴰ x xs × R x y) × ((x : A) → Memᴰ x xs → (y : B) × Memᴰ y ys × R x y)
    labels [] h = ([], nothing, λ y m. absurd (Memᴰ.not-nil m), λ x m. absurd (Memᴰ.not-nil m))
    labels (x ∷ xs) h =
        let (y, r) = h x (Memᴰ.head refl) in
        let (ys, d, of, to) = labels xs (λ z m. h z (Memᴰ.tail m)) in
        go y r ys d of to (mem? y ys)
      where
        older : (ys : List B) → ((y : B) → Memᴰ y ys → (x : A) × Memᴰ x xs × R x y) → (y : B) → Memᴰ y ys
            → (z : A) × Memᴰ z (x ∷ xs) × R z y
        older ys of y m = let (z, k, q) = of y m in (z, Memᴰ.tail k, q)

        first : (y : B) → R x y → (ys us : List B) → ((w : B) → Memᴰ w ys → Memᴰ w us) → Memᴰ y us
            → ((z : A) → Memᴰ z xs → (w : B) × Memᴰ w ys × R z w) → (z : A) → (z ≡ x) ⊎ Memᴰ z xs → (w : B) × Memᴰ w us × R z w
        first y r ys us sub k to z (inl e) = (y, k, subst (λ (v : A). R v y) (sym e) r)
        first y r ys us sub k to z (inr m) = let (w, n, q) = to z m in (w, sub w n, q)

        mine : (y : B) → R x y → (ys : List B) → ((y : B) → Memᴰ y ys → (x : A) × Memᴰ x xs × R x y) → (w : B) → (w ≡ y) ⊎ Memᴰ w ys
            → (z : A) × Memᴰ z (x ∷ xs) × R z w
        mine y r ys of w (inl e) = (x, Memᴰ.head refl, subst (R x) (sym e) r)
        mine y r ys of w (inr m) = older ys of w m

        go : (y : B) → R x y → (ys : List B) → Distinct ys → ((y : B) → Memᴰ y ys → (x : A) × Memᴰ x xs × R x y)
            → ((x : A) → Memᴰ x xs → (y : B) × Memᴰ y ys × R x y) → Dec (Memᴰ y ys)
            → (us : List B) × Distinct us × ((y : B) → Memᴰ y us → (z : A) × Memᴰ z (x ∷ xs) × R z y)
            × ((z : A) → Memᴰ z (x ∷ xs) → (y : B) × Memᴰ y us × R z y)
        go y r ys d of to (yes k) = (ys, d, older ys of, λ z m. first y r ys ys (λ w n. n) k to z (Memᴰ.cases_cons m))
        go y r ys d of to (no k) = (
          y ∷ ys,
          more k d,
          λ w m. mine y r ys of w (Memᴰ.cases_cons m),
          λ z m. first y r ys (y ∷ ys) (λ w n. Memᴰ.tail n) (Memᴰ.head refl) to z (Memᴰ.cases_cons m),
        )

    pub inventory-of : (xs : List A) (P : B → Type 0) → ((x : A) → has xs x → (y : B) × P y × R x y) → ((y : B) → P y → (x : A) × has xs x × R x y)
        → (ys : List B) × Inventory P ys
    inventory-of xs P lab back =
        let (ys, d, of, to) = labels xs (λ x m. (let (y, _, r) = lab x (own x m) in (y, r))) in
        (ys, record { distinct = d; sound = λ y m. sound y (of y m); full = λ y p. full ys to y (back y p) })
      where
        own : (x : A) → Memᴰ x xs → has xs x
        own x m = at_some (same x) xs x m (a.self x)

        sound : (y : B) → (x : A) × Memᴰ x xs × R x y → P y
        sound y (x, m, r) = let (w, p, q) = lab x (own x m) in subst P (agree x x w y q r (a.self x)) p

        full : (ys : List B) → ((x : A) → Memᴰ x xs → (y : B) × Memᴰ y ys × R x y) → (y : B) → (x : A) × has xs x × R x y → Memᴰ y ys
        full ys to y (x, h, r) =
            let (z, m, e) = some_at (same x) xs h in
            let (w, k, q) = to z m in
            subst (λ (v : B). Memᴰ v ys) (sym (agree x z y w r q e)) k
