-- How many different ones a list has, part by part.
-- `gather-mem` which place an element comes of · `sum-none`, `sum_more` a sum · `among-more`, `slot_test` tests of numbers and of slots · `some_one`,
-- `some-none`, `some-gather`, `some-each` where a test passes in a list put together of parts, `some_same`, `some_or`, `some-over` · `different-one`,
-- `different-place`, `different-nothing` an element, by those before it · `different-star` the different ones of a star, place by place ·
-- `different-slots` those of a table, slot by slot.
-- Assumes nothing.
use Rattle.std.specs.Prelude.{◌≡◌, ◌⊎◌, Bool, true, false, not, ◌||◌, Option, Some, None}
use Rattle.std.proofs.Math.Path.{refl, sym, ap}
use Rattle.std.proofs.Common.{◌∙◌, inl, inr, arith}
use Rattle.std.proofs.Math.Bool.{or_comm, or-false}
use mathlib.Core.List.Memᴰ
use mathlib.Core.List.{List, [], ◌∷◌, ◌++◌, append_assoc, append-nil, Memᴰ}
use Prim.Native.Nat.{ℕ, zero, suc, ◌+◌, ◌<◌}
use Rattle.laws.specs.Each.{among_none}
use Rattle.laws.specs.Rules.{among}
use Rattle.laws.specs.Some.{some_of, some-append}
use Rattle.lattice.specs.declared.records.Record.{Record}
use Rattle.table.specs.Slots.{slot_at}
use Rattle.table.specs.Entries.{listed, records_below}
use Rattle.firsts.specs.Faces.{bit, different_after, gather, each}
use Rattle.firsts.specs.Earlier.{sum_below, slot_sum}

-- ---- an element of what the places give is of one of them
pub gather-mem : {A : Type 0} (d : ℕ) (g : ℕ → List A) (x : A) → Memᴰ x (gather d g) → (j : ℕ) × (j < d) × Memᴰ x (g j)
unfolding gather
gather-mem zero g x m = absurd (Memᴰ.not-nil m)
gather-mem {A} (suc d) g x m = go (Memᴰ.append_cases (gather d g) m) (λ k. gather-mem d g x k)
  where
    go : Memᴰ x (gather d g) ⊎ Memᴰ x (g d) → (Memᴰ x (gather d g) → (j : ℕ) × (j < d) × Memᴰ x (g j))
        → (j : ℕ) × (j < suc d) × Memᴰ x (g j)
    go (inl k) ih = let w = ih k in (w.0, omega (arith, w.1), w.2)
    go (inr k) ih = (d, omega arith, k)

-- ---- sums

pub sum-none : (f : ℕ → ℕ) → sum_below f 0 ≡ 0
unfolding sum_below
sum-none f = refl

pub sum_more : (f : ℕ → ℕ) (i : ℕ) → sum_below f (i + 1) ≡ sum_below f i + f i
unfolding sum_below
sum_more f i = let e : i + 1 ≡ suc i = omega arith in ap (sum_below f) e

pub sum-plus : (f g : ℕ → ℕ) (n : ℕ) → sum_below (λ i. f i + g i) n ≡ sum_below f n + sum_below g n
unfolding sum_below
sum-plus f g zero = refl
sum-plus f g (suc n) = let a = sum-plus f g n in omega (arith, a)

pub sum-each : (f g : ℕ → ℕ) (n : ℕ) → ((i : ℕ) → i < n → f i ≡ g i) → sum_below f n ≡ sum_below g n
unfolding sum_below
sum-each f g zero h = refl
sum-each f g (suc n) h = let a = sum-each f g n (λ i l. h i (omega arith)) in let b = h n (omega arith) in omega (arith, a, b)

-- ---- lists put together of parts

-- a test of a slot's record
abbrev pub slot_test : (Record → Bool) → Option Record → Bool
slot_test f None = false
slot_test f (Some v) = f v

or-middle : (a b c d : Bool) → (a || b) || (c || d) ≡ (a || c) || (b || d)
or-middle true b c d = refl
or-middle false true true d = refl
or-middle false true false d = refl
or-middle false false c d = refl

module _ {A : Type 0} where
  -- two tests that are one at each element
  pub some_same : (f g : A → Bool) (xs : List A) → ((x : A) → f x ≡ g x) → some_of f xs ≡ some_of g xs
  some_same f g [] h = refl
  some_same f g (x ∷ xs) h = λ i. h x i || some_same f g xs h i

  -- one of two tests
  pub some_or : (f g : A → Bool) (xs : List A) → some_of (λ x. f x || g x) xs ≡ some_of f xs || some_of g xs
  some_or f g [] = refl
  some_or f g (x ∷ xs) = ap (λ (b : Bool). (f x || g x) || b) (some_or f g xs) ∙ or-middle (f x) (g x) (some_of f xs) (some_of g xs)

  -- among what the elements of a list give
  pub some-over : {B : Type 0} (f : A → Bool) (g : B → List A) (xs : List B) → some_of f (each g xs) ≡ some_of (λ x. some_of f (g x)) xs
  unfolding each
  some-over f g [] = refl
  some-over f g (x ∷ xs) = some-append f (g x) (each g xs) ∙ ap (λ (b : Bool). some_of f (g x) || b) (some-over f g xs)

  pub some-gather : (f : A → Bool) (d : ℕ) (g : ℕ → List A) → some_of f (gather d g) ≡ among d (λ j. some_of f (g j))
  unfolding gather
  some-gather f zero g = refl
  some-gather f (suc d) g =
      some-append f (gather d g) (g d) ∙ ap (λ (b : Bool). b || some_of f (g d)) (some-gather f d g) ∙ or_comm (among d (λ j. some_of f (g j))) (some_of f (g d))

  pub some_one : (f : A → Bool) (x : A) → some_of f (x ∷ []) ≡ f x
  some_one f x = or-false (f x)

  pub some-none : (f : A → Bool) → some_of f [] ≡ false
  some-none f = refl

  each_append : (g : Record → List A) (vs ws : List Record) → each g (vs ++ ws) ≡ each g vs ++ each g ws
  unfolding each
  each_append g [] ws = refl
  each_append g (v ∷ vs) ws = ap (λ (l : List A). g v ++ l) (each_append g vs ws) ∙ sym (append_assoc (g v) (each g vs) (each g ws))

  -- what a slot's record gives
  abbrev slot_gives : (Record → List A) → Option Record → List A
  slot_gives g None = []
  slot_gives g (Some v) = g v

  -- the records of one slot more
  each_more : (g : Record → List A) (t : List ℕ) (k : ℕ) → each g (records_below t (suc k)) ≡ each g (records_below t k) ++ slot_gives g (slot_at t k)
  unfolding records_below each
  each_more g t k = each_append g (records_below t k) (listed (slot_at t k)) ∙ ap (λ (l : List A). each g (records_below t k) ++ l) (one (slot_at t k))
    where
      one : (s : Option Record) → each g (listed s) ≡ slot_gives g s
      one None = refl
      one (Some v) = append-nil (g v)

  pub some-each : (f : A → Bool) (g : Record → List A) (t : List ℕ) (k : ℕ)
      → some_of f (each g (records_below t k)) ≡ among k (λ i. slot_test (λ u. some_of f (g u)) (slot_at t i))
  unfolding records_below each
  some-each f g t zero = refl
  some-each f g t (suc k) =
      let a = each g (records_below t k) in
      let s = slot_at t k in
      ap (some_of f) (each_more g t k) ∙ some-append f a (slot_gives g s) ∙ or_comm (some_of f a) (some_of f (slot_gives g s))
      ∙ (λ i. one s i || some-each f g t k i)
    where
      one : (s : Option Record) → some_of f (slot_gives g s) ≡ slot_test (λ u. some_of f (g u)) s
      one None = refl
      one (Some v) = refl

  -- ---- the different ones, part by part

  module _ (same : A → A → Bool) where
    pub different-append : (seen xs ys : List A) → different_after same seen (xs ++ ys) ≡ different_after same seen xs + different_after same (seen ++ xs) ys
    unfolding different_after
    different-append seen [] ys = let a = ap (λ (l : List A). different_after same l ys) (append-nil seen) in omega (arith, a)
    different-append seen (x ∷ xs) ys =
        let a = different-append (seen ++ x ∷ []) xs ys in
        let b = ap (λ (l : List A). different_after same l ys) (append_assoc seen (x ∷ []) xs) in
        omega (arith, a, b)

    -- an element, by whether a same one is among those before
    pub different-one : (seen : List A) (x : A) (b : Bool) → some_of (same x) seen ≡ b → different_after same seen (x ∷ []) ≡ bit (not b)
    unfolding different_after
    different-one seen x b e = let z = ap (λ (c : Bool). bit (not c)) e in omega (arith, z)

    -- an element at place j of a star, none of whose earlier places gives a same one
    pub different-place : (seen : List A) (g : ℕ → List A) (j : ℕ) (x : A) (b : Bool) → some_of (same x) seen ≡ b
        → ((i : ℕ) → i < j → some_of (same x) (g i) ≡ false) → different_after same (seen ++ gather j g) (x ∷ []) ≡ bit (not b)
    different-place seen g j x b e h =
        different-one (seen ++ gather j g) x b
        (some-append (same x) seen (gather j g) ∙ (λ i. e i || (some-gather (same x) j g ∙ among_none (λ i. some_of (same x) (g i)) j h) i) ∙ or-false b)

    pub different-nothing : (seen : List A) → different_after same seen [] ≡ 0
    unfolding different_after
    different-nothing seen = refl

    -- a star's places, of which place j adds c j
    pub different-star : (seen : List A) (g : ℕ → List A) (c : ℕ → ℕ) (d : ℕ) → ((j : ℕ) → j < d → different_after same (seen ++ gather j g) (g j) ≡ c j)
        → different_after same seen (gather d g) ≡ sum_below c d
    unfolding gather sum_below
    different-star seen g c zero h = different-nothing seen
    different-star seen g c (suc d) h =
        let a = different-star seen g c d (λ j l. h j (omega arith)) in
        let b = different-append seen (gather d g) (g d) in
        let e = h d (omega arith) in
        omega (arith, a, b, e)

    -- a table's slots, of which the record v in slot k adds c k v
    pub different-slots : (seen : List A) (g : Record → List A) (c : ℕ → Record → ℕ) (t : List ℕ) (n : ℕ)
        → ((k : ℕ) (v : Record) → k < n → slot_at t k ≡ Some v → different_after same (seen ++ each g (records_below t k)) (g v) ≡ c k v)
        → different_after same seen (each g (records_below t n)) ≡ sum_below (λ k. slot_sum (c k) (slot_at t k)) n
    unfolding records_below each sum_below
    different-slots seen g c t zero h = different-nothing seen
    different-slots seen g c t (suc n) h =
        let a = different-slots seen g c t n (λ k v l. h k v (omega arith)) in
        let b = ap (different_after same seen) (each_more g t n) ∙ different-append seen (each g (records_below t n)) (slot_gives g (slot_at t n)) in
        let e = one (slot_at t n) refl in
        omega (arith, a, b, e)
      where
        one : (s : Option Record) → slot_at t n ≡ s → different_after same (seen ++ each g (records_below t n)) (slot_gives g s) ≡ slot_sum (c n) s
        one None e = different-nothing (seen ++ each g (records_below t n))
        one (Some v) e = h n v (omega arith) e
