-- "Numbers run from 0 in full-file order": a vertex's number is how many records stand before it in the full file.
-- `Placed`, `number-place` · `number-one` no two vertices have one number.
-- Assumes nothing.
use Rattle.std.specs.Prelude.{◌≡◌, ◌⊎◌, Bool, true, false, ℕ, length, get_or, Option, Some, None}
use Rattle.std.proofs.Math.Path.{refl, ap}
use Rattle.std.proofs.Common.{sym, ◌∙◌, subst, inl, inr, ltb-true, le-ltb}
use mathlib.Core.List.Memᴰ
use mathlib.Core.List.{List, [], ◌∷◌, ◌++◌, Memᴰ}
use native.Mathlib.Omega.{arith}
use Rattle.laws.specs.Each.{never}
use Rattle.lattice.specs.declared.points.Point.{Point}
use Rattle.lattice.specs.declared.records.Record.{Record}
use Rattle.table.specs.Order.{InOrder}
use Rattle.table.specs.Entries.{look_up, is_held, holds, records_of}
use Rattle.table.specs.MapLaws.{records-looked, looked-records, lookup-valid, lookup-point}
use Rattle.firsts.specs.Faces.{bit}
use Rattle.text.specs.LineOrder.{order_of, Close, close, earlier, order-earlier}
use Rattle.sorting.specs.SortLaws.{Rising}
use Rattle.writers.specs.Files.{before, sorted}
use Rattle.writers.specs.FileLaws.{Before, sorted_rises, sorted-holds, holds-sorted}
use Rattle.numbering.specs.Numbering.{how_many, number_of}
use Rattle.numbering.specs.Counting.{many-append, many-sort}

module _ {A : Type 0} where
  many-all : (test : A → Bool) (xs : List A) → ((x : A) → Memᴰ x xs → test x ≡ true) → how_many test xs ≡ length xs
  unfolding how_many
  many-all test [] h = refl
  many-all test (x ∷ xs) h =
      let a = many-all test xs (λ y m. h y (Memᴰ.tail m)) in
      let b : bit (test x) ≡ 1 = ap bit (h x (Memᴰ.head refl)) in
      omega arith

  many-no : (test : A → Bool) (xs : List A) → ((x : A) → Memᴰ x xs → test x ≡ false) → how_many test xs ≡ 0
  unfolding how_many
  many-no test [] h = refl
  many-no test (x ∷ xs) h =
      let a = many-no test xs (λ y m. h y (Memᴰ.tail m)) in
      let b : bit (test x) ≡ 0 = ap bit (h x (Memᴰ.head refl)) in
      omega arith

  -- the place of an element
  abbrev Split : A → List A → Type 0
  Split x xs = (us : List A) × (bs : List A) × (xs ≡ us ++ x ∷ bs)

  mem-split : (x : A) (xs : List A) → Memᴰ x xs → Split x xs
  mem-split x [] m = absurd (Memᴰ.not-nil m)
  mem-split x (y ∷ ys) m = go (Memᴰ.cases_cons m) (λ k. mem-split x ys k)
    where
      go : (x ≡ y) ⊎ Memᴰ x ys → (Memᴰ x ys → (us : List A) × (bs : List A) × (ys ≡ us ++ x ∷ bs))
          → (us : List A) × (bs : List A) × (y ∷ ys ≡ us ++ x ∷ bs)
      go (inl e) ih = ([], ys, ap (λ (z : A). z ∷ ys) (sym e))
      go (inr k) ih = let w = ih k in (y ∷ w.0, w.1, ap (λ (l : List A). y ∷ l) w.2)

  at_split : (d : A) (us : List A) (x : A) (bs : List A) → get_or (us ++ x ∷ bs) (length us) d ≡ x
  at_split d [] x bs = refl
  at_split d (a ∷ us) x bs = at_split d us x bs

-- in a list that rises each element is R to those after it, and those before are to it
module _ {A : Type 0} (R : A → A → Type 0) where
  rising-before : (us : List A) (x : A) (bs : List A) → Rising R (us ++ x ∷ bs) → (y : A) → Memᴰ y us → R y x
  rising-before [] x bs r y m = absurd (Memᴰ.not-nil m)
  rising-before (a ∷ us) x bs r y m = go (Memᴰ.cases_cons m) (λ k. rising-before us x bs r.1 y k)
    where
      go : (y ≡ a) ⊎ Memᴰ y us → (Memᴰ y us → R y x) → R y x
      go (inl e) ih = subst (λ (z : A). R z x) (sym e) (r.0 x (Memᴰ.append_right us (Memᴰ.head refl)))
      go (inr k) ih = ih k

  rising-after : (us : List A) (x : A) (bs : List A) → Rising R (us ++ x ∷ bs) → (y : A) → Memᴰ y bs → R x y
  rising-after [] x bs r y m = r.0 y m
  rising-after (a ∷ us) x bs r y m = rising-after us x bs r.1 y m

-- the record of a vertex has a line in the full file, and its number is how many stand before that
pub record Placed (t : List ℕ) (r : Record) : Type 0 where
  pub earlier-ones : List Record
  pub later_ones : List Record
  pub file : sorted (records_of t) ≡ earlier-ones ++ r ∷ later_ones
  pub number : number_of t r.at ≡ length earlier-ones

not-later : (p q : Point) → Close p → Close q → earlier p q ≡ true → earlier q p ≡ false
not-later p q c d e =
    let l = ltb-true (order_of p) (order_of q) (sym (order-earlier p q c d) ∙ e) in
    order-earlier q p d c ∙ le-ltb (order_of q) (order_of p) (omega arith)

not_itself : (p : Point) → Close p → earlier p p ≡ false
not_itself p c = order-earlier p p c c ∙ le-ltb (order_of p) (order_of p) (omega arith)

module _ (t : List ℕ) (o : InOrder t) where
  near : (r : Record) → Memᴰ r (sorted (records_of t)) → Close r.at
  near r m = close r (lookup-valid t o r.at r (records-looked t o r (sorted-holds t r m)))

  counted : (r : Record) (us bs : List Record) → sorted (records_of t) ≡ us ++ r ∷ bs → number_of t r.at ≡ length us
  counted r us bs e =
      let test : Record → Bool = λ q. earlier q.at r.at in
      let a = many-all test us (λ q m. rising-before Before us r bs rise q m) in
      let b = many-no test (r ∷ bs) (λ q m. later q (Memᴰ.cases_cons m)) in
      let c = sym (many-sort test before (records_of t)) ∙ ap (how_many test) e ∙ many-append test us (r ∷ bs) in
      omega (arith, a, b, c)
    where
      rise : Rising Before (us ++ r ∷ bs)
      rise = subst (Rising Before) e (sorted_rises t o)

      inside : (q : Record) → Memᴰ q (r ∷ bs) → Memᴰ q (sorted (records_of t))
      inside q m = subst (Memᴰ q) (sym e) (Memᴰ.append_right us m)

      later : (q : Record) → (q ≡ r) ⊎ Memᴰ q bs → earlier q.at r.at ≡ false
      later q (inl k) = ap (λ (x : Record). earlier x.at r.at) k ∙ not_itself r.at (near r (inside r (Memᴰ.head refl)))
      later q (inr m) =
          not-later r.at q.at (near r (inside r (Memᴰ.head refl))) (near q (inside q (Memᴰ.tail m))) (rising-after Before us r bs rise q m)

  pub number-place : (r : Record) → Memᴰ r (records_of t) → Placed t r
  number-place r m =
      let (us, bs, e) = mem-split r (sorted (records_of t)) (holds-sorted t r m) in
      record { earlier-ones = us; later_ones = bs; file = e; number = counted r us bs e }

  vertex : (p : Point) → holds t p ≡ true → (r : Record) × Memᴰ r (records_of t) × (r.at ≡ p)
  vertex p h = go (look_up t p) refl h
    where
      go : (l : Option Record) → look_up t p ≡ l → is_held l ≡ true → (r : Record) × Memᴰ r (records_of t) × (r.at ≡ p)
      go None e k = absurd (never k)
      go (Some r) e k = (r, looked-records t o p r e, lookup-point t o p r e)

  pub number-one : (p q : Point) → holds t p ≡ true → holds t q ≡ true → number_of t p ≡ number_of t q → p ≡ q
  number-one p q h k e =
      let (r, m, a) = vertex p h in
      let (s, n, b) = vertex q k in
      let w = number-place r m in
      let z = number-place s n in
      let long : length w.earlier-ones ≡ length z.earlier-ones = sym w.number ∙ ap (number_of t) a ∙ e ∙ sym (ap (number_of t) b) ∙ z.number in
      let one : r ≡ s = sym (at_split r w.earlier-ones r w.later_ones)
      ∙ (λ i. get_or ((sym w.file ∙ z.file) i) (long i) r) ∙ at_split r z.earlier-ones s z.later_ones in
      sym a ∙ ap (λ (x : Record). x.at) one ∙ b
