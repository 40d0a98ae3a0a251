-- A file's own keys: each tells its record, and sorted they are those of the records in file order.
-- `key_back` the record of a record's key · `file-records` the records of the sorted keys · `filled_next` the keys in the output, slot by slot ·
-- `standing-none`, `standing-room`.
-- Assumes nothing.
use Rattle.std.specs.Prelude.{◌≡◌, refl, ◌⊎◌, ℕ, zero, suc, ◌+◌, ◌*◌, ◌/◌, ◌%◌, ◌≤◌, ◌<◌, ltb, length, Option, Some, None}
use Rattle.std.proofs.Common.{sym, ap, ◌∙◌, subst, inl, inr, arith, length-append}
use mathlib.Core.List.Memᴰ
use mathlib.Core.List.{List, [], ◌∷◌, ◌++◌, map, map-append, Memᴰ}
use Rattle.lattice.specs.declared.records.Record.{Record}
use Rattle.table.specs.Slots.{slots_of, slot_at}
use Rattle.table.specs.Order.{InOrder}
use Rattle.table.specs.Entries.{listed}
use Rattle.text.specs.LineOrder.{order_of, Close, order-earlier, order-one, point_of, order-back}
use Rattle.text.specs.Near.{Near, valid-near}
use Rattle.sorting.specs.Sorting.{sort_by}
use Rattle.sorting.specs.SortLaws.{sort-map, mem-sort}
use Rattle.writers.specs.Files.{before, sorted}
use Rattle.writers.specs.Kept.{places, standing, shape_of, key_for, record_for, Added}
use Rattle.writers.specs.KeptLaws.{standing-more, standing-grow, tail-order, Filled, filled-same, filled_put}

shape-below : (r : Record) → Near r → shape_of r.d r.k r.n.0 < places
shape-below r h = omega (arith, h.d, h.k, h.n)

-- the key tells the record
pub key_back : (r : Record) → Near r → record_for (key_for r) ≡ r
key_back r h =
    let c = shape-below r h in
    let x = order_of r.at in
    let v = x * places + shape_of r.d r.k r.n.0 in
    let at : v / places ≡ x = omega arith in
    let d : v / 256 % 256 ≡ r.d = omega (arith, h.d, h.k, h.n) in
    let k : v / 16 % 16 ≡ r.k = omega (arith, h.k, h.n) in
    let n : v % 16 ≡ r.n.0 = omega (arith, h.n) in
    λ i. record { at = (ap point_of at ∙ order-back r.at (record { a = h.a; b = h.b; m = h.m })) i; d = d i; k = k i; n = record { 0 = n i } }

keys-back : (rs : List Record) → ((r : Record) → Memᴰ r rs → Near r) → map record_for (map key_for rs) ≡ rs
keys-back [] h = refl
keys-back (r ∷ rs) h = λ i. key_back r (h r (Memᴰ.head refl)) i ∷ keys-back rs (λ s m. h s (Memᴰ.tail m)) i

holds-eq : (a b : Record) → Some a ≡ Some b → a ≡ b
holds-eq a b e = cc

-- a record that stands, and its slot
record Stands (f : ℕ → Option Record) (n : ℕ) (r : Record) : Type 0 where
  pub slot : ℕ
  pub below : slot < n
  pub holds : f slot ≡ Some r

stands : (f : ℕ → Option Record) (n : ℕ) (r : Record) → Memᴰ r (standing f n) → Stands f n r
unfolding standing
stands f zero r m = absurd (Memᴰ.not-nil m)
stands f (suc n) r m = go (f n) refl (Memᴰ.append_cases (standing f n) m) (λ k. stands f n r k)
  where
    go : (s : Option Record) → f n ≡ s → Memᴰ r (standing f n) ⊎ Memᴰ r (listed (f n)) → (Memᴰ r (standing f n) → Stands f n r) → Stands f (suc n) r
    go s e (inl k) ih = let x = ih k in record { slot = x.slot; below = omega (arith, x.below); holds = x.holds }
    go None e (inr k) ih = absurd (Memᴰ.not-nil (subst (λ (s : Option Record). Memᴰ r (listed s)) e k))
    go (Some q) e (inr k) ih =
        let same : r ≡ q = Memᴰ.eq_of_singleton (subst (λ (s : Option Record). Memᴰ r (listed s)) e k) in
        record { slot = n; below = omega arith; holds = e ∙ ap Some (sym same) }

module _ (t : List ℕ) (o : InOrder t) (f : ℕ → Option Record) (part : (i : ℕ) (r : Record) → f i ≡ Some r → slot_at t i ≡ Some r) where
  abbrev all : List Record
  all = standing f (slots_of t)

  standing-near : (r : Record) → Memᴰ r all → Near r
  standing-near r m = let s = stands f (slots_of t) r m in valid-near r (o.valid s.slot r s.below (part s.slot r s.holds))

  standing-close : (r : Record) → Memᴰ r all → Close r.at
  standing-close r m = let h = standing-near r m in record { a = h.a; b = h.b; m = h.m }

  -- one point, one record
  standing-one : (r q : Record) → Memᴰ r all → Memᴰ q all → r.at ≡ q.at → r ≡ q
  standing-one r q m n e =
      let x = stands f (slots_of t) r m in
      let y = stands f (slots_of t) q n in
      let hx = part x.slot r x.holds in
      let hy = part y.slot q y.holds in
      let same = o.once x.slot y.slot r q x.below y.below hx hy e in
      holds-eq r q (sym hx ∙ ap (slot_at t) same ∙ hy)

  standing-order : (r q : Record) → Memᴰ r all → Memᴰ q all → before r q ≡ ltb (key_for r) (key_for q)
  standing-order r q m n =
      let c = standing-close r m in
      let d = standing-close q n in
      order-earlier r.at q.at c d
      ∙ sym (tail-order (order_of r.at) (order_of q.at) (shape_of r.d r.k r.n.0) (shape_of q.d q.k q.n.0)
      (shape-below r (standing-near r m)) (shape-below q (standing-near q n))
      (λ e. ap (λ (x : Record). shape_of x.d x.k x.n.0) (standing-one r q m n (order-one r.at q.at c d e))))

  -- the sorted keys are those of the records in file order
  file-keys : sort_by ltb (map key_for all) ≡ map key_for (sorted all)
  file-keys = sym (sort-map before ltb key_for all standing-order)

  pub file-records : map record_for (sort_by ltb (map key_for all)) ≡ sorted all
  file-records = ap (map record_for) file-keys ∙ keys-back (sorted all) (λ r m. standing-near r (mem-sort before all r m))

-- ---- the keys in the output
-- one slot more, where each record has its own key
pub filled_next : (f : ℕ → Option Record) (i : ℕ) (o o₁ o₂ : List ℕ) (k k₂ : ℕ) → Filled o (map key_for (standing f i)) o₁ k
    → Added o₁ k (map key_for (listed (f i))) o₂ k₂ → Filled o (map key_for (standing f (i + 1))) o₂ k₂
filled_next f i o o₁ o₂ k k₂ w a =
    subst (λ (ks : List ℕ). Filled o ks o₂ k₂) (sym (ap (map key_for) (standing-more f i) ∙ map-append key_for (standing f i) (listed (f i)))) (go (f i) a)
  where
    go : (s : Option Record) → Added o₁ k (map key_for (listed s)) o₂ k₂ → Filled o (map key_for (standing f i) ++ map key_for (listed s)) o₂ k₂
    go None b = filled-same o (map key_for (standing f i)) o₁ o₂ k k₂ w b
    go (Some r) b =
        subst (Filled o (map key_for (standing f i) ++ key_for r ∷ []) o₂) (sym b.1) (filled_put o (map key_for (standing f i)) o₁ o₂ k (key_for r) w b.0)

pub standing-room : (f : ℕ → Option Record) (i n : ℕ) → i < n → length (standing f i) + length (listed (f i)) ≤ length (standing f n)
standing-room f i n h =
    let a = standing-grow f (i + 1) n (omega arith) in
    let b = ap length (standing-more f i) in
    let c = length-append (standing f i) (listed (f i)) in
    omega arith

pub standing-none : (f : ℕ → Option Record) → map key_for (standing f 0) ≡ []
unfolding standing
standing-none f = refl
