-- The vertices' keys, which tell the slot: `key_of` the key of a record in a slot, `keys_below` those of the first slots · `record_keyed` the record of a key.
-- `keys_none`, `keys-room` slot by slot, `filled_more` in the output · `keys-inside` a key's slot is in the table · `keys-sorted` the records of
-- the sorted keys are the records in file order.
-- Assumes nothing.
use Rattle.std.specs.Prelude.{◌≡◌, ◌⊎◌, length, Option, Some, None}
use Rattle.std.proofs.Math.Path.{refl, sym, ap}
use Rattle.std.proofs.Common.{◌∙◌, subst, inl, inr, arith, length-append}
use mathlib.Core.List.Memᴰ
use mathlib.Core.List.{List, [], ◌∷◌, ◌++◌, map, map-append, Memᴰ}
use Prim.Native.Nat.{ℕ, zero, suc, ◌+◌, ◌*◌, ◌%◌, ◌≤◌, ◌<◌}
use Rattle.std.proofs.Math.Decide.{dec_le}
use Rattle.std.proofs.Math.Dec.{ltb}
use Rattle.lattice.specs.Records.{nobody}
use Rattle.lattice.specs.declared.records.Record.{Record}
use Rattle.table.specs.Slots.{slot_width, slots_of, slot_at}
use Rattle.table.specs.Order.{InOrder}
use Rattle.table.specs.Entries.{listed}
use Rattle.text.specs.LineOrder.{order_of, close, order-earlier, order-one}
use Rattle.sorting.specs.Sorting.{sort_by}
use Rattle.sorting.specs.SortLaws.{sort-map}
use Rattle.writers.specs.Files.{before, sorted}
use Rattle.writers.specs.Kept.{places, standing, Added}
use Rattle.writers.specs.KeptLaws.{tail-order, Filled, filled-same, filled_put}

-- the key of record r in slot i
unfoldable pub key_of : Record → ℕ → ℕ
unfolding order_of
key_of r i = order_of r.at * places + i

-- those of the first slots, where slot i is f i
abbrev pub keyed : ℕ → Option Record → List ℕ
keyed i None = []
keyed i (Some r) = key_of r i ∷ []

unfoldable pub keys_below : (ℕ → Option Record) → ℕ → List ℕ
keys_below f zero = []
keys_below f (suc i) = keys_below f i ++ keyed i (f i)

-- the record of a key: that of its slot
abbrev pub record_in : Option Record → Record
record_in None = nobody
record_in (Some r) = r

abbrev pub record_keyed : List ℕ → ℕ → Record
record_keyed t v = record_in (slot_at t (v % places))

-- ---- slot by slot

pub keys_none : (f : ℕ → Option Record) → keys_below f 0 ≡ []
unfolding keys_below
keys_none f = refl

keys-more : (f : ℕ → Option Record) (i : ℕ) → keys_below f (i + 1) ≡ keys_below f i ++ keyed i (f i)
unfolding keys_below
keys-more f i = let e : i + 1 ≡ suc i = omega arith in ap (keys_below f) e

keys-grow : (f : ℕ → Option Record) (i n : ℕ) → i ≤ n → length (keys_below f i) ≤ length (keys_below f n)
unfolding keys_below
keys-grow f i zero h = let e : i ≡ 0 = omega arith in subst (λ (k : ℕ). length (keys_below f k) ≤ 0) (sym e) (omega arith)
keys-grow f i (suc n) h = go (dec_le i n) (λ l. keys-grow f i n l)
  where
    go : Dec (i ≤ n) → (i ≤ n → length (keys_below f i) ≤ length (keys_below f n)) → length (keys_below f i) ≤ length (keys_below f n ++ keyed n (f n))
    go (yes l) ih = let a = ih l in omega (arith, length-append (keys_below f n) (keyed n (f n)))
    go (no l) ih = let e : i ≡ suc n = omega arith in subst (λ (k : ℕ). length (keys_below f k) ≤ length (keys_below f (suc n))) (sym e) (omega arith)

pub keys-room : (f : ℕ → Option Record) (i n : ℕ) → i < n → length (keys_below f i) + length (keyed i (f i)) ≤ length (keys_below f n)
keys-room f i n h =
    let a = keys-grow f (i + 1) n (omega arith) in
    let b = ap length (keys-more f i) in
    let c = length-append (keys_below f i) (keyed i (f i)) in
    omega arith

pub filled_more : (f : ℕ → Option Record) (i : ℕ) (o o₁ o₂ : List ℕ) (k k₂ : ℕ) → Filled o (keys_below f i) o₁ k → Added o₁ k (keyed i (f i)) o₂ k₂
    → Filled o (keys_below f (i + 1)) o₂ k₂
filled_more f i o o₁ o₂ k k₂ w a = subst (λ (ks : List ℕ). Filled o ks o₂ k₂) (sym (keys-more f i)) (go (f i) a)
  where
    go : (s : Option Record) → Added o₁ k (keyed i s) o₂ k₂ → Filled o (keys_below f i ++ keyed i s) o₂ k₂
    go None b = filled-same o (keys_below f i) o₁ o₂ k k₂ w b
    go (Some r) b = subst (Filled o (keys_below f i ++ key_of r i ∷ []) o₂) (sym b.1) (filled_put o (keys_below f i) o₁ o₂ k (key_of r i) w b.0)

-- a key, and the slot that it comes from
record Comes (f : ℕ → Option Record) (n v : ℕ) : Type 0 where
  pub slot : ℕ
  pub rec : Record
  pub below : slot < n
  pub holds : f slot ≡ Some rec
  pub is : v ≡ key_of rec slot

keys-come : (f : ℕ → Option Record) (n v : ℕ) → Memᴰ v (keys_below f n) → Comes f n v
unfolding keys_below
keys-come f zero v m = absurd (Memᴰ.not-nil m)
keys-come f (suc n) v m = go (f n) refl (Memᴰ.append_cases (keys_below f n) m) (λ k. keys-come f n v k)
  where
    go : (s : Option Record) → f n ≡ s → Memᴰ v (keys_below f n) ⊎ Memᴰ v (keyed n (f n)) → (Memᴰ v (keys_below f n) → Comes f n v) → Comes f (suc n) v
    go s e (inl k) ih = let x = ih k in record { slot = x.slot; rec = x.rec; below = omega (arith, x.below); holds = x.holds; is = x.is }
    go None e (inr k) ih = absurd (Memᴰ.not-nil (subst (λ (s : Option Record). Memᴰ v (keyed n s)) e k))
    go (Some r) e (inr k) ih =
        record { slot = n; rec = r; below = omega arith; holds = e; is = Memᴰ.eq_of_singleton (subst (λ (s : Option Record). Memᴰ v (keyed n s)) e k) }

key-slot : (r : Record) (i : ℕ) → i < places → key_of r i % places ≡ i
unfolding key_of
key-slot r i h = omega arith

-- ---- of a table in order

module _ (t : List ℕ) (o : InOrder t) where
  few : (i : ℕ) → i < slots_of t → i < places
  few i h = omega (arith, o.fits.most)

  come-record : (v : ℕ) (c : Comes (slot_at t) (slots_of t) v) → record_keyed t v ≡ c.rec
  come-record v c =
      ap (λ (x : ℕ). record_in (slot_at t (x % places))) c.is
      ∙ ap (λ (i : ℕ). record_in (slot_at t i)) (key-slot c.rec c.slot (few c.slot c.below))
      ∙ ap record_in c.holds

  -- a key's slot is in the table
  pub keys-inside : (v : ℕ) → Memᴰ v (keys_below (slot_at t) (slots_of t)) → slot_width * (v % places) + slot_width ≤ length t
  keys-inside v m =
      let c = keys-come (slot_at t) (slots_of t) v m in
      let e : v % places ≡ c.slot = ap (λ (x : ℕ). x % places) c.is ∙ key-slot c.rec c.slot (few c.slot c.below) in
      omega (arith, c.below, o.fits.long)

  keys-map : (k : ℕ) → k ≤ slots_of t → map (record_keyed t) (keys_below (slot_at t) k) ≡ standing (slot_at t) k
  unfolding keys_below standing
  keys-map zero h = refl
  keys-map (suc k) h =
      map-append (record_keyed t) (keys_below (slot_at t) k) (keyed k (slot_at t k)) ∙ (λ i. keys-map k (omega arith) i ++ one (slot_at t k) refl i)
    where
      one : (s : Option Record) → slot_at t k ≡ s → map (record_keyed t) (keyed k s) ≡ listed s
      one None e = refl
      one (Some r) e = λ i. (ap (λ (x : ℕ). record_in (slot_at t x)) (key-slot r k (few k (omega arith))) ∙ ap record_in e) i ∷ []

  keys-order : (v w : ℕ) → Memᴰ v (keys_below (slot_at t) (slots_of t)) → Memᴰ w (keys_below (slot_at t) (slots_of t))
      → ltb v w ≡ before (record_keyed t v) (record_keyed t w)
  unfolding key_of
  keys-order v w m n =
      let c = keys-come (slot_at t) (slots_of t) v m in
      let d = keys-come (slot_at t) (slots_of t) w n in
      let hc = c.holds in
      let hd = d.holds in
      let cc' = close c.rec (o.valid c.slot c.rec c.below hc) in
      let cd = close d.rec (o.valid d.slot d.rec d.below hd) in
      (λ i. ltb (c.is i) (d.is i))
      ∙ tail-order (order_of c.rec.at) (order_of d.rec.at) c.slot d.slot (few c.slot c.below) (few d.slot d.below)
      (λ e. o.once c.slot d.slot c.rec d.rec c.below d.below hc hd (order-one c.rec.at d.rec.at cc' cd e))
      ∙ sym (order-earlier c.rec.at d.rec.at cc' cd)
      ∙ sym (λ i. before (come-record v c i) (come-record w d i))

  -- the records of the sorted keys are the records in file order
  pub keys-sorted : map (record_keyed t) (sort_by ltb (keys_below (slot_at t) (slots_of t))) ≡ sorted (standing (slot_at t) (slots_of t))
  keys-sorted = sort-map ltb before (record_keyed t) (keys_below (slot_at t) (slots_of t)) keys-order ∙ ap sorted (keys-map (slots_of t) (omega arith))
