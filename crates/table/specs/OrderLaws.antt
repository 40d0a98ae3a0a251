-- The laws of a table in order, over its slots: slot i is `f i`, and no byte is opened.
-- `Result`, `result` what a search tells · `Ordered` the three conditions on slots, `far` the last of them as an inequality, `nearer` back ·
-- `present` the search for a record's point ends at its slot · `order-test`, `test-order` the test is true where and only where the table is in
-- order.
-- The test asks one thing of each record, that its own search ends at it. A search that ends at slot i met other records only: so no slot on the way
-- is free; and of two records of one point the search finds one slot only, so there are no two.
-- Assumes nothing.
use Rattle.std.specs.Prelude.{◌≡◌, Bool, false, ◌&&◌, List, ℕ, ◌≤◌, ◌<◌, length, Option, Some, None}
use Rattle.std.proofs.Math.Path.{refl, sym, ap}
use Rattle.std.proofs.Common.{◌∙◌, subst, arith}
use Rattle.std.proofs.Math.Bool.{true}
use Rattle.std.proofs.Math.Decide.{dec_lt}
use borrow.Author.Tests.{eq-eqb, eqb-true}
use Rattle.laws.specs.Each.{both_left, both_right, upto-each, each-upto}
use Rattle.lattice.specs.Records.{valid_of}
use Rattle.lattice.specs.declared.points.Point.{Point}
use Rattle.lattice.specs.declared.records.Record.{Record}
use Rattle.table.specs.Slots.{Table, fits_length, slots_of, slot_at}
use Rattle.table.specs.Search.{home_of, meets, settle, seek, find_of}
use Rattle.table.specs.Order.{steps, EachValid, NoneTwice, NoneFreeBefore, InOrder, is_at, placed_slot, placed_at, all_placed, in_order_of}
use Rattle.table.specs.SlotLaws.{home_below, table-test, test_table, slots-table, no-slots}
use Rattle.table.specs.SearchLaws.{walk, Others, search-found, search-full, walk-below, steps-below, steps-walk, walk_steps, Kind, kind, free}
use Rattle.table.specs.SearchLaws.{own, alien, own-hit, End, ends, hits, gaps, full}
use Rattle.table.specs.declared.probe.Meet.{Meet}
use Rattle.table.specs.declared.probe.Meet.TheVariants.{Hit, Gap, Other}
use Rattle.table.specs.declared.probe.Found.{Found}
use Rattle.table.specs.declared.probe.Found.TheVariants as found

-- ---- a search in n slots

module _ (n : ℕ) (some : 0 < n) (f : ℕ → Option Record) (p : Point) where
  -- slot k steps from p's home settles the search, all before it being other points'
  settled : (k : ℕ) (o : Found) → k < n → Others (λ i. meets (f i) p) n (home_of p n) k
      → ((r : Found) → settle (meets (f (walk n (home_of p n) k)) p) (walk n (home_of p n) k) r ≡ o) → seek n f p ≡ o
  settled k o h os e = search-found (λ i. meets (f i) p) n k (home_of p n) n o (home_below n some p) h (let l : n ≤ n = omega arith in l) os e

  -- the slots nearer to p's home than slot i are other points'
  abbrev pub Passed : ℕ → Type 0
  Passed i = (s : ℕ) → s < n → steps n (home_of p n) s < steps n (home_of p n) i → meets (f s) p ≡ Other

  passed : (k : ℕ) → k < n → Others (λ i. meets (f i) p) n (home_of p n) k → Passed (walk n (home_of p n) k)
  passed k h os s hs l =
      let m : steps n (home_of p n) s < k = omega (arith, steps-walk n (home_of p n) (home_below n some p) k h) in
      ap (λ (x : ℕ). meets (f x) p) (sym (walk_steps n (home_of p n) (home_below n some p) s hs)) ∙ os (steps n (home_of p n) s) m

  pub record Hits (i : ℕ) : Type 0 where
    pub below : i < n
    pub rec : Record
    pub held : f i ≡ Some rec
    pub same : rec.at ≡ p
    pub others : Passed i

  pub record Gaps (i : ℕ) : Type 0 where
    pub below : i < n
    pub free : f i ≡ None
    pub others : Passed i

  hits-of : (i : ℕ) → i < n → Passed i → meets (f i) p ≡ Hit → Hits i
  hits-of i h os e = go (kind (f i) p)
    where
      go : Kind (f i) p → Hits i
      go (free a b) = absurd (let q : ◌≡◌ {A = ℕ} 0 1 = cc in omega arith)
      go (own r a s b) = record { below = h; rec = r; held = a; same = s; others = os }
      go (alien r a b) = absurd (let q : ◌≡◌ {A = ℕ} 0 1 = cc in omega arith)

  free_of : (i : ℕ) → meets (f i) p ≡ Gap → f i ≡ None
  free_of i e = go (kind (f i) p)
    where
      go : Kind (f i) p → f i ≡ None
      go (free a b) = a
      go (own r a s b) = absurd (let q : ◌≡◌ {A = ℕ} 0 1 = cc in omega arith)
      go (alien r a b) = absurd (let q : ◌≡◌ {A = ℕ} 0 1 = cc in omega arith)

  -- what a search tells, by where it ended
  pub data Result : Type 0 where
    at : (i : ℕ) → seek n f p ≡ found.At i → Hits i → Result
    gap : (i : ℕ) → seek n f p ≡ found.Free i → Gaps i → Result
    none : seek n f p ≡ found.Full → ((s : ℕ) → s < n → meets (f s) p ≡ Other) → Result

  pub result : Result
  result = go (ends (λ i. meets (f i) p) n (home_of p n) n)
    where
      go : End (λ i. meets (f i) p) n (home_of p n) n → Result
      go (hits k h os e) =
          at (walk n (home_of p n) k) (settled k (found.At (walk n (home_of p n) k)) h os (λ r. ap (λ (m : Meet). settle m (walk n (home_of p n) k) r) e))
          (hits-of (walk n (home_of p n) k) (walk-below n (home_of p n) (home_below n some p) k h) (passed k h os) e)
      go (gaps k h os e) =
          gap (walk n (home_of p n) k) (settled k (found.Free (walk n (home_of p n) k)) h os (λ r. ap (λ (m : Meet). settle m (walk n (home_of p n) k) r) e))
          (record { below = walk-below n (home_of p n) (home_below n some p) k h; free = free_of (walk n (home_of p n) k) e; others = passed k h os })
      go (full os) =
          none (search-full (λ i. meets (f i) p) n n (home_of p n) (home_below n some p) (let l : n ≤ n = omega arith in l) os)
          (λ s h. ap (λ (x : ℕ). meets (f x) p) (sym (walk_steps n (home_of p n) (home_below n some p) s h))
          ∙ os (steps n (home_of p n) s) (steps-below n (home_of p n) (home_below n some p) s h))

  pub found_at : (i : ℕ) → seek n f p ≡ found.At i → Hits i
  found_at i e = go result
    where
      go : Result → Hits i
      go (at j e' h) = let q : j ≡ i = cc in subst Hits q h
      go (gap j e' h) = absurd (let q : ◌≡◌ {A = ℕ} 0 1 = cc in omega arith)
      go (none e' h) = absurd (let q : ◌≡◌ {A = ℕ} 0 1 = cc in omega arith)

  pub free-at : (i : ℕ) → seek n f p ≡ found.Free i → Gaps i
  free-at i e = go result
    where
      go : Result → Gaps i
      go (at j e' h) = absurd (let q : ◌≡◌ {A = ℕ} 0 1 = cc in omega arith)
      go (gap j e' h) = let q : j ≡ i = cc in subst Gaps q h
      go (none e' h) = absurd (let q : ◌≡◌ {A = ℕ} 0 1 = cc in omega arith)

  -- a free slot is no nearer to p's home than one before which all are others', and if it is as near it is that one
  pub free-far : (i s : ℕ) → i < n → s < n → Passed i → f s ≡ None → (s ≡ i → ⊥) → steps n (home_of p n) i < steps n (home_of p n) s
  free-far i s hi hs os e ne = go (dec_lt (steps n (home_of p n) i) (steps n (home_of p n) s)) (dec_lt (steps n (home_of p n) s) (steps n (home_of p n) i))
    where
      go : Dec (steps n (home_of p n) i < steps n (home_of p n) s) → Dec (steps n (home_of p n) s < steps n (home_of p n) i)
          → steps n (home_of p n) i < steps n (home_of p n) s
      go (yes l) d = l
      go (no l) (yes m) =
          let o : meets (f s) p ≡ Other = os s hs m in
          let g : meets (f s) p ≡ Gap = ap (λ (x : Option Record). meets x p) e in
          absurd (let q : ◌≡◌ {A = ℕ} 0 1 = cc in omega arith)
      go (no l) (no m) =
          let d : steps n (home_of p n) s ≡ steps n (home_of p n) i = omega arith in
          absurd (ne (sym (walk_steps n (home_of p n) (home_below n some p) s hs)
          ∙ ap (walk n (home_of p n)) d ∙ walk_steps n (home_of p n) (home_below n some p) i hi))

-- ---- a table in order

-- the three conditions on its slots
pub record Ordered (n : ℕ) (f : ℕ → Option Record) : Type 0 where
  pub valid : EachValid n f
  pub once : NoneTwice n f
  pub reach : NoneFreeBefore n f

-- the last of them: a free slot lies farther from a record's home than the record
abbrev pub Far : (n : ℕ) (f : ℕ → Option Record) → Type 0
Far n f = (i s : ℕ) (r : Record) → i < n → s < n → f i ≡ Some r → f s ≡ None → steps n (home_of r.at n) i < steps n (home_of r.at n) s

module _ (n : ℕ) (f : ℕ → Option Record) where
  pub far : NoneFreeBefore n f → Far n f
  far reach i s r hi hs e fr = go (dec_lt (steps n (home_of r.at n) i) (steps n (home_of r.at n) s))
    where
      go : Dec (steps n (home_of r.at n) i < steps n (home_of r.at n) s) → steps n (home_of r.at n) i < steps n (home_of r.at n) s
      go (yes l) = l
      go (no l) = absurd (reach i s r hi hs e (omega arith) fr)

  pub nearer : Far n f → NoneFreeBefore n f
  nearer h i s r hi hs e w fr = omega (arith, h i s r hi hs e fr)

module _ (n : ℕ) (some : 0 < n) (f : ℕ → Option Record) where
  -- the search for a record's point ends at its slot
  pub present : Ordered n f → (i : ℕ) (r : Record) → i < n → f i ≡ Some r → seek n f r.at ≡ found.At i
  present ord i r hi e =
      let h = home_of r.at n in
      let hb = home_below n some r.at in
      settled n some f r.at (steps n h i) (found.At i) (steps-below n h hb i hi)
      (λ j hj.
      let hj' : j < n = omega (arith, steps-below n h hb i hi) in
      go j hj (walk n h j) (walk-below n h hb j hj') (steps-walk n h hb j hj') (kind (f (walk n h j)) r.at))
      (λ o. ap (λ (x : ℕ). settle (meets (f x) r.at) x o) (walk_steps n h hb i hi) ∙ ap (λ (m : Meet). settle m i o) (own-hit (f i) r e))
    where
      go : (j : ℕ) → j < steps n (home_of r.at n) i → (s : ℕ) → s < n → steps n (home_of r.at n) s ≡ j → Kind (f s) r.at → meets (f s) r.at ≡ Other
      go j hj s sb sd (free a b) = absurd (omega (arith, far n f ord.reach i s r hi sb e a))
      go j hj s sb sd (own q a same b) =
          let y : steps n (home_of r.at n) s ≡ steps n (home_of r.at n) i = ap (steps n (home_of r.at n)) (ord.once s i q r sb hi a e same) in
          absurd (omega arith)
      go j hj s sb sd (alien q a b) = b

  -- where each record is valid and its own search ends at it, the slots are in order
  pub placed-order : ((i : ℕ) (r : Record) → i < n → f i ≡ Some r → valid_of r ≡ true)
      → ((i : ℕ) (r : Record) → i < n → f i ≡ Some r → seek n f r.at ≡ found.At i) → Ordered n f
  placed-order ok finds = record { valid = ok; once = once; reach = nearer n f reach }
    where
      once : NoneTwice n f
      once i j r q hi hj er eq same =
          let a = finds i r hi er in
          let b = finds j q hj eq in
          let c : found.At i ≡ found.At j = sym a ∙ ap (seek n f) same ∙ b in
          cc

      reach : Far n f
      reach i s r hi hs e fr =
          free-far n some f r.at i s hi hs (found_at n some f r.at i (finds i r hi e)).others fr
          (λ x. let y : None ≡ Some r = sym fr ∙ ap f x ∙ e in let q : ◌≡◌ {A = ℕ} 0 1 = cc in omega arith)

-- ---- the test, on bytes

pub slots-some : (t : List ℕ) (n : ℕ) → Table t n → 0 < n
slots-some t n w = omega (arith, w.least)

pub order-slots : (t : List ℕ) → InOrder t → Ordered (slots_of t) (slot_at t)
order-slots t o = record { valid = o.valid; once = o.once; reach = o.reach }

pub slots-order : (t : List ℕ) → Table t (slots_of t) → Ordered (slots_of t) (slot_at t) → InOrder t
slots-order t w o = record { fits = w; valid = o.valid; once = o.once; reach = o.reach }

is_at-true : (o : Found) (i : ℕ) → is_at o i ≡ true → o ≡ found.At i
is_at-true (found.At j) i e = ap found.At (eqb-true j i e)
is_at-true (found.Free j) i e = absurd (let q : ◌≡◌ {A = ℕ} 0 1 = cc in omega arith)
is_at-true found.Full i e = absurd (let q : ◌≡◌ {A = ℕ} 0 1 = cc in omega arith)

module _ (t : List ℕ) where
  placed-slot : (i : ℕ) (s : Option Record) → slot_at t i ≡ s → placed_at t i ≡ placed_slot t i s
  unfolding placed_at
  placed-slot i s e = ap (placed_slot t i) e

  pub order-test : InOrder t → in_order_of t ≡ true
  unfolding in_order_of all_placed find_of
  order-test o =
      ap (λ (b : Bool). b && all_placed t (slots_of t)) (table-test t (slots_of t) o.fits)
      ∙ each-upto (placed_at t) (slots_of t) (λ i h. go i h (slot_at t i) refl)
    where
      go : (i : ℕ) → i < slots_of t → (s : Option Record) → slot_at t i ≡ s → placed_at t i ≡ true
      go i h None e = placed-slot i None e
      go i h (Some r) e =
          placed-slot i (Some r) e ∙ ap (λ (b : Bool). b && is_at (find_of t r.at) i) (o.valid i r h e)
          ∙ ap (λ (x : Found). is_at x i) (present (slots_of t) (slots-some t (slots_of t) o.fits) (slot_at t) (order-slots t o) i r h e) ∙ eq-eqb i i refl

  pub test-order : in_order_of t ≡ true → InOrder t
  unfolding in_order_of all_placed find_of
  test-order h =
      let w = test_table t (both_left (fits_length (length t)) (all_placed t (slots_of t)) h) in
      let all = both_right (fits_length (length t)) (all_placed t (slots_of t)) h in
      let each : (i : ℕ) (r : Record) → i < slots_of t → slot_at t i ≡ Some r → valid_of r && is_at (find_of t r.at) i ≡ true =
      λ i r l e. sym (placed-slot i (Some r) e) ∙ upto-each (placed_at t) (slots_of t) i all l in
      slots-order t w (placed-order (slots_of t) (slots-some t (slots_of t) w) (slot_at t)
      (λ i r l e. both_left (valid_of r) (is_at (find_of t r.at) i) (each i r l e))
      (λ i r l e. is_at-true (find_of t r.at) i (both_right (valid_of r) (is_at (find_of t r.at) i) (each i r l e))))

  -- what the code's two ways give
  pub not-fitting : slots_of t ≡ 0 → false ≡ in_order_of t
  unfolding in_order_of
  not-fitting z = sym (ap (λ (b : Bool). b && all_placed t (slots_of t)) (no-slots t z))

  pub fitting : (n : ℕ) → n ≡ slots_of t → (n ≡ 0 → ⊥) → all_placed t n ≡ in_order_of t
  unfolding in_order_of
  fitting n e h = ap (all_placed t) e ∙ sym (ap (λ (b : Bool). b && all_placed t (slots_of t)) (table-test t n (slots-table t n e h)))
