-- A table in order as a map, read: a search and its three ends, what the map holds, and two tables that hold the same. MapLaws has the index.
-- Assumes nothing.
use Rattle.std.proofs.Math.Path.{◌≡◌, sym, ap}
use Rattle.std.specs.Prelude.{refl, true, false, List, ℕ, ◌≤◌, ◌<◌, Option, Some, None}
use Rattle.std.proofs.Common.{◌∙◌, subst, arith}
use Rattle.laws.specs.Each.{not-both}
use Rattle.lattice.specs.Records.{valid_of}
use Rattle.lattice.specs.declared.points.Point.{Point}
use Rattle.lattice.specs.declared.records.Record.{Record}
use Rattle.table.specs.Slots.{Table, slots_of, slot_at, free_slots}
use Rattle.table.specs.Search.{meets, find_of}
use Rattle.table.specs.Order.{InOrder}
use Rattle.table.specs.Ranges.{in_ranges, valid-inside}
use Rattle.table.specs.Entries.{held_in, looked_at, look_up, slot_found}
use Rattle.table.specs.SlotLaws.{table-slots}
use Rattle.table.specs.OrderLaws.{slots-some, order-slots, Result, result, at, gap, none, present}
use Rattle.table.specs.ChangeLaws.{free_one, none_free}
use Rattle.table.specs.declared.probe.Meet.TheVariants.{Gap, Other}
use Rattle.table.specs.declared.probe.Found.{Found}
use Rattle.table.specs.declared.probe.Found.TheVariants as found
use Rattle.table.specs.WriteLaws.{StandsIn}

-- ---- a table

pub order-table : (t : List ℕ) → InOrder t → Table t (slots_of t)
order-table t o = o.fits

pub held-not-absent : {A : Type 0} (r : Record) {o : Option Record} → o ≡ Some r → o ≡ None → A
held-not-absent r h a = absurd (let z : ◌≡◌ {A = ℕ} 0 1 = cc in omega arith)

pub held-eq : (a b : Record) → Some a ≡ Some b → a ≡ b
held-eq a b e = cc

-- ---- a search, and what it says of the map and of the free slots

pub data Searched (t : List ℕ) (p : Point) : Type 0 where
  -- it ended at the point's record
  there : (i : ℕ) (r : Record) → find_of t p ≡ found.At i → i < slots_of t → slot_at t i ≡ Some r → r.at ≡ p → look_up t p ≡ Some r → Searched t p
  -- it ended at a free slot: the point is absent, and there is room
  room : (i : ℕ) → find_of t p ≡ found.Free i → i < slots_of t → slot_at t i ≡ None → look_up t p ≡ None → 0 < free_slots t → Searched t p
  -- it has seen all: the point is absent, and there is no room
  full : find_of t p ≡ found.Full → look_up t p ≡ None → free_slots t ≡ 0 → Searched t p

module _ (t : List ℕ) (w : Table t (slots_of t)) (p : Point) where
  looked-at : (o : Found) → find_of t p ≡ o → look_up t p ≡ looked_at t o
  unfolding look_up
  looked-at o e = ap (looked_at t) e

  pub searched : Searched t p
  unfolding find_of
  searched = go (result (slots_of t) (slots-some t (slots_of t) w) (slot_at t) p)
    where
      go : Result (slots_of t) (slots-some t (slots_of t) w) (slot_at t) p → Searched t p
      go (at i e h) = there i h.rec e h.below h.held h.same (looked-at (found.At i) e ∙ ap held_in h.held)
      go (gap i e h) = room i e h.below h.free (looked-at (found.Free i) e) (free_one (slot_at t) (slots_of t) i h.below h.free)
      go (none e h) =
          full e (looked-at found.Full e)
          (none_free (slot_at t) (slots_of t)
          (λ s l f. let x : Gap ≡ Other = sym (ap (λ (c : Option Record). meets c p) f) ∙ h s l in let z : ◌≡◌ {A = ℕ} 0 1 = cc in omega arith))

  -- what the map holds, by where it ended
  pub record AtHeld (i : ℕ) : Type 0 where
    pub rec : Record
    pub looked : look_up t p ≡ Some rec
    pub point : rec.at ≡ p
    pub below : i < slots_of t
    pub holds : slot_at t i ≡ Some rec

  pub record AtFree (i : ℕ) : Type 0 where
    pub looked : look_up t p ≡ None
    pub below : i < slots_of t
    pub free : slot_at t i ≡ None
    pub some : 0 < free_slots t

  pub at_held : (i : ℕ) → find_of t p ≡ found.At i → AtHeld i
  at_held i h = go searched
    where
      go : Searched t p → AtHeld i
      go (there j q e l s a k) = let x : j ≡ i = cc in subst AtHeld x (record { rec = q; looked = k; point = a; below = l; holds = s })
      go (room j e l s a k) = absurd (let z : ◌≡◌ {A = ℕ} 0 1 = cc in omega arith)
      go (full e a k) = absurd (let z : ◌≡◌ {A = ℕ} 0 1 = cc in omega arith)

  pub at-free : (i : ℕ) → find_of t p ≡ found.Free i → AtFree i
  at-free i h = go searched
    where
      go : Searched t p → AtFree i
      go (there j q e l s a k) = absurd (let z : ◌≡◌ {A = ℕ} 0 1 = cc in omega arith)
      go (room j e l s a k) = let x : j ≡ i = cc in subst AtFree x (record { looked = a; below = l; free = s; some = k })
      go (full e a k) = absurd (let z : ◌≡◌ {A = ℕ} 0 1 = cc in omega arith)

  pub at-full : find_of t p ≡ found.Full → (look_up t p ≡ None) × (free_slots t ≡ 0)
  at-full h = go searched
    where
      go : Searched t p → (look_up t p ≡ None) × (free_slots t ≡ 0)
      go (there j q e l s a k) = absurd (let z : ◌≡◌ {A = ℕ} 0 1 = cc in omega arith)
      go (room j e l s a k) = absurd (let z : ◌≡◌ {A = ℕ} 0 1 = cc in omega arith)
      go (full e a k) = (a, k)

  -- where it ends, by what the map holds
  pub find-held : (r : Record) → look_up t p ≡ Some r → (i : ℕ) × (find_of t p ≡ found.At i) × (slot_at t i ≡ Some r)
  find-held r h = go searched
    where
      go : Searched t p → (i : ℕ) × (find_of t p ≡ found.At i) × (slot_at t i ≡ Some r)
      go (there i q e l s a k) = (i, e, s ∙ ap Some (held-eq q r (sym k ∙ h)))
      go (room i e l s a k) = held-not-absent r h a
      go (full e a k) = held-not-absent r h a

  pub find-free : look_up t p ≡ None → 0 < free_slots t → (i : ℕ) × (find_of t p ≡ found.Free i) × (i < slots_of t)
  find-free h f = go searched
    where
      go : Searched t p → (i : ℕ) × (find_of t p ≡ found.Free i) × (i < slots_of t)
      go (there i q e l s a k) = held-not-absent q k h
      go (room i e l s a k) = (i, e, l)
      go (full e a k) = absurd (omega arith)

  pub find-full : look_up t p ≡ None → free_slots t ≡ 0 → find_of t p ≡ found.Full
  find-full h f = go searched
    where
      go : Searched t p → find_of t p ≡ found.Full
      go (there i q e l s a k) = held-not-absent q k h
      go (room i e l s a k) = absurd (omega arith)
      go (full e a k) = e

  -- what the map holds, by the slot of the point: one of the n, or n
  pub slot-in-held : (n s : ℕ) → Table t n → s ≡ slot_found n (find_of t p) → s < n → held_in (slot_at t s) ≡ look_up t p
  slot-in-held n s v h b = go searched
    where
      go : Searched t p → held_in (slot_at t s) ≡ look_up t p
      go (there i q e l c a k) = let x : s ≡ i = h ∙ ap (slot_found n) e in ap (λ (j : ℕ). held_in (slot_at t j)) x ∙ ap held_in c ∙ sym k
      go (room i e l c a k) = absurd (let x : s ≡ n = h ∙ ap (slot_found n) e in omega arith)
      go (full e a k) = absurd (let x : s ≡ n = h ∙ ap (slot_found n) e in omega arith)

  pub slot-in-absent : (n s : ℕ) → Table t n → s ≡ slot_found n (find_of t p) → (s < n → ⊥) → look_up t p ≡ None
  slot-in-absent n s v h b = go searched
    where
      go : Searched t p → look_up t p ≡ None
      go (there i q e l c a k) = absurd (let x : s ≡ i = h ∙ ap (slot_found n) e in b (omega (arith, table-slots t n v)))
      go (room i e l c a k) = a
      go (full e a k) = a

  pub slot-in-most : (n s : ℕ) → Table t n → s ≡ slot_found n (find_of t p) → s ≤ n
  slot-in-most n s v h = go searched
    where
      go : Searched t p → s ≤ n
      go (there i q e l c a k) = let x : s ≡ i = h ∙ ap (slot_found n) e in omega (arith, table-slots t n v)
      go (room i e l c a k) = let x : s ≡ n = h ∙ ap (slot_found n) e in omega arith
      go (full e a k) = let x : s ≡ n = h ∙ ap (slot_found n) e in omega arith

  looked-stands : (r : Record) → look_up t p ≡ Some r → StandsIn t r × (r.at ≡ p)
  looked-stands r h = go searched
    where
      go : Searched t p → StandsIn t r × (r.at ≡ p)
      go (there i q e l s a k) =
          let x : q ≡ r = held-eq q r (sym k ∙ h) in
          (record { slot = i; below = l; holds = s ∙ ap Some x }, ap (λ (u : Record). u.at) (sym x) ∙ a)
      go (room i e l s a k) = held-not-absent r h a
      go (full e a k) = held-not-absent r h a

-- ---- the map

module _ (t : List ℕ) (o : InOrder t) where
  -- each record that stands in the table is found by its point
  pub lookup-complete : (r : Record) → StandsIn t r → look_up t r.at ≡ Some r
  unfolding look_up find_of
  lookup-complete r s =
      ap (looked_at t) (present (slots_of t) (slots-some t (slots_of t) o.fits) (slot_at t) (order-slots t o) s.slot r s.below s.holds)
      ∙ ap held_in s.holds

  pub slot-looked : (i : ℕ) (r : Record) → i < slots_of t → slot_at t i ≡ Some r → look_up t r.at ≡ Some r
  slot-looked i r l e = lookup-complete r (record { slot = i; below = l; holds = e })

  -- what is found stands in the table, has that point, and is valid
  pub lookup-stands : (p : Point) (r : Record) → look_up t p ≡ Some r → StandsIn t r
  lookup-stands p r h = (looked-stands t o.fits p r h).0

  pub lookup-point : (p : Point) (r : Record) → look_up t p ≡ Some r → r.at ≡ p
  lookup-point p r h = (looked-stands t o.fits p r h).1

  pub lookup-valid : (p : Point) (r : Record) → look_up t p ≡ Some r → valid_of r ≡ true
  lookup-valid p r h = let s = lookup-stands p r h in o.valid s.slot r s.below s.holds

  -- one record a point
  pub stands_one : (r q : Record) → StandsIn t r → StandsIn t q → r.at ≡ q.at → r ≡ q
  stands_one r q a b e = held-eq r q (sym (lookup-complete r a) ∙ ap (look_up t) e ∙ lookup-complete q b)

  -- "one outside a record's ranges is simply not found"
  pub held-inside : (p : Point) (r : Record) → look_up t p ≡ Some r → in_ranges p ≡ true
  held-inside p r h = ap in_ranges (sym (lookup-point p r h)) ∙ valid-inside r (lookup-valid p r h)

  pub outside-absent : (p : Point) → in_ranges p ≡ false → look_up t p ≡ None
  outside-absent p h = go (look_up t p) refl
    where
      go : (l : Option Record) → look_up t p ≡ l → look_up t p ≡ None
      go None e = e
      go (Some r) e = absurd (not-both (held-inside p r e) h)

-- two tables that hold the same record at a point
pub lookup-same : (t u : List ℕ) → InOrder t → InOrder u → (p : Point) → ((r : Record) → r.at ≡ p → StandsIn t r → StandsIn u r)
    → ((r : Record) → r.at ≡ p → StandsIn u r → StandsIn t r)
    → look_up u p ≡ look_up t p
lookup-same t u o v p f g = go (look_up t p) (look_up u p) refl refl
  where
    carried : (x y : List ℕ) (a : InOrder x) → InOrder y → ((r : Record) → r.at ≡ p → StandsIn x r → StandsIn y r) → (r : Record) → look_up x p ≡ Some r
        → look_up y p ≡ Some r
    carried x y a b h r e =
        let q = lookup-point x a p r e in
        ap (look_up y) (sym q) ∙ lookup-complete y b r (h r q (lookup-stands x a p r e))

    go : (k l : Option Record) → look_up t p ≡ k → look_up u p ≡ l → look_up u p ≡ look_up t p
    go None None e h = h ∙ sym e
    go (Some r) l e h = carried t u o v f r e ∙ sym e
    go None (Some r) e h = held-not-absent r (carried u t v o g r h) e
