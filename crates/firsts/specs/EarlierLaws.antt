-- The records that stand before a slot, found by their points: `earlier-yes` what stands there is found, `yes-earlier` what is found stands there,
-- `earlier-slot`, `earlier-held`, `earlier-valid` what a slot holds · `Passes` a record that stands before slot k passes a test, `passes-too` another
-- one, `slots-pass`, `pass-slots` the same slot by slot · `placed_at`, `placed-slot`, `holds-slot`, `slot-there`, `slot-absent` a point and its slot ·
-- `valid-inner`, `valid-degree` a valid record · `other-point`, `star-inner` the record in slot k.
-- Assumes nothing.
use Rattle.std.specs.Prelude.{◌≡◌, Bool, true, false, cond, List, ℕ, ◌≤◌, ◌<◌, ltb, Option, Some, None}
use Rattle.std.proofs.Math.Path.{refl, ap}
use Rattle.std.proofs.Common.{sym, ◌∙◌, arith, ltb-true, lt-ltb, le-ltb}
use Rattle.std.proofs.Math.Decide.{ℕ_discrete}
use Rattle.laws.specs.Choices.{of-true}
use Rattle.laws.specs.Each.{not-both, among-at, at-among}
use Rattle.laws.specs.Rules.{among}
use Rattle.lattice.specs.Records.{valid_of}
use Rattle.lattice.specs.RecordLaws.{Inner, inner}
use Rattle.lattice.specs.declared.points.Point.{Point}
use Rattle.lattice.specs.declared.records.Record.{Record}
use Rattle.table.specs.Slots.{Table, slots_of, slot_at}
use Rattle.table.specs.Search.{find_of}
use Rattle.table.specs.Order.{InOrder}
use Rattle.table.specs.Entries.{held_in, is_held, holds, slot_found}
use Rattle.table.specs.MapLaws.{slot-looked, find-held, at_held, at-free, at-full, table_of, table-slots}
use Rattle.table.specs.declared.probe.Found.{Found}
use Rattle.table.specs.declared.probe.Found.TheVariants as found
use Rattle.firsts.specs.Earlier.{slot_in, placed_of, earlier_in, earlier_of, held_and}
use Rattle.firsts.specs.declared.earlier.Placed.{Placed}
use Rattle.firsts.specs.DifferentLaws.{slot_test}

-- a point and its slot
module _ (t : List ℕ) (a : Placed) (p : Point) (e : a ≡ placed_of t p) where
  pub placed_at : a.at ≡ p
  placed_at = ap (λ (x : Placed). x.at) e

  pub placed-slot : a.slot ≡ slot_in t a.at
  placed-slot = ap (λ (x : Placed). x.slot) e ∙ ap (slot_in t) (sym placed_at)

-- a point is in the table where its slot is one
pub holds-slot : (t : List ℕ) → Table t (slots_of t) → (p : Point) → holds t p ≡ ltb (slot_in t p) (slots_of t)
unfolding slot_in
holds-slot t fits p = go (find_of t p) refl
  where
    go : (s : Found) → find_of t p ≡ s → holds t p ≡ ltb (slot_found (slots_of t) s) (slots_of t)
    go (found.At i) e = let a = at_held t fits p i e in ap is_held a.looked ∙ sym (lt-ltb i (slots_of t) a.below)
    go (found.Free i) e = ap is_held (at-free t fits p i e).looked ∙ sym (le-ltb (slots_of t) (slots_of t) (omega arith))
    go found.Full e = ap is_held (at-full t fits p e).0 ∙ sym (le-ltb (slots_of t) (slots_of t) (omega arith))

-- by its slot as the code has it
module _ (t : List ℕ) (n : ℕ) (fits : Table t n) (p : Point) (x : Placed) (e : x ≡ placed_of t p) where
  pub slot-there : x.slot < n → holds t p ≡ true
  slot-there h =
      let a = ap (λ (y : Placed). y.slot) e in
      holds-slot t (table_of t n fits) p ∙ lt-ltb (slot_in t p) (slots_of t) (omega (arith, a, table-slots t n fits))

  pub slot-absent : n ≤ x.slot → holds t p ≡ false
  slot-absent h =
      let a = ap (λ (y : Placed). y.slot) e in
      holds-slot t (table_of t n fits) p ∙ le-ltb (slot_in t p) (slots_of t) (omega (arith, a, table-slots t n fits))

-- a record that passes the test f stands in a slot before slot k
pub record Passes (t : List ℕ) (k : ℕ) (f : Record → Bool) : Type 0 where
  pub rec : Record
  pub slot : ℕ
  pub below : slot < k
  pub holds : slot_at t slot ≡ Some rec
  pub passes : f rec ≡ true

-- another test that it passes
abbrev pub passes-too : {t : List ℕ} {k : ℕ} {f : Record → Bool} (x : Passes t k f) (g : Record → Bool) → g x.rec ≡ true → Passes t k g
passes-too x g h = record { rec = x.rec; slot = x.slot; below = x.below; holds = x.holds; passes = h }

module _ (t : List ℕ) (o : InOrder t) (k : ℕ) (top : k ≤ slots_of t) where
  -- the search for a point finds the slot in which its record stands
  slot-found : (i : ℕ) (u : Record) → i < slots_of t → slot_at t i ≡ Some u → find_of t u.at ≡ found.At i
  slot-found i u l e =
      let h = find-held t o.fits u.at u (slot-looked t o i u l e) in
      let a = at_held t o.fits u.at h.0 h.1 in
      let x : h.0 ≡ i = o.once h.0 i u u a.below l h.2 e refl in
      h.1 ∙ ap found.At x

  pub earlier-yes : (f : Record → Bool) (p : Point) (x : Passes t k f) → x.rec.at ≡ p → held_and f (earlier_of t k p) ≡ true
  unfolding slot_in earlier_in
  earlier-yes f p x e =
      let i = x.slot in
      let l : i < slots_of t = omega (arith, x.below) in
      ap (λ (q : Point). held_and f (earlier_of t k q)) (sym e)
      ∙ ap (λ (s : Found). held_and f (earlier_in t k (slot_found (slots_of t) s))) (slot-found i x.rec l x.holds)
      ∙ ap (λ (b : Bool). held_and f (cond b (held_in (slot_at t i)) None)) (lt-ltb i k x.below)
      ∙ ap (λ (s : Option Record). held_and f (held_in s)) x.holds
      ∙ x.passes

  not-held : {A : Type 0} {u : Record} → None ≡ Some u → A
  not-held e = absurd (let z : ◌≡◌ {A = ℕ} 0 1 = cc in omega arith)

  -- what is found in a slot before slot k stands there
  pub earlier-slot : (s : ℕ) (u : Record) → earlier_in t k s ≡ Some u → (s < k) × (slot_at t s ≡ Some u)
  unfolding earlier_in
  earlier-slot s u h = before (ltb s k) refl h
    where
      in-slot : (z : Option Record) → slot_at t s ≡ z → held_in z ≡ Some u → slot_at t s ≡ Some u
      in-slot None e g = not-held g
      in-slot (Some r) e g = let x : r ≡ u = cc in e ∙ ap Some x

      before : (b : Bool) → ltb s k ≡ b → cond b (held_in (slot_at t s)) None ≡ Some u → (s < k) × (slot_at t s ≡ Some u)
      before false l g = not-held g
      before true l g = (ltb-true s k l, in-slot (slot_at t s) refl g)

  pub earlier-held : (p : Point) (u : Record) → earlier_of t k p ≡ Some u → (slot_in t p < k) × (slot_at t (slot_in t p) ≡ Some u) × (u.at ≡ p)
  unfolding slot_in
  earlier-held p u h = let x = earlier-slot (slot_in t p) u h in (x.0, x.1, go (find_of t p) refl x.0 x.1)
    where
      same-slot : (a b : Record) → Some a ≡ Some b → a ≡ b
      same-slot a b e = cc

      go : (s : Found) → find_of t p ≡ s → slot_found (slots_of t) s < k → slot_at t (slot_found (slots_of t) s) ≡ Some u → u.at ≡ p
      go (found.At i) e l g = let a = at_held t o.fits p i e in ap (λ (r : Record). r.at) (same-slot u a.rec (sym g ∙ a.holds)) ∙ a.point
      go (found.Free i) e l g = absurd (omega (arith, top))
      go found.Full e l g = absurd (omega (arith, top))

  pub yes-earlier : (f : Record → Bool) (p : Point) → held_and f (earlier_of t k p) ≡ true → (x : Passes t k f) × (x.rec.at ≡ p)
  yes-earlier f p h = go (earlier_of t k p) refl h
    where
      go : (l : Option Record) → earlier_of t k p ≡ l → held_and f l ≡ true → (x : Passes t k f) × (x.rec.at ≡ p)
      go None e g = absurd (not-both g refl)
      go (Some u) e g = let s = earlier-held p u e in (record { rec = u; slot = slot_in t p; below = s.0; holds = s.1; passes = g }, s.2)

  pub earlier-valid : (s : ℕ) (u : Record) → earlier_in t k s ≡ Some u → valid_of u ≡ true
  earlier-valid s u h = let x = earlier-slot s u h in o.valid s u (omega (arith, x.0)) x.1

-- the test of the slots before slot k, one by one
module _ (t : List ℕ) (k : ℕ) (f : Record → Bool) where
  pub slots-pass : among k (λ i. slot_test f (slot_at t i)) ≡ true → Passes t k f
  slots-pass h = let x = among-at (λ i. slot_test f (slot_at t i)) k h in go x.0 x.1 (slot_at t x.0) refl x.2
    where
      go : (i : ℕ) → i < k → (s : Option Record) → slot_at t i ≡ s → slot_test f s ≡ true → Passes t k f
      go i l None e g = absurd (not-both g refl)
      go i l (Some u) e g = record { rec = u; slot = i; below = l; holds = e; passes = g }

  pub pass-slots : Passes t k f → among k (λ i. slot_test f (slot_at t i)) ≡ true
  pass-slots x = at-among (λ i. slot_test f (slot_at t i)) k x.slot x.below (ap (slot_test f) x.holds ∙ x.passes)

-- a valid record that has a place has a star
pub valid-inner : (v : Record) (j : ℕ) → valid_of v ≡ true → j < v.d → Inner v
valid-inner v j ok h = inner v (of-true ok) (λ e. omega arith)

pub valid-degree : (v : Record) → valid_of v ≡ true → v.d ≤ 6
valid-degree v ok = go (ℕ_discrete v.d 0)
  where
    go : Dec (v.d ≡ 0) → v.d ≤ 6
    go (yes e) = omega arith
    go (no e) = (inner v (of-true ok) e).top

-- the record v in slot k
module _ (t : List ℕ) (o : InOrder t) (k : ℕ) (v : Record) (l : k < slots_of t) (here : slot_at t k ≡ Some v) where
  -- an earlier slot holds another point
  pub other-point : {f : Record → Bool} (x : Passes t k f) → x.rec.at ≡ v.at → ⊥
  other-point x s = let e : x.slot ≡ k = o.once x.slot k x.rec v (omega (arith, x.below)) l x.holds here s in omega (arith, x.below)

  pub star-inner : (j : ℕ) → j < v.d → Inner v
  star-inner j h = valid-inner v j (o.valid k v l here) h
