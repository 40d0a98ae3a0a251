-- What restoring obeys. Afterwards every adjacent point of the degree 6 records is there, and what was entered is what document 01 says of them
-- (`restore-all`: `Restores`). `restores-into` where the points absent lack nothing but such records of a table g in order, and room for them is there,
-- restoring ends well and within g.
-- Assumes nothing.
use Rattle.std.specs.Prelude.{◌≡◌, ◌⊎◌, Bool, cond, length, Option, Some, None}
use Rattle.std.proofs.Math.Path.{refl, ap, subst}
use Rattle.std.proofs.Common.{sym, ◌∙◌, inl, inr, arith, eqb-true, eq-eqb}
use Rattle.std.proofs.Math.Bool.{true, false}
use mathlib.Core.List.Memᴰ
use mathlib.Core.List.{List, [], ◌∷◌, Memᴰ}
use Prim.Native.Nat.{ℕ, zero, suc, ◌≤◌, ◌<◌}
use Rattle.std.proofs.Math.Decide.{ℕ_discrete}
use Rattle.std.proofs.Math.Dec.{eqb}
use Rattle.laws.specs.Each.{not-both}
use Rattle.lattice.specs.Records.{valid_of}
use Rattle.lattice.specs.Stars.{adjacent_at}
use Rattle.lattice.specs.Subdivision.{born_of}
use Rattle.lattice.specs.declared.points.Point.{Point}
use Rattle.lattice.specs.declared.records.Record.{Record}
use Rattle.table.specs.Slots.{slots_of, free_slots}
use Rattle.table.specs.Order.{InOrder}
use Rattle.table.specs.Entries.{look_up, enter_of, records_of}
use Rattle.table.specs.RecordLaws.{apart-fewer}
use Rattle.table.specs.MapLaws.{Searched, there, room, full, searched, find-held, find-free, enter-finds, lookup-point, lookup-valid, records-count}
use Rattle.table.specs.MapLaws.{records-looked, looked-records, records-apart}
use Rattle.readers.specs.Readers.{Restored, With, Stopped, restore_at, restore, restore_to, restore_star, restore_all}
use Rattle.readers.specs.Additions.{Adds, adds_none, adds_one, adds_then, adds-slots, held-absent}

with-is : {t u : List ℕ} → With t ≡ With u → t ≡ u
with-is e = cc

stopped : {A : Type 0} {number : ℕ} {u : List ℕ} → Stopped number ≡ With u → A
stopped e = absurd (let z : ◌≡◌ {A = ℕ} 0 1 = cc in omega arith)

-- ---- one record

-- the point of r was there, or r is entered
pub data Entered (t : List ℕ) (r : Record) (w : List ℕ) : Type 0 where
  old : (q : Record) → look_up t r.at ≡ Some q → t ≡ w → Entered t r w
  new : look_up t r.at ≡ None → valid_of r ≡ true → 0 < free_slots t → enter_of t r ≡ w → Entered t r w

module _ (t : List ℕ) (o : InOrder t) (r : Record) where
  pub restore-one : (w : List ℕ) → restore (With t) r ≡ With w → Entered t r w
  restore-one w h = go (searched t o.fits r.at)
    where
      sure : (b : Bool) → valid_of r ≡ b → look_up t r.at ≡ None → 0 < free_slots t → cond b (With (enter_of t r)) (Stopped 11) ≡ With w → Entered t r w
      sure true v a k e = new a v k (with-is e)
      sure false v a k e = stopped e

      go : Searched t r.at → Entered t r w
      go (there i q e l s a k) = old q k (with-is (sym (ap (restore_at t r) e) ∙ h))
      go (room i e l s a k) = sure (valid_of r) refl a k (sym (ap (restore_at t r) e) ∙ h)
      go (full e a k) = stopped (sym (ap (restore_at t r) e) ∙ h)

  -- and its point is there after
  pub entered-there : (w : List ℕ) → Entered t r w → (q : Record) × (look_up w r.at ≡ Some q)
  entered-there w (old q h e) = (q, ap (λ (x : List ℕ). look_up x r.at) (sym e) ∙ h)
  entered-there w (new a v f e) = (r, ap (λ (x : List ℕ). look_up x r.at) (sym e) ∙ enter-finds t o r v a f)

  pub entered-adds : (P : Record → Type 0) → P r → (w : List ℕ) → Entered t r w → Adds P t w
  entered-adds P h w (old q k e) = subst (Adds P t) e (adds_none P t o)
  entered-adds P h w (new a v f e) = subst (Adds P t) e (adds_one P t r o v a f h)

  -- where it ends well
  pub restore-old : (q : Record) → look_up t r.at ≡ Some q → restore (With t) r ≡ With t
  restore-old q h = ap (restore_at t r) (find-held t o.fits r.at q h).1

  pub restore-new : look_up t r.at ≡ None → valid_of r ≡ true → 0 < free_slots t → restore (With t) r ≡ With (enter_of t r)
  restore-new a v f = ap (restore_at t r) (find-free t o.fits r.at a f).1 ∙ ap (λ (b : Bool). cond b (With (enter_of t r)) (Stopped 11)) v

-- ---- the first j adjacent points of v; P is said of each record that may be entered

record Around (P : Record → Type 0) (v : Record) (j : ℕ) (t w : List ℕ) : Type 0 where
  adds : Adds P t w
  has : (i : ℕ) → i < j → (q : Record) × (look_up w (adjacent_at v i) ≡ Some q)

restore-to : (P : Record → Type 0) (v : Record) (j : ℕ) → ((i : ℕ) → i < j → P (born_of v i)) → (t w : List ℕ) → InOrder t
    → restore_to v j (With t) ≡ With w → Around P v j t w
unfolding restore_to
restore-to P v zero h t w o e = record { adds = subst (Adds P t) (with-is e) (adds_none P t o); has = λ i l. absurd (omega arith) }
restore-to P v (suc j) h t w o e = go (restore_to v j (With t)) refl e (λ u k. restore-to P v j (λ i l. h i (omega arith)) t u o k)
  where
    more : (u : List ℕ) → Around P v j t u → Entered u (born_of v j) w → Around P v (suc j) t w
    more u a x =
        let b : Adds P u w = entered-adds u a.adds.order (born_of v j) P (h j (omega arith)) w x in
        record { adds = adds_then P t u w a.adds b; has = λ i l. at b i l (ℕ_discrete i j) }
      where
        at : Adds P u w → (i : ℕ) → i < suc j → Dec (i ≡ j) → (q : Record) × (look_up w (adjacent_at v i) ≡ Some q)
        at b i l (yes k) = let (q, y) = entered-there u a.adds.order (born_of v j) w x in (q, ap (λ (n : ℕ). look_up w (adjacent_at v n)) k ∙ y)
        at b i l (no k) = let (q, y) = a.has i (omega arith) in (q, b.keeps (adjacent_at v i) q y)

    go : (x : Restored) → restore_to v j (With t) ≡ x → restore x (born_of v j) ≡ With w
        → ((u : List ℕ) → restore_to v j (With t) ≡ With u → Around P v j t u) → Around P v (suc j) t w
    go (Stopped number) k m ih = stopped m
    go (With u) k m ih = let a = ih u k in more u a (restore-one u a.adds.order (born_of v j) w m)

-- ---- those of several records

stopped-to : (v : Record) (j number : ℕ) → restore_to v j (Stopped number) ≡ Stopped number
unfolding restore_to
stopped-to v zero number = refl
stopped-to v (suc j) number = ap (λ (x : Restored). restore x (born_of v j)) (stopped-to v j number)

pub stopped-stays : (rs : List Record) (number : ℕ) → restore_all rs (Stopped number) ≡ Stopped number
unfolding restore_all
stopped-stays [] number = refl
stopped-stays (v ∷ rs) number = ap (restore_all rs) (star (eqb v.d 6)) ∙ stopped-stays rs number
  where
    star : (b : Bool) → cond b (restore_to v 6 (Stopped number)) (Stopped number) ≡ Stopped number
    star true = stopped-to v 6 number
    star false = refl

-- w is t with records restored round those of rs
pub record Restores (P : Record → Type 0) (rs : List Record) (t w : List ℕ) : Type 0 where
  pub adds : Adds P t w
  pub has : (v : Record) → Memᴰ v rs → v.d ≡ 6 → (j : ℕ) → j < 6 → (q : Record) × (look_up w (adjacent_at v j) ≡ Some q)

module _ (P : Record → Type 0) where
  restore-star : (v : Record) → (v.d ≡ 6 → (j : ℕ) → j < 6 → P (born_of v j)) → (t w : List ℕ) → InOrder t → restore_star v (With t) ≡ With w
      → Adds P t w × (v.d ≡ 6 → (j : ℕ) → j < 6 → (q : Record) × (look_up w (adjacent_at v j) ≡ Some q))
  restore-star v h t w o = go (eqb v.d 6) refl
    where
      go : (b : Bool) → eqb v.d 6 ≡ b → cond b (restore_to v 6 (With t)) (With t) ≡ With w
          → Adds P t w × (v.d ≡ 6 → (j : ℕ) → j < 6 → (q : Record) × (look_up w (adjacent_at v j) ≡ Some q))
      go true e k = let a = restore-to P v 6 (h (eqb-true v.d 6 e)) t w o k in (a.adds, λ d. a.has)
      go false e k = (subst (Adds P t) (with-is k) (adds_none P t o), λ d. absurd (not-both (eq-eqb v.d 6 d) e))

  restore-each : (rs : List Record) → ((v : Record) → Memᴰ v rs → v.d ≡ 6 → (j : ℕ) → j < 6 → P (born_of v j)) → (t w : List ℕ) → InOrder t
      → restore_all rs (With t) ≡ With w → Restores P rs t w
  unfolding restore_all
  restore-each [] h t w o e = record { adds = subst (Adds P t) (with-is e) (adds_none P t o); has = λ v m. absurd (Memᴰ.not-nil m) }
  restore-each (v ∷ rs) h t w o e = go (restore_star v (With t)) refl e (λ u. restore-each rs (λ x m. h x (Memᴰ.tail m)) u w)
    where
      go : (x : Restored) → restore_star v (With t) ≡ x → restore_all rs x ≡ With w
          → ((u : List ℕ) → InOrder u → restore_all rs (With u) ≡ With w → Restores P rs u w) → Restores P (v ∷ rs) t w
      go (Stopped number) k m ih = stopped (sym (stopped-stays rs number) ∙ m)
      go (With u) k m ih =
          let (a, here) = restore-star v (h v (Memᴰ.head refl)) t u o k in
          let b = ih u a.order m in
          record { adds = adds_then P t u w a b.adds; has = λ x l d j i. at b here x d j i (Memᴰ.cases_cons l) }
        where
          at : Restores P rs u w → (v.d ≡ 6 → (j : ℕ) → j < 6 → (q : Record) × (look_up u (adjacent_at v j) ≡ Some q)) → (x : Record) → x.d ≡ 6
              → (j : ℕ) → j < 6 → (x ≡ v) ⊎ Memᴰ x rs
              → (q : Record) × (look_up w (adjacent_at x j) ≡ Some q)
          at b here x d j i (inl y) =
              let (q, z) = here (ap (λ (r : Record). r.d) (sym y) ∙ d) j i in
              (q, ap (λ (r : Record). look_up w (adjacent_at r j)) y ∙ b.adds.keeps (adjacent_at v j) q z)
          at b here x d j i (inr l) = b.has x l d j i

-- "enters each absent adjacent point, j rising, as d 3, level n, orientation (6+2j+k) mod 4": r is so entered for a degree 6 record of rs
abbrev pub RestoredOf : List Record → Record → Type 0
RestoredOf rs r = (v : Record) × Memᴰ v rs × (v.d ≡ 6) × (j : ℕ) × (j < 6) × (r ≡ born_of v j)

pub restore-all : (rs : List Record) (t w : List ℕ) → InOrder t → restore_all rs (With t) ≡ With w → Restores (RestoredOf rs) rs t w
restore-all rs t w o e = restore-each (RestoredOf rs) rs (λ v m d j i. (v, m, d, j, i, refl)) t w o e

-- ---- where restoring ends well

-- what t holds, u holds
abbrev pub Within : List ℕ → List ℕ → Type 0
Within t u = (p : Point) (r : Record) → look_up t p ≡ Some r → look_up u p ≡ Some r

-- and less of it, where one point is absent
pub within-fewer : (t u : List ℕ) → InOrder t → InOrder u → Within t u → (p : Point) (r : Record) → look_up u p ≡ Some r → look_up t p ≡ None
    → length (records_of t) < length (records_of u)
within-fewer t u o v h p r k a =
    let l = apart-fewer (r ∷ records_of t) (records_of u) (other, records-apart t o) (λ x m. in-u x (Memᴰ.cases_cons m)) in
    omega arith
  where
    other : (x : Record) → Memᴰ x (records_of t) → x.at ≡ r.at → ⊥
    other x m e = held-absent (records-looked t o x m) (ap (look_up t) (e ∙ lookup-point u v p r k) ∙ a)

    in-u : (x : Record) → (x ≡ r) ⊎ Memᴰ x (records_of t) → Memᴰ x (records_of u)
    in-u x (inl e) = subst (λ (y : Record). Memᴰ y (records_of u)) (sym e) (looked-records u v p r k)
    in-u x (inr m) = looked-records u v x.at x (h x.at x (records-looked t o x m))

-- r is table g's
abbrev pub In : List ℕ → Record → Type 0
In g r = look_up g r.at ≡ Some r

-- g holds a record at the adjacent point j of v; where t holds none there, it is the one that restoring enters
abbrev pub Lacks : List ℕ → List ℕ → Record → ℕ → Type 0
Lacks g t v j = (a : Record) × (look_up g (adjacent_at v j) ≡ Some a) × (look_up t (adjacent_at v j) ≡ None → a ≡ born_of v j)

-- g is a table in order that holds what t holds, and t has slots for all of it
module _ (g : List ℕ) (whole : InOrder g) (t : List ℕ) (o : InOrder t) (within : Within t g) (slots : length (records_of g) ≤ slots_of t) where
  pub in_within : (u : List ℕ) → Adds (In g) t u → Within u g
  in_within u a p r h = go (a.only p r h)
    where
      go : (look_up t p ≡ Some r) ⊎ In g r → look_up g p ≡ Some r
      go (inl k) = within p r k
      go (inr k) = ap (look_up g) (sym (lookup-point u a.order p r h)) ∙ k

  into_one : (v : Record) (j : ℕ) → Lacks g t v j → (u : List ℕ) → Adds (In g) t u → (w : List ℕ) × (restore (With u) (born_of v j) ≡ With w) × Adds (In g) t w
  into_one v j (r, h, f) u a = go (look_up u (adjacent_at v j)) refl
    where
      at : (born_of v j).at ≡ adjacent_at v j
      at = refl

      absent : look_up u (adjacent_at v j) ≡ None → look_up t (adjacent_at v j) ≡ None
      absent k = none (look_up t (adjacent_at v j)) refl
        where
          none : (l : Option Record) → look_up t (adjacent_at v j) ≡ l → look_up t (adjacent_at v j) ≡ None
          none None e = e
          none (Some x) e = held-absent (a.keeps (adjacent_at v j) x e) k

      go : (l : Option Record) → look_up u (adjacent_at v j) ≡ l → (w : List ℕ) × (restore (With u) (born_of v j) ≡ With w) × Adds (In g) t w
      go (Some q) e = (u, restore-old u a.order (born_of v j) q (ap (look_up u) at ∙ e), a)
      go None e =
          let same : r ≡ born_of v j = f (absent e) in
          let ok : valid_of (born_of v j) ≡ true = ap valid_of (sym same) ∙ lookup-valid g whole (adjacent_at v j) r h in
          let fewer = within-fewer u g a.order whole (in_within u a) (adjacent_at v j) r h e in
          let count = records-count u in
          let as_many = adds-slots (In g) t u a in
          let free : 0 < free_slots u = omega arith in
          let away : look_up u (born_of v j).at ≡ None = ap (look_up u) at ∙ e in
          let is : In g (born_of v j) = ap (look_up g) at ∙ h ∙ ap Some same in (
            enter_of u (born_of v j),
            restore-new u a.order (born_of v j) away ok free,
            adds_then (In g) t u (enter_of u (born_of v j)) a (adds_one (In g) u (born_of v j) a.order ok away free is),
          )

  into-to : (v : Record) (j : ℕ) → ((i : ℕ) → i < j → Lacks g t v i) → (u : List ℕ) → Adds (In g) t u
      → (w : List ℕ) × (restore_to v j (With u) ≡ With w) × Adds (In g) t w
  unfolding restore_to
  into-to v zero h u a = (u, refl, a)
  into-to v (suc j) h u a =
      let (x, e, b) = into-to v j (λ i l. h i (omega arith)) u a in
      let (w, k, c) = into_one v j (h j (omega arith)) x b in
      (w, ap (λ (y : Restored). restore y (born_of v j)) e ∙ k, c)

  pub restores-into : (rs : List Record) → ((v : Record) → Memᴰ v rs → v.d ≡ 6 → (j : ℕ) → j < 6 → Lacks g t v j) → (u : List ℕ) → Adds (In g) t u
      → (w : List ℕ) × (restore_all rs (With u) ≡ With w) × Adds (In g) t w
  unfolding restore_all
  restores-into [] h u a = (u, refl, a)
  restores-into (v ∷ rs) h u a =
      let (x, e, b) = star (eqb v.d 6) refl in
      let (w, k, c) = restores-into rs (λ y m. h y (Memᴰ.tail m)) x b in
      (w, ap (restore_all rs) e ∙ k, c)
    where
      star : (b : Bool) → eqb v.d 6 ≡ b → (w : List ℕ) × (cond b (restore_to v 6 (With u)) (With u) ≡ With w) × Adds (In g) t w
      star true e = into-to v 6 (h v (Memᴰ.head refl) (eqb-true v.d 6 e)) u a
      star false e = (u, refl, a)
