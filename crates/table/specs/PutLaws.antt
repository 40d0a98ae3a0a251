-- A table in order as a map, written: a record entered, a record replaced, the table cleared. MapLaws has the index.
-- Assumes nothing.
use Rattle.std.specs.Prelude.{◌≡◌, refl, true, List, ℕ, ◌+◌, ◌<◌, length, Some, None}
use Rattle.std.proofs.Common.{sym, ap, ◌∙◌, subst, arith}
use Rattle.std.proofs.lemmas.List.{length-replicate}
use Rattle.lattice.specs.Records.{valid_of}
use Rattle.lattice.specs.declared.points.Point.{Point}
use Rattle.lattice.specs.declared.records.Record.{Record}
use Rattle.table.specs.Slots.{Table, slots_in, slots_of, slot_at, put_slot, cleared_of, free_slots}
use Rattle.table.specs.Search.{meets, find_of}
use Rattle.table.specs.Order.{InOrder}
use Rattle.table.specs.Entries.{look_up, enter_at, enter_of, replace_at, replace_of}
use Rattle.table.specs.Told.{ComesTo, Reaches, Fills}
use Rattle.table.specs.SlotLaws.{put-length, put_other, cleared-free, table_same}
use Rattle.table.specs.SearchLaws.{free-holds, own-hit, comes-filled}
use Rattle.table.specs.EntryLaws.{find-told, reached-at}
use Rattle.table.specs.ChangeLaws.{count-all}
use Rattle.table.specs.declared.probe.Meet.TheVariants.{Hit}
use Rattle.table.specs.declared.probe.Found.{Found}
use Rattle.table.specs.WriteLaws.{table_of, entered-order, entered-new, entered-stands, entered-old, entered-free, replaced-order}
use Rattle.table.specs.WriteLaws.{replaced-find, replaced-new, replaced-stands, replaced-old, replaced-free}
use Rattle.table.specs.declared.probe.Found.TheVariants as found
use Rattle.table.specs.LookLaws.{held-not-absent, Searched, searched, at_held, find-held, find-free, lookup-complete, lookup-same, there, room, full}

-- ---- a record entered

pub enter-length : (t : List ℕ) (r : Record) → length (enter_of t r) ≡ length t
unfolding enter_of
enter-length t r = go (find_of t r.at)
  where
    go : (x : Found) → length (enter_at t r x) ≡ length t
    go (found.At i) = refl
    go (found.Free i) = put-length t i r
    go found.Full = refl

-- where the search ended at a free slot, the record written there is the record entered
pub put-enter : (t : List ℕ) (r : Record) (i : ℕ) → find_of t r.at ≡ found.Free i → put_slot t i r ≡ enter_of t r
unfolding enter_of
put-enter t r i e = sym (ap (enter_at t r) e)

stays : (t : List ℕ) (r : Record) (x : Found) → find_of t r.at ≡ x → enter_at t r x ≡ t → enter_of t r ≡ t
unfolding enter_of
stays t r x e h = ap (enter_at t r) e ∙ h

module _ (t : List ℕ) (w : Table t (slots_of t)) (r : Record) where
  -- nothing changes where the point is there, or no slot is free
  pub enter-there : (q : Record) → look_up t r.at ≡ Some q → enter_of t r ≡ t
  enter-there q h = let f = find-held t w r.at q h in stays t r (found.At f.0) f.1 refl

  pub enter-full : free_slots t ≡ 0 → enter_of t r ≡ t
  enter-full h = go (searched t w r.at)
    where
      go : Searched t r.at → enter_of t r ≡ t
      go (there i q e l s a k) = stays t r (found.At i) e refl
      go (room i e l s a k) = absurd (omega arith)
      go (full e a k) = stays t r found.Full e refl

  -- no slot that holds a record changes, so a search comes as far as it came
  unchanged : (u : List ℕ) → u ≡ t → Fills (slots_of t) (slot_at t) (slot_at u)
  unchanged u e s q l h = (q, ap (λ (x : List ℕ). slot_at x s) e ∙ h, refl)

  pub enter-fills : Fills (slots_of t) (slot_at t) (slot_at (enter_of t r))
  enter-fills = go (searched t w r.at)
    where
      apart : (i s : ℕ) (q : Record) → slot_at t i ≡ None → slot_at t s ≡ Some q → s ≡ i → ⊥
      apart i s q f h e = free-holds q (ap (slot_at t) e ∙ f) h

      go : Searched t r.at → Fills (slots_of t) (slot_at t) (slot_at (enter_of t r))
      go (there i q e l s a k) = unchanged (enter_of t r) (stays t r (found.At i) e refl)
      go (room i e l f a k) =
          λ s q m h. (q, ap (λ (u : List ℕ). slot_at u s) (sym (put-enter t r i e)) ∙ put_other t i r (omega (arith, w.long)) s (apart i s q f h) ∙ h, refl)
      go (full e a k) = unchanged (enter_of t r) (stays t r found.Full e refl)

  pub enter-reaches : (p : Point) (i : ℕ) → Reaches t p i → Reaches (enter_of t r) p i
  enter-reaches p i c =
      subst (λ (k : ℕ). ComesTo k (slot_at (enter_of t r)) p i) (sym (ap slots_in (enter-length t r)))
      (comes-filled (slots_of t) (slot_at t) (slot_at (enter_of t r)) p i enter-fills c)

  -- no record moves: a search that ended at its point ends there still
  pub enter-stays : (p : Point) (i : ℕ) → find_of t p ≡ found.At i → find_of (enter_of t r) p ≡ found.At i
  enter-stays p i e =
      let u = enter_of t r in
      let x = at_held t w p i e in
      let (q, h, s) = enter-fills i x.rec x.below x.holds in
      let way = enter-reaches p i (find-told t (slots_of t) w p (found.At i) (sym e)).way in
      reached-at u (slots_of t) (table_same t u (slots_of t) (enter-length t r) w) p i way
      (subst (λ (a : Point). meets (slot_at u i) a ≡ Hit) (s ∙ x.point) (own-hit (slot_at u i) q h))

-- ---- a record replaced

pub replace-length : (t : List ℕ) (r : Record) → length (replace_of t r) ≡ length t
unfolding replace_of
replace-length t r = go (find_of t r.at)
  where
    go : (x : Found) → length (replace_at t r x) ≡ length t
    go (found.At i) = put-length t i r
    go (found.Free i) = refl
    go found.Full = refl

pub replace-table : (t : List ℕ) (r : Record) (n : ℕ) → Table t n → Table (replace_of t r) n
replace-table t r n w = table_same t (replace_of t r) n (replace-length t r) w

pub put-replace : (t : List ℕ) (r : Record) (i : ℕ) → find_of t r.at ≡ found.At i → put_slot t i r ≡ replace_of t r
unfolding replace_of
put-replace t r i e = sym (ap (replace_at t r) e)

remains : (t : List ℕ) (r : Record) (x : Found) → find_of t r.at ≡ x → replace_at t r x ≡ t → replace_of t r ≡ t
unfolding replace_of
remains t r x e h = ap (replace_at t r) e ∙ h

-- ---- a valid record entered into, or put into, a table in order

module _ (t : List ℕ) (o : InOrder t) (r : Record) (ok : valid_of r ≡ true) where
  pub enter-order : InOrder (enter_of t r)
  enter-order = go (searched t o.fits r.at)
    where
      go : Searched t r.at → InOrder (enter_of t r)
      go (there i q e l s a k) = subst InOrder (sym (stays t r (found.At i) e refl)) o
      go (room i e l s a k) = subst InOrder (put-enter t r i e) (entered-order t o r ok i l e)
      go (full e a k) = subst InOrder (sym (stays t r found.Full e refl)) o

  pub enter-finds : look_up t r.at ≡ None → 0 < free_slots t → look_up (enter_of t r) r.at ≡ Some r
  enter-finds h f =
      let x = find-free t o.fits r.at h f in
      ap (λ (u : List ℕ). look_up u r.at) (sym (put-enter t r x.0 x.1))
      ∙ lookup-complete (put_slot t x.0 r) (entered-order t o r ok x.0 x.2 x.1) r (entered-new t o r ok x.0 x.2 x.1)

  pub enter-keeps : (q : Point) → (q ≡ r.at → ⊥) → look_up (enter_of t r) q ≡ look_up t q
  enter-keeps q ne = go (searched t o.fits r.at)
    where
      go : Searched t r.at → look_up (enter_of t r) q ≡ look_up t q
      go (there i x e l s a k) = ap (λ (u : List ℕ). look_up u q) (stays t r (found.At i) e refl)
      go (room i e l s a k) = ap (λ (u : List ℕ). look_up u q) (sym (put-enter t r i e))
          ∙ lookup-same t (put_slot t i r) o (entered-order t o r ok i l e) q
          (λ x h z. entered-stands t o r ok i l e x z) (λ x h z. entered-old t o r ok i l e x (λ y. ne (sym h ∙ y)) z)
      go (full e a k) = ap (λ (u : List ℕ). look_up u q) (stays t r found.Full e refl)

  -- one free slot less
  pub enter-free : look_up t r.at ≡ None → 0 < free_slots t → free_slots (enter_of t r) + 1 ≡ free_slots t
  enter-free h f = go (searched t o.fits r.at)
    where
      go : Searched t r.at → free_slots (enter_of t r) + 1 ≡ free_slots t
      go (there i q e l s a k) = held-not-absent q k h
      go (room i e l s a k) = ap (λ (u : List ℕ). free_slots u + 1) (sym (put-enter t r i e)) ∙ entered-free t o r ok i l e s
      go (full e a k) = absurd (omega arith)

  pub replace-order : InOrder (replace_of t r)
  replace-order = go (searched t o.fits r.at)
    where
      go : Searched t r.at → InOrder (replace_of t r)
      go (there i q e l s a k) = subst InOrder (put-replace t r i e) (replaced-order t o r ok i l q s (sym a))
      go (room i e l s a k) = subst InOrder (sym (remains t r (found.Free i) e refl)) o
      go (full e a k) = subst InOrder (sym (remains t r found.Full e refl)) o

  pub replace-finds : (q : Record) → look_up t r.at ≡ Some q → look_up (replace_of t r) r.at ≡ Some r
  replace-finds q h = go (searched t o.fits r.at)
    where
      go : Searched t r.at → look_up (replace_of t r) r.at ≡ Some r
      go (there i x e l s a k) = ap (λ (u : List ℕ). look_up u r.at) (sym (put-replace t r i e))
          ∙ lookup-complete (put_slot t i r) (replaced-order t o r ok i l x s (sym a)) r (replaced-new t o r ok i l x s (sym a))
      go (room i e l s a k) = held-not-absent q h a
      go (full e a k) = held-not-absent q h a

  pub replace-keeps : (q : Point) → (q ≡ r.at → ⊥) → look_up (replace_of t r) q ≡ look_up t q
  replace-keeps q ne = go (searched t o.fits r.at)
    where
      go : Searched t r.at → look_up (replace_of t r) q ≡ look_up t q
      go (there i x e l s a k) = ap (λ (u : List ℕ). look_up u q) (sym (put-replace t r i e))
          ∙ lookup-same t (put_slot t i r) o (replaced-order t o r ok i l x s (sym a)) q
          (λ y h z. replaced-stands t o r ok i l x s (sym a) y (λ u. ne (sym h ∙ u)) z)
          (λ y h z. replaced-old t o r ok i l x s (sym a) y (λ u. ne (sym h ∙ u)) z)
      go (room i e l s a k) = ap (λ (u : List ℕ). look_up u q) (remains t r (found.Free i) e refl)
      go (full e a k) = ap (λ (u : List ℕ). look_up u q) (remains t r found.Full e refl)

  -- every search ends as before, and as many slots are free
  pub replace-find : (p : Point) → find_of (replace_of t r) p ≡ find_of t p
  replace-find p = go (searched t o.fits r.at)
    where
      go : Searched t r.at → find_of (replace_of t r) p ≡ find_of t p
      go (there i q e l s a k) = ap (λ (u : List ℕ). find_of u p) (sym (put-replace t r i e)) ∙ replaced-find t o r ok i l q s (sym a) p
      go (room i e l s a k) = ap (λ (u : List ℕ). find_of u p) (remains t r (found.Free i) e refl)
      go (full e a k) = ap (λ (u : List ℕ). find_of u p) (remains t r found.Full e refl)

  pub replace-free : free_slots (replace_of t r) ≡ free_slots t
  replace-free = go (searched t o.fits r.at)
    where
      go : Searched t r.at → free_slots (replace_of t r) ≡ free_slots t
      go (there i q e l s a k) = ap free_slots (sym (put-replace t r i e)) ∙ replaced-free t o r ok i l q s (sym a)
      go (room i e l s a k) = ap free_slots (remains t r (found.Free i) e refl)
      go (full e a k) = ap free_slots (remains t r found.Full e refl)

-- ---- a cleared table, and an empty one

pub clear-length : (t : List ℕ) → length (cleared_of t) ≡ length t
clear-length t = length-replicate (length t) 255

pub clear-table : (t : List ℕ) (n : ℕ) → Table t n → Table (cleared_of t) n
clear-table t n w = table_same t (cleared_of t) n (clear-length t) w

-- a table with no record in it
module _ (t : List ℕ) (w : Table t (slots_of t)) (all : (i : ℕ) → i < slots_of t → slot_at t i ≡ None) where
  no_record : {A : Type 0} (i : ℕ) (r : Record) → i < slots_of t → slot_at t i ≡ Some r → A
  no_record i r l e = let x : None ≡ Some r = sym (all i l) ∙ e in absurd (let z : ◌≡◌ {A = ℕ} 0 1 = cc in omega arith)

  none-order : InOrder t
  none-order = record {
    fits = w;
    valid = λ i r l e. no_record i r l e;
    once = λ i j r q l m e f s. no_record i r l e;
    reach = λ i s r l m e f g. no_record i r l e;
  }

  none-absent : (p : Point) → look_up t p ≡ None
  none-absent p = go (searched t w p)
    where
      go : Searched t p → look_up t p ≡ None
      go (there i q e l s a k) = no_record i q l s
      go (room i e l s a k) = a
      go (full e a k) = a

module _ (t : List ℕ) (w : Table t (slots_of t)) where
  cleared : (i : ℕ) → i < slots_of (cleared_of t) → slot_at (cleared_of t) i ≡ None
  cleared i l =
      let m : i < slots_of t = subst (λ (k : ℕ). i < slots_in k) (clear-length t) l in
      cleared-free (length t) i (omega (arith, w.long))

  cleared-table : Table (cleared_of t) (slots_of (cleared_of t))
  cleared-table = table_of (cleared_of t) (slots_of t) (clear-table t (slots_of t) w)

  pub clear-order : InOrder (cleared_of t)
  clear-order = none-order (cleared_of t) cleared-table cleared

  pub clear-absent : (p : Point) → look_up (cleared_of t) p ≡ None
  clear-absent p = none-absent (cleared_of t) cleared-table cleared p

  pub clear-free : free_slots (cleared_of t) ≡ slots_of t
  clear-free = count-all (slot_at (cleared_of t)) (slots_of (cleared_of t)) cleared ∙ ap slots_in (clear-length t)
