-- Whether a reduced file kept a redundant record, told while it is restored: "12: grown, but a redundant record was kept in a reduced file".
-- `record_keeps` a degree 6 record has an adjacent record of degree 3 · `Since` a table with records entered: `since-start`, `since-enter` how it comes
-- about, `since-there`, `since-absent` what stood at a point before, by where a search ends now · `keeps-redundant` in the table of the file's records
-- the first is the same as 12's own test.
-- Why: what is restored has degree 3, so the degree 6 records of the finished table are the file's; and the table before restoring holds the file's
-- records and no other.
-- Assumes nothing.
use Rattle.std.specs.Prelude.{◌≡◌, refl, ◌⊎◌, Bool, true, false, ◌&&◌, ℕ, ◌<◌, eqb, length, Option, Some, None}
use Rattle.std.proofs.Common.{sym, ap, ◌∙◌, subst, inl, inr, arith, eq-eqb, eqb-true, ne_eqb}
use mathlib.Core.List.{List, Memᴰ}
use Rattle.laws.specs.Each.{not-both, both_left, both_right, same_test, among-at, at-among}
use Rattle.laws.specs.Rules.{among}
use Rattle.laws.specs.Some.{some_of, some_at, at_some}
use Rattle.lattice.specs.Records.{valid_of}
use Rattle.lattice.specs.Stars.{adjacent_at}
use Rattle.lattice.specs.declared.points.Point.{Point}
use Rattle.lattice.specs.declared.records.Record.{Record}
use Rattle.table.specs.Slots.{slots_in, slots_of, slot_at}
use Rattle.table.specs.Search.{find_of}
use Rattle.table.specs.Told.{Fills}
use Rattle.table.specs.Order.{InOrder}
use Rattle.table.specs.Entries.{held_in, look_up, enter_of}
use Rattle.table.specs.MapLaws.{lookup-point, slot-looked, looked-records, records-looked, at_held, find-held, enter-order, enter-length, enter-fills}
use Rattle.table.specs.declared.probe.Found.TheVariants as found
use Rattle.writers.specs.Files.{redundant}
use Rattle.writers.specs.RedundantLaws.{redundant-is, is-redundant}
use Rattle.readers.specs.Additions.{Adds, held-absent}
use Rattle.readers.specs.ReadLaws.{Lined}

-- a record is there, of degree 3
abbrev pub is_three : Option Record → Bool
is_three None = false
is_three (Some r) = eqb r.d 3

-- one of the first k adjacent points of v has such a record
abbrev pub star_keeps : List ℕ → Record → ℕ → Bool
star_keeps t v k = among k (λ j. is_three (look_up t (adjacent_at v j)))

-- v has degree 6, and one of its six has
abbrev pub record_keeps : List ℕ → Record → Bool
record_keeps t v = eqb v.d 6 && star_keeps t v 6

module _ (t : List ℕ) (v : Record) where
  pub six-keeps : v.d ≡ 6 → star_keeps t v 6 ≡ record_keeps t v
  six-keeps e = sym (ap (λ (b : Bool). b && star_keeps t v 6) (eq-eqb v.d 6 e))

  pub other-keeps : (v.d ≡ 6 → ⊥) → false ≡ record_keeps t v
  other-keeps e = sym (ap (λ (b : Bool). b && star_keeps t v 6) (ne_eqb v.d 6 e))

-- ---- told while records enter

-- u is t with records entered: slots have only filled
pub record Since (t u : List ℕ) : Type 0 where
  pub old : InOrder t
  pub order : InOrder u
  pub long : length u ≡ length t
  pub fills : Fills (slots_of t) (slot_at t) (slot_at u)

pub since-start : (t : List ℕ) → InOrder t → Since t t
since-start t o = record { old = o; order = o; long = refl; fills = λ s r l h. (r, h, refl) }

holds_same : {a b : Record} → Some a ≡ Some b → a ≡ b
holds_same {a} {b} e = cc

module _ {t u : List ℕ} (w : Since t u) where
  slots : slots_of u ≡ slots_of t
  slots = ap slots_in w.long

  pub since-enter : (r : Record) → valid_of r ≡ true → Since t (enter_of u r)
  since-enter r ok =
      record {
        old = w.old;
        order = enter-order u w.order r ok;
        long = enter-length u r ∙ w.long;
        fills = λ s q l h. later s q l h;
      }
    where
      later : (s : ℕ) (q : Record) → s < slots_of t → slot_at t s ≡ Some q → (x : Record) × (slot_at (enter_of u r) s ≡ Some x) × (x.at ≡ q.at)
      later s q l h =
          let (x, e, a) = w.fills s q l h in
          let (y, f, b) = enter-fills u w.order.fits r s x (subst (λ (n : ℕ). s < n) (sym slots) l) e in
          (y, f, b ∙ a)

  -- where a record of t stands, u has one of its point
  stood : (p : Point) (q : Record) → look_up t p ≡ Some q
      → (s : ℕ) × (s < slots_of u) × (slot_at t s ≡ Some q) × (x : Record) × (slot_at u s ≡ Some x) × (x.at ≡ p)
  stood p q h =
      let (s, e, f) = find-held t w.old.fits p q h in
      let l = (at_held t w.old.fits p s e).below in
      let (x, g, a) = w.fills s q l f in
      (s, subst (λ (n : ℕ). s < n) (sym slots) l, f, x, g, a ∙ lookup-point t w.old p q h)

  pub since-absent : (p : Point) → look_up u p ≡ None → look_up t p ≡ None
  since-absent p a = go (look_up t p) refl
    where
      go : (l : Option Record) → look_up t p ≡ l → look_up t p ≡ None
      go None e = e
      go (Some q) e =
          let (s, l, f, x, g, b) = stood p q e in
          held-absent (slot-looked u w.order s x l g) (ap (look_up u) b ∙ a)

  -- what stood at a point before, by the slot where the search for it ends now
  pub since-there : (p : Point) (i : ℕ) → find_of u p ≡ found.At i → held_in (slot_at t i) ≡ look_up t p
  since-there p i e = go (slot_at t i) refl (look_up t p) refl
    where
      go : (c : Option Record) → slot_at t i ≡ c → (l : Option Record) → look_up t p ≡ l → held_in (slot_at t i) ≡ look_up t p
      go (Some q) f l g =
          let k = at_held u w.order.fits p i e in
          let b = subst (λ (n : ℕ). i < n) slots k.below in
          let (x, h, a) = w.fills i q b f in
          let same : x ≡ k.rec = holds_same (sym h ∙ k.holds) in
          let at : q.at ≡ p = sym a ∙ ap (λ (r : Record). r.at) same ∙ k.point in
          ap held_in f ∙ sym (slot-looked t w.old i q b f) ∙ ap (look_up t) at
      go None f None g = ap held_in f ∙ sym g
      go None f (Some q) g =
          let k = at_held u w.order.fits p i e in
          let (s, l, y, x, h, b) = stood p q g in
          let z : i ≡ s = w.order.once i s k.rec x k.below l k.holds h (k.point ∙ sym b) in
          let n : None ≡ Some q = sym f ∙ ap (slot_at t) z ∙ y in
          absurd (let m : ◌≡◌ {A = ℕ} 0 1 = cc in omega arith)

-- ---- that is 12's own test

-- t is the table of the file's records, u the same with records of degree 3 restored
pub keeps-redundant : (f : List ℕ) (n : ℕ) (rs : List Record) (t u : List ℕ) → Lined f n rs t → Adds (λ r. r.d ≡ 3) t u
    → some_of (record_keeps t) rs ≡ some_of (redundant u) rs
keeps-redundant f n rs t u w a = same_test (some_of (record_keeps t) rs) (some_of (redundant u) rs) there back
  where
    star : (v : Record) → Memᴰ v rs → v.d ≡ 6 → (j : ℕ) → j < 6 → (x : Option Record) → look_up t (adjacent_at v j) ≡ x → is_three x ≡ true
        → some_of (redundant u) rs ≡ true
    star v m six j b None e h = absurd (not-both h refl)
    star v m six j b (Some r) e h =
        let at = lookup-point t w.order (adjacent_at v j) r e in
        let listed = looked-records u a.order v.at v (a.keeps v.at v (w.held v m)) in
        at_some (redundant u) rs r (w.only (adjacent_at v j) r e)
        (is-redundant u r (record { three = eqb-true r.d 3 h; centre = v; listed = listed; six = six; place = j; below = b; adjacent = sym at }))

    there : some_of (record_keeps t) rs ≡ true → some_of (redundant u) rs ≡ true
    there h =
        let (v, m, e) = some_at (record_keeps t) rs h in
        let (j, b, x) = among-at (λ j. is_three (look_up t (adjacent_at v j))) 6 (both_right (eqb v.d 6) (star_keeps t v 6) e) in
        star v m (eqb-true v.d 6 (both_left (eqb v.d 6) (star_keeps t v 6) e)) j b (look_up t (adjacent_at v j)) refl x

    old : (v : Record) → v.d ≡ 6 → (look_up t v.at ≡ Some v) ⊎ (v.d ≡ 3) → look_up t v.at ≡ Some v
    old v six (inl k) = k
    old v six (inr k) = absurd (let z : ◌≡◌ {A = ℕ} 6 3 = sym six ∙ k in omega arith)

    back : some_of (redundant u) rs ≡ true → some_of (record_keeps t) rs ≡ true
    back h =
        let (r, m, e) = some_at (redundant u) rs h in
        let x = redundant-is u r e in
        let v = x.centre in
        let held = old v x.six (a.only v.at v (records-looked u a.order v x.listed)) in
        let three : is_three (look_up t (adjacent_at v x.place)) ≡ true = ap (λ (p : Point). is_three (look_up t p)) x.adjacent ∙ ap is_three (w.held r m)
        ∙ eq-eqb r.d 3 x.three in
        let star : star_keeps t v 6 ≡ true = at-among (λ j. is_three (look_up t (adjacent_at v j))) 6 x.place x.below three in
        at_some (record_keeps t) rs v (w.only v.at v held) (sym (six-keeps t v x.six) ∙ star)
