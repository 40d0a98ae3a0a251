-- Whether a reduced file kept a redundant record, told by the table that its lines filled, before anything is restored: "12: grown, but a redundant
-- record was kept in a reduced file".
-- `table_keeps` one of the first slots holds a degree 6 record with an adjacent record of degree 3 · `keeps-redundant`, `restored-kept` in the table of
-- the file's records that is the same as 12's own test.
-- Why: what is restored has degree 3, so the degree 6 records of the finished table are the file's; and the table before restoring holds the file's
-- records and no other.
-- Assumes nothing.
use Rattle.std.specs.Prelude.{◌≡◌, refl, ◌⊎◌, Bool, true, false, ◌&&◌, ℕ, ◌<◌, eqb, Option, Some, None}
use Rattle.std.proofs.Common.{sym, ap, ◌∙◌, inl, inr, arith, eq-eqb, eqb-true, ne_eqb}
use mathlib.Core.List.{List, Memᴰ}
use Rattle.laws.specs.Each.{not-both, both_left, both_right, same_test, among-at, at-among}
use Rattle.laws.specs.Rules.{among}
use Rattle.laws.specs.Some.{some_of, some_at, at_some}
use Rattle.lattice.specs.Stars.{adjacent_at}
use Rattle.lattice.specs.declared.points.Point.{Point}
use Rattle.lattice.specs.declared.records.Record.{Record}
use Rattle.table.specs.Slots.{slots_of, slot_at}
use Rattle.table.specs.Order.{InOrder}
use Rattle.table.specs.Entries.{look_up, records_of}
use Rattle.table.specs.MapLaws.{lookup-point, lookup-stands, slot-looked, looked-records, records-looked}
use Rattle.writers.specs.Files.{redundant}
use Rattle.writers.specs.RedundantLaws.{Redundant, redundant-is, is-redundant}
use Rattle.readers.specs.Readers.{With, restore_all}
use Rattle.readers.specs.Additions.{Adds, adds-as}
use Rattle.readers.specs.ReadLaws.{Lined}
use Rattle.readers.specs.RestoreLaws.{RestoredOf, restore-all}
use Rattle.readers.specs.Keeps.{is_three, star_keeps}

abbrev pub slot_keeps : List ℕ → Option Record → Bool
slot_keeps t None = false
slot_keeps t (Some v) = eqb v.d 6 && star_keeps t v 6

abbrev pub table_keeps : List ℕ → ℕ → Bool
table_keeps t n = among n (λ i. slot_keeps t (slot_at t i))

module _ (t : List ℕ) (s : Option Record) (v : Record) (held : s ≡ Some v) where
  pub six-keeps : v.d ≡ 6 → star_keeps t v 6 ≡ slot_keeps t s
  six-keeps e = sym (ap (slot_keeps t) held ∙ ap (λ (b : Bool). b && star_keeps t v 6) (eq-eqb v.d 6 e))

  pub other-keeps : (v.d ≡ 6 → ⊥) → false ≡ slot_keeps t s
  other-keeps e = sym (ap (slot_keeps t) held ∙ ap (λ (b : Bool). b && star_keeps t v 6) (ne_eqb v.d 6 e))

-- ---- that is 12's own test

module _ (t : List ℕ) (o : InOrder t) where
  -- r is one of the records, and redundant among them
  table-keeps : table_keeps t (slots_of t) ≡ true → (r : Record) × (look_up t r.at ≡ Some r) × Redundant t r
  table-keeps h = let (i, l, e) = among-at (λ i. slot_keeps t (slot_at t i)) (slots_of t) h in slot i l (slot_at t i) refl e
    where
      star : (v : Record) → look_up t v.at ≡ Some v → v.d ≡ 6 → (j : ℕ) → j < 6 → (x : Option Record) → look_up t (adjacent_at v j) ≡ x → is_three x ≡ true
          → (r : Record) × (look_up t r.at ≡ Some r) × Redundant t r
      star v k six j b None e h = absurd (not-both h refl)
      star v k six j b (Some r) e h =
          let at = lookup-point t o (adjacent_at v j) r e in (
            r,
            ap (look_up t) at ∙ e,
            record { three = eqb-true r.d 3 h; centre = v; listed = looked-records t o v.at v k; six = six; place = j; below = b; adjacent = sym at },
          )

      slot : (i : ℕ) → i < slots_of t → (s : Option Record) → slot_at t i ≡ s → slot_keeps t s ≡ true → (r : Record) × (look_up t r.at ≡ Some r) × Redundant t r
      slot i l None e h = absurd (not-both h refl)
      slot i l (Some v) e h =
          let (j, b, x) = among-at (λ j. is_three (look_up t (adjacent_at v j))) 6 (both_right (eqb v.d 6) (star_keeps t v 6) h) in
          star v (slot-looked t o i v l e) (eqb-true v.d 6 (both_left (eqb v.d 6) (star_keeps t v 6) h)) j b (look_up t (adjacent_at v j)) refl x

  keeps-table : (r : Record) → look_up t r.at ≡ Some r → Redundant t r → table_keeps t (slots_of t) ≡ true
  keeps-table r found w =
      let v = w.centre in
      let s = lookup-stands t o v.at v (records-looked t o v w.listed) in
      let three : is_three (look_up t (adjacent_at v w.place)) ≡ true = ap (λ (p : Point). is_three (look_up t p)) w.adjacent ∙ ap is_three found
      ∙ eq-eqb r.d 3 w.three in
      let star : star_keeps t v 6 ≡ true = at-among (λ j. is_three (look_up t (adjacent_at v j))) 6 w.place w.below three in
      at-among (λ i. slot_keeps t (slot_at t i)) (slots_of t) s.slot s.below (sym (six-keeps t (slot_at t s.slot) v s.holds w.six) ∙ star)

-- the same record of degree 6 in another table
centred : (t u : List ℕ) (r : Record) (w : Redundant t r) → Memᴰ w.centre (records_of u) → Redundant u r
centred t u r w m = record { three = w.three; centre = w.centre; listed = m; six = w.six; place = w.place; below = w.below; adjacent = w.adjacent }

-- t is the table of the file's records, u the same with records of degree 3 restored
pub keeps-redundant : (f : List ℕ) (n : ℕ) (rs : List Record) (t u : List ℕ) → Lined f n rs t → Adds (λ r. r.d ≡ 3) t u
    → table_keeps t (slots_of t) ≡ some_of (redundant u) rs
keeps-redundant f n rs t u w a = same_test (table_keeps t (slots_of t)) (some_of (redundant u) rs) there back
  where
    there : table_keeps t (slots_of t) ≡ true → some_of (redundant u) rs ≡ true
    there h =
        let (r, found, x) = table-keeps t w.order h in
        let v = x.centre in
        let m = looked-records u a.order v.at v (a.keeps v.at v (records-looked t w.order v x.listed)) in
        at_some (redundant u) rs r (w.only r.at r found) (is-redundant u r (centred t u r x m))

    old : (v : Record) → v.d ≡ 6 → (look_up t v.at ≡ Some v) ⊎ (v.d ≡ 3) → look_up t v.at ≡ Some v
    old v six (inl k) = k
    old v six (inr k) = absurd (let z : ◌≡◌ {A = ℕ} 6 3 = sym six ∙ k in omega arith)

    back : some_of (redundant u) rs ≡ true → table_keeps t (slots_of t) ≡ true
    back h =
        let (r, m, e) = some_at (redundant u) rs h in
        let x = redundant-is u r e in
        let v = x.centre in
        let held = old v x.six (a.only v.at v (records-looked u a.order v x.listed)) in
        keeps-table t w.order r (w.held r m) (centred u t r x (looked-records t w.order v.at v held))

-- so it is where the whole file was restored
module _ (f : List ℕ) (n : ℕ) (rs : List Record) (t u : List ℕ) (w : Lined f n rs t) (e : restore_all rs (With t) ≡ With u) where
  adds : Adds (λ r. r.d ≡ 3) t u
  adds =
      adds-as (RestoredOf rs) (λ r. r.d ≡ 3) t u
      (λ r (v, m, d, j, l, k). ap (λ (x : Record). x.d) k)
      (restore-all rs t u w.order e).adds

  pub restored-kept : table_keeps t n ≡ some_of (redundant u) rs
  restored-kept = ap (table_keeps t) (sym w.slots) ∙ keeps-redundant f n rs t u w adds
