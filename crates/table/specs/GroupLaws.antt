-- Slots asked without a search, in a table in order: a slot that reads as a point's record holds it, unless the point's depth is 255, which a free slot
-- reads as; and no point stands twice, so its search ends there.
-- `read_found`, `read_held` what a slot tells. Of any bytes: `none_first`, `guess-more` a group asked slot by slot.
-- Assumes nothing.
use Rattle.std.proofs.Math.Path.{◌≡◌, refl, ap}
use Rattle.std.proofs.Common.{sym, ◌∙◌, arith}
use Rattle.std.specs.Prelude.{Bool, true, false, cond, List, ℕ, ◌+◌, ◌*◌, ◌≤◌, ◌<◌, ℤ, Some, None}
use Rattle.std.proofs.Math.Decide.{dec_lt, ℕ_discrete}
use Rattle.std.proofs.Math.ListN.{get_or}
use Rattle.lattice.specs.Points.{pt}
use Rattle.lattice.specs.declared.points.Point.{Point}
use Rattle.table.specs.Slots.{slot_width, Table, free_at, record_at, slots_of, slot_at}
use Rattle.table.specs.Search.{meets, seek, find_of}
use Rattle.table.specs.Order.{InOrder, in_order_of}
use Rattle.table.specs.Entries.{is_held, holds, slot_found}
use Rattle.table.specs.Reading.{reads_as, NoneIn, group}
use Rattle.table.specs.SlotLaws.{free-byte, table-slots}
use Rattle.table.specs.SearchLaws.{same_true, Kind, kind, free, own, alien}
use Rattle.table.specs.OrderLaws.{slots-some, order-slots, present, test-order}
use Rattle.table.specs.LookLaws.{at_held}
use Rattle.table.specs.declared.probe.Meet.TheVariants.{Hit, Other}
use Rattle.table.specs.declared.probe.Found.TheVariants as found

module _ (t : List ℕ) (p : Point) where
  -- the slot is not free: its depth would be 255
  read-hit : (i : ℕ) → p.m.0 < 255 → reads_as t p i ≡ true → meets (slot_at t i) p ≡ Hit
  unfolding slot_at record_at
  read-hit i l e = go (free_at t (slot_width * i)) refl
    where
      depth : get_or t (slot_width * i + 8) 0 ≡ p.m.0
      depth = ap (λ (q : Point). q.m.0) (same_true (record_at t (slot_width * i)).at p e)

      go : (b : Bool) → free_at t (slot_width * i) ≡ b → meets (slot_at t i) p ≡ Hit
      go true f = absurd (omega (arith, depth, free-byte t (slot_width * i) f (slot_width * i + 8) 8 refl (omega arith)))
      go false f =
          ap (λ (b : Bool). meets (cond b None (Some (record_at t (slot_width * i)))) p) f ∙ ap (λ (b : Bool). cond b Hit Other) e

  hit-found : InOrder t → (i : ℕ) → i < slots_of t → meets (slot_at t i) p ≡ Hit → find_of t p ≡ found.At i
  unfolding find_of
  hit-found o i l e = go (kind (slot_at t i) p)
    where
      go : Kind (slot_at t i) p → find_of t p ≡ found.At i
      go (free a b) = absurd (let q : ◌≡◌ {A = ℕ} 0 1 = cc in omega arith)
      go (own r a s b) =
          ap (seek (slots_of t) (slot_at t)) (sym s)
          ∙ present (slots_of t) (slots-some t (slots_of t) o.fits) (slot_at t) (order-slots t o) i r l a
      go (alien r a b) = absurd (let q : ◌≡◌ {A = ℕ} 0 1 = cc in omega arith)

  module _ (n : ℕ) (w : Table t n) (o : in_order_of t ≡ true) (l : p.m.0 < 255) where
    found-there : (i : ℕ) → i < n → reads_as t p i ≡ true → find_of t p ≡ found.At i
    found-there i h e = hit-found (test-order t o) i (omega (arith, table-slots t n w)) (read-hit i l e)

    pub read_found : (i : ℕ) → i < n → reads_as t p i ≡ true → i ≡ slot_found n (find_of t p)
    read_found i h e = ap (slot_found n) (sym (found-there i h e))

    pub read_held : (i : ℕ) → i < n → reads_as t p i ≡ true → true ≡ holds t p
    read_held i h e = sym (ap is_held (at_held t (test-order t o).fits p i (found-there i h e)).looked)

-- ---- a group

pub none_first : (t : List ℕ) (a b : ℤ) (h : ℕ) → NoneIn t a b h 0
none_first t a b h m j l = absurd (omega arith)

none_more : (t : List ℕ) (a b : ℤ) (h k : ℕ) → NoneIn t a b h k → NoneIn t a b (h + k) 1 → NoneIn t a b h (k + 1)
none_more t a b h k f g m j l = go (dec_lt j k)
  where
    go : Dec (j < k) → reads_as t (pt a b m) (h + j) ≡ false
    go (yes s) = f m j s
    go (no s) = let e : h + k + 0 ≡ h + j = omega arith in ap (reads_as t (pt a b m)) (sym e) ∙ g m 0 (omega arith)

-- one slot more was asked: the guess is that slot, or the one before it stays
pub guess-more : (t : List ℕ) (a b : ℤ) (h k g r : ℕ) → k < group → (h ≤ g) × (g ≤ h + group) → (g ≡ h + group → NoneIn t a b h k)
    → ((r ≡ h + k → ⊥) → (r ≡ g) × NoneIn t a b (h + k) 1) → ((h ≤ r) × (r ≤ h + group)) × (r ≡ h + group → NoneIn t a b h (k + 1))
guess-more t a b h k g r l w f s = go (ℕ_discrete r (h + k))
  where
    go : Dec (r ≡ h + k) → ((h ≤ r) × (r ≤ h + group)) × (r ≡ h + group → NoneIn t a b h (k + 1))
    go (yes e) = ((omega arith, omega arith), λ q. absurd (omega arith))
    go (no e) =
        let q = s e in
        let same = q.0 in
        ((omega (arith, w.0), omega (arith, w.1)), λ z. none_more t a b h k (f (sym same ∙ z)) q.1)
