-- The list of a table's records, slot by slot.
-- `Apart` no two records of a list have one point · `listed-stands`, `stands-listed` what is listed of the first k slots stands there, and back ·
-- `counted-below`, `apart_below` · `apart-fewer` a list without two of one point is no longer than one that holds all of it.
-- Assumes nothing.
use Rattle.std.specs.Prelude.{◌≡◌, ◌⊎◌, Option, Some, None}
use Rattle.std.proofs.Math.Path.{refl, ap, subst}
use Rattle.std.proofs.Common.{sym, ◌∙◌, inl, inr}
use mathlib.Core.List.Memᴰ
use mathlib.Core.List.{List, [], ◌∷◌, ◌++◌, append-nil, Memᴰ}
use Prim.Native.Nat.{ℕ, zero, suc, ◌+◌, ◌≤◌, ◌<◌}
use native.Mathlib.Omega.{arith}
use Rattle.std.proofs.Math.Decide.{ℕ_discrete}
use Rattle.std.proofs.Math.ListN.{length, length-append}
use Rattle.lattice.specs.declared.records.Record.{Record}
use Rattle.table.specs.Slots.{slots_of, slot_at, is_free, free_below}
use Rattle.table.specs.Order.{InOrder}
use Rattle.table.specs.Entries.{listed, records_below}
use Rattle.table.specs.ChangeLaws.{Stands}

-- no two records of a list have one point
abbrev pub Apart : List Record → Type 0
Apart [] = Unit
Apart (r ∷ rs) = ((q : Record) → Memᴰ q rs → q.at ≡ r.at → ⊥) × Apart rs

apart_more : (rs : List Record) (q : Record) → Apart rs → ((x : Record) → Memᴰ x rs → x.at ≡ q.at → ⊥) → Apart (rs ++ (q ∷ []))
apart_more [] q a h = (λ x m e. absurd (Memᴰ.not-nil m), tt)
apart_more (r ∷ rs) q a h = (λ x m e. go x e (Memᴰ.append_cases rs m), apart_more rs q a.1 (λ x m. h x (Memᴰ.tail m)))
  where
    go : (x : Record) → x.at ≡ r.at → Memᴰ x rs ⊎ Memᴰ x (q ∷ []) → ⊥
    go x e (inl m) = a.0 x m e
    go x e (inr m) = h r (Memᴰ.head refl) (sym e ∙ ap (λ (u : Record). u.at) (Memᴰ.eq_of_singleton m))

module _ (t : List ℕ) where
  -- what is listed of the first k slots stands in one of them, and what stands there is listed
  pub listed-stands : (k : ℕ) (r : Record) → Memᴰ r (records_below t k) → Stands k (slot_at t) r
  unfolding records_below
  listed-stands zero r m = absurd (Memᴰ.not-nil m)
  listed-stands (suc k) r m = go (slot_at t k) refl (Memᴰ.append_cases (records_below t k) m) (λ l. listed-stands k r l)
    where
      go : (s : Option Record) → slot_at t k ≡ s → Memᴰ r (records_below t k) ⊎ Memᴰ r (listed (slot_at t k))
          → (Memᴰ r (records_below t k) → Stands k (slot_at t) r) → Stands (suc k) (slot_at t) r
      go s e (inl l) ih = let x = ih l in record { slot = x.slot; below = omega (arith, x.below); holds = x.holds }
      go None e (inr l) ih = absurd (Memᴰ.not-nil (subst (λ (s : Option Record). Memᴰ r (listed s)) e l))
      go (Some q) e (inr l) ih =
          record { slot = k; below = omega arith; holds = e ∙ ap Some (sym (Memᴰ.eq_of_singleton (subst (λ (s : Option Record). Memᴰ r (listed s)) e l))) }

  pub stands-listed : (k : ℕ) (r : Record) → Stands k (slot_at t) r → Memᴰ r (records_below t k)
  unfolding records_below
  stands-listed zero r s = absurd (omega (arith, s.below))
  stands-listed (suc k) r s = go (ℕ_discrete s.slot k) (λ x. stands-listed k r x)
    where
      go : Dec (s.slot ≡ k) → (Stands k (slot_at t) r → Memᴰ r (records_below t k)) → Memᴰ r (records_below t k ++ listed (slot_at t k))
      go (yes e) ih =
          Memᴰ.append_right (records_below t k) (subst (λ (x : Option Record). Memᴰ r (listed x)) (sym (ap (slot_at t) (sym e) ∙ s.holds)) (Memᴰ.head refl))
      go (no e) ih = Memᴰ.append_left (listed (slot_at t k)) (ih (record { slot = s.slot; below = omega (arith, s.below); holds = s.holds }))

  pub counted-below : (k : ℕ) → length (records_below t k) + free_below (slot_at t) k ≡ k
  unfolding records_below free_below
  counted-below zero = refl
  counted-below (suc k) =
      let a = counted-below k in
      let b = length-append (records_below t k) (listed (slot_at t k)) in
      let c = one (slot_at t k) in
      omega arith
    where
      one : (s : Option Record) → length (listed s) + is_free s ≡ 1
      one None = refl
      one (Some r) = refl

  pub apart_below : InOrder t → (k : ℕ) → k ≤ slots_of t → Apart (records_below t k)
  unfolding records_below
  apart_below o zero l = tt
  apart_below o (suc k) l = go (slot_at t k) refl (apart_below o k (omega arith))
    where
      go : (s : Option Record) → slot_at t k ≡ s → Apart (records_below t k) → Apart (records_below t k ++ listed (slot_at t k))
      go None e a = subst Apart (sym (ap (λ (s : Option Record). records_below t k ++ listed s) e ∙ append-nil (records_below t k))) a
      go (Some q) e a =
          subst Apart (sym (ap (λ (s : Option Record). records_below t k ++ listed s) e))
          (apart_more (records_below t k) q a (λ x m h.
          let s = listed-stands k x m in
          let b : s.slot < slots_of t = omega (arith, s.below) in
          let c : s.slot ≡ k = o.once s.slot k x q b (omega arith) s.holds e h in
          omega (arith, s.below)))

-- ---- lists of records without two of one point have as many where they hold the same

-- a list without one of its records
without : {r : Record} {qs : List Record} → Memᴰ r qs → List Record
without (Memᴰ.head {xs = xs} e) = xs
without (Memᴰ.tail {x = x} m) = x ∷ without m

without-length : {r : Record} {qs : List Record} (m : Memᴰ r qs) → length (without m) + 1 ≡ length qs
unfolding without
without-length (Memᴰ.head {xs = xs} e) = omega arith
without-length (Memᴰ.tail m) = omega (arith, without-length m)

without-others : {r : Record} {qs : List Record} (m : Memᴰ r qs) (x : Record) → (x.at ≡ r.at → ⊥) → Memᴰ x qs → Memᴰ x (without m)
unfolding without
without-others {r} (Memᴰ.head {x = y} {xs = xs} e) x ne l = go (Memᴰ.cases_cons l)
  where
    go : (x ≡ y) ⊎ Memᴰ x xs → Memᴰ x xs
    go (inl h) = absurd (ne (ap (λ (u : Record). u.at) (h ∙ sym e)))
    go (inr k) = k
without-others {r} (Memᴰ.tail {x = y} {xs = xs} m) x ne l = go (Memᴰ.cases_cons l) (λ k. without-others m x ne k)
  where
    go : (x ≡ y) ⊎ Memᴰ x xs → (Memᴰ x xs → Memᴰ x (without m)) → Memᴰ x (y ∷ without m)
    go (inl h) ih = Memᴰ.head h
    go (inr k) ih = Memᴰ.tail (ih k)

pub apart-fewer : (rs qs : List Record) → Apart rs → ((r : Record) → Memᴰ r rs → Memᴰ r qs) → length rs ≤ length qs
apart-fewer [] qs a h = omega arith
apart-fewer (r ∷ rs) qs a h =
    let m = h r (Memᴰ.head refl) in
    let l = apart-fewer rs (without m) a.1 (λ x k. without-others m x (a.0 x k) (h x (Memᴰ.tail k))) in
    omega (arith, without-length m)
