-- The document's rules for an old adjacent vertex against the model: when one more of a vertex's parents is subdivided, its record changes as the rule
-- says (`update-split`), and none of these records tears the subdivision (`accept-split`). The direction k' that is filled is k + 4t for parent t.
-- `look-..` what a record says when it is there · `splits-..` what a degree says of the parents.
-- Assumes nothing.
use Rattle.std.proofs.lemmas.Option.{none-some}
use Rattle.std.specs.Prelude.{◌≡◌, ◌≢◌, Bool, Some}
use Rattle.std.proofs.Math.Path.{refl}
use Rattle.std.proofs.Common.{sym, ap, true≢false}
use Rattle.std.proofs.Math.Bool.{true, false}
use Prim.Native.Nat.{ℕ, zero, suc, ◌+◌, ◌*◌, ◌%◌, ◌<◌}
use native.Mathlib.Omega.{arith}
use Rattle.std.proofs.Math.Numerals.{add-one}
use borrow.Author.Tests.{eq-eqb, ne_eqb}
use Rattle.lattice.specs.Subdivision.{update_of, accepts_of}
use Rattle.lattice.specs.declared.points.Point.{Point}
use Rattle.lattice.specs.declared.records.Record.{Record}
use Rattle.growth.specs.Sheets.{vertex}
use Rattle.growth.specs.Model.{by_splits}
use Rattle.growth.specs.Closed.{look}

module _ (p : Point) (k b k' : ℕ) (h : k < 4) where
  -- parent 0, 1, 2 is subdivided
  update0 : (s1 s2 : Bool) → k % 2 ≡ b % 2 → k' ≡ k → update_of k' (by_splits p false s1 s2 k b (suc b)) ≡ by_splits p true s1 s2 k b (suc b)
  unfolding update_of by_splits
  update0 false false e z = let x : (k' + 4) % 12 ≡ k + 4 = omega arith in rw x
  update0 true false e z = let x : (k' + 8) % 12 ≡ k + 8 = omega arith in rw (ne_eqb (k + 8) k' (omega arith), x)
  update0 false true e z = let x : (k' + 4) % 12 ≡ k + 4 = omega arith in rw (eq-eqb k k' (sym z), x)
  update0 true true e z = let x : (k' + 1) % 2 ≡ suc b % 2 = omega arith in rw (x, add-one b)

  update1 : (s0 s2 : Bool) → k % 2 ≡ b % 2 → k' ≡ k + 4 → update_of k' (by_splits p s0 false s2 k b (suc b)) ≡ by_splits p s0 true s2 k b (suc b)
  unfolding update_of by_splits
  update1 false false e z = let x : (k' + 4) % 12 ≡ k + 8 = omega arith in rw x
  update1 true false e z = let x : (k' + 4) % 12 ≡ k + 8 = omega arith in rw (eq-eqb (k + 4) k' (sym z), x)
  update1 false true e z = let x : (k' + 8) % 12 ≡ k = omega arith in rw (ne_eqb k k' (omega arith), x)
  update1 true true e z = let x : (k' + 1) % 2 ≡ suc b % 2 = omega arith in rw (x, add-one b)

  update2 : (s0 s1 : Bool) → k % 2 ≡ b % 2 → k' ≡ k + 8 → update_of k' (by_splits p s0 s1 false k b (suc b)) ≡ by_splits p s0 s1 true k b (suc b)
  unfolding update_of by_splits
  update2 false false e z = let x : (k' + 4) % 12 ≡ k = omega arith in rw x
  update2 true false e z = let x : (k' + 8) % 12 ≡ k + 4 = omega arith in rw (ne_eqb (k + 4) k' (omega arith), x)
  update2 false true e z = let x : (k' + 4) % 12 ≡ k = omega arith in rw (eq-eqb (k + 8) k' (sym z), x)
  update2 true true e z = let x : (k' + 1) % 2 ≡ suc b % 2 = omega arith in rw (x, add-one b)

  accept0 : (s1 s2 : Bool) (m : ℕ) → k' ≡ k → accepts_of k' b (by_splits p false s1 s2 k b m) ≡ true
  unfolding accepts_of by_splits
  accept0 false false m z = rw (eq-eqb b b refl, eq-eqb (k' % 4) k (omega arith))
  accept0 true false m z = rw (eq-eqb b b refl, ne_eqb (k + 8) k' (omega arith), eq-eqb ((k + 8 + 4) % 12) k' (omega arith))
  accept0 false true m z = rw (eq-eqb b b refl, eq-eqb k k' (sym z))
  accept0 true true m z = rw (eq-eqb b b refl, eq-eqb k' k z)

  accept1 : (s0 s2 : Bool) (m : ℕ) → k' ≡ k + 4 → accepts_of k' b (by_splits p s0 false s2 k b m) ≡ true
  unfolding accepts_of by_splits
  accept1 false false m z = rw (eq-eqb b b refl, eq-eqb (k' % 4) k (omega arith))
  accept1 true false m z = rw (eq-eqb b b refl, eq-eqb (k + 4) k' (sym z))
  accept1 false true m z = rw (eq-eqb b b refl, ne_eqb k k' (omega arith), eq-eqb ((k + 4) % 12) k' (omega arith))
  accept1 true true m z = rw (eq-eqb b b refl, eq-eqb k' (k + 4) z)

  accept2 : (s0 s1 : Bool) (m : ℕ) → k' ≡ k + 8 → accepts_of k' b (by_splits p s0 s1 false k b m) ≡ true
  unfolding accepts_of by_splits
  accept2 false false m z = rw (eq-eqb b b refl, eq-eqb (k' % 4) k (omega arith))
  accept2 true false m z = rw (eq-eqb b b refl, ne_eqb (k + 4) k' (omega arith), eq-eqb ((k + 4 + 4) % 12) k' (omega arith))
  accept2 false true m z = rw (eq-eqb b b refl, eq-eqb (k + 8) k' (sym z))
  accept2 true true m z = rw (eq-eqb b b refl, eq-eqb k' (k + 8) z)

  -- so it is for each parent t: s tells which were subdivided before, s' which after
  pub update-split : (s s' : ℕ → Bool) (t : ℕ) → t < 3 → k % 2 ≡ b % 2 → k' ≡ k + 4 * t → s t ≡ false → s' t ≡ true → ((u : ℕ) → u < 3 → u ≢ t → s' u ≡ s u)
      → update_of k' (by_splits p (s 0) (s 1) (s 2) k b (suc b)) ≡ by_splits p (s' 0) (s' 1) (s' 2) k b (suc b)
  update-split s s' zero l e z off on rest = rw (off, on, rest 1 (omega arith) (omega arith), rest 2 (omega arith) (omega arith))
      (update0 (s 1) (s 2) e (omega arith))
  update-split s s' (suc zero) l e z off on rest = rw (off, on, rest 0 (omega arith) (omega arith), rest 2 (omega arith) (omega arith))
      (update1 (s 0) (s 2) e z)
  update-split s s' (suc (suc zero)) l e z off on rest = rw (off, on, rest 0 (omega arith) (omega arith), rest 1 (omega arith) (omega arith))
      (update2 (s 0) (s 1) e z)
  update-split s s' (suc (suc (suc t))) l e z off on rest = absurd (omega arith)

  pub accept-split : (s : ℕ → Bool) (t m : ℕ) → t < 3 → k' ≡ k + 4 * t → s t ≡ false → accepts_of k' b (by_splits p (s 0) (s 1) (s 2) k b m) ≡ true
  accept-split s zero m l z off = rw off (accept0 (s 1) (s 2) m (omega arith))
  accept-split s (suc zero) m l z off = rw off (accept1 (s 0) (s 2) m z)
  accept-split s (suc (suc zero)) m l z off = rw off (accept2 (s 0) (s 1) m z)
  accept-split s (suc (suc (suc t))) m l z off = absurd (omega arith)

-- ---- what a degree says of the parents
pub splits-six : (p : Point) (x y z : Bool) (k b n : ℕ) → (by_splits p x y z k b n).d ≡ 6 → (x ≡ true) × (y ≡ true) × (z ≡ true)
unfolding by_splits
splits-six p false false false k b n h = absurd (omega arith)
splits-six p true false false k b n h = absurd (omega arith)
splits-six p false true false k b n h = absurd (omega arith)
splits-six p false false true k b n h = absurd (omega arith)
splits-six p true true false k b n h = absurd (omega arith)
splits-six p true false true k b n h = absurd (omega arith)
splits-six p false true true k b n h = absurd (omega arith)
splits-six p true true true k b n h = (refl, refl, refl)

pub splits-three : (p : Point) (x y z : Bool) (k b n : ℕ) → (by_splits p x y z k b n).d ≡ 3 → by_splits p x y z k b n ≡ vertex p 3 k b
unfolding by_splits
splits-three p false false false k b n h = refl
splits-three p true false false k b n h = absurd (omega arith)
splits-three p false true false k b n h = absurd (omega arith)
splits-three p false false true k b n h = absurd (omega arith)
splits-three p true true false k b n h = absurd (omega arith)
splits-three p true false true k b n h = absurd (omega arith)
splits-three p false true true k b n h = absurd (omega arith)
splits-three p true true true k b n h = absurd (omega arith)

-- the level of degree 6 does not show at a lesser degree
pub splits-less : (p : Point) (x y z : Bool) (k b n n' : ℕ) → (by_splits p x y z k b n).d ≢ 6 → by_splits p x y z k b n ≡ by_splits p x y z k b n'
unfolding by_splits
splits-less p false false false k b n n' h = refl
splits-less p true false false k b n n' h = refl
splits-less p false true false k b n n' h = refl
splits-less p false false true k b n n' h = refl
splits-less p true true false k b n n' h = refl
splits-less p true false true k b n n' h = refl
splits-less p false true true k b n n' h = refl
splits-less p true true true k b n n' h = absurd (h refl)

-- no star has degree 0
pub splits-some : (p : Point) (x y z : Bool) (k b n : ℕ) → (by_splits p x y z k b n).d ≢ 0
unfolding by_splits
splits-some p false false false k b n h = omega arith
splits-some p true false false k b n h = omega arith
splits-some p false true false k b n h = omega arith
splits-some p false false true k b n h = omega arith
splits-some p true true false k b n h = omega arith
splits-some p true false true k b n h = omega arith
splits-some p false true true k b n h = omega arith
splits-some p true true true k b n h = omega arith

pub splits-at : (p : Point) (x y z : Bool) (k b n : ℕ) → (by_splits p x y z k b n).at ≡ p
unfolding by_splits
splits-at p false false false k b n = refl
splits-at p true false false k b n = refl
splits-at p false true false k b n = refl
splits-at p false false true k b n = refl
splits-at p true true false k b n = refl
splits-at p true false true k b n = refl
splits-at p false true true k b n = refl
splits-at p true true true k b n = refl

-- ---- what it says that a record is there
pub look-inv : (a i : Bool) (p : Point) (s r : Record) → look a i p s ≡ Some r → (a ≡ true) × (i ≡ true → r ≡ s) × (i ≡ false → r ≡ vertex p 0 0 0)
unfolding look
look-inv false i p s r h = absurd (none-some r h)
look-inv true false p s r h = (refl, (λ x. absurd (true≢false (sym x))), λ x. cc)
look-inv true true p s r h = (refl, (λ x. cc), λ x. absurd (true≢false x))

pub look-here : (a i : Bool) (p : Point) (s : Record) → a ≡ true → (r : Record) × (look a i p s ≡ Some r)
unfolding look
look-here true true p s h = (s, refl)
look-here true false p s h = (vertex p 0 0 0, refl)
look-here false i p s h = absurd (true≢false (sym h))

-- a record with a star is internal
pub look-inside : (a i : Bool) (p : Point) (s r : Record) → look a i p s ≡ Some r → r.d ≢ 0 → (a ≡ true) × (i ≡ true) × (r ≡ s)
look-inside a i p s r h d = go i refl
  where
    go : (b : Bool) → i ≡ b → (a ≡ true) × (i ≡ true) × (r ≡ s)
    go true e = let v = look-inv a i p s r h in (v.0, e, v.1 e)
    go false e = absurd (d (ap (λ (x : Record). x.d) ((look-inv a i p s r h).2 e)))

pub look-update : (a i : Bool) (p : Point) (s s' r : Record) (k' : ℕ) → look a i p s ≡ Some r → update_of k' s ≡ s' → look a i p s' ≡ Some (update_of k' r)
unfolding look update_of
look-update false i p s s' r k' h u = absurd (none-some r h)
look-update true false p s s' r k' h u = let e : r ≡ vertex p 0 0 0 = cc in rw e
look-update true true p s s' r k' h u = let e : s ≡ r = cc in rw (← u, e)

pub look-accept : (i : Bool) (p : Point) (s : Record) (k' n : ℕ) → accepts_of k' n s ≡ true
    → (r : Record) × (look true i p s ≡ Some r) × (accepts_of k' n r ≡ true)
unfolding look accepts_of
look-accept true p s k' n h = (s, refl, h)
look-accept false p s k' n h = (vertex p 0 0 0, refl, refl)
