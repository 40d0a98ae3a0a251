-- A private device: the model over normalised points, with the rank as an argument so that its cases compute; and how its parts change by one more subdivision.
-- `T` subdivided at a level · `star_at`, `pres_at`, `int_at`, `full_at` the model's parts at rank f · `rec` the record · `bump` one more subdivision ·
-- `Good` the counts there are ·
-- `T-..` laws of T · `full-..` of degree 6 · `rec-at`, `rec-look` opening a record.
-- Assumes nothing.
use Rattle.std.specs.Prelude.{◌≡◌, ◌≢◌, Bool, true, false, ◌&&◌, ltb, Option, Some, None}
use Rattle.std.proofs.Math.Path.{refl}
use Rattle.std.proofs.Common.{sym, true≢false}
use Rattle.std.proofs.Math.Bool.{cond}
use Prim.Native.Nat.{ℕ, zero, suc, ◌+◌, ◌%◌, ◌≤◌, ◌<◌}
use native.Mathlib.Omega.{arith}
use borrow.Author.Tests.{ltb-true, ltb-false, lt-ltb, le-ltb}
use Rattle.lattice.specs.declared.points.Point.{Point}
use Rattle.lattice.specs.declared.records.Record.{Record}
use Rattle.growth.specs.Sheets.{vertex, given_by, inside_base}
use Rattle.growth.specs.Model.{by_splits}
use Rattle.growth.specs.Normal.{Pt, pt-eq, rank, birth, same?, same_refl, same-ne, pt?}
use Rattle.growth.specs.Parents.{par, creator_of}

-- present or not, internal or not
unfoldable pub look : Bool → Bool → Point → Record → Option Record
look false i p r = None
look true false p r = Some (vertex p 0 0 0)
look true true p r = Some r

-- q was subdivided at level i
unfoldable pub T : (Pt → ℕ) → Pt → ℕ → Bool
T c q i = ltb i (rank q + c q)

unfoldable pub star_at : (Pt → ℕ) → Pt → ℕ → Record
star_at c p zero = vertex p.at 6 ((rank p + c p) % 2) (rank p + c p)
star_at c p (suc b) = by_splits p.at (T c (par p 0 b) b) (T c (par p 1 b) b) (T c (par p 2 b) b) (birth p) b (rank p + c p)

unfoldable pub bump : Pt → (Pt → ℕ) → Pt → ℕ
bump q c p = c p + cond (same? p.at q.at) 1 0

-- ---- laws of T, and of one more subdivision
pub bump-same : (q : Pt) (c : Pt → ℕ) → bump q c q ≡ suc (c q)
unfolding bump
bump-same q c = rw (same_refl q.at) (omega arith)

pub bump-other : (q p : Pt) (c : Pt → ℕ) → p ≢ q → bump q c p ≡ c p
unfolding bump
bump-other q p c h = rw (same-ne p.at q.at (λ e. h (pt-eq p q e))) (omega arith)

ltb-step : (i n : ℕ) → i ≢ n → ltb i (suc n) ≡ ltb i n
ltb-step i n h = go (ltb i n) refl
  where
    go : (b : Bool) → ltb i n ≡ b → ltb i (suc n) ≡ b
    go true e = let l : i < n = ltb-true i n e in lt-ltb i (suc n) (omega arith)
    go false e = let l : n ≤ i = ltb-false i n e in le-ltb i (suc n) (omega arith)

module _ (c : Pt → ℕ) (q : Pt) where
  pub T-other : (x : Pt) (i : ℕ) → x ≢ q → T (bump q c) x i ≡ T c x i
  unfolding T
  T-other x i h = rw (bump-other q x c h)

  pub T-same : (x : Pt) (i : ℕ) → i ≢ rank q + c q → T (bump q c) x i ≡ T c x i
  unfolding T
  T-same x i h = go (pt? x q)
    where
      at : T (bump q c) q i ≡ T c q i
      at =
          let s : rank q + suc (c q) ≡ suc (rank q + c q) = omega arith in
          rw (bump-same q c, s) (ltb-step i (rank q + c q) h)

      go : Dec (x ≡ q) → T (bump q c) x i ≡ T c x i
      go (yes e) = rw e at
      go (no n) = T-other x i n

  pub T-le : (i : ℕ) → rank q + c q ≤ i → T c q i ≡ false
  unfolding T
  T-le i k = le-ltb i (rank q + c q) k

  pub T-lt : (i : ℕ) → i < rank q + c q → T c q i ≡ true
  unfolding T
  T-lt i k = lt-ltb i (rank q + c q) k

  pub T-off : (n : ℕ) → n ≡ rank q + c q → T c q n ≡ false
  T-off n h = T-le n (omega arith)

  pub T-on : (n : ℕ) → n ≡ rank q + c q → T (bump q c) q n ≡ true
  unfolding T
  T-on n h = rw (bump-same q c) (lt-ltb n (rank q + suc (c q)) (omega arith))

  pub T-lo : (i : ℕ) → T c q i ≡ true → i < rank q + c q
  unfolding T
  T-lo i h = ltb-true i (rank q + c q) h

  pub T-hi : (i : ℕ) → T c q i ≡ false → rank q + c q ≤ i
  unfolding T
  T-hi i h = ltb-false i (rank q + c q) h

  pub T-mono : (x : Pt) (i : ℕ) → T c x i ≡ true → T (bump q c) x i ≡ true
  unfolding T bump
  T-mono x i h = let l = ltb-true i (rank x + c x) h in lt-ltb i (rank x + (c x + cond (same? x.at q.at) 1 0)) (omega arith)

  pub T-down : (i j : ℕ) → i ≤ j → T c q j ≡ true → T c q i ≡ true
  T-down i j l h = let m = T-lo j h in T-lt i (omega arith)

-- ---- with the base
and4 : (a b c d : Bool) → (a && b && c && d) ≡ true → (a ≡ true) × (b ≡ true) × (c ≡ true) × (d ≡ true)
and4 true true true d h = (refl, refl, refl, h)
and4 true true false d h = absurd (true≢false (sym h))
and4 true false c d h = absurd (true≢false (sym h))
and4 false b c d h = absurd (true≢false (sym h))

module _ (H : Point → Bool) where
  unfoldable pub pres_at : (Pt → ℕ) → Pt → ℕ → Bool
  pres_at c p zero = given_by H p.at
  pres_at c p (suc zero) = given_by H p.at
  pres_at c p (suc (suc i)) = T c (creator_of p i) i

  unfoldable pub int_at : Pt → ℕ → Bool
  int_at p zero = inside_base H p.at
  int_at p (suc zero) = inside_base H p.at
  int_at p (suc (suc i)) = true

  -- degree 6
  unfoldable pub full_at : (Pt → ℕ) → Pt → ℕ → Bool
  full_at c p zero = inside_base H p.at
  full_at c p (suc b) = int_at p (suc b) && T c (par p 0 b) b && T c (par p 1 b) b && T c (par p 2 b) b

  unfoldable pub rec : (Pt → ℕ) → Pt → Option Record
  rec c p = look (pres_at c p (rank p)) (int_at p (rank p)) p.at (star_at c p (rank p))

  -- what has been subdivided had degree 6
  abbrev pub Good : (Pt → ℕ) → Type 0
  Good c = (q : Pt) → 0 < c q → full_at c q (rank q) ≡ true

  pub full-all : (c : Pt → ℕ) (p : Pt) (b : ℕ) → full_at c p (suc b) ≡ true
      → (int_at p (suc b) ≡ true) × (T c (par p 0 b) b ≡ true) × (T c (par p 1 b) b ≡ true) × (T c (par p 2 b) b ≡ true)
  unfolding full_at
  full-all c p b h = and4 (int_at p (suc b)) (T c (par p 0 b) b) (T c (par p 1 b) b) (T c (par p 2 b) b) h

  pub full-make : (c : Pt → ℕ) (p : Pt) (b : ℕ) → int_at p (suc b) ≡ true → T c (par p 0 b) b ≡ true → T c (par p 1 b) b ≡ true → T c (par p 2 b) b ≡ true
      → full_at c p (suc b) ≡ true
  unfolding full_at
  full-make c p b i x y z = rw (i, x, y, z)

  pub full-par : (c : Pt → ℕ) (p : Pt) (b t : ℕ) → t < 3 → full_at c p (suc b) ≡ true → T c (par p t b) b ≡ true
  full-par c p b zero ht h = (full-all c p b h).1
  full-par c p b (suc zero) ht h = (full-all c p b h).2
  full-par c p b (suc (suc zero)) ht h = (full-all c p b h).3
  full-par c p b (suc (suc (suc t))) ht h = absurd (omega arith)

  pub full-zero : (c : Pt → ℕ) (q : Pt) → full_at c q 0 ≡ inside_base H q.at
  unfolding full_at
  full-zero c q = refl

  pub int-of-full : (c : Pt → ℕ) (p : Pt) (f : ℕ) → full_at c p f ≡ true → int_at p f ≡ true
  unfolding full_at int_at
  int-of-full c p zero h = h
  int-of-full c p (suc b) h = (full-all c p b h).0

  -- ---- opening a record
  pub rec-at : (c : Pt → ℕ) (p : Pt) (f : ℕ) → rank p ≡ f → rec c p ≡ look (pres_at c p f) (int_at p f) p.at (star_at c p f)
  unfolding rec
  rec-at c p f e = rw e

  pub rec-look : (c : Pt → ℕ) (p : Pt) (r : Record) → pres_at c p (rank p) ≡ true → int_at p (rank p) ≡ true → star_at c p (rank p) ≡ r → rec c p ≡ Some r
  unfolding rec look
  rec-look c p r a b s = rw (a, b, s)
