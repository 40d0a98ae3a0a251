-- For the request that brings a vertex to degree 6 (the crate `bring`): what the parents of a point are as long as they have not been subdivided at its
-- birth level, and what stays as more is subdivided.
-- `Le` more was subdivided, `Six` of degree 6 · `T-le`, `pres-le` what stays · `on-six`, `creator-split`, `six-level` of a parent.
-- Assumes nothing.
use Rattle.std.specs.Prelude.{◌≡◌, ◌≢◌, Bool, true, false}
use Rattle.std.proofs.Math.Path.{refl, ap}
use Rattle.std.proofs.Common.{sym, ◌∙◌}
use Prim.Native.Nat.{ℕ, zero, suc, ◌+◌, ◌≤◌, ◌<◌}
use native.Mathlib.Omega.{arith}
use Rattle.std.proofs.Math.Decide.{ℕ_discrete}
use borrow.Author.Tests.{ltb-true, lt-ltb}
use Rattle.lattice.specs.declared.points.Point.{Point}
use Rattle.growth.specs.Normal.{Pt, rank}
use Rattle.growth.specs.Parents.{par, creator_of, par-rank, creator-is}
use Rattle.growth.specs.Closed.{T, T-lo, T-hi, pres_at, full_at, Good}

module _ (H : Point → Bool) where
  -- c has nothing that d has not
  abbrev pub Le : (Pt → ℕ) → (Pt → ℕ) → Type 0
  Le c d = (p : Pt) → c p ≤ d p

  -- p has degree 6
  abbrev pub Six : (Pt → ℕ) → Pt → Type 0
  Six c p = full_at H c p (rank p) ≡ true

  pub T-le : (c d : Pt → ℕ) (x : Pt) (i : ℕ) → Le c d → T c x i ≡ true → T d x i ≡ true
  unfolding T
  T-le c d x i l h = let m = ltb-true i (rank x + c x) h in let k = l x in lt-ltb i (rank x + d x) (omega arith)

  pub pres-le : (c d : Pt → ℕ) (p : Pt) (f : ℕ) → Le c d → pres_at H c p f ≡ true → pres_at H d p f ≡ true
  unfolding pres_at
  pres-le c d p zero l h = h
  pres-le c d p (suc zero) l h = h
  pres-le c d p (suc (suc i)) l h = T-le c d (creator_of p i) i l h

  -- a parent that is subdivided at p's birth level has degree 6
  pub on-six : (e : Pt → ℕ) (q : Pt) (b : ℕ) → Good H e → rank q ≤ b → T e q b ≡ true → Six e q
  on-six e q b good l h = let m = T-lo e q b h in good q (omega arith)

  -- a parent of p that could be subdivided a level earlier is its creator, and was
  pub creator-split : (c : Pt → ℕ) (p : Pt) (b t : ℕ) → rank p ≡ suc b → t < 3 → pres_at H c p (suc b) ≡ true → b ≢ rank (par p t b)
      → (i : ℕ) × (b ≡ suc i) × (T c (par p t b) i ≡ true) × (rank (par p t b) ≤ i)
  unfolding pres_at
  creator-split c p zero t f ht pr ne = let l = par-rank p t 0 ht f in absurd (ne (omega arith))
  creator-split c p (suc i) t f ht pr ne =
      let l = par-rank p t (suc i) ht f in
      let k : rank (par p t (suc i)) ≤ i = omega arith in
      (i, refl, ap (λ (q : Pt). T c q i) (sym (creator-is p i t ht f k)) ∙ pr, k)

  -- its level, as long as it is not
  pub six-level : (c : Pt → ℕ) (p : Pt) (b t : ℕ) → Good H c → rank p ≡ suc b → t < 3 → pres_at H c p (suc b) ≡ true → Six c (par p t b)
      → T c (par p t b) b ≡ false → b ≡ rank (par p t b) + c (par p t b)
  six-level c p b t good f ht pr sx off = go (ℕ_discrete b (rank (par p t b)))
    where
      l : rank (par p t b) + c (par p t b) ≤ b
      l = T-hi c (par p t b) b off

      go : Dec (b ≡ rank (par p t b)) → b ≡ rank (par p t b) + c (par p t b)
      go (yes e) = omega (arith, l)
      go (no e) =
          let (i, bi, on, k) = creator-split c p b t f ht pr e in
          let m = T-lo c (par p t b) i on in omega (arith, l)
