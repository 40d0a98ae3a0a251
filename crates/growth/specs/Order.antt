-- A finite set of subdivisions that is good can be done in order: what has the highest level comes last.
-- For if q has the highest level of all that has been subdivided, then without q's last subdivision everything else still has degree 6: degree 6 asks
-- for subdivisions at levels below a rank, and the rank of what has been subdivided lies below q's level (`less-good`). So take q's last subdivision off
-- and go on with the rest (`order`).
-- `cnt` the counts of a list of subdivisions · `Seq` a list that can be done, the last first · `seq-good` · `order` ·
-- `support` counts of finite support are a list's.
-- Assumes nothing.
use Rattle.std.specs.Prelude.{◌≡◌, refl, ◌⊎◌, Bool, true, false, cond, ltb}
use Rattle.std.proofs.Math.Path.{sym, ap, fun_ext}
use Rattle.std.proofs.Common.{◌∙◌, inl, inr, true≢false, arith, ltb-true, ltb-false}
use mathlib.Core.List.Memᴰ
use mathlib.Core.List.{List, [], ◌∷◌, Memᴰ}
use Prim.Native.Nat.{ℕ, zero, suc, ◌+◌, ◌*◌, ◌≤◌, ◌<◌}
use Rattle.std.proofs.Math.ListN.{length}
use Rattle.lattice.specs.declared.points.Point.{Point}
use Rattle.growth.specs.Normal.{Pt, pt-eq, rank, same?, same-eq, same_refl, same-ne, pt?}
use Rattle.growth.specs.Parents.{par}
use Rattle.growth.specs.Closed.{T, bump, bump-same, bump-other, T-lo, T-lt, full_at, Good, full-all, full-make, full-zero}
use Rattle.growth.specs.OneStep.{good-bump}

-- the counts of a list of subdivisions, the last first
unfoldable pub cnt : List Pt → Pt → ℕ
cnt [] = λ _. 0
cnt (q ∷ l) = bump q (cnt l)

none_below : 0 < 0 → ⊥
none_below h = omega arith

-- ---- taking one off
rem : Pt → List Pt → List Pt
rem q [] = []
rem q (x ∷ l) = cond (same? x.at q.at) l (x ∷ rem q l)

bump-swap : (x q p : Pt) (c c' : Pt → ℕ) → c p ≡ bump q c' p → bump x c p ≡ bump q (bump x c') p
unfolding bump
bump-swap x q p c c' a = omega arith

cnt-rem : (q : Pt) (l : List Pt) → 0 < cnt l q → ((p : Pt) → cnt l p ≡ bump q (cnt (rem q l)) p) × (length l ≡ suc (length (rem q l)))
unfolding cnt rem
cnt-rem q [] h = absurd (none_below h)
cnt-rem q (x ∷ l) h = go (pt? x q) (cnt-rem q l)
  where
    go : Dec (x ≡ q) → (0 < cnt l q → ((p : Pt) → cnt l p ≡ bump q (cnt (rem q l)) p) × (length l ≡ suc (length (rem q l))))
        → ((p : Pt) → bump x (cnt l) p ≡ bump q (cnt (cond (same? x.at q.at) l (x ∷ rem q l))) p)
        × (suc (length l) ≡ suc (length (cond (same? x.at q.at) l (x ∷ rem q l))))
    go (yes e) ih = rw (e, same_refl q.at) ((λ p. refl), refl)
    go (no e) ih =
        let (a, b) = ih (rw (bump-other x q (cnt l) (λ z. e (sym z))) at h) in
        rw (same-ne x.at q.at (λ z. e (pt-eq x q z))) ((λ p. bump-swap x q p (cnt l) (cnt (rem q l)) (a p)), ap suc b)

bump-pos : (q p : Pt) (c : Pt → ℕ) → 0 < c p → 0 < bump q c p
unfolding bump
bump-pos q p c h = omega arith

-- ---- a point of the list with the greatest f
top : (Pt → ℕ) → Pt → List Pt → Pt
top f x [] = x
top f x (y ∷ l) = cond (ltb (f (top f y l)) (f x)) x (top f y l)

top_in : (f : Pt → ℕ) (x : Pt) (l : List Pt) → 0 < cnt (x ∷ l) (top f x l)
unfolding cnt top
top_in f x [] = rw (bump-same x (λ _. 0)) (omega arith)
top_in f x (y ∷ l) = go (ltb (f (top f y l)) (f x)) (top_in f y l)
  where
    go : (b : Bool) → 0 < bump y (cnt l) (top f y l) → 0 < bump x (bump y (cnt l)) (cond b x (top f y l))
    go true h = rw (bump-same x (bump y (cnt l))) (omega arith)
    go false h = bump-pos x (top f y l) (bump y (cnt l)) h

top-max : (f : Pt → ℕ) (x : Pt) (l : List Pt) (z : Pt) → 0 < cnt (x ∷ l) z → f z ≤ f (top f x l)
unfolding cnt top
top-max f x [] z h = go (pt? z x)
  where
    go : Dec (z ≡ x) → f z ≤ f x
    go (yes e) = rw e (omega arith)
    go (no e) = let k = rw (bump-other x z (λ _. 0) e) at h in absurd (omega arith)
top-max f x (y ∷ l) z h = go (pt? z x) (ltb (f (top f y l)) (f x)) refl (top-max f y l z)
  where
    go : Dec (z ≡ x) → (b : Bool) → ltb (f (top f y l)) (f x) ≡ b → (0 < bump y (cnt l) z → f z ≤ f (top f y l)) → f z ≤ f (cond b x (top f y l))
    go (yes e) true t ih = rw e (omega arith)
    go (yes e) false t ih = rw e (ltb-false (f (top f y l)) (f x) t)
    go (no e) true t ih =
        let k = ih (rw (bump-other x z (bump y (cnt l)) e) at h) in
        let m = ltb-true (f (top f y l)) (f x) t in omega arith
    go (no e) false t ih = ih (rw (bump-other x z (bump y (cnt l)) e) at h)

-- ---- no level above 12
abbrev pub Low : (Pt → ℕ) → Type 0
Low c = (q : Pt) → 0 < c q → rank q + c q ≤ 12

low-less : (q z : Pt) (c : Pt → ℕ) → rank z + bump q c z ≤ 12 → rank z + c z ≤ 12
unfolding bump
low-less q z c h = omega arith

module _ (H : Point → Bool) where
  pub data Seq : List Pt → Type 0 where
    nil : Seq []
    next : {l : List Pt} (q : Pt) → Seq l → full_at H (cnt l) q (rank q) ≡ true → rank q + cnt l q < 12 → Seq (q ∷ l)

  pub seq-good : (l : List Pt) → Seq l → Good H (cnt l)
  unfolding cnt
  seq-good l nil = λ q h. absurd (none_below h)
  seq-good l (next {l = k} q s f n) = good-bump H (cnt k) q (seq-good k s) f

  -- ---- without the last subdivision of a point q of the highest level
  T-less : (c : Pt → ℕ) (q y : Pt) (b : ℕ) → b < rank q + c q → T (bump q c) y b ≡ true → T c y b ≡ true
  T-less c q y b m h = go (pt? y q)
    where
      go : Dec (y ≡ q) → T c y b ≡ true
      go (yes e) = rw e (T-lt c q b m)
      go (no e) = let l = T-lo (bump q c) y b h in T-lt c y b (rw (bump-other q y c e) at l)

  full-less : (c : Pt → ℕ) (q x : Pt) (f : ℕ) → f ≤ rank q + c q → full_at H (bump q c) x f ≡ true → full_at H c x f ≡ true
  full-less c q x zero m h = full-zero H c x ∙ sym (full-zero H (bump q c) x) ∙ h
  full-less c q x (suc b) m h =
      let (i, u, v, w) = full-all H (bump q c) x b h in
      full-make H c x b i (T-less c q (par x 0 b) b m u) (T-less c q (par x 1 b) b m v) (T-less c q (par x 2 b) b m w)

  less-good : (c : Pt → ℕ) (q : Pt) → ((z : Pt) → 0 < bump q c z → rank z + bump q c z ≤ rank q + bump q c q)
      → Good H (bump q c) → (x : Pt) → 0 < bump q c x → full_at H c x (rank x) ≡ true
  less-good c q hi good x h =
      let a = hi x h in
      let b = bump-same q c in
      full-less c q x (rank x) (omega arith) (good x h)

  -- one step of it: q last
  abbrev Peeled : List Pt → Type 0
  Peeled l = (q : Pt) × (k : List Pt) × (cnt l ≡ bump q (cnt k)) × (length l ≡ suc (length k)) × Good H (cnt k) × Low (cnt k)
      × (full_at H (cnt k) q (rank q) ≡ true) × (rank q + cnt k q < 12)

  peel : (x : Pt) (l : List Pt) → Good H (cnt (x ∷ l)) → Low (cnt (x ∷ l)) → Peeled (x ∷ l)
  peel x l good low = go (cnt-rem q (x ∷ l) (top_in f x l))
    where
      f : Pt → ℕ
      f z = rank z + cnt (x ∷ l) z

      q : Pt
      q = top f x l

      k : List Pt
      k = rem q (x ∷ l)

      go : ((p : Pt) → cnt (x ∷ l) p ≡ bump q (cnt k) p) × (length {A = Pt} (x ∷ l) ≡ suc (length k)) → Peeled (x ∷ l)
      go (a, b) =
          let eq : cnt (x ∷ l) ≡ bump q (cnt k) = fun_ext a in
          let good' : Good H (bump q (cnt k)) = rw (← eq) good in
          let low' : (z : Pt) → 0 < bump q (cnt k) z → rank z + bump q (cnt k) z ≤ 12 = rw (← eq) low in
          let hi : (z : Pt) → 0 < bump q (cnt k) z → rank z + bump q (cnt k) z ≤ rank q + bump q (cnt k) q = rw (← eq) (top-max f x l) in
          let lg = less-good (cnt k) q hi good' in
          let one = bump-same q (cnt k) in (
            q,
            k,
            eq,
            b,
            (λ z h. lg z (bump-pos q z (cnt k) h)),
            (λ z h. low-less q z (cnt k) (low' z (bump-pos q z (cnt k) h))),
            lg q (omega arith),
            (let w = low' q (omega arith) in omega arith),
          )

  pub order : (n : ℕ) (l : List Pt) → length l ≡ n → Good H (cnt l) → Low (cnt l) → (k : List Pt) × Seq k × (cnt k ≡ cnt l)
  unfolding cnt
  order zero [] e good low = ([], nil, refl)
  order (suc n) [] e good low = absurd (omega arith)
  order zero (x ∷ l) e good low = absurd (omega arith)
  order (suc n) (x ∷ l) e good low = go (peel x l good low) (order n)
    where
      go : Peeled (x ∷ l) → ((l : List Pt) → length l ≡ n → Good H (cnt l) → Low (cnt l) → (k : List Pt) × Seq k × (cnt k ≡ cnt l))
          → (k : List Pt) × Seq k × (cnt k ≡ cnt (x ∷ l))
      go (q, k, eq, b, gd, lw, fl, hl) ih =
          let (j, sj, ej) = ih k (omega arith) gd lw in
          (q ∷ j, next q sj (rw ej fl) (rw ej hl), ap (bump q) ej ∙ sym eq)

-- ---- finite support: the counts are those of a list
-- m times x, then l
many : ℕ → Pt → List Pt → List Pt
many zero x l = l
many (suc m) x l = x ∷ many m x l

cnt-many : (m : ℕ) (x p : Pt) (l : List Pt) → cnt (many m x l) p ≡ cnt l p + m * cond (same? p.at x.at) 1 0
unfolding cnt many bump
cnt-many zero x p l = omega arith
cnt-many (suc m) x p l = let ih = cnt-many m x p l in omega arith

without : Pt → (Pt → ℕ) → Pt → ℕ
without x c p = cond (same? p.at x.at) 0 (c p)

pub support : (pts : List Pt) (c : Pt → ℕ) → ((p : Pt) → 0 < c p → Memᴰ p pts) → (l : List Pt) × (cnt l ≡ c)
unfolding cnt without
support [] c h = ([], fun_ext (λ p. none-at p (c p) refl))
  where
    none-at : (p : Pt) (m : ℕ) → c p ≡ m → 0 ≡ m
    none-at p zero e = refl
    none-at p (suc m) e = absurd (Memᴰ.not-nil (h p (omega arith)))
support (x ∷ pts) c h = go (support pts (without x c) in_rest)
  where
    in_rest : (p : Pt) → 0 < without x c p → Memᴰ p pts
    in_rest p l = by (same? p.at x.at) refl l
      where
        by : (b : Bool) → same? p.at x.at ≡ b → 0 < cond b 0 (c p) → Memᴰ p pts
        by true e l = absurd (none_below l)
        by false e l = pick (Memᴰ.cases_cons (h p l))
          where
            pick : (p ≡ x) ⊎ Memᴰ p pts → Memᴰ p pts
            pick (inl z) = absurd (true≢false (sym (same_refl p.at) ∙ ap (λ (y : Pt). same? p.at y.at) z ∙ e))
            pick (inr z) = z

    go : (l : List Pt) × (cnt l ≡ without x c) → (l : List Pt) × (cnt l ≡ c)
    go (l, e) = (many (c x) x l, fun_ext (λ p. cnt-many (c x) x p l ∙ rw e (at p (same? p.at x.at) refl)))
      where
        at : (p : Pt) (b : Bool) → same? p.at x.at ≡ b → cond b 0 (c p) + c x * cond b 1 0 ≡ c p
        at p true z = let w = ap c (pt-eq p x (same-eq p.at x.at z)) in omega arith
        at p false z = omega arith
