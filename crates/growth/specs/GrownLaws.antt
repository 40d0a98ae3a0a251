-- M2: a mesh is grown exactly when it is the mesh of some H and c, H a base's and c good, finite and with no level above 12.
-- `base-is` the base is the mesh of no subdivision · `step-unique` a subdivision has one result · `Closed` to be the mesh of some H and c ·
-- `grown-closed`, `closed-grown` M2.
-- Assumes nothing.
use Rattle.std.specs.Prelude.{◌≡◌, ◌≢◌, ◌⊎◌, Bool, true, ◌&&◌, length, T, eqb, Some, None}
use Rattle.std.proofs.Math.Path.{refl, ap, fun_ext}
use Rattle.std.proofs.Common.{sym, ◌∙◌, subst, inl, inr, true≢false, arith}
use Rattle.std.proofs.Math.Bool.{false, cond}
use mathlib.Core.List.Memᴰ
use mathlib.Core.List.{List, [], ◌∷◌, Memᴰ}
use Prim.Native.Nat.{ℕ, zero, suc, ◌+◌, ◌%◌, ◌≤◌, ◌<◌}
use Rattle.laws.specs.Choices.{is_true, of-true}
use Rattle.lattice.specs.Points.{is_normal}
use Rattle.lattice.specs.Stars.{adjacent_at}
use Rattle.lattice.specs.Points.{class_of}
use Rattle.lattice.specs.Ranks.{rank_of}
use Rattle.lattice.specs.Subdivision.{new_of}
use Rattle.lattice.specs.declared.points.Point.{Point}
use Rattle.lattice.specs.declared.records.Record.{Record}
use Rattle.growth.specs.Sheets.{Sheet, vertex, UntornAt, Step, given_by, inside_base, base_vertex, base_sheet, CentreSet, GrownSheet, start, grow}
use Rattle.growth.specs.Model.{Counts, by_splits, mesh_of, more, Good, Low, Finite}
use Rattle.growth.specs.Normal.{Pt, rank, birth, birth-lt, birth-par, pt-eq, point?, same?, same_refl}
use Rattle.growth.specs.Parents.{par, par-rank, creator_of, creator-rank}
use Rattle.growth.specs.BaseLaws.{class-zero, class-one}
use Rattle.growth.specs.Closed.{T-le, rec, look, pres_at, int_at, star_at, rec-at}
use Rattle.growth.specs.Link.{at, deep, shallow, look_is, record_is, record-none, full_is, good-in, more-is}
use Rattle.growth.specs.Subdivide.{more-other, six-record, closed-whole, closed-step, closed-good}
use Rattle.growth.specs.Order.{cnt, Seq, nil, next}
use Rattle.growth.specs.Closed as C
use Rattle.growth.specs.Order as O
use Rattle.growth.specs.OneStep as One

-- ---- a subdivision has one result
pub among : (f : ℕ → Point) (p : Point) (n : ℕ) → Dec ((j : ℕ) × (j < n) × (p ≡ f j))
among f p zero = no (λ z. (let y = z.1 in omega arith))
among f p (suc n) = go (point? p (f n)) (among f p n)
  where
    less : (j : ℕ) → j < suc n → j ≢ n → j < n
    less j h k = omega arith

    go : Dec (p ≡ f n) → Dec ((j : ℕ) × (j < n) × (p ≡ f j)) → Dec ((j : ℕ) × (j < suc n) × (p ≡ f j))
    go (yes e) y = yes (n, omega arith, e)
    go (no e) (yes (j, l, x)) = yes (j, omega arith, x)
    go (no e) (no y) = no (λ w. y (w.0, less w.0 w.1 (λ z. e (w.2 ∙ ap f z)), w.2))

pub step-unique : (R : Sheet) (v : Record) (R₁ R₂ : Sheet) → UntornAt R v → Step R v R₁ → Step R v R₂ → (p : Point) → R₁ p ≡ R₂ p
step-unique R v R₁ R₂ w s t p = go (point? p v.at) (among (λ j. (new_of v j).at) p 6) (among (adjacent_at v) p 6)
  where
    go : Dec (p ≡ v.at) → Dec ((j : ℕ) × (j < 6) × (p ≡ (new_of v j).at)) → Dec ((j : ℕ) × (j < 6) × (p ≡ adjacent_at v j)) → R₁ p ≡ R₂ p
    go (yes e) b c = ap R₁ e ∙ s.centre ∙ sym (ap R₂ e ∙ t.centre)
    go (no e) (yes (j, l, x)) c = ap R₁ x ∙ s.new j l ∙ sym (ap R₂ x ∙ t.new j l)
    go (no e) (no b) (yes (j, l, x)) = let (u, h, a) = w.there j l in ap R₁ x ∙ s.old j l u h ∙ sym (ap R₂ x ∙ t.old j l u h)
    go (no e) (no b) (no c) = s.rest p e (λ j l x. b (j, l, x)) (λ j l x. c (j, l, x)) ∙ sym (t.rest p e (λ j l x. b (j, l, x)) (λ j l x. c (j, l, x)))

-- ---- the base is the mesh of no subdivision
module _ (H : Point → Bool) where
  abbrev nought : Pt → ℕ
  nought _ = 0

  -- what the base gives at depth 0, and above
  abbrev star : Point → Record
  star p = cond (eqb (class_of p) 0) (vertex p 3 0 0) (cond (eqb (class_of p) 1) (vertex p 6 0 0) (vertex p 3 2 0))

  base_there : (p : Point) → eqb p.m.0 0 ≡ true → base_sheet H p ≡ cond (given_by H p) (Some (cond (inside_base H p) (star p) (vertex p 0 0 0))) None
  unfolding base_sheet
  base_there p e = ap (λ (b : Bool). cond (b && given_by H p) (Some (base_vertex H p)) None) e

  base-none : (p : Point) → eqb p.m.0 0 ≡ false → base_sheet H p ≡ None
  unfolding base_sheet
  base-none p e = ap (λ (b : Bool). cond (b && given_by H p) (Some (base_vertex H p)) None) e

  star-zero : (p : Pt) → rank p ≡ 0 → star_at nought p 0 ≡ star p.at
  unfolding star_at
  star-zero p f = rw (f, class-zero p f)

  star-one : (p : Pt) → rank p ≡ 1 → star_at nought p 1 ≡ star p.at
  unfolding star_at
  star-one p f = rw (none_yet 0 (omega arith), none_yet 1 (omega arith), none_yet 2 (omega arith)) (go (birth p) refl (birth-lt p) (birth-par p 0 f))
    where
      none_yet : (t : ℕ) → t < 3 → C.T nought (par p t 0) 0 ≡ false
      none_yet t h = T-le nought (par p t 0) 0 (let l = par-rank p t 0 h f in omega arith)

      go : (k : ℕ) → birth p ≡ k → k < 4 → k % 2 ≡ 0 → by_splits p.at false false false k 0 (rank p + 0) ≡ star p.at
      go zero e l m = rw (sym (class-one p f) ∙ e) (unfold by_splits in refl)
      go (suc zero) e l m = absurd (omega arith)
      go (suc (suc zero)) e l m = rw (sym (class-one p f) ∙ e) (unfold by_splits in refl)
      go (suc (suc (suc k))) e l m = absurd (omega arith)

  base-low : (p : Pt) (f : ℕ) → rank p ≡ f → pres_at H nought p f ≡ given_by H p.at → int_at H p f ≡ inside_base H p.at → rank p ≤ 1
      → star_at nought p f ≡ star p.at
      → rec H nought p ≡ base_sheet H p.at
  base-low p f e a b l s =
      rec-at H nought p f e ∙ (λ i. look (a i) (b i) p.at (s i)) ∙ look_is (λ _. 0) H (given_by H p.at) (inside_base H p.at) p.at (star p.at)
      ∙ sym (base_there p.at (shallow (λ _. 0) H p l))

  base-deep : (p : Pt) (i : ℕ) → rank p ≡ suc (suc i) → rec H nought p ≡ base_sheet H p.at
  unfolding pres_at look
  base-deep p i f =
      rec-at H nought p (suc (suc i)) f ∙ rw (T-le nought (creator_of p i) i (let l = creator-rank p i f in omega arith))
      (sym (base-none p.at (deep (λ _. 0) H p i f)))

  pub base-is : (p : Point) → mesh_of H (λ _. 0) p ≡ base_sheet H p
  unfolding pres_at int_at
  base-is p = go (is_normal p) refl
    where
      by : (q : Pt) (f : ℕ) → rank q ≡ f → rec H nought q ≡ base_sheet H q.at
      by q zero f = base-low q 0 f refl refl (omega arith) (star-zero q f)
      by q (suc zero) f = base-low q 1 f refl refl (omega arith) (star-one q f)
      by q (suc (suc i)) f = base-deep q i f

      above : (b : Bool) → eqb p.m.0 0 ≡ b → is_normal p ≡ false → b ≡ false
      above true z e = absurd (true≢false (sym (rw z) ∙ e))
      above false z e = refl

      go : (b : Bool) → is_normal p ≡ b → mesh_of H (λ _. 0) p ≡ base_sheet H p
      go true e = let q : Pt = record { at = p; normal = of-true e } in record_is (λ _. 0) H q ∙ by q (rank q) refl
      go false e = record-none (λ _. 0) H p e ∙ sym (base-none p (above (eqb p.m.0 0) refl e))

-- ---- M2
-- R is the mesh of H and c
pub record Closed (R : Sheet) : Type 0 where
  pub H : Point → Bool
  pub c : Counts
  pub base : CentreSet H
  pub good : Good H c
  pub low : Low c
  pub finite : Finite c
  pub is : (p : Point) → R p ≡ mesh_of H c p

none_below : 0 < 0 → ⊥
none_below h = omega arith

pub more_same : (q : Point) (c : Counts) → more q c q ≡ suc (c q)
unfolding more same?
more_same q c = rw (same_refl q) (omega arith)

pub grown-closed : (R : Sheet) → GrownSheet R → Closed R
grown-closed R (start H R' b e) =
    record {
      H = H;
      c = λ _. 0;
      base = b;
      good = λ q l. absurd (none_below l);
      low = λ q l. absurd (none_below l);
      finite = ([], λ q l. absurd (none_below l));
      is = λ p. e p ∙ sym (base-is H p);
    }
grown-closed R (grow R₀ v R₁ g x d n w s) = go (grown-closed R₀ g)
  where
    go : Closed R₀ → Closed R₁
    go C =
        record {
          H = C.H;
          c = more v.at C.c;
          base = C.base;
          good = closed-good C.H C.c C.good v x' d;
          low = λ q l. low q l (point? q v.at);
          finite = (v.at ∷ C.finite.0, λ q l. held q l (point? q v.at));
          is = step-unique R₀ v R₁ (mesh_of C.H (more v.at C.c)) w s
              (subst (λ (R : Sheet). Step R v (mesh_of C.H (more v.at C.c))) (sym (fun_ext C.is)) (closed-step C.H C.c C.good v x' d));
        }
      where
        x' : mesh_of C.H C.c v.at ≡ Some v
        x' = sym (C.is v.at) ∙ x

        level : v.n.0 ≡ rank_of v.at + C.c v.at
        level = ap (λ (r : Record). r.n.0) (six-record C.H C.c v x' d).is

        low : (q : Point) → 0 < more v.at C.c q → Dec (q ≡ v.at) → rank_of q + more v.at C.c q ≤ 12
        low q l (yes e) = rw (e, more_same v.at C.c) (omega (arith, level))
        low q l (no e) = let m = more-other v.at q C.c e in let k = C.low q (omega arith) in omega arith

        held : (q : Point) → 0 < more v.at C.c q → Dec (q ≡ v.at) → Memᴰ q (v.at ∷ C.finite.0)
        held q l (yes e) = Memᴰ.head e
        held q l (no e) = let m = more-other v.at q C.c e in Memᴰ.tail (C.finite.1 q (omega arith))

-- ---- and back
-- a list of subdivisions, as counts of points
counts : List Pt → Counts
counts [] = λ _. 0
counts (q ∷ l) = more q.at (counts l)

counts-is : (l : List Pt) → at (counts l) ≡ cnt l
unfolding counts cnt
counts-is [] = refl
counts-is (q ∷ l) = more-is q (counts l) ∙ ap (C.bump q) (counts-is l)

-- two counts that agree at normalised points have one mesh
pub same-mesh : (H : Point → Bool) (c c' : Counts) → at c ≡ at c' → (p : Point) → mesh_of H c p ≡ mesh_of H c' p
same-mesh H c c' e p = go (is_normal p) refl
  where
    go : (b : Bool) → is_normal p ≡ b → mesh_of H c p ≡ mesh_of H c' p
    go true n = let q : Pt = record { at = p; normal = of-true n } in record_is c H q ∙ ap (λ (x : Pt → ℕ). rec H x q) e ∙ sym (record_is c' H q)
    go false n = record-none c H p n ∙ sym (record-none c' H p n)

counts-normal : (l : List Pt) (q : Point) → 0 < counts l q → T (is_normal q)
unfolding counts
counts-normal [] q h = absurd (none_below h)
counts-normal (x ∷ l) q h = go (point? q x.at) (counts-normal l q)
  where
    go : Dec (q ≡ x.at) → (0 < counts l q → T (is_normal q)) → T (is_normal q)
    go (yes e) ih = subst (λ (p : Point). T (is_normal p)) (sym e) x.normal
    go (no e) ih = let m = more-other x.at q (counts l) e in ih (omega arith)

good-out : (H : Point → Bool) (l : List Pt) → C.Good H (cnt l) → Good H (counts l)
good-out H l good q h =
    let p : Pt = record { at = q; normal = counts-normal l q h } in
    let g : C.Good H (at (counts l)) = subst (C.Good H) (sym (counts-is l)) good in
    of-true (sym (full_is (counts l) H p) ∙ g p h)

module _ (H : Point → Bool) (b : CentreSet H) where
  seq-grown : (l : List Pt) → Seq H l → GrownSheet (mesh_of H (counts l))
  unfolding counts
  seq-grown l nil = start H (mesh_of H (λ _. 0)) b (base-is H)
  seq-grown l (next {l = k} q s f n) =
      let v : Record = vertex q.at 6 ((rank q + cnt k q) % 2) (rank q + cnt k q) in
      let x : mesh_of H (counts k) q.at ≡ Some v = record_is (counts k) H q ∙ ap (λ (c : Pt → ℕ). rec H c q) (counts-is k) ∙ One.rec-full H (cnt k) q f in
      let good = good-out H k (O.seq-good H k s) in
      grow (mesh_of H (counts k)) v (mesh_of H (more q.at (counts k))) (seq-grown k s) x refl n (closed-whole H (counts k) good v x refl)
      (closed-step H (counts k) good v x refl)

-- the normalised points of a list
keep : (x : Point) (b : Bool) → is_normal x ≡ b → List Pt → List Pt
keep x true e l = record { at = x; normal = of-true e } ∷ l
keep x false e l = l

normals : List Point → List Pt
normals [] = []
normals (x ∷ l) = keep x (is_normal x) refl (normals l)

normals-in : (q : Pt) (l : List Point) → Memᴰ q.at l → Memᴰ q (normals l)
unfolding normals keep
normals-in q [] h = absurd (Memᴰ.not-nil h)
normals-in q (x ∷ l) h = go (Memᴰ.cases_cons h) (is_normal x) refl (normals-in q l)
  where
    kept : (b : Bool) (e : is_normal x ≡ b) → Memᴰ q (normals l) → Memᴰ q (keep x b e (normals l))
    kept true e m = Memᴰ.tail m
    kept false e m = m

    go : (q.at ≡ x) ⊎ Memᴰ q.at l → (b : Bool) (e : is_normal x ≡ b) → (Memᴰ q.at l → Memᴰ q (normals l))
        → Memᴰ q (keep x b e (normals l))
    go (inr m) b e ih = kept b e (ih m)
    go (inl z) true e ih = Memᴰ.head (pt-eq q (record { at = x; normal = of-true e }) z)
    go (inl z) false e ih = absurd (true≢false (sym (is_true (is_normal q.at) q.normal) ∙ ap is_normal z ∙ e))

low-in : (c : Counts) → Low c → O.Low (at c)
unfolding rank
low-in c low q h = low q.at h

pub closed-grown : (R : Sheet) → Closed R → GrownSheet R
closed-grown R m =
    let (l, e) = O.support (normals m.finite.0) (at m.c) (λ q h. normals-in q m.finite.0 (m.finite.1 q.at h)) in
    let good : C.Good m.H (cnt l) = subst (C.Good m.H) (sym e) (good-in m.c m.H m.good) in
    let low : O.Low (cnt l) = subst O.Low (sym e) (low-in m.c m.low) in
    let (k, s, f) = O.order m.H (length l) l refl good low in
    subst GrownSheet (fun_ext (λ p. same-mesh m.H (counts k) m.c (counts-is k ∙ f ∙ e) p ∙ sym (m.is p))) (seq-grown m.H m.base k s)
