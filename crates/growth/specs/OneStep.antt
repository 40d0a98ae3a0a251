-- One subdivision of a mesh in closed form is the closed form with one more subdivision: each of the four kinds of points.
-- q is the vertex that is subdivided, n = rank q + c q its level. Why it holds: presence and degree of a point are told by subdivisions at levels below
-- its rank, and only (q, n) is new.
-- So a point of rank at most n + 1 stays present (`pres-low`); what q makes at level n + 1 had no creator subdivided at n before (`absent`), and all its
-- parents are young (`new-par`); an old adjacent has q among its three parents and the other two as they were (`old-star`).
-- `centre` q itself · `new` · `old` · `rest` · `absent`, `there` nothing is torn · `present-old` the adjacents of q are there ·
-- `good-bump` the counts stay good · `six` a record of degree 6.
-- Assumes nothing.
use Rattle.std.specs.Prelude.{◌≡◌, ◌≢◌, ◌⊎◌, Bool, Some, None}
use Rattle.std.proofs.Math.Path.{refl, sym, ap}
use Rattle.std.proofs.Common.{◌∙◌, inl, inr, true≢false}
use Rattle.std.proofs.Math.Bool.{true, false}
use Prim.Native.Nat.{ℕ, zero, suc, ◌+◌, ◌*◌, ◌%◌, ◌/◌, ◌≤◌, ◌<◌}
use native.Mathlib.Omega.{arith}
use Rattle.std.proofs.Math.Decide.{ℕ_discrete}
use Rattle.laws.specs.Choices.{is_true, of-true}
use Rattle.geometry.specs.SideLaws.{Dir, turn1, turn6, turn11}
use Rattle.lattice.specs.Subdivision.{update_of, accepts_of}
use Rattle.lattice.specs.declared.points.Point.{Point}
use Rattle.lattice.specs.declared.records.Record.{Record}
use Rattle.growth.specs.Sheets.{vertex, given_by}
use Rattle.growth.specs.Model.{by_splits}
use Rattle.growth.specs.Normal.{Pt, rank, birth, move, back, pt?, birth-lt, birth-par, out-rank, out-birth}
use Rattle.growth.specs.Directions.{thirds, third_of, mod-12-4, below3, mod4, plus4', plus8'}
use Rattle.growth.specs.Parents.{par, creator_of, aside-l, aside-r, par-dir, par-back, par-inj, parent_of, creator-ex, creator-is, creator-new}
use Rattle.growth.specs.Parents.{parents-near}
use Rattle.growth.specs.BaseLaws.{base-out, inside-in}
use Rattle.growth.specs.Closed.{look, T, star_at, bump, bump-same, bump-other, T-other, T-same, T-le, T-lt, T-off, T-on, T-mono, T-down, pres_at}
use Rattle.growth.specs.Closed.{int_at, full_at, rec, Good, full-all, full-par, full-zero, int-of-full, rec-at, rec-look}
use Rattle.growth.specs.Updates.{update-split, accept-split, splits-six, splits-three, look-inside, look-update, look-accept}

module _ (H : Point → Bool) (c : Pt → ℕ) where
  -- ---- a record of degree 6
  star-six : (q : Pt) (f : ℕ) → int_at H q f ≡ true → (star_at c q f).d ≡ 6
      → (full_at H c q f ≡ true) × (star_at c q f ≡ vertex q.at 6 ((rank q + c q) % 2) (rank q + c q))
  unfolding star_at full_at int_at
  star-six q zero i six = (i, refl)
  star-six q (suc b) i six =
      let (x, y, z) = splits-six q.at (T c (par q 0 b) b) (T c (par q 1 b) b) (T c (par q 2 b) b) (birth q) b (rank q + c q) six in
      (rw (i, x, y, z), unfold by_splits in rw (x, y, z))

  pub six : (q : Pt) (r : Record) → rec H c q ≡ Some r → r.d ≡ 6
      → (pres_at H c q (rank q) ≡ true) × (full_at H c q (rank q) ≡ true) × (r ≡ vertex q.at 6 ((rank q + c q) % 2) (rank q + c q))
  six q r h d =
      let (a, i, e) = look-inside (pres_at H c q (rank q)) (int_at H q (rank q)) q.at (star_at c q (rank q)) r (sym (rec-at H c q (rank q) refl) ∙ h)
      (omega arith) in
      let (f, s) = star-six q (rank q) i (ap (λ (x : Record). x.d) (sym e) ∙ d) in
      (a, f, e ∙ s)

  pub present-full : (q : Pt) (f : ℕ) → rank q ≡ f → full_at H c q f ≡ true → pres_at H c q f ≡ true
  unfolding pres_at int_at
  present-full q zero e h = is_true (given_by H q.at) (inside-in H q.at (of-true (sym (full-zero H c q) ∙ h)))
  present-full q (suc zero) e h = is_true (given_by H q.at) (inside-in H q.at (of-true (full-all H c q 0 h).0))
  present-full q (suc (suc i)) e h =
      let (t, ht, k) = creator-ex q i e in
      rw (creator-is q i t ht e k) (T-down c (par q t (suc i)) i (suc i) (omega arith) (full-par H c q (suc i) t ht h))

  star-full : (q : Pt) (f : ℕ) → full_at H c q f ≡ true → star_at c q f ≡ vertex q.at 6 ((rank q + c q) % 2) (rank q + c q)
  unfolding star_at by_splits
  star-full q zero h = refl
  star-full q (suc b) h = let (i, x, y, z) = full-all H c q b h in rw (x, y, z)

  pub rec-full : (q : Pt) → full_at H c q (rank q) ≡ true → rec H c q ≡ Some (vertex q.at 6 ((rank q + c q) % 2) (rank q + c q))
  rec-full q h = rec-look H c q (vertex q.at 6 ((rank q + c q) % 2) (rank q + c q)) (present-full q (rank q) refl h) (int-of-full H c q (rank q) h)
      (star-full q (rank q) h)

  -- ---- the adjacents of a vertex of degree 6 are there, at every level that it has had
  pub present-old : (q : Pt) (e n : ℕ) → Dir e n → rank q ≤ n → n ≤ rank q + c q → full_at H c q (rank q) ≡ true → pres_at H c (move q e n) (suc n) ≡ true
  unfolding pres_at
  present-old q e zero he lo h full =
      let z : rank q ≡ 0 = omega arith in
      is_true (given_by H (move q e 0).at) (base-out H q e z (of-true (sym (full-zero H c q) ∙ ap (full_at H c q) (sym z) ∙ full)) he)
  present-old q e (suc i) he lo h full = go (ℕ_discrete (rank q) (suc i))
    where
      p : Pt
      p = move q e (suc i)

      f : rank p ≡ suc (suc i)
      f = out-rank q e (suc i) he (omega arith)

      u : ℕ
      u = (e + 6) % 12 / 4

      q' : par p u (suc i) ≡ q
      q' = parent_of q e (suc i) he (omega arith)

      go : Dec (rank q ≡ suc i) → T c (creator_of p i) i ≡ true
      go (no x) = rw (creator-new q e i he (omega arith)) (T-lt c q i (omega arith))
      go (yes x) =
          let (t, ht, k) = creator-ex p i f in
          let (g, hg, m) = parents-near p i u t (below3 (e + 6)) ht
          (λ z. (let w = ap (λ (s : ℕ). rank (par p s (suc i))) z in let v = ap rank q' in omega arith)) f in
          let qm : q ≡ move (par p t (suc i)) g i = sym q' ∙ m in
          let fl : full_at H c q (suc i) ≡ true = ap (full_at H c q) (sym x) ∙ full in
          let y : par q ((g + 6) % 12 / 4) i ≡ par p t (suc i) = ap (λ (z : Pt). par z ((g + 6) % 12 / 4) i) qm ∙ parent_of (par p t (suc i)) g i hg k in
          rw (creator-is p i t ht f k, ← y) (full-par H c q i ((g + 6) % 12 / 4) (below3 (g + 6)) fl)

  -- ---- counts stay good
  full-mono : (q x : Pt) (f : ℕ) → full_at H c x f ≡ true → full_at H (bump q c) x f ≡ true
  unfolding full_at
  full-mono q x zero h = h
  full-mono q x (suc b) h =
      let (i, a, a', a'') = full-all H c x b h in
      rw (i, T-mono c q (par x 0 b) b a, T-mono c q (par x 1 b) b a', T-mono c q (par x 2 b) b a'')

  pub good-bump : (q : Pt) → Good H c → full_at H c q (rank q) ≡ true → Good H (bump q c)
  good-bump q good full x l = go (pt? x q)
    where
      go : Dec (x ≡ q) → full_at H (bump q c) x (rank x) ≡ true
      go (yes e) = rw e (full-mono q q (rank q) full)
      go (no ne) = full-mono q x (rank x) (good x (rw (bump-other q x c ne) at l))

-- ---- the subdivision of q at its level n
module _ (H : Point → Bool) (c : Pt → ℕ) (q : Pt) (n : ℕ) (h : n ≡ rank q + c q) where
  abbrev c' : Pt → ℕ
  c' = bump q c

  pres-low : (p : Pt) (f : ℕ) → f ≤ suc n → pres_at H c' p f ≡ pres_at H c p f
  unfolding pres_at
  pres-low p zero k = refl
  pres-low p (suc zero) k = refl
  pres-low p (suc (suc i)) k = T-same c q (creator_of p i) i (omega arith)

  level-up : rank q + bump q c q ≡ suc n
  level-up = rw (bump-same q c) (omega arith)

  ne-rank : (u : Pt) → rank u ≡ suc n → u ≢ q
  ne-rank u f e = let x = ap rank e in omega arith

  -- q itself
  star-centre : (f : ℕ) → f ≤ n → full_at H c q f ≡ true → star_at c' q f ≡ vertex q.at 6 (suc n % 2) (suc n)
  unfolding star_at by_splits
  star-centre zero k full = rw level-up
  star-centre (suc b) k full =
      let s : (t : ℕ) → t < 3 → T c' (par q t b) b ≡ true = λ t ht. T-same c q (par q t b) b (omega arith) ∙ full-par H c q b t ht full in
      rw (s 0 (omega arith), s 1 (omega arith), s 2 (omega arith), level-up)

  pub centre : pres_at H c q (rank q) ≡ true → full_at H c q (rank q) ≡ true → rec H c' q ≡ Some (vertex q.at 6 (suc n % 2) (suc n))
  centre pr full =
      rec-look H c' q (vertex q.at 6 (suc n % 2) (suc n)) (pres-low q (rank q) (omega arith) ∙ pr) (int-of-full H c q (rank q) full)
      (star-centre (rank q) (omega arith) full)

  -- ---- an adjacent of q at its level has not been subdivided
  module _ (good : Good H c) where
    adj-zero : (e : ℕ) → Dir e n → c (move q e n) ≡ 0
    adj-zero e he = go (c u) refl
      where
        u : Pt
        u = move q e n

        go : (m : ℕ) → c u ≡ m → m ≡ 0
        go zero x = refl
        go (suc m) x =
            let fl : full_at H c u (suc n) ≡ true = ap (full_at H c u) (sym (out-rank q e n he (omega arith))) ∙ good u (omega arith) in
            let y = full-par H c u n ((e + 6) % 12 / 4) (below3 (e + 6)) fl in
            let z : T c q n ≡ true = rw (parent_of q e n he (omega arith)) at y in
            absurd (true≢false (sym z ∙ T-off c q n h))

    -- ---- the six new points
    young : (g : ℕ) → Dir g n → T c' (move q g n) (suc n) ≡ false
    young g hg =
        let f = out-rank q g n hg (omega arith) in
        let z = adj-zero g hg in
        T-other c q (move q g n) (suc n) (ne-rank (move q g n) f) ∙ T-le c (move q g n) (suc n) (omega arith)

    new-par : (e t : ℕ) → Dir e (suc n) → t < 3 → T c' (par (move q e (suc n)) t (suc n)) (suc n) ≡ false
    unfolding par
    new-par e t he ht = go (thirds a e6 ha.0 (omega arith) (mod4 (birth p) t (birth-lt p) ∙ out-birth q e (suc n) he (omega arith) ∙ sym (mod-12-4 (e + 6))))
      where
        p : Pt
        p = move q e (suc n)

        a : ℕ
        a = birth p + 4 * t

        e6 : ℕ
        e6 = (e + 6) % 12

        ha : Dir a (suc n)
        ha = par-dir p t (suc n) ht (out-rank q e (suc n) he (omega arith))

        go : (a ≡ e6) ⊎ ((a ≡ (e6 + 4) % 12) ⊎ (a ≡ (e6 + 8) % 12)) → T c' (move p a (suc n)) (suc n) ≡ false
        go (inl x) =
            let b : move p a (suc n) ≡ q = ap (λ (z : ℕ). move p z (suc n)) x ∙ back q e (suc n) he in
            rw b (T-same c q q (suc n) (omega arith) ∙ T-le c q (suc n) (omega arith))
        go (inr (inl x)) =
            let b : move p a (suc n) ≡ move q ((e + 11) % 12) n = aside-r q p e n a he refl (x ∙ sym (plus4' e he.0)) in
            rw b (young ((e + 11) % 12) (turn11 e n he))
        go (inr (inr x)) =
            let b : move p a (suc n) ≡ move q ((e + 1) % 12) n = aside-l q p e n a he refl (x ∙ sym (plus8' e he.0)) in
            rw b (young ((e + 1) % 12) (turn1 e n he))

    pub new : (e : ℕ) → Dir e (suc n) → rec H c' (move q e (suc n)) ≡ Some (vertex (move q e (suc n)).at 3 ((e + 6) % 4) (suc n))
    unfolding pres_at int_at star_at by_splits look
    new e he =
        let p : Pt = move q e (suc n) in
        let s : (t : ℕ) → t < 3 → T c' (par p t (suc n)) (suc n) ≡ false = λ t ht. new-par e t he ht in
        rec-at H c' p (suc (suc n)) (out-rank q e (suc n) he (omega arith))
        ∙ rw (creator-new q e n he (omega arith), T-on c q n h, s 0 (omega arith), s 1 (omega arith), s 2 (omega arith), out-birth q e (suc n) he (omega arith))

    -- ---- the six old adjacents
    module _ (e : ℕ) (he : Dir e n) where
      old-rank : rank (move q e n) ≡ suc n
      old-rank = out-rank q e n he (omega arith)

      old-level : rank (move q e n) + c (move q e n) ≡ suc n
      old-level = let f = old-rank in let z = adj-zero e he in omega arith

      old-level' : rank (move q e n) + bump q c (move q e n) ≡ suc n
      old-level' = let b = bump-other q (move q e n) c (ne-rank (move q e n) old-rank) in let f = old-level in omega arith

      -- q is its parent in slot (e + 6) mod 12 / 4
      old-q : par (move q e n) ((e + 6) % 12 / 4) n ≡ q
      old-q = parent_of q e n he (omega arith)

      old-k : (e + 6) % 12 ≡ birth (move q e n) + 4 * ((e + 6) % 12 / 4)
      old-k = third_of ((e + 6) % 12) (birth (move q e n)) (omega arith) (mod-12-4 (e + 6) ∙ sym (out-birth q e n he (omega arith)))

      old-off : T c (par (move q e n) ((e + 6) % 12 / 4) n) n ≡ false
      old-off = ap (λ (x : Pt). T c x n) old-q ∙ T-off c q n h

      old-on : T c' (par (move q e n) ((e + 6) % 12 / 4) n) n ≡ true
      old-on = ap (λ (x : Pt). T c' x n) old-q ∙ T-on c q n h

      old-others : (t : ℕ) → t < 3 → t ≢ (e + 6) % 12 / 4 → T c' (par (move q e n) t n) n ≡ T c (par (move q e n) t n) n
      old-others t ht ne =
          T-other c q (par (move q e n) t n) n (λ x. ne (par-inj (move q e n) t ((e + 6) % 12 / 4) n ht (below3 (e + 6)) old-rank (x ∙ sym old-q)))

      old-star : update_of ((e + 6) % 12) (star_at c (move q e n) (suc n)) ≡ star_at c' (move q e n) (suc n)
      unfolding star_at
      old-star =
          let p : Pt = move q e n in
          rw (old-level, old-level')
          (update-split p.at (birth p) n ((e + 6) % 12) (birth-lt p) (λ t. T c (par p t n) n) (λ t. T c' (par p t n) n) ((e + 6) % 12 / 4)
          (below3 (e + 6)) (birth-par p n old-rank)
          old-k old-off old-on old-others)

      old-accept : accepts_of ((e + 6) % 12) n (star_at c (move q e n) (suc n)) ≡ true
      unfolding star_at
      old-accept =
          let p : Pt = move q e n in
          accept-split p.at (birth p) n ((e + 6) % 12) (birth-lt p) (λ t. T c (par p t n) n) ((e + 6) % 12 / 4) (rank p + c p) (below3 (e + 6)) old-k old-off

      pub old : (r : Record) → rec H c (move q e n) ≡ Some r → rec H c' (move q e n) ≡ Some (update_of ((e + 6) % 12) r)
      old r x =
          let p : Pt = move q e n in
          rec-at H c' p (suc n) old-rank ∙ ap (λ (a : Bool). look a (int_at H p (suc n)) p.at (star_at c' p (suc n))) (pres-low p (suc n) (omega arith))
          ∙ look-update (pres_at H c p (suc n)) (int_at H p (suc n)) p.at (star_at c p (suc n)) (star_at c' p (suc n)) r ((e + 6) % 12)
          (sym (rec-at H c p (suc n) old-rank) ∙ x) old-star

      pub there : full_at H c q (rank q) ≡ true → (r : Record) × (rec H c (move q e n) ≡ Some r) × (accepts_of ((e + 6) % 12) n r ≡ true)
      there full =
          let p : Pt = move q e n in
          let (r, x, y) = look-accept (int_at H p (suc n)) p.at (star_at c p (suc n)) ((e + 6) % 12) n old-accept in (
            r,
            rec-at H c p (suc n) old-rank ∙ ap (λ (a : Bool). look a (int_at H p (suc n)) p.at (star_at c p (suc n)))
                (present-old H c q e n he (omega arith) (omega arith) full) ∙ x,
            y,
          )

      -- M4: one of degree 3 has the level of q, and its orientation is the direction back
      pub old-three : (r : Record) → rec H c (move q e n) ≡ Some r → r.d ≡ 3 → r ≡ vertex (move q e n).at 3 ((e + 6) % 4) n
      unfolding star_at
      old-three r x d =
          let p : Pt = move q e n in
          let (a, i, s) = look-inside (pres_at H c p (suc n)) (int_at H p (suc n)) p.at (star_at c p (suc n)) r (sym (rec-at H c p (suc n) old-rank) ∙ x)
          (omega arith) in
          s ∙ splits-three p.at (T c (par p 0 n) n) (T c (par p 1 n) n) (T c (par p 2 n) n) (birth p) n (rank p + c p)
          (ap (λ (x : Record). x.d) (sym s) ∙ d)
          ∙ ap (λ (k : ℕ). vertex p.at 3 k n) (out-birth q e n he (omega arith))

  -- ---- the new points were not there
  pub absent : (e : ℕ) → Dir e (suc n) → rec H c (move q e (suc n)) ≡ None
  unfolding pres_at look
  absent e he =
      rec-at H c (move q e (suc n)) (suc (suc n)) (out-rank q e (suc n) he (omega arith)) ∙ rw (creator-new q e n he (omega arith), T-off c q n h)

  -- ---- all else is untouched
  pres-same : (p : Pt) (f : ℕ) → rank p ≡ f → ((e : ℕ) → Dir e (suc n) → p ≢ move q e (suc n)) → pres_at H c' p f ≡ pres_at H c p f
  unfolding pres_at
  pres-same p zero f far = refl
  pres-same p (suc zero) f far = refl
  pres-same p (suc (suc i)) f far = go (ℕ_discrete i n)
    where
      go : Dec (i ≡ n) → T c' (creator_of p i) i ≡ T c (creator_of p i) i
      go (no x) = T-same c q (creator_of p i) i (omega arith)
      go (yes x) = T-other c q (creator_of p i) i not-q
        where
          not-q : creator_of p i ≢ q
          not-q y =
              let (t, ht, k) = creator-ex p i f in
              let m = par-back p q t (suc i) ht f (sym (creator-is p i t ht f k) ∙ y) in
              far ((birth p + 4 * t + 6) % 12) (rw (← x) (turn6 (birth p + 4 * t) (suc i) (par-dir p t (suc i) ht f)))
              (m ∙ ap (λ (j : ℕ). move q ((birth p + 4 * t + 6) % 12) (suc j)) x)

  par-same : (p : Pt) (t b : ℕ) → t < 3 → rank p ≡ suc b → ((e : ℕ) → Dir e n → p ≢ move q e n) → T c' (par p t b) b ≡ T c (par p t b) b
  par-same p t b ht f far = go (ℕ_discrete b n)
    where
      go : Dec (b ≡ n) → T c' (par p t b) b ≡ T c (par p t b) b
      go (no x) = T-same c q (par p t b) b (omega arith)
      go (yes x) = T-other c q (par p t b) b not-q
        where
          not-q : par p t b ≢ q
          not-q y =
              far ((birth p + 4 * t + 6) % 12) (rw (← x) (turn6 (birth p + 4 * t) b (par-dir p t b ht f)))
              (par-back p q t b ht f y ∙ ap (λ (j : ℕ). move q ((birth p + 4 * t + 6) % 12) j) x)

  star-same : (p : Pt) (f : ℕ) → rank p ≡ f → p ≢ q → ((e : ℕ) → Dir e n → p ≢ move q e n) → star_at c' p f ≡ star_at c p f
  unfolding star_at
  star-same p zero f ne far = rw (bump-other q p c ne)
  star-same p (suc b) f ne far =
      rw (bump-other q p c ne, par-same p 0 b (omega arith) f far, par-same p 1 b (omega arith) f far, par-same p 2 b (omega arith) f far)

  pub rest : (p : Pt) → p ≢ q → ((e : ℕ) → Dir e (suc n) → p ≢ move q e (suc n)) → ((e : ℕ) → Dir e n → p ≢ move q e n) → rec H c' p ≡ rec H c p
  unfolding rec
  rest p ne far far' = rw (pres-same p (rank p) refl far, star-same p (rank p) refl ne far')
