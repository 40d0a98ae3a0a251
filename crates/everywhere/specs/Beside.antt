-- On a grown table: what stands across the places of a vertex of degree 3 to 5.
-- `Beside` a boundary vertex; one of degree 6, at the vertex's own level; or one of degree 4 or 5, a level lower · `grown-beside` · `creator-six` at
-- degree 3, above level 0, one of the three has degree 6.
-- Why: in the model the directions missing are those of the parents that have not been subdivided at the vertex's level (`open-parent`). A parent is
-- there (`parent-there`). With degree 6 it has that level (`six-level`). Of a lower degree, its rank is that level: were it lower, it would be the
-- vertex's creator, which has been subdivided and so has degree 6 (`creator-split`); and then the creator is one of its own parents, so that it is not of
-- degree 3.
-- Assumes nothing.
use Rattle.std.specs.Prelude.{◌≡◌, ◌≢◌, Bool, List, T, Some}
use Rattle.std.proofs.Math.Path.{refl, sym, ap, subst}
use Rattle.std.proofs.Common.{◌∙◌, true≢false}
use Rattle.std.proofs.Math.Bool.{true, false}
use Prim.Native.Nat.{ℕ, zero, suc, ◌+◌, ◌*◌, ◌%◌, ◌/◌, ◌-◌, ◌≤◌, ◌<◌}
use native.Mathlib.Omega.{arith}
use Rattle.std.proofs.Math.Decide.{ℕ_discrete}
use Rattle.laws.specs.Choices.{of-true}
use Rattle.lattice.specs.Records.{valid_of}
use Rattle.lattice.specs.Ranks.{move_of}
use Rattle.lattice.specs.Stars.{adjacent_at}
use Rattle.lattice.specs.declared.points.Point.{Point}
use Rattle.lattice.specs.declared.records.Record.{Record}
use Rattle.geometry.specs.SubdivisionLaws.{sited}
use Rattle.growth.specs.Sheets.{vertex, inside_base}
use Rattle.growth.specs.Model.{by_splits}
use Rattle.growth.specs.Normal.{Pt, rank, birth, move, birth-lt}
use Rattle.growth.specs.Parents.{par, par-move, parent_of, creator_of, creator-ex, creator-is, parents-near}
use Rattle.growth.specs.Directions.{below3}
use Rattle.growth.specs.Closed.{look, star_at, T-lo, pres_at, int_at, full_at, rec, rec-at, full-make, full-zero}
use Rattle.growth.specs.Updates.{look-inside, splits-six, splits-three, splits-some}
use Rattle.growth.specs.OneStep.{rec-full}
use Rattle.growth.specs.Link.{at, record_is, good-in}
use Rattle.growth.specs.Growth.{grown-closed}
use Rattle.growth.specs.GrownLaws.{Closed}
use Rattle.growth.specs.Neighbours.{parent-there}
use Rattle.growth.specs.Bring.{creator-split, six-level}
use Rattle.growth.specs.Closed as C
use Rattle.table.specs.Entries.{look_up}
use Rattle.table.specs.MapLaws.{lookup-valid}
use Rattle.mesh.specs.Grown.{Grown}
use Rattle.local.specs.Sheet.{as_option, sheet_of}
use Rattle.grown.specs.Steps.{sheet-held}
use Rattle.grown.specs.Tables.{grown-sheet}
use Rattle.everywhere.specs.Missing.{missing, lacks, place-missing, missing-place, place-step}

-- a neighbour at q, wanted at level n
pub data Beside (s : List ℕ) (q : Point) (n : ℕ) : Type 0 where
  rim : (u : Record) → look_up s q ≡ Some u → u.d ≡ 0 → Beside s q n
  six : (u : Record) → look_up s q ≡ Some u → u.d ≡ 6 → u.n.0 ≡ n → Beside s q n
  lower : (u : Record) → look_up s q ≡ Some u → u.d ≢ 0 → u.d ≢ 3 → u.d ≢ 6 → u.n.0 + 1 ≡ n → Beside s q n

-- ---- the directions missing, in the model: s tells which parents have been subdivided
module _ (p : Point) (s : ℕ → Bool) (k b n : ℕ) (low : k < 4) where
  abbrev star : Record
  star = by_splits p (s 0) (s 1) (s 2) k b n

  abbrev Open : ℕ → Type 0
  Open e = (t : ℕ) × (t < 3) × (e ≡ k + 4 * t) × (s t ≡ false)

  by-splits : (e : ℕ) (x y z : Bool) → s 0 ≡ x → s 1 ≡ y → s 2 ≡ z → T (lacks (by_splits p x y z k b n) e) → Open e
  unfolding by_splits
  by-splits e x y z f g h m = go x y z f g h (missing-place (by_splits p x y z k b n).d (by_splits p x y z k b n).k e m)
    where
      go : (x y z : Bool) → s 0 ≡ x → s 1 ≡ y → s 2 ≡ z
          → (i : ℕ) × (i < 6 - (by_splits p x y z k b n).d) × (e ≡ ((by_splits p x y z k b n).k + 4 * i) % 12) → Open e
      go false false false f g h (zero, l, q) = (0, omega arith, omega arith, f)
      go false false false f g h (suc zero, l, q) = (1, omega arith, omega arith, g)
      go false false false f g h (suc (suc zero), l, q) = (2, omega arith, omega arith, h)
      go false false false f g h (suc (suc (suc i)), l, q) = absurd (omega arith)
      go true false false f g h (zero, l, q) = (1, omega arith, omega arith, g)
      go true false false f g h (suc zero, l, q) = (2, omega arith, omega arith, h)
      go true false false f g h (suc (suc i), l, q) = absurd (omega arith)
      go false true false f g h (zero, l, q) = (2, omega arith, omega arith, h)
      go false true false f g h (suc zero, l, q) = (0, omega arith, omega arith, f)
      go false true false f g h (suc (suc i), l, q) = absurd (omega arith)
      go false false true f g h (zero, l, q) = (0, omega arith, omega arith, f)
      go false false true f g h (suc zero, l, q) = (1, omega arith, omega arith, g)
      go false false true f g h (suc (suc i), l, q) = absurd (omega arith)
      go true true false f g h (zero, l, q) = (2, omega arith, omega arith, h)
      go true true false f g h (suc i, l, q) = absurd (omega arith)
      go true false true f g h (zero, l, q) = (1, omega arith, omega arith, g)
      go true false true f g h (suc i, l, q) = absurd (omega arith)
      go false true true f g h (zero, l, q) = (0, omega arith, omega arith, f)
      go false true true f g h (suc i, l, q) = absurd (omega arith)
      go true true true f g h (i, l, q) = absurd (omega arith)

  open-parent : (e : ℕ) → T (lacks star e) → Open e
  open-parent e m = by-splits e (s 0) (s 1) (s 2) refl refl refl m

  -- of degree 3: none has been subdivided
  three-open : star.d ≡ 3 → (t : ℕ) → t < 3 → s t ≡ false
  three-open d t h = go (open-parent ((k + 4 * t) % 12) (subst (λ (r : Record). T (lacks r ((k + 4 * t) % 12))) (sym is) (place-missing 3 k t h)))
    where
      is : star ≡ vertex p 3 k b
      is = splits-three p (s 0) (s 1) (s 2) k b n d

      go : Open ((k + 4 * t) % 12) → s t ≡ false
      go (u, l, e, off) = let same : u ≡ t = omega arith in ap s (sym same) ∙ off

-- of a degree below 6: it has the level b
splits-level : (p : Point) (x y z : Bool) (k b n : ℕ) → (by_splits p x y z k b n).d ≢ 6 → (by_splits p x y z k b n).n.0 ≡ b
unfolding by_splits
splits-level p false false false k b n h = refl
splits-level p true false false k b n h = refl
splits-level p false true false k b n h = refl
splits-level p false false true k b n h = refl
splits-level p true true false k b n h = refl
splits-level p true false true k b n h = refl
splits-level p false true true k b n h = refl
splits-level p true true true k b n h = absurd (h refl)

module _ (s : List ℕ) (g : Grown s) where
  closed : Closed (sheet_of s)
  closed = grown-closed (sheet_of s) (grown-sheet s g)

  abbrev H : Point → Bool
  H = closed.H

  abbrev c : Pt → ℕ
  c = at closed.c

  good : (x : Pt) → 0 < c x → full_at H c x (rank x) ≡ true
  good = good-in closed.c H closed.good

  held-rec : (q : Pt) (u : Record) → look_up s q.at ≡ Some u → rec H c q ≡ Some u
  held-rec q u e = sym (record_is closed.c H q) ∙ sym (closed.is q.at) ∙ ap as_option e

  rec-held : (q : Pt) (u : Record) → rec H c q ≡ Some u → look_up s q.at ≡ Some u
  rec-held q u e = sheet-held (look_up s q.at) u (closed.is q.at ∙ record_is closed.c H q ∙ e)

  -- of degree 6
  full-held : (q : Pt) → full_at H c q (rank q) ≡ true → look_up s q.at ≡ Some (vertex q.at 6 ((rank q + c q) % 2) (rank q + c q))
  full-held q full = rec-held q (vertex q.at 6 ((rank q + c q) % 2) (rank q + c q)) (rec-full H c q full)

  abbrev splits : Pt → ℕ → ℕ → Bool
  splits q i t = C.T c (par q t i) i

  -- ---- a vertex inside, of rank i + 1 and not of degree 6
  module _ (q : Pt) (i : ℕ) (f : rank q ≡ suc i) (inside : int_at H q (rank q) ≡ true) (less : full_at H c q (rank q) ≡ false) where
    abbrev r : Record
    r = by_splits q.at (splits q i 0) (splits q i 1) (splits q i 2) (birth q) i (rank q + c q)

    lesser : r.d ≢ 6
    lesser z =
        let (x, y, w) = splits-six q.at (splits q i 0) (splits q i 1) (splits q i 2) (birth q) i (rank q + c q) z in
        true≢false (sym (full-make H c q i (ap (int_at H q) (sym f) ∙ inside) x y w) ∙ ap (full_at H c q) (sym f) ∙ less)

    lesser-held : pres_at H c q (rank q) ≡ true → look_up s q.at ≡ Some r
    lesser-held here = rec-held q r (rec-at H c q (suc i) f ∙ (λ j. look (pres j) (int j) q.at (star_at c q (suc i))) ∙ star)
      where
        pres : pres_at H c q (suc i) ≡ true
        pres = ap (pres_at H c q) (sym f) ∙ here

        int : int_at H q (suc i) ≡ true
        int = ap (int_at H q) (sym f) ∙ inside

        star : look true true q.at (star_at c q (suc i)) ≡ Some r
        star = unfold look in unfold star_at in refl

  -- a parent of p that is no creator has p's creator for a parent, and that has been subdivided
  creator-beside : (p : Pt) (i k : ℕ) → rank p ≡ suc (suc i) → k < 3 → pres_at H c p (suc (suc i)) ≡ true → rank (par p k (suc i)) ≡ suc i
      → (n : ℕ) × (n < 3) × (splits (par p k (suc i)) i n ≡ true)
  unfolding pres_at
  creator-beside p i k f hk pr rk =
      let (t, ht, l) = creator-ex p i f in
      let ne : k ≢ t = λ z. (let y = ap (λ (s : ℕ). rank (par p s (suc i))) z in omega arith) in
      let (h, dh, m) = parents-near p i k t hk ht ne f in
      let y : par (par p k (suc i)) ((h + 6) % 12 / 4) i ≡ creator_of p i =
      ap (λ (z : Pt). par z ((h + 6) % 12 / 4) i) m ∙ parent_of (par p t (suc i)) h i dh l ∙ sym (creator-is p i t ht f l) in
      ((h + 6) % 12 / 4, below3 (h + 6), ap (λ (z : Pt). C.T c z i) y ∙ pr)

  -- ---- a vertex p of degree 3 to 5
  module _ (v : Record) (held : look_up s v.at ≡ Some v) (rim-not : v.d ≢ 0) (six-not : v.d ≢ 6) where
    valid : T (valid_of v)
    valid = of-true (lookup-valid s g.order v.at v held)

    abbrev p : Pt
    p = record { at = v.at; normal = (sited v valid).normal }

    abbrev b : ℕ
    b = v.n.0

    -- the vertex has level rank - 1
    ranked : rank p ≡ suc b
    ranked = go (rank p) refl
      where
        star-0 : (star_at c p 0).d ≡ 6
        star-0 = unfold star_at in refl

        star-n : (i : ℕ) → (star_at c p (suc i)).d ≢ 6 → (star_at c p (suc i)).n.0 ≡ i
        star-n i n = unfold star_at in (splits-level p.at (splits p i 0) (splits p i 1) (splits p i 2) (birth p) i (rank p + c p) n)

        go : (f : ℕ) → rank p ≡ f → rank p ≡ suc b
        go f e = by f e (look-inside (pres_at H c p f) (int_at H p f) p.at (star_at c p f) v (sym (rec-at H c p f e) ∙ held-rec p v held) rim-not).2
          where
            by : (f : ℕ) → rank p ≡ f → v ≡ star_at c p f → rank p ≡ suc b
            by zero e z = absurd (six-not (ap (λ (r : Record). r.d) z ∙ star-0))
            by (suc i) e z = e ∙ ap suc (sym (ap (λ (r : Record). r.n.0) z ∙ star-n i (λ w. six-not (ap (λ (r : Record). r.d) z ∙ w))))

    inside : (pres_at H c p (suc b) ≡ true) × (int_at H p (suc b) ≡ true) × (v ≡ star_at c p (suc b))
    inside =
        look-inside (pres_at H c p (suc b)) (int_at H p (suc b)) p.at (star_at c p (suc b)) v (sym (rec-at H c p (suc b) ranked) ∙ held-rec p v held)
        rim-not

    is : v ≡ by_splits p.at (splits p b 0) (splits p b 1) (splits p b 2) (birth p) b (rank p + c p)
    is = inside.2 ∙ unfold star_at in refl

    -- ---- parent k, not subdivided at that level
    module _ (k : ℕ) (hk : k < 3) where
      abbrev q : Pt
      q = par p k b

      here : pres_at H c q (rank q) ≡ true
      here = parent-there H c good p b k ranked inside.0 inside.1 hk

      -- the creator has degree 6
      creator-full : b ≢ rank q → full_at H c q (rank q) ≡ true
      creator-full n = let (i, bi, o, l) = creator-split H c p b k ranked hk inside.0 n in let m = T-lo c q i o in good q (omega arith)

      on-rim : int_at H q (rank q) ≡ false → look_up s q.at ≡ Some (vertex q.at 0 0 0)
      on-rim e =
          rec-held q (vertex q.at 0 0 0)
          (rec-at H c q (rank q) refl ∙ (λ j. look (here j) (e j) q.at (star_at c q (rank q))) ∙ unfold look in refl)

      below : int_at H q (rank q) ≡ true → full_at H c q (rank q) ≡ false → (n : ℕ) → b ≡ n → rank q ≡ n → Beside s q.at b
      below x y zero e f =
          absurd (true≢false (sym (ap (int_at H q) (sym f) ∙ x) ∙ int-zero ∙ sym (full-zero H c q) ∙ ap (full_at H c q) (sym f) ∙ y))
        where
          int-zero : int_at H q 0 ≡ inside_base H q.at
          int-zero = unfold int_at in refl
      below x y (suc i) e f =
          let n = lesser q i f x y in
          let lev = splits-level q.at (splits q i 0) (splits q i 1) (splits q i 2) (birth q) i (rank q + c q) n in
          lower (r q i f x y) (lesser-held q i f x y here)
          (splits-some q.at (splits q i 0) (splits q i 1) (splits q i 2) (birth q) i (rank q + c q))
          (λ z. old z (beside b e (ranked) inside.0 f)) n (omega arith)
        where
          beside : (b : ℕ) → b ≡ suc i → rank p ≡ suc b → pres_at H c p (suc b) ≡ true → rank (par p k b) ≡ suc i
              → (n : ℕ) × (n < 3) × (splits (par p k b) i n ≡ true)
          beside b e f pr rk =
              subst (λ (b : ℕ). rank p ≡ suc b → pres_at H c p (suc b) ≡ true → rank (par p k b) ≡ suc i → (n : ℕ) × (n < 3) × (splits (par p k b) i n ≡ true))
              (sym e)
              (λ f pr rk. creator-beside p i k f hk pr rk) f pr rk

          old : (r q i f x y).d ≡ 3 → (n : ℕ) × (n < 3) × (splits q i n ≡ true) → ⊥
          old d (n, h, on) = true≢false (sym on ∙ three-open q.at (splits q i) (birth q) i (rank q + c q) (birth-lt q) d n h)

      beside-parent : C.T c q b ≡ false → Beside s q.at b
      beside-parent off = go (int_at H q (rank q)) refl (full_at H c q (rank q)) refl
        where
          ranks : full_at H c q (rank q) ≡ false → Dec (b ≡ rank q) → b ≡ rank q
          ranks y (yes e) = e
          ranks y (no n) = absurd (true≢false (sym (creator-full n) ∙ y))

          go : (x : Bool) → int_at H q (rank q) ≡ x → (y : Bool) → full_at H c q (rank q) ≡ y → Beside s q.at b
          go false e y z = rim (vertex q.at 0 0 0) (on-rim e) refl
          go true e true z =
              six (vertex q.at 6 ((rank q + c q) % 2) (rank q + c q)) (full-held q z) refl (sym (six-level H c p b k good ranked hk inside.0 z off))
          go true e false z = let l = ranks z (ℕ_discrete b (rank q)) in below e z b refl (sym l)

    -- ---- in the direction e, which it is missing
    parent-at : (t e : ℕ) → e ≡ birth p + 4 * t → (par p t b).at ≡ move_of v.at e b
    unfolding move
    parent-at t e q = ap (λ (x : Pt). x.at) (par-move p t b) ∙ ap (λ (i : ℕ). move_of v.at i b) (sym q)

    pub grown-beside : (e : ℕ) → T (lacks v e) → Beside s (move_of v.at e b) b
    grown-beside e m = go (open-parent p.at (splits p b) (birth p) b (rank p + c p) (birth-lt p) e (subst (λ (r : Record). T (lacks r e)) is m))
      where
        go : (t : ℕ) × (t < 3) × (e ≡ birth p + 4 * t) × (splits p b t ≡ false) → Beside s (move_of v.at e b) b
        go (t, h, q, off) = subst (λ (x : Point). Beside s x b) (parent-at t e q) (beside-parent t h off)

    pub creator-six : v.d ≡ 3 → (i : ℕ) → b ≡ suc i → (j : ℕ) × (j < 3) × (u : Record) × (look_up s (adjacent_at v j) ≡ Some u) × (u.d ≡ 6)
    creator-six d i e = go (creator-ex p i (ranked ∙ ap suc e))
      where
        k : v.k ≡ birth p
        k =
            ap (λ (r : Record). r.k)
            (is ∙ splits-three p.at (splits p b 0) (splits p b 1) (splits p b 2) (birth p) b (rank p + c p) (ap (λ (r : Record). r.d) (sym is) ∙ d))

        go : (t : ℕ) × (t < 3) × (rank (par p t (suc i)) ≤ i) → (j : ℕ) × (j < 3) × (u : Record) × (look_up s (adjacent_at v j) ≡ Some u) × (u.d ≡ 6)
        go (t, h, l) =
            let w : Record = vertex (par p t b).at 6 ((rank (par p t b) + c (par p t b)) % 2) (rank (par p t b) + c (par p t b)) in
            let low = birth-lt p in
            let x : adjacent_at v t ≡ (par p t b).at =
            place-step v t valid rim-not (omega (arith, d, h)) ∙ sym (parent-at t ((v.k + 4 * t) % 12) (omega (arith, k, h, low))) in
            let m : rank (par p t b) ≤ i = subst (λ (n : ℕ). rank (par p t n) ≤ i) (sym e) l in
            (t, h, w, ap (look_up s) x ∙ full-held (par p t b) (creator-full t h (λ z. omega (arith, z, m, e))), refl)
