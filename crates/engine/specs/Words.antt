-- When a pair fits, in the words of what it stands on: "level 0 to 11 and not below the point's rank; not there before; and what it stands on is before it":
-- the point at the level below, where the level is above the rank; its three parents at the level below, where it is the rank and above 0; the base, where
-- both are 0. `Stands`, `turn-stands`, `stands-turn` the two are one, of pairs that come after good ones.
-- That it is internal needs no test where it has parents: a point of rank 1 whose three parents are inside the base is inside it (`inner-one`).
-- Assumes nothing.
use Rattle.std.proofs.Math.Path.{◌≡◌, refl, sym, ap, subst}
use Rattle.std.proofs.Common.{◌∙◌}
use Rattle.std.specs.Prelude.{◌≢◌, Bool, false, cond, List, T, ℤ}
use Rattle.std.proofs.Math.Bool.{true}
use Prim.Native.Nat.{ℕ, zero, suc, ◌+◌, ◌*◌, ◌-◌, ◌%◌, ◌≤◌, ◌<◌}
use native.Mathlib.Omega.{arith}
use Rattle.std.proofs.Math.Decide.{ℕ_discrete, dec_lt}
use borrow.Author.Tests.{eq-eqb, ne_eqb, lt-ltb, le-ltb}
use Rattle.std.proofs.Math.IntN.{pos}
use Rattle.laws.specs.Each.{not-both}
use Rattle.laws.specs.Choices.{is_true, of-true}
use Rattle.laws.specs.Triples.{is_byte}
use Rattle.lattice.specs.Points.{class_of}
use Rattle.lattice.specs.Ranks.{rank_of, move_of, parent_of}
use Rattle.lattice.specs.declared.points.Point.{Point}
use Rattle.lattice.specs.declared.records.Record.{Record}
use Rattle.geometry.specs.SideLaws.{Dir}
use Rattle.growth.specs.Sheets.{vertex, hexagon_round, inside_base}
use Rattle.growth.specs.Model.{Counts, subdivided}
use Rattle.growth.specs.Normal.{Pt, rank, birth, move, back, fan, birth-lt, birth-par}
use Rattle.growth.specs.Parents.{par, par-move, par-rank}
use Rattle.growth.specs.Hexagons.{inside-all, all-inside, centre-inside}
use Rattle.growth.specs.BaseLaws.{class-zero, class-one}
use Rattle.growth.specs.Closed.{T-lo, int_at, full_at, full-make, full-zero, full-par}
use Rattle.growth.specs.Link.{at, par-is, par-split, record_is, good-in}
use Rattle.growth.specs.OneStep.{six, rec-full}
use Rattle.engine.specs.Engine.{pair_depth, pair_point, pair_level, made_at, times_of}
use Rattle.engine.specs.MadeLaws.{pair-normal, Turn, Trail, record-mesh}
use Rattle.growth.specs.Closed as C

-- ---- the hexagons round a corner, by directions
module _ (p : Pt) (t : ℕ) where
  round-one : class_of p.at ≡ 1 → hexagon_round p.at t ≡ (move p (2 + 4 * t) 0).at
  unfolding move
  round-one c = ap (λ (b : Bool). move_of p.at (cond b 2 0 + 4 * t) 0) (eq-eqb (class_of p.at) 1 c)

  round-two : class_of p.at ≡ 2 → hexagon_round p.at t ≡ (move p (4 * t) 0).at
  unfolding move
  round-two c =
      let n : class_of p.at ≢ 1 = (λ e. let z : ◌≡◌ {A = ℕ} 2 1 = sym c ∙ e in omega arith) in
      let z : 0 + 4 * t ≡ 4 * t = omega arith in
      ap (λ (b : Bool). move_of p.at (cond b 2 0 + 4 * t) 0) (ne_eqb (class_of p.at) 1 n) ∙ ap (λ (e : ℕ). move_of p.at e 0) z

-- a point of rank 1 whose three parents are inside the base is inside it: it is a hexagon's centre, which is round its parents, or the three hexagons
-- round it are
inner-one : (H : Point → Bool) (p : Pt) → rank p ≡ 1 → ((t : ℕ) → t < 3 → T (inside_base H (par p t 0).at)) → T (inside_base H p.at)
inner-one H p f h = go (ℕ_discrete (birth p) 0)
  where
    c : birth p ≡ class_of p.at
    c = class-one p f

    -- the hexagons round a parent are listed
    listed : (t u : ℕ) → t < 3 → u < 3 → T (H (move (par p t 0) (2 + 4 * u) 0).at)
    listed t u ht hu =
        let q = par p t 0 in
        let k : class_of q.at ≡ 1 = class-zero q (let l = par-rank p t 0 ht f in omega arith) in
        let n : class_of q.at ≢ 0 = (λ e. let z : ◌≡◌ {A = ℕ} 1 0 = sym k ∙ e in omega arith) in
        subst (λ (x : Point). T (H x)) (round-one q u k) (inside-all H q.at n (h t ht) u hu)

    go : Dec (birth p ≡ 0) → T (inside_base H p.at)
    go (yes z) =
        let e : birth p + 4 * 0 ≡ 0 = omega (arith, z) in
        let home : move (par p 0 0) 6 0 ≡ p =
        ap (λ (x : Pt). move x 6 0) (par-move p 0 0 ∙ ap (λ (g : ℕ). move p g 0) e)
        ∙ back p 0 0 (omega arith, refl) in
        subst T (sym (centre-inside H p.at (sym c ∙ z)))
        (subst (λ (x : Pt). T (H x.at)) home (listed 0 1 (omega arith) (omega arith)))
    go (no z) =
        let l = birth-lt p in
        let k = birth-par p 0 f in
        let two : birth p ≡ 2 = omega arith in
        let n : class_of p.at ≢ 0 = (λ e. z (c ∙ e)) in
        all-inside H p.at n (λ t ht. subst (λ (x : Point). T (H x)) (sym (round-two p t (sym c ∙ two))) (by two t ht))
      where
        -- parent s lies in direction g, two directions before hexagon t
        step : (s g t : ℕ) → birth p + 4 * s ≡ g → s < 3 → t < 3 → Dir g 0 → (g + 4) % 12 ≡ 2 + 4 * t → (g + 2) % 12 ≡ 4 * t → T (H (move p (4 * t) 0).at)
        step s g t e hs ht d a b =
            let way : move (par p s 0) (2 + 4 * t) 0 ≡ move p (4 * t) 0 =
            (λ i. move ((par-move p s 0 ∙ ap (λ (x : ℕ). move p x 0) e) i) (sym a i) 0) ∙ fan p g 0 d ∙ ap (λ (x : ℕ). move p x 0) b in
            subst (λ (x : Pt). T (H x.at)) way (listed s t hs ht)

        by : birth p ≡ 2 → (t : ℕ) → t < 3 → T (H (move p (4 * t) 0).at)
        by two zero ht = step 2 10 0 (omega (arith, two)) (omega arith) ht (omega arith, refl) refl refl
        by two (suc zero) ht = step 0 2 1 (omega (arith, two)) (omega arith) ht (omega arith, refl) refl refl
        by two (suc (suc zero)) ht = step 1 6 2 (omega (arith, two)) (omega arith) ht (omega arith, refl) refl refl
        by two (suc (suc (suc t))) ht = absurd (omega arith)

-- ---- what a pair stands on
pub record Stands (H : Point → Bool) (ps : List ℤ) (n : ℕ) (q : Point) (i : ℕ) : Type 0 where
  pub below : i < 12
  pub above : rank_of q ≤ i
  pub fresh : made_at ps n q i ≡ false
  pub own : rank_of q < i → made_at ps n q (i - 1) ≡ true
  pub parents : i ≡ rank_of q → 0 < i → (t : ℕ) → t < 3 → made_at ps n (parent_of q t) (i - 1) ≡ true
  pub ground : i ≡ 0 → T (inside_base H q)

module _ (H : Point → Bool) (ps : List ℤ) (n : ℕ) (w : Trail H ps n) where
  abbrev c : Counts
  c = times_of ps n

  abbrev p : Pt
  p = record { at = pair_point ps n; normal = pair-normal ps n }

  abbrev q : Point
  q = pair_point ps n

  good : C.Good H (at c)
  good = good-in c H w.good

  made-on : (x : Point) (i : ℕ) → rank_of x ≤ i → i < rank_of x + c x → made_at ps n x i ≡ true
  unfolding subdivided
  made-on x i l h = w.made x i l ∙ lt-ltb i (rank_of x + c x) h

  made-off : (x : Point) (i : ℕ) → rank_of x ≤ i → rank_of x + c x ≤ i → made_at ps n x i ≡ false
  unfolding subdivided
  made-off x i l h = w.made x i l ∙ le-ltb i (rank_of x + c x) h

  -- a parent at p's birth level
  parent-level : (b t : ℕ) → rank p ≡ suc b → t < 3 → rank_of (parent_of q t) ≤ b
  unfolding rank
  parent-level b t f h = subst (λ (x : Point). rank_of x ≤ b) (par-is p t b f) (par-rank p t b h f)

  parent-made : (b t : ℕ) → rank p ≡ suc b → t < 3 → made_at ps n (parent_of q t) b ≡ C.T (at c) (par p t b) b
  unfolding rank subdivided
  parent-made b t f h =
      let e : b ≡ rank_of q - 1 = omega arith in
      w.made (parent_of q t) b (parent-level b t f h) ∙ ap (subdivided c (parent_of q t)) e ∙ sym (par-split c p t b f)

  pub turn-stands : (t : Turn H ps n) → Stands H ps n q t.vertex.n.0
  unfolding rank
  turn-stands t =
      let (_, full, e) = six H (at c) p t.vertex (sym (record_is c H p) ∙ sym (record-mesh H ps n w p) ∙ t.held) t.six in
      let lev : t.vertex.n.0 ≡ rank_of q + c q = ap (λ (r : Record). r.n.0) e in
      record {
        below = t.below;
        above = omega (arith, lev);
        fresh = made-off q t.vertex.n.0 (omega (arith, lev)) (omega (arith, lev));
        own = λ h. made-on q (t.vertex.n.0 - 1) (omega (arith, h)) (omega (arith, lev, h));
        parents = λ z h s hs. young t.vertex.n.0 lev full z h s hs;
        ground = λ z. low lev full (omega (arith, lev, z));
      }
    where
      young : (i : ℕ) → i ≡ rank_of q + c q → full_at H (at c) p (rank_of q) ≡ true → i ≡ rank_of q → 0 < i
          → (s : ℕ) → s < 3 → made_at ps n (parent_of q s) (i - 1) ≡ true
      young zero lev full z h s hs = absurd (omega arith)
      young (suc b) lev full z h s hs =
          let f : rank p ≡ suc b = sym z in
          let g : suc b - 1 ≡ b = omega arith in
          ap (made_at ps n (parent_of q s)) g ∙ parent-made b s f hs ∙ full-par H (at c) p b s hs (ap (full_at H (at c) p) (sym (sym z)) ∙ full)

      low : t.vertex.n.0 ≡ rank_of q + c q → full_at H (at c) p (rank_of q) ≡ true → rank_of q ≡ 0 → T (inside_base H q)
      low lev full z = of-true (sym (full-zero H (at c) p) ∙ ap (full_at H (at c) p) (sym z) ∙ full)

  -- ---- and back
  module _ (i : ℕ) (s : Stands H ps n q i) where
    level : i ≡ rank_of q + c q
    level = go (dec_lt (rank_of q) i) (dec_lt i (rank_of q + c q))
      where
        off : i < rank_of q + c q → ⊥
        off h = not-both (made-on q i s.above h) s.fresh

        go : Dec (rank_of q < i) → Dec (i < rank_of q + c q) → i ≡ rank_of q + c q
        go x (yes h) = absurd (off h)
        go (no x) (no y) = let a = s.above in omega arith
        go (yes x) (no y) = by (dec_lt (i - 1) (rank_of q + c q))
          where
            by : Dec (i - 1 < rank_of q + c q) → i ≡ rank_of q + c q
            by (yes z) = omega arith
            by (no z) = absurd (not-both (s.own x) (made-off q (i - 1) (omega arith) (omega arith)))

    -- where it was never subdivided
    first : (r : ℕ) → rank p ≡ r → c q ≡ 0 → full_at H (at c) p r ≡ true
    unfolding rank int_at
    first zero f z = full-zero H (at c) p ∙ is_true (inside_base H q) (s.ground (omega (arith, level)))
    first (suc b) f z =
        let here : i ≡ rank_of q = omega (arith, level) in
        let on : (t : ℕ) → t < 3 → C.T (at c) (par p t b) b ≡ true = λ t h.
        let e : i - 1 ≡ b = omega arith in
        sym (parent-made b t f h) ∙ ap (made_at ps n (parent_of q t)) (sym e) ∙ s.parents here (omega arith) t h in
        full-make H (at c) p b (inner b f on) (on 0 (omega arith)) (on 1 (omega arith)) (on 2 (omega arith))
      where
        inner : (b : ℕ) → rank p ≡ suc b → ((t : ℕ) → t < 3 → C.T (at c) (par p t b) b ≡ true) → int_at H p (suc b) ≡ true
        inner (suc b) f on = refl
        inner zero f on =
            is_true (inside_base H q)
            (inner-one H p f
            (λ t h.
            let x = par p t 0 in
            let l = par-rank p t 0 h f in
            let m = T-lo (at c) x 0 (on t h) in
            let z : rank x ≡ 0 = omega arith in
            of-true (sym (full-zero H (at c) x) ∙ ap (full_at H (at c) x) (sym z) ∙ good x (omega arith))))

    full : full_at H (at c) p (rank p) ≡ true
    full = go (c q) refl
      where
        go : (k : ℕ) → c q ≡ k → full_at H (at c) p (rank p) ≡ true
        go zero e = first (rank p) refl e
        go (suc k) e = good p (omega (arith, e))

    pub stands-turn : is_byte (pair_depth ps n) ≡ true → pair_level ps n ≡ pos i → Turn H ps n
    unfolding rank
    stands-turn byte lev =
        record {
          byte = byte;
          vertex = vertex q 6 ((rank_of q + c q) % 2) (rank_of q + c q);
          held = record-mesh H ps n w p ∙ record_is c H p ∙ rec-full H (at c) p full;
          six = refl;
          below = (let b = s.below in omega (arith, level));
          level = lev ∙ ap pos level;
        }
