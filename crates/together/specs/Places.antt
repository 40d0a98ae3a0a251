-- Every corner of an internal vertex is acute or a gap (`corners`), and each acute corner and each gap that the mesh asks for has its place in the star
-- (`acute-at`, `gap_at`). The places of a star of orientation k, by the parents in directions k, k + 4, k + 8:
--     degree 3: gap k, gap k + 4, gap k + 8                                                        none was subdivided
--     degree 4: gap k, gap k + 4, acute round k + 8, gap k + 8                                     the last
--     degree 5: gap k, acute round k + 4, acute between the two, acute round k + 8, gap k + 8      the last two
-- `level-is` the level that a vertex has come to.
-- Assumes nothing.
use Rattle.std.specs.Prelude.{◌≡◌, ◌≢◌, ◌⊎◌, Bool, ℕ, zero, suc, ◌+◌, ◌*◌, ◌%◌, ◌/◌, ◌≤◌, ◌<◌, Some}
use Rattle.std.proofs.Math.Path.{refl}
use Rattle.std.proofs.Common.{sym, ◌∙◌, ap, subst, inl, inr, arith}
use Rattle.std.proofs.Math.Bool.{true, false}
use Rattle.std.proofs.Math.Decide.{ℕ_discrete}
use Rattle.laws.specs.Each.{not-both, never}
use Rattle.laws.specs.Rules.{◌≡?◌, ◌&◌, rule}
use Rattle.lattice.specs.declared.records.Record.{Record}
use Rattle.geometry.specs.SideLaws.{Dir}
use Rattle.geometry.specs.StarSteps.{turn_of, down_of}
use Rattle.growth.specs.Sheets.{vertex}
use Rattle.growth.specs.Normal.{Pt, rank, birth, move, birth-lt, birth-par}
use Rattle.growth.specs.Directions.{thirds, mod-12-4}
use Rattle.growth.specs.Parents.{par-at}
use Rattle.growth.specs.Closed.{T, T-lo, T-hi, T-off, full_at, full-par, rec}
use Rattle.together.specs.StarOpposites.{acute_of, mid_of, has_second}
use Rattle.together.specs.Cells.{add_turn, once, whole, even-turn, odd-turn, down_turn, one_parent, cell, v_of}
use Rattle.together.specs.Corners.{Mesh, pres, Alive, made-is, old-there, left_there, right_there, round-alive, Lesser, Degree, three, four, five}
use Rattle.together.specs.Corners.{full_record, Star, six, less, star-zero, star-of, not_yet, Acute, Gap, NotBoth, acute-place, gap-place}

-- ---- the table's rows
module _ (p : Pt) (b k : ℕ) (d : Dir k b) where
  abbrev star : ℕ → Record
  star n = vertex p.at n k b

  gap-0 : {s t : Bool} {n : ℕ} → Degree s t n → Gap (star n) 0 p k b false s
  unfolding turn_of down_of acute_of mid_of has_second
  gap-0 three =
      let l = d.0 in
      gap-place p 3 k b (omega arith) (omega arith) d 0 1 k false false (omega arith) (omega arith) refl refl refl (omega arith) refl refl refl refl
  gap-0 four =
      let l = d.0 in
      gap-place p 4 k b (omega arith) (omega arith) d 0 1 k false false (omega arith) (omega arith) refl refl refl (omega arith) refl refl refl refl
  gap-0 five =
      let l = d.0 in
      gap-place p 5 k b (omega arith) (omega arith) d 0 1 k false true (omega arith) (omega arith) refl refl refl (omega arith) refl refl refl refl

  gap-4 : {t : Bool} {n : ℕ} → Degree false t n → Gap (star n) 1 p ((k + 4) % 12) b false t
  unfolding turn_of down_of acute_of mid_of has_second
  gap-4 three =
      gap-place p 3 k b (omega arith) (omega arith) d 1 2 ((k + 4) % 12) false false (omega arith) (omega arith) refl refl (omega arith) refl refl
      (omega arith) refl refl
  gap-4 four =
      gap-place p 4 k b (omega arith) (omega arith) d 1 2 ((k + 4) % 12) false true (omega arith) (omega arith) refl refl (omega arith) refl refl
      (omega arith) refl refl

  -- the last place
  gap-8 : {s t : Bool} (n : ℕ) → Degree s t (suc n) → Gap (star (suc n)) n p ((k + 8) % 12) b t false
  unfolding turn_of down_of acute_of mid_of has_second
  gap-8 n three =
      let l = d.0 in
      gap-place p 3 k b (omega arith) (omega arith) d 2 0 ((k + 8) % 12) false false (omega arith) (omega arith) refl refl (omega arith) refl refl
      (omega arith) refl refl
  gap-8 n four =
      let l = d.0 in
      gap-place p 4 k b (omega arith) (omega arith) d 3 0 ((k + 8) % 12) true false (omega arith) (omega arith) refl refl (omega arith) (omega arith) refl
      (omega arith) refl refl
  gap-8 n five =
      let l = d.0 in
      gap-place p 5 k b (omega arith) (omega arith) d 4 0 ((k + 8) % 12) true false (omega arith) (omega arith) refl refl (omega arith) (omega arith) refl
      (omega arith) refl refl

  -- the place before it, where the last parent was subdivided
  round-8 : {s : Bool} (n : ℕ) → Degree s true (suc (suc n)) → Acute (star (suc (suc n))) n (cell p ((k + 7) % 12) (suc b))
  unfolding turn_of down_of acute_of
  round-8 n four = acute-place p 4 k b (omega arith) (omega arith) d 2 ((k + 7) % 12) (suc b) (omega arith) refl refl (omega arith)
  round-8 n five = acute-place p 5 k b (omega arith) (omega arith) d 3 ((k + 7) % 12) (suc b) (omega arith) refl refl (omega arith)

  round-4 : Acute (star 5) 1 (cell p ((k + 3) % 12) (suc b))
  unfolding turn_of down_of acute_of
  round-4 = acute-place p 5 k b (omega arith) (omega arith) d 1 ((k + 3) % 12) (suc b) (omega arith) refl refl (omega arith)

  between : Acute (star 5) 2 (cell p ((k + 5) % 12) (suc b))
  unfolding turn_of down_of acute_of
  between = acute-place p 5 k b (omega arith) (omega arith) d 2 ((k + 5) % 12) (suc b) (omega arith) refl refl (omega arith)

-- degree 6
six-row : (j : ℕ) → j < 6 → (turn_of 6 j ≡ 2 * j) × ((down_of 6 j ≡ 0) × (acute_of 6 j ≡ 1))
unfolding turn_of down_of acute_of
six-row j h = rule 6 (λ j. turn_of 6 j ≡? (2 * j) & down_of 6 j ≡? 0 & acute_of 6 j ≡? 1) tt j h

six-place : (p : Pt) (n j e : ℕ) → j < 6 → e ≡ 2 * j + n % 2 → Acute (vertex p.at 6 (n % 2) n) j (cell p e n)
six-place p n j e h q =
    let (t, (o, a)) = six-row j h in
    acute-place p 6 (n % 2) n (omega arith) (omega arith) (omega arith, two n) j e n h a (ap (λ (s : ℕ). (n % 2 + s) % 12) t ∙ omega arith)
    (ap (λ (s : ℕ). n + s) o ∙ omega arith)
  where
    two : (n : ℕ) → n % 2 % 2 ≡ n % 2
    two n = omega arith

pub ring-dir : (i j : ℕ) → j < 6 → Dir (2 * j + i % 2) i
ring-dir i j h = (omega arith, even j (i % 2) i (two i))
  where
    two : (i : ℕ) → i % 2 % 2 ≡ i % 2
    two i = omega arith

    even : (j x i : ℕ) → x % 2 ≡ i % 2 → (2 * j + x) % 2 ≡ i % 2
    even j x i h = omega arith

module _ (M : Mesh) where
  pub data Corner (p : Pt) (r : Record) (j : ℕ) : Type 0 where
    acute : (e i : ℕ) → Alive M (cell p e i) → T M.c p i ≡ false → Acute r j (cell p e i) → Corner p r j
    gap : (a b : ℕ) → rank p ≡ suc b → Dir a b → a % 4 ≡ birth p → (s t : Bool) → T M.c (move p a b) b ≡ s
        → T M.c (move p ((a + 4) % 12) b) b ≡ t → NotBoth s t → Gap r j p a b s t → Corner p r j

  six-corner : (p : Pt) (j : ℕ) → full_at M.H M.c p (rank p) ≡ true → j < 6 → Corner p (full_record M p) j
  six-corner p j f h =
      let n = rank p + M.c p in
      let e = 2 * j + n % 2 in
      let d : Dir e n = ring-dir n j h in
      acute e n
      (record {
        dir = d;
        low = omega arith;
        u-there = old-there M p e n d (omega arith) (omega arith) f;
        v-there = old-there M p ((e + 2) % 12) n (even-turn 2 e n refl d) (omega arith) (omega arith) f;
      })
      (T-off M.c p n refl) (six-place p n j e h refl)

  -- ---- of less than degree 6
  module _ (p : Pt) (b : ℕ) (f : rank p ≡ suc b) where
    abbrev S : ℕ → Bool
    S a = T M.c (move p a b) b

    -- beside a parent, in direction a, that was subdivided; and between two, in directions a and a + 4
    between-alive : (a : ℕ) → Dir a b → a % 4 ≡ birth p → S a ≡ true → S ((a + 4) % 12) ≡ true → Alive M (cell p ((a + 1) % 12) (suc b))
    between-alive a d k on on' =
        record {
          dir = odd-turn 1 a b refl d;
          low = omega arith;
          u-there = left_there M p a b f d k ∙ on;
          v-there = ap (λ (g : ℕ). pres M (move p g (suc b))) (add_turn a 1 2 ∙ sym (add_turn a 4 11 ∙ once a 3))
              ∙ right_there M p ((a + 4) % 12) b f (even-turn 4 a b refl d) (mod-12-4 (a + 4) ∙ sum a ∙ k) ∙ on';
        }
      where
        sum : (a : ℕ) → (a + 4) % 4 ≡ a % 4
        sum a = omega arith

    module _ (k : ℕ) {s t : Bool} (L : Lesser M p b k s t) where
      lesser-4 : Dir ((k + 4) % 12) b × ((k + 4) % 12 % 4 ≡ birth p)
      lesser-4 = (even-turn 4 k b refl L.dir, go k ∙ L.birth-is)
        where
          go : (k : ℕ) → (k + 4) % 12 % 4 ≡ k % 4
          go k = omega arith

      lesser-8 : Dir ((k + 8) % 12) b × ((k + 8) % 12 % 4 ≡ birth p)
      lesser-8 = (even-turn 8 k b refl L.dir, go k ∙ L.birth-is)
        where
          go : (k : ℕ) → (k + 8) % 12 % 4 ≡ k % 4
          go k = omega arith

      -- the next parent of each
      next-4 : S (((k + 4) % 12 + 4) % 12) ≡ t
      next-4 = ap S (add_turn k 4 4) ∙ L.s8

      next-8 : S (((k + 8) % 12 + 4) % 12) ≡ false
      next-8 = ap S (add_turn k 8 4 ∙ whole k L.dir.0) ∙ L.s0

      unsplit : (i : ℕ) → suc b ≤ i → T M.c p i ≡ false
      unsplit = not_yet M p b k f L.dir L.birth-is L.s0

      third : (a : ℕ) → Dir a b → a % 4 ≡ birth p → (a ≡ k) ⊎ ((a ≡ (k + 4) % 12) ⊎ (a ≡ (k + 8) % 12))
      third a d q = thirds a k d.0 L.dir.0 (q ∙ sym L.birth-is)

    right-false : {s t : Bool} → t ≡ false → NotBoth s t
    right-false e x y = not-both y e

    corner-0 : {s t : Bool} {n : ℕ} → Degree s t n → (k : ℕ) → Lesser M p b k s t → Corner p (vertex p.at n k b) 0
    corner-0 {s} w k L = gap k b f L.dir L.birth-is false s L.s0 L.s4 (λ x y. never x) (gap-0 p b k L.dir w)

    corner-4 : {t : Bool} {n : ℕ} → Degree false t n → (k : ℕ) → Lesser M p b k false t → Corner p (vertex p.at n k b) 1
    corner-4 {t} w k L =
        let (d, q) = lesser-4 k L in
        gap ((k + 4) % 12) b f d q false t L.s4 (next-4 k L) (λ x y. never x) (gap-4 p b k L.dir w)

    corner-8 : {s t : Bool} (n : ℕ) → Degree s t (suc n) → (k : ℕ) → Lesser M p b k s t → Corner p (vertex p.at (suc n) k b) n
    corner-8 {t = t} n w k L =
        let (d, q) = lesser-8 k L in
        gap ((k + 8) % 12) b f d q t false L.s8 (next-8 k L) (right-false refl) (gap-8 p b k L.dir n w)

    corner-round : {s : Bool} (n : ℕ) → Degree s true (suc (suc n)) → (k : ℕ) → Lesser M p b k s true → Corner p (vertex p.at (suc (suc n)) k b) n
    corner-round n w k L =
        let (d, q) = lesser-8 k L in
        acute ((k + 7) % 12) (suc b)
        (subst (λ (g : ℕ). Alive M (cell p g (suc b))) (add_turn k 8 11 ∙ once k 7) (round-alive M p ((k + 8) % 12) b f d q L.s8))
        (unsplit k L (suc b) (omega arith)) (round-8 p b k L.dir n w)

    less-corner : {s t : Bool} {n : ℕ} → Degree s t n → (k : ℕ) → Lesser M p b k s t → (j : ℕ) → j < n → Corner p (vertex p.at n k b) j
    less-corner w k L zero h = corner-0 w k L
    less-corner three k L (suc zero) h = corner-4 three k L
    less-corner three k L (suc (suc zero)) h = corner-8 2 three k L
    less-corner three k L (suc (suc (suc j))) h = absurd (omega arith)
    less-corner four k L (suc zero) h = corner-4 four k L
    less-corner four k L (suc (suc zero)) h = corner-round 2 four k L
    less-corner four k L (suc (suc (suc zero))) h = corner-8 3 four k L
    less-corner four k L (suc (suc (suc (suc j)))) h = absurd (omega arith)
    less-corner five k L (suc zero) h =
        let (d, q) = lesser-4 k L in
        acute ((k + 3) % 12) (suc b)
        (subst (λ (g : ℕ). Alive M (cell p g (suc b))) (add_turn k 4 11 ∙ once k 3) (round-alive M p ((k + 4) % 12) b f d q L.s4))
        (unsplit k L (suc b) (omega arith)) (round-4 p b k L.dir)
    less-corner five k L (suc (suc zero)) h =
        let (d, q) = lesser-4 k L in
        acute ((k + 5) % 12) (suc b)
        (subst (λ (g : ℕ). Alive M (cell p g (suc b))) (add_turn k 4 1) (between-alive ((k + 4) % 12) d q L.s4 (next-4 k L)))
        (unsplit k L (suc b) (omega arith)) (between p b k L.dir)
    less-corner five k L (suc (suc (suc zero))) h = corner-round 3 five k L
    less-corner five k L (suc (suc (suc (suc zero)))) h = corner-8 4 five k L
    less-corner five k L (suc (suc (suc (suc (suc j))))) h = absurd (omega arith)

  pub corners : (p : Pt) (r : Record) → rec M.H M.c p ≡ Some r → r.d ≢ 0 → (j : ℕ) → j < r.d → Corner p r j
  corners p r x n j h = go (rank p) refl
    where
      with-record : (q : Record) → r ≡ q → (j < q.d → Corner p q j) → Corner p r j
      with-record q e g = subst (λ (r : Record). Corner p r j) (sym e) (g (subst (λ (r : Record). j < r.d) e h))

      go : (f : ℕ) → rank p ≡ f → Corner p r j
      go zero e = let (full, q) = star-zero M p r x n e in with-record (full_record M p) q (six-corner p j (ap (full_at M.H M.c p) e ∙ full))
      go (suc b) e = by (star-of M p r x n b e)
        where
          by : Star M p r b → Corner p r j
          by (six full q) = with-record (full_record M p) q (six-corner p j (ap (full_at M.H M.c p) e ∙ full))
          by (less {d = d} w k L q) = with-record (vertex p.at d k b) q (less-corner p b e w k L j)

  -- ---- and back: each has its place
  pub gap_at : (p : Pt) (r : Record) → rec M.H M.c p ≡ Some r → r.d ≢ 0 → (a b : ℕ) → rank p ≡ suc b → Dir a b → a % 4 ≡ birth p
      → (s t : Bool) → T M.c (move p a b) b ≡ s → T M.c (move p ((a + 4) % 12) b) b ≡ t → NotBoth s t → (j : ℕ) × Gap r j p a b s t
  gap_at p r x n a b f d q s t hs ht un = by (star-of M p r x n b f)
    where
      W : ℕ → Bool
      W a = T M.c (move p a b) b

      full-dir : full_at M.H M.c p (suc b) ≡ true → (a : ℕ) → Dir a b → a % 4 ≡ birth p → W a ≡ true
      full-dir h a d k =
          ap (λ (q : Pt). T M.c q b) (sym (par-at p a b d.0 k)) ∙ full-par M.H M.c p b (a / 4) (let l = d.0 in omega arith) h

      pick : (g : Record) → r ≡ g → (j a' : ℕ) {s' t' : Bool} → a ≡ a' → W a' ≡ s' → W ((a' + 4) % 12) ≡ t' → Gap g j p a' b s' t' → (j : ℕ) × Gap r j p a b s t
      pick g e j a' {s'} {t'} ea h h' G =
          let es : s ≡ s' = sym hs ∙ ap W ea ∙ h in
          let et : t ≡ t' = sym ht ∙ ap (λ (g : ℕ). W ((g + 4) % 12)) ea ∙ h' in (
            j,
            subst (λ (r : Record). Gap r j p a b s t) (sym e) (subst (λ (a : ℕ). Gap g j p a b s t) (sym ea)
                (subst (λ (s : Bool). Gap g j p a' b s t) (sym es) (subst (λ (t : Bool). Gap g j p a' b s' t) (sym et) G))),
          )

      at : {s' t' : Bool} {m : ℕ} → Degree s' t' m → (k : ℕ) → Lesser M p b k s' t' → r ≡ vertex p.at m k b
          → (a ≡ k) ⊎ ((a ≡ (k + 4) % 12) ⊎ (a ≡ (k + 8) % 12)) → (j : ℕ) × Gap r j p a b s t
      at {m = m} w k L e (inl z) = pick (vertex p.at m k b) e 0 k z L.s0 L.s4 (gap-0 p b k L.dir w)
      at three k L e (inr (inl z)) = pick (vertex p.at 3 k b) e 1 ((k + 4) % 12) z L.s4 (next-4 p b f k L) (gap-4 p b k L.dir three)
      at four k L e (inr (inl z)) = pick (vertex p.at 4 k b) e 1 ((k + 4) % 12) z L.s4 (next-4 p b f k L) (gap-4 p b k L.dir four)
      at five k L e (inr (inl z)) = absurd (un (sym hs ∙ ap W z ∙ L.s4) (sym ht ∙ ap (λ (g : ℕ). W ((g + 4) % 12)) z ∙ next-4 p b f k L))
      at three k L e (inr (inr z)) = pick (vertex p.at 3 k b) e 2 ((k + 8) % 12) z L.s8 (next-8 p b f k L) (gap-8 p b k L.dir 2 three)
      at four k L e (inr (inr z)) = pick (vertex p.at 4 k b) e 3 ((k + 8) % 12) z L.s8 (next-8 p b f k L) (gap-8 p b k L.dir 3 four)
      at five k L e (inr (inr z)) = pick (vertex p.at 5 k b) e 4 ((k + 8) % 12) z L.s8 (next-8 p b f k L) (gap-8 p b k L.dir 4 five)

      by : Star M p r b → (j : ℕ) × Gap r j p a b s t
      by (six full e) =
          absurd (un (sym hs ∙ full-dir full a d q) (sym ht ∙ full-dir full ((a + 4) % 12) (even-turn 4 a b refl d) (mod-12-4 (a + 4) ∙ sum a ∙ q)))
        where
          sum : (a : ℕ) → (a + 4) % 4 ≡ a % 4
          sum a = omega arith
      by (less w k L e) = at w k L e (third p b f k L a d q)

  -- the level that p has come to
  pub level-is : (p : Pt) (e i : ℕ) → Dir e i → rank p ≤ i → pres M (move p e i) ≡ true → T M.c p i ≡ false → i ≡ rank p + M.c p
  level-is p e zero d l on off = let h = T-hi M.c p 0 off in omega arith
  level-is p e (suc i) d l on off = go (ℕ_discrete (rank p) (suc i))
    where
      h : rank p + M.c p ≤ suc i
      h = T-hi M.c p (suc i) off

      go : Dec (rank p ≡ suc i) → suc i ≡ rank p + M.c p
      go (yes q) = omega (arith, h)
      go (no q) = let m = T-lo M.c p i (sym (made-is M p e i d (omega arith)) ∙ on) in omega (arith, h)

  -- what lies at p in direction e, one level after its birth, is beside a parent that was subdivided: to its right, or to its left
  pub data Beside (p : Pt) (b e : ℕ) : Type 0 where
    right : (a : ℕ) → Dir a b → a % 4 ≡ birth p → e ≡ (a + 11) % 12 → T M.c (move p a b) b ≡ true → Beside p b e
    left : (a : ℕ) → Dir a b → a % 4 ≡ birth p → e ≡ (a + 1) % 12 → T M.c (move p a b) b ≡ true → Beside p b e

  pub beside : (p : Pt) (b e : ℕ) → rank p ≡ suc b → Dir e (suc b) → pres M (move p e (suc b)) ≡ true → Beside p b e
  beside p b e f d on = choose (ℕ_discrete ((e + 1) % 12 % 4) (birth p))
    where
      choose : Dec ((e + 1) % 12 % 4 ≡ birth p) → Beside p b e
      choose (yes q) =
          let a = (e + 1) % 12 in
          let da : Dir a b = down_turn 1 e b refl d in
          let is : (a + 11) % 12 ≡ e = add_turn e 1 11 ∙ whole e d.0 in
          right a da q (sym is) (sym (right_there M p a b f da q) ∙ ap (λ (g : ℕ). pres M (move p g (suc b))) is ∙ on)
      choose (no q) =
          let a = (e + 11) % 12 in
          let da : Dir a b = down_turn 11 e b refl d in
          let k : a % 4 ≡ birth p = (one_parent e b (birth p) d.1 (birth-lt p) (birth-par p b f) q).1 in
          let is : (a + 1) % 12 ≡ e = add_turn e 11 1 ∙ whole e d.0 in
          left a da k (sym is) (sym (left_there M p a b f da k) ∙ ap (λ (g : ℕ). pres M (move p g (suc b))) is ∙ on)

  -- ---- an acute corner of a vertex of less than degree 6, by the parent on its right, or on its left
  module _ (p : Pt) (b e : ℕ) (f : rank p ≡ suc b) where
    give : (g : Record) (j s k a y : ℕ) → e ≡ (a + y) % 12 → a ≡ (k + s) % 12 → Acute g j (cell p ((k + (s + y)) % 12) (suc b))
        → (j : ℕ) × Acute g j (cell p e (suc b))
    give g j s k a y h z G = (j, subst (λ (e : ℕ). Acute g j (cell p e (suc b))) (sym (h ∙ ap (λ (a : ℕ). (a + y) % 12) z ∙ add_turn k s y)) G)

    abbrev W : ℕ → Bool
    W a = T M.c (move p a b) b

    by_right : {s t : Bool} {m : ℕ} → Degree s t m → (k : ℕ) → Lesser M p b k s t → (a : ℕ) → e ≡ (a + 11) % 12 → W a ≡ true
        → (a ≡ k) ⊎ ((a ≡ (k + 4) % 12) ⊎ (a ≡ (k + 8) % 12)) → (j : ℕ) × Acute (vertex p.at m k b) j (cell p e (suc b))
    by_right w k L a h on (inl z) = absurd (not-both on (ap W z ∙ L.s0))
    by_right three k L a h on (inr (inl z)) = absurd (not-both on (ap W z ∙ L.s4))
    by_right four k L a h on (inr (inl z)) = absurd (not-both on (ap W z ∙ L.s4))
    by_right five k L a h on (inr (inl z)) =
        give (vertex p.at 5 k b) 1 4 k a 11 h z
        (subst (λ (g : ℕ). Acute (vertex p.at 5 k b) 1 (cell p g (suc b))) (sym (once k 3)) (round-4 p b k L.dir))
    by_right three k L a h on (inr (inr z)) = absurd (not-both on (ap W z ∙ L.s8))
    by_right four k L a h on (inr (inr z)) =
        give (vertex p.at 4 k b) 2 8 k a 11 h z
        (subst (λ (g : ℕ). Acute (vertex p.at 4 k b) 2 (cell p g (suc b))) (sym (once k 7)) (round-8 p b k L.dir 2 four))
    by_right five k L a h on (inr (inr z)) =
        give (vertex p.at 5 k b) 3 8 k a 11 h z
        (subst (λ (g : ℕ). Acute (vertex p.at 5 k b) 3 (cell p g (suc b))) (sym (once k 7)) (round-8 p b k L.dir 3 five))

    -- then v is to the right of the next parent, which was subdivided too
    by_left : {s t : Bool} {m : ℕ} → Degree s t m → (k : ℕ) → Lesser M p b k s t → (a : ℕ) → e ≡ (a + 1) % 12 → W a ≡ true → W ((a + 4) % 12) ≡ true
        → (a ≡ k) ⊎ ((a ≡ (k + 4) % 12) ⊎ (a ≡ (k + 8) % 12)) → (j : ℕ) × Acute (vertex p.at m k b) j (cell p e (suc b))
    by_left w k L a h on on' (inl z) = absurd (not-both on (ap W z ∙ L.s0))
    by_left three k L a h on on' (inr (inl z)) = absurd (not-both on (ap W z ∙ L.s4))
    by_left four k L a h on on' (inr (inl z)) = absurd (not-both on (ap W z ∙ L.s4))
    by_left five k L a h on on' (inr (inl z)) = give (vertex p.at 5 k b) 2 4 k a 1 h z (between p b k L.dir)
    by_left w k L a h on on' (inr (inr z)) = absurd (not-both on' (ap (λ (g : ℕ). W ((g + 4) % 12)) z ∙ next-8 p b f k L))

    next-on : (a : ℕ) → Dir a b → a % 4 ≡ birth p → e ≡ (a + 1) % 12 → pres M (v_of (cell p e (suc b))) ≡ true → W ((a + 4) % 12) ≡ true
    next-on a d q h v =
        sym (right_there M p ((a + 4) % 12) b f (even-turn 4 a b refl d) (mod-12-4 (a + 4) ∙ sum a ∙ q))
        ∙ ap (λ (g : ℕ). pres M (move p g (suc b))) (add_turn a 4 11 ∙ once a 3 ∙ sym (ap (λ (e : ℕ). (e + 2) % 12) h ∙ add_turn a 1 2)) ∙ v
      where
        sum : (a : ℕ) → (a + 4) % 4 ≡ a % 4
        sum a = omega arith

    at_less : {s t : Bool} {m : ℕ} → Degree s t m → (k : ℕ) → Lesser M p b k s t → Alive M (cell p e (suc b))
        → (j : ℕ) × Acute (vertex p.at m k b) j (cell p e (suc b))
    at_less {m = m} w k L B = side (beside p b e f B.dir B.u-there)
      where
        side : Beside p b e → (j : ℕ) × Acute (vertex p.at m k b) j (cell p e (suc b))
        side (right a d q h on) = by_right w k L a h on (third p b f k L a d q)
        side (left a d q h on) = by_left w k L a h on (next-on a d q h B.v-there) (third p b f k L a d q)

  pub acute-at : (p : Pt) (r : Record) → rec M.H M.c p ≡ Some r → r.d ≢ 0 → (e i : ℕ) → Alive M (cell p e i) → T M.c p i ≡ false
      → (j : ℕ) × Acute r j (cell p e i)
  acute-at p r x n e i A off = go (rank p) refl
    where
      i-is : i ≡ rank p + M.c p
      i-is = level-is p e i A.dir A.low A.u-there off

      half : (e x : ℕ) → e % 2 ≡ x → e ≡ 2 * (e / 2) + x
      half e x h = omega arith

      at-six : r ≡ full_record M p → (j : ℕ) × Acute r j (cell p e i)
      at-six q =
          let m = rank p + M.c p in
          let l = A.dir.0 in
          let g = six-place p m (e / 2) e (omega arith) (half e (m % 2) (A.dir.1 ∙ ap (λ (i : ℕ). i % 2) i-is)) in
          (e / 2, subst (λ (r : Record). Acute r (e / 2) (cell p e i)) (sym q) (subst (λ (i : ℕ). Acute (full_record M p) (e / 2) (cell p e i)) (sym i-is) g))

      go : (f : ℕ) → rank p ≡ f → (j : ℕ) × Acute r j (cell p e i)
      go zero f = at-six (star-zero M p r x n f).1
      go (suc b) f = by (star-of M p r x n b f)
        where
          by : Star M p r b → (j : ℕ) × Acute r j (cell p e i)
          by (six full q) = at-six q
          by (less {d = m} w k L q) =
              let z = T-hi M.c p (suc b) (unsplit p b f k L (suc b) (omega arith)) in
              let h : i ≡ suc b = omega (arith, i-is) in
              let (j, G) = at_less p b e f w k L (subst (λ (i : ℕ). Alive M (cell p e i)) h A) in
              (j, subst (λ (r : Record). Acute r j (cell p e i)) (sym q) (subst (λ (i : ℕ). Acute (vertex p.at m k b) j (cell p e i)) (sym h) G))
