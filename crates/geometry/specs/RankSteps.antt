-- What a step does to ranks. A point of rank at most i, stepped from at level i, leads to one of rank i + 1 (`out-rank`), born with the step's direction
-- turned back (`out-birth`). A point of rank i + 1 has three neighbours of rank at most i, in every fourth direction from its birth orientation
-- (`in-rank`); if i is at least 1, one of them has a rank below i (`creator`).
-- Why: at depth (i + 1) / 2 the point and the step are whole, the steps leave on division by 3 what a table of the twelve directions says, and
-- remainders add up. For the creator the remainders by 9 decide.
-- Assumes nothing.
use Rattle.std.specs.Prelude.{◌≡◌, ◌⊎◌, cond, ℕ, zero, suc, ◌+◌, ◌*◌, ◌%◌, ◌/◌, ◌≤◌, ◌<◌, ◌-◌, ◌^◌, T, eqb, ℤ, pos, ◌*ℤ◌, ◌-ℤ◌}
use Rattle.std.proofs.Common.{sym, ◌∙◌, ap, subst, inl, inr, arith}
use Rattle.std.proofs.Math.IntN.{*ℤ_comm}
use Rattle.laws.specs.Residue.{mod_z}
use Rattle.laws.specs.Linear.{same, ‵, ◌⊝◌, ◌⊗◌}
use Rattle.laws.specs.Rules.{Test, ◌≡?◌, ◌≤?◌, ◌&◌, ◌⇒◌, run, upto, upto-at, rule2}
use Rattle.laws.specs.Thirds.{three-below, three-minus, nine-three, nine-below, nine-thrice}
use Rattle.lattice.specs.Points.{is_normal, lift}
use Rattle.lattice.specs.Places.{wide, high, lift-lift}
use Rattle.lattice.specs.Patterns.{orient}
use Rattle.lattice.specs.Points.{class_of}
use Rattle.lattice.specs.Ranks.{rank_of, birth_of, move_of}
use Rattle.geometry.specs.SideLaws.{Dir, vector}
use Rattle.geometry.specs.SubdivisionLaws.{sum-normal}
use Rattle.lattice.specs.declared.points.Point.{Point}
use Rattle.geometry.specs.RankLaws.{ra, rb, rc, rank_between, birth-parity, LevelKind, ground, uneven, paired, level-kind, deep_of, zeros}
use Rattle.geometry.specs.RankLaws.{class-own, step-a, step-b, step-c, step-9, step-depth, even-row, odd-row, one, ground-in, ground-out}
use Rattle.geometry.specs.RankLaws.{ground-first, ground-base, uneven-in, uneven-out, uneven-low, uneven-born, uneven-class, paired-in}
use Rattle.geometry.specs.RankLaws.{paired-out, paired-low, paired-born}

-- ---- from a point of rank at most i, a step of level i
module _ (q : Point) (e i : ℕ) (t : T (is_normal q)) (d : Dir e i) (l : rank_of q ≤ i) where
  abbrev s : Point
  s = move_of q e i

  abbrev tc : ℕ
  tc = mod_z ((one e).a -ℤ (one e).b) 3

  ts : T (is_normal s)
  ts = sum-normal q (vector e i)

  -- it is whole at the step's depth
  whole : q.m.0 ≤ deep_of i
  whole = omega (arith, (rank_between q t).0)

  abbrev Out : Type 0
  Out = (rank_of s ≡ suc i) × (birth_of s ≡ (e + 6) % 4)

  out-ground : i ≡ 0 → Out
  out-ground z =
      let (m, c) = ground-first q t (omega arith) in
      let ds = step-depth q e i d whole in
      let D : deep_of i ≡ 0 = omega arith in
      let x : class_of s ≡ (1 + tc) % 3 = sym (class-own s (deep_of i) (omega arith)) ∙ step-c q e i d whole
      ∙ ap (λ (n : ℕ). (n + tc) % 3) (class-own q (deep_of i) (omega arith) ∙ c) in
      by (even-row e d.0 (d.1 ∙ ap (λ (n : ℕ). n % 2) z)) x (omega arith)
    where
      by : ((e % 4 ≡ 0) × (tc ≡ 1)) ⊎ ((e % 4 ≡ 2) × (tc ≡ 2)) → class_of s ≡ (1 + tc) % 3 → s.m.0 ≡ 0 → Out
      by (inl (k, v)) x m = let y : class_of s ≡ 2 = x ∙ ap (λ (n : ℕ). (1 + n) % 3) v in let (r, b) = ground-out s ts m (omega arith) in
          (omega arith, b ∙ omega arith)
      by (inr (k, v)) x m = let y : class_of s ≡ 0 = x ∙ ap (λ (n : ℕ). (1 + n) % 3) v in let (r, b) = ground-out s ts m (omega arith) in
          (omega arith, b ∙ omega arith)

  out-uneven : (h : ℕ) → i ≡ 2 * h + 1 → Out
  out-uneven h z =
      let D : deep_of i ≡ suc h = omega arith in
      let m = uneven-low q t h (omega arith) in
      let (za, zb) = zeros q h m in
      let ds : s.m.0 ≤ suc h = rw D at (step-depth q e i d whole) in
      let x : ra (suc h) s ≡ (0 + mod_z (one e).a 3) % 3 = ap (λ (n : ℕ). ra n s) (sym D) ∙ step-a q e i d whole
      ∙ ap (λ (n : ℕ). (ra n q + mod_z (one e).a 3) % 3) D ∙ ap (λ (n : ℕ). (n + mod_z (one e).a 3) % 3) za in
      let y : rb (suc h) s ≡ (0 + mod_z (one e).b 3) % 3 = ap (λ (n : ℕ). rb n s) (sym D) ∙ step-b q e i d whole
      ∙ ap (λ (n : ℕ). (rb n q + mod_z (one e).b 3) % 3) D ∙ ap (λ (n : ℕ). (n + mod_z (one e).b 3) % 3) zb in
      by (odd-row e d.0 (d.1 ∙ ap (λ (n : ℕ). n % 2) z ∙ odd1 h)) x y ds
    where
      odd1 : (h : ℕ) → (2 * h + 1) % 2 ≡ 1
      odd1 h = omega arith

      by : ((e % 4 ≡ 1) × (mod_z (one e).a 3 ≡ 1) × (mod_z (one e).b 3 ≡ 1)) ⊎ ((e % 4 ≡ 3) × (mod_z (one e).a 3 ≡ 2) × (mod_z (one e).b 3 ≡ 2))
          → ra (suc h) s ≡ (0 + mod_z (one e).a 3) % 3 → rb (suc h) s ≡ (0 + mod_z (one e).b 3) % 3 → s.m.0 ≤ suc h → Out
      by (inl (k, v, w)) x y ds =
          let a : ra (suc h) s ≡ 1 = x ∙ ap (λ (n : ℕ). (0 + n) % 3) v in
          let b : rb (suc h) s ≡ 1 = y ∙ ap (λ (n : ℕ). (0 + n) % 3) w in
          let (r, o) = uneven-out s ts h ds (omega arith) (three-minus (wide (suc h) s) (high (suc h) s) ∙ (λ i. (a i + 2 * b i) % 3)) in
          (omega arith, o ∙ omega arith)
      by (inr (k, v, w)) x y ds =
          let a : ra (suc h) s ≡ 2 = x ∙ ap (λ (n : ℕ). (0 + n) % 3) v in
          let b : rb (suc h) s ≡ 2 = y ∙ ap (λ (n : ℕ). (0 + n) % 3) w in
          let (r, o) = uneven-out s ts h ds (omega arith) (three-minus (wide (suc h) s) (high (suc h) s) ∙ (λ i. (a i + 2 * b i) % 3)) in
          (omega arith, o ∙ omega arith)

  out-paired : (h : ℕ) → i ≡ 2 * h + 2 → Out
  out-paired h z =
      let D : deep_of i ≡ suc h = omega arith in
      let (m, c) = paired-low q t h (omega arith) in
      let ds : s.m.0 ≤ suc h = rw D at (step-depth q e i d whole) in
      let x : rc 3 (suc h) s ≡ (0 + tc) % 3 = ap (λ (n : ℕ). rc 3 n s) (sym D) ∙ step-c q e i d whole ∙ ap (λ (n : ℕ). (rc 3 n q + tc) % 3) D
      ∙ ap (λ (n : ℕ). (n + tc) % 3) c in
      by (even-row e d.0 (d.1 ∙ ap (λ (n : ℕ). n % 2) z ∙ even2 h)) x ds
    where
      even2 : (h : ℕ) → (2 * h + 2) % 2 ≡ 0
      even2 h = omega arith

      by : ((e % 4 ≡ 0) × (tc ≡ 1)) ⊎ ((e % 4 ≡ 2) × (tc ≡ 2)) → rc 3 (suc h) s ≡ (0 + tc) % 3 → s.m.0 ≤ suc h → Out
      by (inl (k, v)) x ds = let y : rc 3 (suc h) s ≡ 1 = x ∙ ap (λ (n : ℕ). (0 + n) % 3) v in let (r, o) = paired-out s ts h ds (omega arith) in
          (omega arith, o ∙ omega arith)
      by (inr (k, v)) x ds = let y : rc 3 (suc h) s ≡ 2 = x ∙ ap (λ (n : ℕ). (0 + n) % 3) v in let (r, o) = paired-out s ts h ds (omega arith) in
          (omega arith, o ∙ omega arith)

  out : LevelKind i → Out
  out (ground z) = out-ground z
  out (uneven h z) = out-uneven h z
  out (paired h z) = out-paired h z

  pub out-rank : rank_of (move_of q e i) ≡ suc i
  out-rank = (out (level-kind i)).0

  pub out-birth : birth_of (move_of q e i) ≡ (e + 6) % 4
  out-birth = (out (level-kind i)).1

-- ---- from a point of rank i + 1, in a direction of its birth: to a rank of at most i
four-two : (e k i : ℕ) → e % 4 ≡ k → k % 2 ≡ i % 2 → e % 2 ≡ i % 2
four-two e k i h p = omega arith

module _ (p : Point) (e i : ℕ) (t : T (is_normal p)) (he : e < 12) (f : rank_of p ≡ suc i) (k : e % 4 ≡ birth_of p) where
  pub in-dir : Dir e i
  in-dir = (he, four-two e (birth_of p) i k (birth-parity p i t f))

  abbrev r : Point
  r = move_of p e i

  tr : T (is_normal r)
  tr = sum-normal p (vector e i)

  in_whole : p.m.0 ≤ deep_of i
  in_whole = omega (arith, (rank_between p t).0)

  in-ground : i ≡ 0 → rank_of r ≤ i
  in-ground z =
      let (m, c, b) = ground-base p t (omega arith) in
      let ds = step-depth p e i in-dir in_whole in
      let x : class_of r ≡ (class_of p + mod_z ((one e).a -ℤ (one e).b) 3) % 3 =
      sym (class-own r (deep_of i) (omega arith)) ∙ step-c p e i in-dir in_whole
      ∙ ap (λ (n : ℕ). (n + mod_z ((one e).a -ℤ (one e).b) 3) % 3) (class-own p (deep_of i) (omega arith)) in
      let y : class_of r ≡ 1 = by (even-row e he (in-dir.1 ∙ ap (λ (n : ℕ). n % 2) z)) b x in
      omega (arith, ground-in r tr (omega arith) y)
    where
      by : ((e % 4 ≡ 0) × (mod_z ((one e).a -ℤ (one e).b) 3 ≡ 1)) ⊎ ((e % 4 ≡ 2) × (mod_z ((one e).a -ℤ (one e).b) 3 ≡ 2)) → birth_of p ≡ class_of p
          → class_of r ≡ (class_of p + mod_z ((one e).a -ℤ (one e).b) 3) % 3 → class_of r ≡ 1
      by (inl (j, v)) b x = let c : class_of p ≡ 0 = omega arith in x ∙ (λ i. (c i + v i) % 3)
      by (inr (j, v)) b x = let c : class_of p ≡ 2 = omega arith in x ∙ (λ i. (c i + v i) % 3)

  in-uneven : (h : ℕ) → i ≡ 2 * h + 1 → rank_of r ≤ i
  in-uneven h z =
      let D : deep_of i ≡ suc h = omega arith in
      let (m, a, ab, b) = uneven-born p t h (omega arith) in
      let ds : r.m.0 ≤ suc h = rw D at (step-depth p e i in-dir in_whole) in
      let x : ra (suc h) r ≡ (ra (suc h) p + mod_z (one e).a 3) % 3 = ap (λ (n : ℕ). ra n r) (sym D) ∙ step-a p e i in-dir in_whole
      ∙ ap (λ (n : ℕ). (ra n p + mod_z (one e).a 3) % 3) D in
      let y : rb (suc h) r ≡ (ra (suc h) p + mod_z (one e).b 3) % 3 =
      ap (λ (n : ℕ). rb n r) (sym D) ∙ step-b p e i in-dir in_whole ∙ ap (λ (n : ℕ). (rb n p + mod_z (one e).b 3) % 3) D
      ∙ ap (λ (n : ℕ). (n + mod_z (one e).b 3) % 3) ab in
      let (u, v) = by (odd-row e he (in-dir.1 ∙ ap (λ (n : ℕ). n % 2) z ∙ odd1 h)) a (three-below (wide (suc h) p)) b x y in
      omega (arith, uneven-in r tr h ds u v)
    where
      odd1 : (h : ℕ) → (2 * h + 1) % 2 ≡ 1
      odd1 h = omega arith

      by : ((e % 4 ≡ 1) × (mod_z (one e).a 3 ≡ 1) × (mod_z (one e).b 3 ≡ 1)) ⊎ ((e % 4 ≡ 3) × (mod_z (one e).a 3 ≡ 2) × (mod_z (one e).b 3 ≡ 2))
          → 0 < ra (suc h) p → ra (suc h) p < 3 → birth_of p ≡ 5 - 2 * ra (suc h) p → ra (suc h) r ≡ (ra (suc h) p + mod_z (one e).a 3) % 3
          → rb (suc h) r ≡ (ra (suc h) p + mod_z (one e).b 3) % 3
          → (ra (suc h) r ≡ 0) × (rb (suc h) r ≡ 0)
      by (inl (j, v, w)) a a' b x y = let c : ra (suc h) p ≡ 2 = omega arith in (x ∙ (λ i. (c i + v i) % 3), y ∙ (λ i. (c i + w i) % 3))
      by (inr (j, v, w)) a a' b x y = let c : ra (suc h) p ≡ 1 = omega arith in (x ∙ (λ i. (c i + v i) % 3), y ∙ (λ i. (c i + w i) % 3))

  in-paired : (h : ℕ) → i ≡ 2 * h + 2 → rank_of r ≤ i
  in-paired h z =
      let D : deep_of i ≡ suc h = omega arith in
      let (m, c, b) = paired-born p t h (omega arith) in
      let ds : r.m.0 ≤ suc h = rw D at (step-depth p e i in-dir in_whole) in
      let x : rc 3 (suc h) r ≡ (rc 3 (suc h) p + mod_z ((one e).a -ℤ (one e).b) 3) % 3 =
      ap (λ (n : ℕ). rc 3 n r) (sym D) ∙ step-c p e i in-dir in_whole ∙ ap (λ (n : ℕ). (rc 3 n p + mod_z ((one e).a -ℤ (one e).b) 3) % 3) D in
      omega (
        arith,
        paired-in r tr h ds (by (even-row e he (in-dir.1 ∙ ap (λ (n : ℕ). n % 2) z ∙ even2 h)) c
            (three-below (wide (suc h) p -ℤ high (suc h) p)) b x),
      )
    where
      even2 : (h : ℕ) → (2 * h + 2) % 2 ≡ 0
      even2 h = omega arith

      by : ((e % 4 ≡ 0) × (mod_z ((one e).a -ℤ (one e).b) 3 ≡ 1)) ⊎ ((e % 4 ≡ 2) × (mod_z ((one e).a -ℤ (one e).b) 3 ≡ 2)) → 0 < rc 3 (suc h) p
          → rc 3 (suc h) p < 3 → birth_of p ≡ 4 - 2 * rc 3 (suc h) p
          → rc 3 (suc h) r ≡ (rc 3 (suc h) p + mod_z ((one e).a -ℤ (one e).b) 3) % 3 → rc 3 (suc h) r ≡ 0
      by (inl (j, v)) c c' b x = let w : rc 3 (suc h) p ≡ 2 = omega arith in x ∙ (λ i. (w i + v i) % 3)
      by (inr (j, v)) c c' b x = let w : rc 3 (suc h) p ≡ 1 = omega arith in x ∙ (λ i. (w i + v i) % 3)

  pub in-rank : rank_of (move_of p e i) ≤ i
  in-rank = go (level-kind i)
    where
      go : LevelKind i → rank_of r ≤ i
      go (ground z) = in-ground z
      go (uneven h z) = in-uneven h z
      go (paired h z) = in-paired h z

-- ---- the creator: of the three neighbours of rank at most i + 1, one has a rank of at most i
-- at an even level: x and y are what the numerators leave, and the direction takes both to 0
abbrev even_way : ℕ → ℕ → ℕ
even_way x y = cond (eqb ((x + 2 * y) % 3) 1) (2 + 4 * x) (8 - 4 * x)

even-way : (x y : ℕ) → x < 3 → y < 3 → 0 < (x + 2 * y) % 3
    → (even_way x y ≤ 11) × ((even_way x y % 4 ≡ 4 - 2 * ((x + 2 * y) % 3))
    × (((x + mod_z (one (even_way x y)).a 3) % 3 ≡ 0) × ((y + mod_z (one (even_way x y)).b 3) % 3 ≡ 0)))
unfolding orient
even-way x y hx hy =
    rule2 3 3
    (λ x y. 1 ≤? ((x + 2 * y) % 3)
    ⇒ even_way x y ≤? 11 & (even_way x y % 4) ≡? (4 - 2 * ((x + 2 * y) % 3)) & ((x + mod_z (one (even_way x y)).a 3) % 3) ≡? 0
    & ((y + mod_z (one (even_way x y)).b 3) % 3) ≡? 0)
    tt x hx y hy

-- at an odd level: x is what a numerator leaves, 3g what the difference leaves of 9, and the direction takes that to 3w
abbrev odd_way : ℕ → ℕ → ℕ → ℕ
odd_way w g x = cond (eqb x 1) ((7 + 4 * ((w + 3 - g) % 3)) % 12) ((1 + 8 * ((w + 3 - g) % 3)) % 12)

odd-way : (w g x : ℕ) → w < 2 → g < 3 → x < 3 → 0 < x
    → (odd_way w g x ≤ 11) × ((odd_way w g x % 4 ≡ 5 - 2 * x) × ((3 * g + mod_z ((one (odd_way w g x)).a -ℤ (one (odd_way w g x)).b) 9) % 9 ≡ 3 * w))
unfolding orient
odd-way w g x hw hg hx =
    let f : ℕ → ℕ → ℕ → Test = λ w g x.
    1 ≤? x ⇒ odd_way w g x ≤? 11 & (odd_way w g x % 4) ≡? (5 - 2 * x) & ((3 * g + mod_z ((one (odd_way w g x)).a -ℤ (one (odd_way w g x)).b) 9) % 9) ≡? (3 * w) in
    rule2 3 3 (f w) (upto-at 2 (λ w. upto 3 (λ g. upto 3 (λ x. run (f w g x)))) tt w hw) g hg x hx

module _ (p : Point) (t : T (is_normal p)) where
  abbrev Creator : ℕ → Type 0
  Creator i = (e : ℕ) × (e < 12) × (e % 4 ≡ birth_of p) × (rank_of (move_of p e (suc i)) ≤ i)

  creator-paired : (i h : ℕ) → suc i ≡ 2 * h + 2 → rank_of p ≡ suc (suc i) → Creator i
  creator-paired i h z f =
      let D : deep_of (suc i) ≡ suc h = omega arith in
      let (m, c, b) = paired-born p t h (omega arith) in
      let x = ra (suc h) p in
      let y = rb (suc h) p in
      let cl : rc 3 (suc h) p ≡ (x + 2 * y) % 3 = three-minus (wide (suc h) p) (high (suc h) p) in
      let (l, (k, (u, v))) = even-way x y (three-below (wide (suc h) p)) (three-below (high (suc h) p)) (omega arith) in
      let e = even_way x y in
      let k' : e % 4 ≡ birth_of p = k ∙ ap (λ (n : ℕ). 4 - 2 * n) (sym cl) ∙ sym b in
      let d = in-dir p e (suc i) t (omega arith) f k' in
      let w = in_whole p e (suc i) t (omega arith) f k' in
      let ds : (move_of p e (suc i)).m.0 ≤ suc h = rw D at (step-depth p e (suc i) d w) in (
        e,
        omega arith,
        k',
        below i h z (uneven-in (move_of p e (suc i)) (sum-normal p (vector e (suc i))) h ds
            (ap (λ (n : ℕ). ra n (move_of p e (suc i))) (sym D) ∙ step-a p e (suc i) d w ∙ ap (λ (n : ℕ). (ra n p + mod_z (one e).a 3) % 3) D ∙ u)
            (ap (λ (n : ℕ). rb n (move_of p e (suc i))) (sym D) ∙ step-b p e (suc i) d w ∙ ap (λ (n : ℕ). (rb n p + mod_z (one e).b 3) % 3) D ∙ v)),
      )
    where
      below : (i h : ℕ) → suc i ≡ 2 * h + 2 → {n : ℕ} → n ≤ 2 * h + 1 → n ≤ i
      below i h z l = omega arith

  -- a point of depth at most h: its difference at depth h + 1 is three times that at depth h
  thrice : (q : Point) (h : ℕ) → q.m.0 ≤ h → rc 9 (suc h) q ≡ 3 * rc 3 h q
  thrice q h l = ap (λ (z : ℤ). mod_z z 9) (λ i. one_more q.a i -ℤ one_more q.b i) ∙ ap (λ (z : ℤ). mod_z z 9) (sub3 (wide h q) (high h q))
      ∙ nine-thrice (wide h q -ℤ high h q)
    where
      one_more : (z : ℤ) → lift z q.m.0 (suc h) ≡ lift z q.m.0 h *ℤ pos 3
      one_more z = let e : suc h - h ≡ 1 = omega arith in sym (lift-lift z q.m.0 h (suc h) l (omega arith))
          ∙ ap (λ (k : ℕ). lift z q.m.0 h *ℤ pos (3 ^ k)) e

      sub3 : (x y : ℤ) → x *ℤ pos 3 -ℤ y *ℤ pos 3 ≡ (x -ℤ y) *ℤ pos 3
      sub3 x y = (λ i. *ℤ_comm x (pos 3) i -ℤ *ℤ_comm y (pos 3) i) ∙ same (3 ⊗ ‵ x ⊝ 3 ⊗ ‵ y) (3 ⊗ (‵ x ⊝ ‵ y)) (omega arith) ∙ *ℤ_comm (pos 3) (x -ℤ y)

  -- what the difference at depth h has to leave: 1 at depth 0, else 0
  abbrev goal : ℕ → ℕ
  goal zero = 1
  goal (suc h) = 0

  reached : (q : Point) (h : ℕ) → T (is_normal q) → q.m.0 ≤ h → rc 3 h q ≡ goal h → rank_of q ≤ 2 * h
  reached q zero s l c = omega (arith, ground-in q s (omega arith) (sym (class-own q 0 (omega arith)) ∙ c))
  reached q (suc h) s l c = omega (arith, paired-in q s h l c)

  goal-below : (h : ℕ) → goal h < 2
  goal-below zero = omega arith
  goal-below (suc h) = omega arith

  creator-uneven : (i h : ℕ) → suc i ≡ 2 * h + 1 → rank_of p ≡ suc (suc i) → Creator i
  creator-uneven i h z f =
      let D : deep_of (suc i) ≡ suc h = omega arith in
      let (m, a, ab, b) = uneven-born p t h (omega arith) in
      let x = ra (suc h) p in
      let n = rc 9 (suc h) p in
      let g = n / 3 in
      let nb = nine-below (wide (suc h) p -ℤ high (suc h) p) in
      let n3 : n % 3 ≡ 0 = nine-three (wide (suc h) p -ℤ high (suc h) p) ∙ class-own p (suc h) m ∙ uneven-class p t h (omega arith) in
      let (l, (k, u)) = odd-way (goal h) g x (goal-below h) (omega arith) (three-below (wide (suc h) p)) a in
      let e = odd_way (goal h) g x in
      let k' : e % 4 ≡ birth_of p = k ∙ sym b in
      let d = in-dir p e (suc i) t (omega arith) f k' in
      let w = in_whole p e (suc i) t (omega arith) f k' in
      let q = move_of p e (suc i) in
      let low : q.m.0 ≤ h = uneven-low q (sum-normal p (vector e (suc i))) h (subst (λ (k : ℕ). rank_of q ≤ k) z (in-rank p e (suc i) t (omega arith) f k')) in
      let g3 : n ≡ 3 * g = omega arith in
      let r9 : rc 9 (suc h) q ≡ 3 * goal h =
      ap (λ (n : ℕ). rc 9 n q) (sym D) ∙ step-9 p e (suc i) d w ∙ ap (λ (j : ℕ). (rc 9 j p + mod_z ((one e).a -ℤ (one e).b) 9) % 9) D
      ∙ ap (λ (j : ℕ). (j + mod_z ((one e).a -ℤ (one e).b) 9) % 9) g3 ∙ u in
      let r3 : rc 3 h q ≡ goal h = third (rc 3 h q) (goal h) (sym (thrice q h low) ∙ r9) in
      (e, omega arith, k', half i h z (reached q h (sum-normal p (vector e (suc i))) low r3))
    where
      third : (x y : ℕ) → 3 * x ≡ 3 * y → x ≡ y
      third x y h = omega arith

      half : (i h : ℕ) → suc i ≡ 2 * h + 1 → {n : ℕ} → n ≤ 2 * h → n ≤ i
      half i h z l = omega arith

  pub creator : (i : ℕ) → rank_of p ≡ suc (suc i) → (e : ℕ) × (e < 12) × (e % 4 ≡ birth_of p) × (rank_of (move_of p e (suc i)) ≤ i)
  creator i f = go (level-kind (suc i))
    where
      go : LevelKind (suc i) → Creator i
      go (ground z) = absurd (omega arith)
      go (uneven h z) = creator-uneven i h z f
      go (paired h z) = creator-paired i h z f
