-- The base's laws: round a point that is inside the base everything is in the base.
-- `base-out` a point of rank 0 inside the base has its six unit neighbours there · `base-in` so have the points of rank 1 their three parents ·
-- `inside-in` what is inside is in it.
-- Why: two unit neighbours of a corner that are a twelfth of a turn and a sixth apart are neighbours themselves (`fan`), so a hexagon round one corner
-- is round the next.
-- Assumes nothing.
use Rattle.std.specs.Prelude.{◌≡◌, Bool, true, false, cond, ◌&&◌, ◌||◌, ℕ, ◌+◌, ◌*◌, ◌%◌, ◌≤◌, ◌<◌, T, eqb}
use Rattle.std.proofs.Common.{sym, ◌∙◌, subst, arith}
use Rattle.std.proofs.Math.Decide.{ℕ_discrete}
use Rattle.laws.specs.Bools.{and_left, and_right}
use Rattle.laws.specs.Choices.{or_left, or_right}
use Rattle.geometry.specs.SideLaws.{Dir}
use Rattle.lattice.specs.Points.{class_of}
use Rattle.geometry.specs.RankLaws.{ground-first, ground-base}
use Rattle.lattice.specs.declared.points.Point.{Point}
use Rattle.growth.specs.Normal.{Pt, rank, birth, move, back, fan, birth-lt, birth-par, out-rank, out-birth, in-rank}
use Rattle.growth.specs.Sheets.{hexagon_round, given_by, inside_base}
use Rattle.growth.specs.Directions.{mod4}

-- ---- three tests in every fourth direction from g
all3 : (f : ℕ → Bool) (g e : ℕ) → g < 4 → e < 12 → e % 4 ≡ g → T (f g && (f (g + 4) && f (g + 8))) → T (f e)
all3 f g e hg he h a = go (ℕ_discrete e g) (ℕ_discrete e (g + 4))
  where
    rest : T (f (g + 4) && f (g + 8))
    rest = and_right (f g) (f (g + 4) && f (g + 8)) a

    go : Dec (e ≡ g) → Dec (e ≡ g + 4) → T (f e)
    go (yes x) y = subst (λ (n : ℕ). T (f n)) (sym x) (and_left (f g) (f (g + 4) && f (g + 8)) a)
    go (no x) (yes y) = subst (λ (n : ℕ). T (f n)) (sym y) (and_left (f (g + 4)) (f (g + 8)) rest)
    go (no x) (no y) = let w : e ≡ g + 8 = omega arith in subst (λ (n : ℕ). T (f n)) (sym w) (and_right (f (g + 4)) (f (g + 8)) rest)

any3 : (f : ℕ → Bool) (g e : ℕ) → g < 4 → e < 12 → e % 4 ≡ g → T (f e) → T (f g || (f (g + 4) || f (g + 8)))
any3 f g e hg he h a = go (ℕ_discrete e g) (ℕ_discrete e (g + 4))
  where
    go : Dec (e ≡ g) → Dec (e ≡ g + 4) → T (f g || (f (g + 4) || f (g + 8)))
    go (yes x) y = or_left (f g) (f (g + 4) || f (g + 8)) (subst (λ (n : ℕ). T (f n)) x a)
    go (no x) (yes y) = or_right (f g) (f (g + 4) || f (g + 8)) (or_left (f (g + 4)) (f (g + 8)) (subst (λ (n : ℕ). T (f n)) y a))
    go (no x) (no y) = let w : e ≡ g + 8 = omega arith in or_right (f g) (f (g + 4) || f (g + 8))
        (or_right (f (g + 4)) (f (g + 8)) (subst (λ (n : ℕ). T (f n)) w a))

-- ---- classes of points of rank 0 and 1
pub class-zero : (p : Pt) → rank p ≡ 0 → class_of p.at ≡ 1
unfolding rank
class-zero p f = (ground-first p.at p.normal (omega arith)).1

pub class-one : (p : Pt) → rank p ≡ 1 → birth p ≡ class_of p.at
unfolding rank birth
class-one p f = (ground-base p.at p.normal f).2

module _ (H : Point → Bool) where
  -- the listed centres round p, by directions
  abbrev round : Pt → ℕ → Bool
  round p e = H (move p e 0).at

  -- what the base says of a corner, at its class
  in_one : (p : Pt) → class_of p.at ≡ 1 → T (round p 2 || (round p 6 || round p 10)) → T (given_by H p.at)
  unfolding move
  in_one p c t = rw c t

  in_two : (p : Pt) → class_of p.at ≡ 2 → T (round p 0 || (round p 4 || round p 8)) → T (given_by H p.at)
  unfolding move
  in_two p c t = rw c t

  in-centre : (p : Pt) → class_of p.at ≡ 0 → T (H p.at) → T (given_by H p.at)
  in-centre p c t = rw c t

  inside_one : (p : Pt) → class_of p.at ≡ 1 → T (inside_base H p.at) → T (round p 2 && (round p 6 && round p 10))
  unfolding move
  inside_one p c t = rw c at t

  inside-two : (p : Pt) → class_of p.at ≡ 2 → T (inside_base H p.at) → T (round p 0 && (round p 4 && round p 8))
  unfolding move
  inside-two p c t = rw c at t

  inside-centre : (p : Pt) → class_of p.at ≡ 0 → T (inside_base H p.at) → T (H p.at)
  inside-centre p c t = rw c at t

  pub base-out : (q : Pt) (e : ℕ) → rank q ≡ 0 → T (inside_base H q.at) → Dir e 0 → T (given_by H (move q e 0).at)
  base-out q e f h he = go (ℕ_discrete (e % 4) 2)
    where
      p : Pt
      p = move q e 0

      k : class_of p.at ≡ (e + 6) % 4
      k = sym (class-one p (out-rank q e 0 he (omega arith))) ∙ out-birth q e 0 he (omega arith)

      a : T (round q 2 && (round q 6 && round q 10))
      a = inside_one q (class-zero q f) h

      go : Dec (e % 4 ≡ 2) → T (given_by H p.at)
      go (yes x) = in-centre p (k ∙ omega arith) (all3 (round q) 2 e (omega arith) he.0 x a)
      go (no x) =
          let z : e % 4 ≡ 0 = zero4 e he.1 x in
          let b = all3 (round q) 2 ((e + 2) % 12) (omega arith) (omega arith) (m2 e z) a in
          let c : T (round p ((e + 4) % 12)) = subst (λ (y : Pt). T (H y.at)) (sym (fan q e 0 he)) b in
          in_two p (k ∙ omega arith) (any3 (round p) 0 ((e + 4) % 12) (omega arith) (omega arith) (m4 e z) c)
        where
          zero4 : (e : ℕ) → e % 2 ≡ 0 → (e % 4 ≡ 2 → ⊥) → e % 4 ≡ 0
          zero4 e h n = omega arith

          m2 : (e : ℕ) → e % 4 ≡ 0 → (e + 2) % 12 % 4 ≡ 2
          m2 e h = omega arith

          m4 : (e : ℕ) → e % 4 ≡ 0 → (e + 4) % 12 % 4 ≡ 0
          m4 e h = omega arith

  pub base-in : (p : Pt) (t : ℕ) → rank p ≡ 1 → T (inside_base H p.at) → t < 3 → T (given_by H (move p (birth p + 4 * t) 0).at)
  base-in p t f h ht = in_one q (class-zero q (omega (arith, fq))) (go (ℕ_discrete (birth p) 0))
    where
      g : ℕ
      g = birth p + 4 * t

      hg : Dir g 0
      hg = let l = birth-lt p in let k = birth-par p 0 f in (omega arith, even (birth p) t k)
        where
          even : (k t : ℕ) → k % 2 ≡ 0 → (k + 4 * t) % 2 ≡ 0
          even k t h = omega arith

      q : Pt
      q = move p g 0

      fq : rank q ≤ 0
      fq = in-rank p g 0 hg.0 f (mod4 (birth p) t (birth-lt p))

      c : birth p ≡ class_of p.at
      c = class-one p f

      go : Dec (birth p ≡ 0) → T (round q 2 || (round q 6 || round q 10))
      go (yes z) =
          let b : T (round q ((g + 6) % 12)) = subst (λ (y : Pt). T (H y.at)) (sym (back p g 0 hg)) (inside-centre p (sym c ∙ z) h) in
          any3 (round q) 2 ((g + 6) % 12) (omega arith) (omega arith) (six2 (birth p) t z) b
        where
          six2 : (k t : ℕ) → k ≡ 0 → (k + 4 * t + 6) % 12 % 4 ≡ 2
          six2 k t h = omega arith
      go (no z) =
          let l = birth-lt p in
          let k = birth-par p 0 f in
          let two : birth p ≡ 2 = omega arith in
          let b : T (round q ((g + 4) % 12)) = subst (λ (y : Pt). T (H y.at)) (sym (fan p g 0 hg))
          (all3 (round p) 0 ((g + 2) % 12) (omega arith) (omega arith) (m0 (birth p) t two) (inside-two p (sym c ∙ two) h)) in
          any3 (round q) 2 ((g + 4) % 12) (omega arith) (omega arith) (m2 (birth p) t two) b
        where
          m0 : (k t : ℕ) → k ≡ 2 → (k + 4 * t + 2) % 12 % 4 ≡ 0
          m0 k t h = omega arith

          m2 : (k t : ℕ) → k ≡ 2 → (k + 4 * t + 4) % 12 % 4 ≡ 2
          m2 k t h = omega arith

  pub inside-in : (p : Point) → T (inside_base H p) → T (given_by H p)
  inside-in p h = go (eqb (class_of p) 0) h
    where
      some : (x y z : Bool) → T (x && (y && z)) → T (x || (y || z))
      some true y z h = tt
      some false y z h = absurd h

      go : (b : Bool) → T (cond b (H p) (H (hexagon_round p 0) && (H (hexagon_round p 1) && H (hexagon_round p 2))))
          → T (cond b (H p) (H (hexagon_round p 0) || (H (hexagon_round p 1) || H (hexagon_round p 2))))
      go true h = h
      go false h = some (H (hexagon_round p 0)) (H (hexagon_round p 1)) (H (hexagon_round p 2)) h
