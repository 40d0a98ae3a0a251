-- The test of one record and what it says are one: `tested`, `local-tested`. `there-some`, `some-there` what `there` says; `over-six`, `six-over` what
-- `over` says.
-- Assumes nothing.
use Rattle.std.specs.Prelude.{◌≡◌, refl, ◌≢◌, ◌⊎◌, true, false, cond, ◌&&◌, ◌||◌, not, eqb, ltb, leb, Option, Some, None}
use Rattle.std.proofs.Common.{sym, ◌∙◌, ap, inl, inr, arith, eqb→eq, leb→le, ltb→lt, le→leb, lt→ltb, T_not, eq-eqb}
use Rattle.std.proofs.Math.Path.{subst}
use Rattle.std.proofs.Math.Bool.{Bool}
use Prim.Native.Nat.{ℕ, zero, suc, ◌*◌, ◌-◌, ◌%◌, ◌≤◌, ◌<◌}
use Rattle.std.proofs.Math.Decide.{ℕ_discrete}
use Rattle.std.proofs.Math.Dec.{T, not_T}
use Rattle.laws.specs.Bools.{and_left, and_right, and_both}
use Rattle.laws.specs.Choices.{or_split, or_left, or_right, of-true, when_true_lem, when_false}
use Rattle.laws.specs.Rules.{upto, upto-at}
use Rattle.lattice.specs.Stars.{adjacent_at}
use Rattle.lattice.specs.Points.{class_of}
use Rattle.lattice.specs.Ranks.{rank_of, birth_of, move_of, parent_of, creator_of}
use Rattle.lattice.specs.declared.points.Point.{Point}
use Rattle.lattice.specs.declared.records.Record.{Record}
use Rattle.growth.specs.Sheets.{Sheet, vertex, hexagon_round}
use Rattle.growth.specs.Updates.{splits-at}
use Rattle.growth.specs.Local.{is_there, is_over, there, over, centre_test, corner_test, deep_test, said_by, expected, star_test, six_test, local_test}
use Rattle.growth.specs.Local.{Here, Local}

-- ---- lookups
pub there-some : (R : Sheet) (p : Point) → Here R p → (r : Record) × (R p ≡ Some r)
unfolding there
there-some R p t = go (R p) refl t
  where
    go : (o : Option Record) → R p ≡ o → T (is_there o) → (r : Record) × (R p ≡ Some r)
    go None e t = absurd t
    go (Some r) e t = (r, e)

pub some-there : (R : Sheet) (p : Point) (r : Record) → R p ≡ Some r → Here R p
unfolding there
some-there R p r e = subst (λ (o : Option Record). T (is_there o)) (sym e) tt

pub over-six : (R : Sheet) (q : Point) (b : ℕ) → T (over R q b) → (u : Record) × (R q ≡ Some u) × (u.d ≡ 6) × (b < u.n.0)
unfolding over
over-six R q b t = go (R q) refl t
  where
    go : (o : Option Record) → R q ≡ o → T (is_over b o) → (u : Record) × (R q ≡ Some u) × (u.d ≡ 6) × (b < u.n.0)
    go None e t = absurd t
    go (Some u) e t = (u, e, eqb→eq u.d 6 (and_left (eqb u.d 6) (ltb b u.n.0) t), ltb→lt b u.n.0 (and_right (eqb u.d 6) (ltb b u.n.0) t))

pub six-over : (R : Sheet) (q : Point) (b : ℕ) (u : Record) → R q ≡ Some u → u.d ≡ 6 → b < u.n.0 → T (over R q b)
unfolding over
six-over R q b u e d l = subst (λ (o : Option Record). T (is_over b o)) (sym e)
    (and_both (eqb u.d 6) (ltb b u.n.0) (of-true (eq-eqb u.d 6 d)) (lt→ltb b u.n.0 l))

-- a record is its point, degree, orientation and level
record-eq : (r s : Record) → r.at ≡ s.at → r.d ≡ s.d → r.k ≡ s.k → r.n.0 ≡ s.n.0 → r ≡ s
record-eq r s a d k n = λ i. vertex (a i) (d i) (k i) (n i)

upto_all : (n : ℕ) (f : ℕ → Bool) → ((k : ℕ) → k < n → T (f k)) → T (upto n f)
upto_all zero f h = tt
upto_all (suc n) f h = and_both (f n) (upto n f) (h n (omega arith)) (upto_all n f (λ k l. h k (omega arith)))

not-zero : (d : ℕ) → T (not (eqb d 0)) → d ≢ 0
not-zero d t e = T_not (eqb d 0) t (of-true (eq-eqb d 0 e))

zero-not : (d : ℕ) → d ≢ 0 → T (not (eqb d 0))
zero-not d n = not_T (eqb d 0) (λ t. n (eqb→eq d 0 t))

-- one of three
any-three : (f : ℕ → Bool) → T (f 0 || (f 1 || f 2)) → (t : ℕ) × (t < 3) × T (f t)
any-three f h = go (or_split (f 0) (f 1 || f 2) h)
  where
    go : T (f 0) ⊎ T (f 1 || f 2) → (t : ℕ) × (t < 3) × T (f t)
    go (inl x) = (0, omega arith, x)
    go (inr y) = by (or_split (f 1) (f 2) y)
      where
        by : T (f 1) ⊎ T (f 2) → (t : ℕ) × (t < 3) × T (f t)
        by (inl x) = (1, omega arith, x)
        by (inr x) = (2, omega arith, x)

three-any : (f : ℕ → Bool) (t : ℕ) → t < 3 → T (f t) → T (f 0 || (f 1 || f 2))
three-any f zero l h = or_left (f 0) (f 1 || f 2) h
three-any f (suc zero) l h = or_right (f 0) (f 1 || f 2) (or_left (f 1) (f 2) h)
three-any f (suc (suc zero)) l h = or_right (f 0) (f 1 || f 2) (or_right (f 1) (f 2) h)
three-any f (suc (suc (suc t))) l h = absurd (omega arith)

module _ (R : Sheet) (r : Record) where
  expected-at : (expected R r).at ≡ r.at
  unfolding expected
  expected-at = go (eqb (rank_of r.at) 0)
    where
      b : ℕ
      b = rank_of r.at - 1

      go : (x : Bool) → (cond x (vertex r.at 6 (r.n.0 % 2) r.n.0) (said_by R r.at r.n.0)).at ≡ r.at
      go true = refl
      go false = splits-at r.at (over R (parent_of r.at 0) b) (over R (parent_of r.at 1) b) (over R (parent_of r.at 2) b) (birth_of r.at) b r.n.0

  -- which of the three kinds of points it is
  abbrev place : Bool
  place = cond (eqb r.at.m.0 0) (cond (eqb (class_of r.at) 0) (centre_test R r) (corner_test R r)) (deep_test R r)

  pick-centre : r.at.m.0 ≡ 0 → class_of r.at ≡ 0 → place ≡ centre_test R r
  pick-centre m c =
      when_true_lem (eqb r.at.m.0 0) (cond (eqb (class_of r.at) 0) (centre_test R r) (corner_test R r)) (deep_test R r) (of-true (eq-eqb r.at.m.0 0 m))
      ∙ when_true_lem (eqb (class_of r.at) 0) (centre_test R r) (corner_test R r) (of-true (eq-eqb (class_of r.at) 0 c))

  pick-corner : r.at.m.0 ≡ 0 → class_of r.at ≢ 0 → place ≡ corner_test R r
  pick-corner m c =
      when_true_lem (eqb r.at.m.0 0) (cond (eqb (class_of r.at) 0) (centre_test R r) (corner_test R r)) (deep_test R r) (of-true (eq-eqb r.at.m.0 0 m))
      ∙ when_false (eqb (class_of r.at) 0) (centre_test R r) (corner_test R r) (λ t. c (eqb→eq (class_of r.at) 0 t))

  pick-deep : r.at.m.0 ≢ 0 → place ≡ deep_test R r
  pick-deep m =
      when_false (eqb r.at.m.0 0) (cond (eqb (class_of r.at) 0) (centre_test R r) (corner_test R r)) (deep_test R r) (λ t. m (eqb→eq r.at.m.0 0 t))

  abbrev round : ℕ → Bool
  round t = there R (hexagon_round r.at t)

  -- ---- from the test to what it says
  pub tested : T (local_test R r) → Local R r
  unfolding local_test
  tested t =
      record {
        centre = λ m c.
            let u = subst T (pick-centre m c) a in (
              not-zero r.d (and_left (not (eqb r.d 0)) corners u),
              upto-at 6 (λ j. there R (move_of r.at (2 * j) 0))
                  (and_right (not (eqb r.d 0)) corners u),
            );
        corner = λ m c.
            let u = subst T (pick-corner m c) a in
            let v = and_right (round 0 || (round 1 || round 2)) whole u in (
              any-three round (and_left (round 0 || (round 1 || round 2)) whole u),
              (λ n. upto-at 3 round (all_of (upto 3 round) r.d v n)),
              λ h. of-all (upto 3 round) r.d v (upto_all 3 round h),
            );
        deep = λ m.
            let u = subst T (pick-deep (λ z. omega arith)) a in
            let v = and_right (not (eqb r.d 0)) (parents && over R (creator_of r.at) (rank_of r.at - 2)) u in (
              not-zero r.d (and_left (not (eqb r.d 0)) (parents && over R (creator_of r.at) (rank_of r.at - 2)) u),
              upto-at 3 (λ t. there R (parent_of r.at t)) (and_left parents (over R (creator_of r.at) (rank_of r.at - 2)) v),
              and_right parents (over R (creator_of r.at) (rank_of r.at - 2)) v,
            );
        star = λ n. says (or_split (eqb r.d 0) (star_test R r) (and_left (eqb r.d 0 || star_test R r) (not (eqb r.d 6) || six_test R r) b)) n;
        six = λ n. high (or_split (not (eqb r.d 6)) (six_test R r) (and_right (eqb r.d 0 || star_test R r) (not (eqb r.d 6) || six_test R r) b)) n;
      }
    where
      a : T place
      a = and_left place ((eqb r.d 0 || star_test R r) && (not (eqb r.d 6) || six_test R r)) t

      b : T ((eqb r.d 0 || star_test R r) && (not (eqb r.d 6) || six_test R r))
      b = and_right place ((eqb r.d 0 || star_test R r) && (not (eqb r.d 6) || six_test R r)) t

      corners : Bool
      corners = upto 6 (λ j. there R (move_of r.at (2 * j) 0))

      parents : Bool
      parents = upto 3 (λ t. there R (parent_of r.at t))

      whole : Bool
      whole = cond (upto 3 round) (not (eqb r.d 0)) (eqb r.d 0)

      all_of : (x : Bool) (d : ℕ) → T (cond x (not (eqb d 0)) (eqb d 0)) → d ≢ 0 → T x
      all_of true d h n = tt
      all_of false d h n = n (eqb→eq d 0 h)

      of-all : (x : Bool) (d : ℕ) → T (cond x (not (eqb d 0)) (eqb d 0)) → T x → d ≢ 0
      of-all true d h y = not-zero d h
      of-all false d h y = absurd y

      says : T (eqb r.d 0) ⊎ T (star_test R r) → r.d ≢ 0 → r ≡ expected R r
      says (inl z) n = absurd (n (eqb→eq r.d 0 z))
      says (inr z) n =
          let w = and_right (eqb r.d (expected R r).d) (eqb r.k (expected R r).k && eqb r.n.0 (expected R r).n.0) z in
          record-eq r (expected R r) (sym expected-at) (eqb→eq r.d (expected R r).d
          (and_left (eqb r.d (expected R r).d) (eqb r.k (expected R r).k && eqb r.n.0 (expected R r).n.0) z))
          (eqb→eq r.k (expected R r).k (and_left (eqb r.k (expected R r).k) (eqb r.n.0 (expected R r).n.0) w))
          (eqb→eq r.n.0 (expected R r).n.0 (and_right (eqb r.k (expected R r).k) (eqb r.n.0 (expected R r).n.0) w))

      high : T (not (eqb r.d 6)) ⊎ T (six_test R r) → r.d ≡ 6 → (rank_of r.at ≤ r.n.0) × ((j : ℕ) → j < 6 → Here R (adjacent_at r j))
      high (inl z) n = absurd (T_not (eqb r.d 6) z (of-true (eq-eqb r.d 6 n)))
      high (inr z) n = (
        leb→le (rank_of r.at) r.n.0 (and_left (leb (rank_of r.at) r.n.0) (upto 6 (λ j. there R (adjacent_at r j))) z),
        upto-at 6 (λ j. there R (adjacent_at r j)) (and_right (leb (rank_of r.at) r.n.0) (upto 6 (λ j. there R (adjacent_at r j))) z),
      )

  -- ---- and back
  pub local-tested : Local R r → T (local_test R r)
  unfolding local_test
  local-tested l =
      and_both place ((eqb r.d 0 || star_test R r) && (not (eqb r.d 6) || six_test R r))
      (kind (ℕ_discrete r.at.m.0 0) (ℕ_discrete (class_of r.at) 0))
      (and_both (eqb r.d 0 || star_test R r) (not (eqb r.d 6) || six_test R r) (says (ℕ_discrete r.d 0)) (high (ℕ_discrete r.d 6)))
    where
      corners : Bool
      corners = upto 6 (λ j. there R (move_of r.at (2 * j) 0))

      parents : Bool
      parents = upto 3 (λ t. there R (parent_of r.at t))

      exact : (x : Bool) (d : ℕ) → (d ≢ 0 → T x) → (T x → d ≢ 0) → T (cond x (not (eqb d 0)) (eqb d 0))
      exact true d f g = zero-not d (g tt)
      exact false d f g = of-true (eq-eqb d 0 (nought d f))
        where
          nought : (d : ℕ) → (d ≢ 0 → ⊥) → d ≡ 0
          nought zero f = refl
          nought (suc d) f = absurd (f (λ e. omega arith))

      kind : Dec (r.at.m.0 ≡ 0) → Dec (class_of r.at ≡ 0) → T place
      kind (yes m) (yes c) =
          let (n, h) = l.centre m c in
          subst T (sym (pick-centre m c)) (and_both (not (eqb r.d 0)) corners (zero-not r.d n) (upto_all 6 (λ j. there R (move_of r.at (2 * j) 0)) h))
      kind (yes m) (no c) =
          let ((t, ht, x), f, g) = l.corner m c in
          subst T (sym (pick-corner m c))
          (and_both (round 0 || (round 1 || round 2)) (cond (upto 3 round) (not (eqb r.d 0)) (eqb r.d 0)) (three-any round t ht x)
          (exact (upto 3 round) r.d (λ n. upto_all 3 round (f n)) (λ y. g (upto-at 3 round y))))
      kind (no m) c =
          let (n, h, o) = l.deep (omega arith) in
          subst T (sym (pick-deep m))
          (and_both (not (eqb r.d 0)) (parents && over R (creator_of r.at) (rank_of r.at - 2)) (zero-not r.d n)
          (and_both parents (over R (creator_of r.at) (rank_of r.at - 2)) (upto_all 3 (λ t. there R (parent_of r.at t)) h) o))

      same : (x y : ℕ) → x ≡ y → T (eqb x y)
      same x y e = of-true (eq-eqb x y e)

      says : Dec (r.d ≡ 0) → T (eqb r.d 0 || star_test R r)
      says (yes z) = or_left (eqb r.d 0) (star_test R r) (same r.d 0 z)
      says (no n) =
          let e = l.star n in
          or_right (eqb r.d 0) (star_test R r)
          (and_both (eqb r.d (expected R r).d) (eqb r.k (expected R r).k && eqb r.n.0 (expected R r).n.0)
          (same r.d (expected R r).d (ap (λ (x : Record). x.d) e))
          (and_both (eqb r.k (expected R r).k) (eqb r.n.0 (expected R r).n.0) (same r.k (expected R r).k (ap (λ (x : Record). x.k) e))
          (same r.n.0 (expected R r).n.0 (ap (λ (x : Record). x.n.0) e))))

      high : Dec (r.d ≡ 6) → T (not (eqb r.d 6) || six_test R r)
      high (no n) = or_left (not (eqb r.d 6)) (six_test R r) (not_T (eqb r.d 6) (λ t. n (eqb→eq r.d 6 t)))
      high (yes z) =
          let (h, f) = l.six z in
          or_right (not (eqb r.d 6)) (six_test R r)
          (and_both (leb (rank_of r.at) r.n.0) (upto 6 (λ j. there R (adjacent_at r j))) (le→leb (rank_of r.at) r.n.0 h)
          (upto_all 6 (λ j. there R (adjacent_at r j)) f))
