-- M3, the other half: each record of the mesh of H and c passes the local test.
-- Presence and levels are read off the mesh as the model has them (`there-is`, `over-is`); the parents of a point that is there are there, since its
-- creator is and the two others are adjacents of the creator at a level that it has had (`parents-there`).
-- `there-is`, `over-is` · `parents-there` · `closed-local` M3.
-- Assumes nothing.
use Rattle.std.specs.Prelude.{◌≡◌, ◌≢◌, Bool, false, ◌&&◌, eqb, Some, None}
use Rattle.std.proofs.Math.Path.{refl, sym, ap, subst}
use Rattle.std.proofs.Common.{◌∙◌, eq-eqb}
use Rattle.std.proofs.Math.Bool.{true, cond}
use Prim.Native.Nat.{ℕ, zero, suc, ◌+◌, ◌*◌, ◌%◌, ◌-◌, ◌≤◌, ◌<◌}
use native.Mathlib.Omega.{arith}
use Rattle.std.proofs.Math.Decide.{ℕ_discrete}
use Rattle.std.proofs.Math.Dec.{eqb→eq}
use Rattle.laws.specs.Choices.{is_true, of-true, when_true_lem, when_false}
use Rattle.laws.specs.Each.{same_test}
use Rattle.lattice.specs.Points.{is_normal}
use Rattle.lattice.specs.Stars.{adjacent_at}
use Rattle.lattice.specs.Points.{class_of}
use Rattle.lattice.specs.Ranks.{rank_of, birth_of, move_of, parent_of}
use Rattle.geometry.specs.RankLaws.{rank_between}
use Rattle.lattice.specs.declared.points.Point.{Point}
use Rattle.lattice.specs.declared.records.Record.{Record}
use Rattle.growth.specs.Sheets.{Sheet, vertex, hexagon_round, given_by, inside_base}
use Rattle.growth.specs.Model.{Counts, subdivided, present_of, internal_of, by_splits, star_record, mesh_of}
use Rattle.growth.specs.Normal.{Pt, rank, birth, move, out-rank}
use Rattle.growth.specs.Parents.{par, creator_of, par-rank, creator-ex, creator-is, creator-rank, parents-near}
use Rattle.growth.specs.Closed.{look, T, T-lo, T-lt, star_at, pres_at, int_at, full_at, rec-at, Good}
use Rattle.growth.specs.Updates.{splits-less, splits-some, look-inv, look-here, look-inside}
use Rattle.growth.specs.Subdivide.{six-record, closed-adjacent, record-normal}
use Rattle.growth.specs.Link.{at, par-is, record_is, good-in}
use Rattle.growth.specs.Hexagons.{hexagon-centre, in-any, any-in, inside-all, all-inside, centre-in, centre-inside, corner-ground, corner-not}
use Rattle.growth.specs.Hexagons.{corner-hexagon}
use Rattle.growth.specs.Local.{over, said_by, expected, Here, Local}
use Rattle.growth.specs.LocalTests.{there-some, some-there, over-six, six-over}
use Rattle.std.proofs.Math.Dec as D
use Rattle.lattice.specs.Ranks as L
use Rattle.growth.specs.Model as M
use Rattle.growth.specs.Closed as C
use Rattle.growth.specs.OneStep as One
use Rattle.growth.specs.Link as K

-- ---- the parents of a point that is there are there
module _ (H : Point → Bool) (c : Pt → ℕ) (good : Good H c) where
  pub creator-full : (p : Pt) (i : ℕ) → rank p ≡ suc (suc i) → T c (creator_of p i) i ≡ true → full_at H c (creator_of p i) (rank (creator_of p i)) ≡ true
  creator-full p i f o = let l = T-lo c (creator_of p i) i o in let k = creator-rank p i f in good (creator_of p i) (omega arith)

  pub parents-there : (p : Pt) (i t : ℕ) → rank p ≡ suc (suc i) → T c (creator_of p i) i ≡ true → t < 3
      → pres_at H c (par p t (suc i)) (rank (par p t (suc i))) ≡ true
  parents-there p i t f o ht =
      let (u, hu, k) = creator-ex p i f in
      go u hu k (creator-is p i u hu f k) (ℕ_discrete t u)
    where
      go : (u : ℕ) → u < 3 → rank (par p u (suc i)) ≤ i → creator_of p i ≡ par p u (suc i) → Dec (t ≡ u)
          → pres_at H c (par p t (suc i)) (rank (par p t (suc i))) ≡ true
      go u hu k e (yes z) =
          let w : par p t (suc i) ≡ creator_of p i = ap (λ (s : ℕ). par p s (suc i)) z ∙ sym e in
          subst (λ (q : Pt). pres_at H c q (rank q) ≡ true) (sym w) (One.present-full H c (creator_of p i) (rank (creator_of p i)) refl (creator-full p i f o))
      go u hu k e (no z) =
          let (g, dg, m) = parents-near p i t u ht hu z f in
          let x = creator_of p i in
          let l = T-lo c x i o in
          let w : par p t (suc i) ≡ move x g i = m ∙ ap (λ (q : Pt). move q g i) (sym e) in
          let r = creator-rank p i f in
          let y : pres_at H c (move x g i) (suc i) ≡ true = One.present-old H c x g i dg r (omega arith) (creator-full p i f o) in
          subst (λ (q : Pt). pres_at H c q (rank q) ≡ true) (sym w) (ap (pres_at H c (move x g i)) (out-rank x g i dg r) ∙ y)

-- ---- the mesh of H and c
module _ (H : Point → Bool) (c : Counts) (good : M.Good H c) where
  abbrev R : Sheet
  R = mesh_of H c

  -- a point is there where the model has it
  pub there-is : (p : Pt) → pres_at H (at c) p (rank p) ≡ true → Here R p.at
  there-is p h =
      let (r, x) = look-here (pres_at H (at c) p (rank p)) (int_at H p (rank p)) p.at (star_at (at c) p (rank p)) h in
      some-there R p.at r (record_is c H p ∙ rec-at H (at c) p (rank p) refl ∙ x)

  -- and was subdivided at a level where its degree is 6 and its level above
  over-is : (q : Pt) (i : ℕ) → rank q ≤ i → over R q.at i ≡ T (at c) q i
  over-is q i l = same_test (over R q.at i) (T (at c) q i) to from
    where
      to : over R q.at i ≡ true → T (at c) q i ≡ true
      to o =
          let (u, x, d, n) = over-six R q.at i (of-true o) in
          let e = (One.six H (at c) q u (sym (record_is c H q) ∙ x) d).2 in
          T-lt (at c) q i (let z = ap (λ (r : Record). r.n.0) e in omega arith)

      from : T (at c) q i ≡ true → over R q.at i ≡ true
      from t =
          let m = T-lo (at c) q i t in
          let f = good-in c H good q (omega arith) in
          is_true (over R q.at i)
          (six-over R q.at i (vertex q.at 6 ((rank q + c q.at) % 2) (rank q + c q.at)) (record_is c H q ∙ One.rec-full H (at c) q f) refl m)

  -- ---- depth 0
  star-some : (p : Point) (b n : ℕ) → (star_record c p b n).d ≢ 0
  star-some p b n = go (eqb (rank_of p) 0)
    where
      go : (x : Bool) → (cond x (vertex p 6 (n % 2) n) (by_splits p (subdivided c (parent_of p 0) b) (subdivided c (parent_of p 1) b)
          (subdivided c (parent_of p 2) b) (birth_of p) b n)).d ≢ 0
      go true e = omega arith
      go false e = splits-some p (subdivided c (parent_of p 0) b) (subdivided c (parent_of p 1) b) (subdivided c (parent_of p 2) b) (birth_of p) b n e

  module _ (p : Point) (m : p.m.0 ≡ 0) where
    abbrev star : Record
    star = star_record c p (rank_of p - 1) (rank_of p + c p)

    ground-is : R p ≡ look (given_by H p) (inside_base H p) p star
    unfolding mesh_of present_of internal_of
    ground-is =
        (λ i. cond (flag (given_by H p) (is_normal p && subdivided c (L.creator_of p) (rank_of p - 2)) i)
        (Some (cond (flag (inside_base H p) true i) star (vertex p 0 0 0))) None)
        ∙ sym (K.look_is c H (given_by H p) (inside_base H p) p star)
      where
        flag : (x y : Bool) → cond (eqb p.m.0 0) x y ≡ x
        flag x y = when_true_lem (eqb p.m.0 0) x y (of-true (eq-eqb p.m.0 0 m))

    ground-there : D.T (given_by H p) → Here R p
    ground-there h = let (r, x) = look-here (given_by H p) (inside_base H p) p star (is_true (given_by H p) h) in some-there R p r (ground-is ∙ x)

    ground-in : Here R p → D.T (given_by H p)
    ground-in h = let (r, x) = there-some R p h in of-true (look-inv (given_by H p) (inside_base H p) p star r (sym ground-is ∙ x)).0

    ground-inside : (r : Record) → R p ≡ Some r → (D.T (inside_base H p) → r.d ≢ 0) × (r.d ≢ 0 → D.T (inside_base H p))
    ground-inside r x =
        let y = sym ground-is ∙ x in (
          (λ h d. star-some p (rank_of p - 1) (rank_of p + c p)
              (ap (λ (w : Record). w.d) (sym ((look-inv (given_by H p) (inside_base H p) p star r y).1 (is_true (inside_base H p) h))) ∙ d)),
          λ n. of-true (look-inside (given_by H p) (inside_base H p) p star r y n).1,
        )

  hexagon-there : (p : Point) → p.m.0 ≡ 0 → class_of p ≢ 0 → (t : ℕ) → t < 3 → D.T (H (hexagon_round p t)) → Here R (hexagon_round p t)
  hexagon-there p m z t h k = let (m', z') = hexagon-centre p m z t h in
      ground-there (hexagon_round p t) m' (subst D.T (sym (centre-in H (hexagon_round p t) z')) k)

  there-hexagon : (p : Point) → p.m.0 ≡ 0 → class_of p ≢ 0 → (t : ℕ) → t < 3 → Here R (hexagon_round p t) → D.T (H (hexagon_round p t))
  there-hexagon p m z t h k = let (m', z') = hexagon-centre p m z t h in subst D.T (centre-in H (hexagon_round p t) z') (ground-in (hexagon_round p t) m' k)

  local-centre : (p : Point) (r : Record) → R p ≡ Some r → p.m.0 ≡ 0 → class_of p ≡ 0 → (r.d ≢ 0) × ((j : ℕ) → j < 6 → Here R (move_of p (2 * j) 0))
  local-centre p r x m z =
      let k : D.T (H p) = subst D.T (centre-in H p z) (ground-in p m (some-there R p r x)) in (
        (ground-inside p m r x).0 (subst D.T (sym (centre-inside H p z)) k),
        λ j h. (let (t, ht, e) = corner-hexagon p m z j h in
            ground-there (move_of p (2 * j) 0) (corner-ground p m z j h)
            (any-in H (move_of p (2 * j) 0) (corner-not p m z j h) t ht (subst (λ (q : Point). D.T (H q)) (sym e) k))),
      )

  local-corner : (p : Point) (r : Record) → R p ≡ Some r → p.m.0 ≡ 0 → class_of p ≢ 0
      → ((t : ℕ) × (t < 3) × Here R (hexagon_round p t)) × (r.d ≢ 0 → (t : ℕ) → t < 3 → Here R (hexagon_round p t))
      × (((t : ℕ) → t < 3 → Here R (hexagon_round p t)) → r.d ≢ 0)
  local-corner p r x m z =
      let (t, ht, k) = in-any H p z (ground-in p m (some-there R p r x)) in
      let (f, g) = ground-inside p m r x in (
        (t, ht, hexagon-there p m z t ht k),
        (λ n t ht. hexagon-there p m z t ht (inside-all H p z (g n) t ht)),
        λ h. f (all-inside H p z (λ t ht. there-hexagon p m z t ht (h t ht))),
      )

  -- ---- depth above 0
  star-at : (p : Pt) (f : ℕ) → (star_at (at c) p f).d ≢ 0
  unfolding star_at
  star-at p zero e = omega arith
  star-at p (suc b) e = splits-some p.at (T (at c) (par p 0 b) b) (T (at c) (par p 1 b) b) (T (at c) (par p 2 b) b) (birth p) b (rank p + c p.at) e

  local-deep : (p : Pt) (r : Record) (i : ℕ) → R p.at ≡ Some r → rank p ≡ suc (suc i)
      → (r.d ≢ 0) × ((t : ℕ) → t < 3 → Here R (parent_of p.at t)) × D.T (over R (L.creator_of p.at) (rank_of p.at - 2))
  unfolding pres_at int_at rank
  local-deep p r i x f =
      let y = sym (rec-at H (at c) p (suc (suc i)) f) ∙ sym (record_is c H p) ∙ x in
      let (o, s, _) = look-inv (pres_at H (at c) p (suc (suc i))) (int_at H p (suc (suc i))) p.at (star_at (at c) p (suc (suc i))) r y in
      let e : i ≡ rank_of p.at - 2 = omega arith in (
        (λ d. star-at p (suc (suc i)) (ap (λ (w : Record). w.d) (sym (s refl)) ∙ d)),
        (λ t ht. subst (Here R) (par-is p t (suc i) f) (there-is (par p t (suc i)) (parents-there H (at c) (good-in c H good) p i t f o ht))),
        subst D.T (λ j. over R (K.creator-is p i f j) (e j)) (of-true (over-is (creator_of p i) i (creator-rank p i f) ∙ o)),
      )

  -- ---- the star
  par-over : (p : Pt) (t b : ℕ) → t < 3 → rank p ≡ suc b → T (at c) (par p t b) b ≡ over R (parent_of p.at t) (rank_of p.at - 1)
  unfolding rank
  par-over p t b ht f = let e : b ≡ rank_of p.at - 1 = omega arith in
      sym (over-is (par p t b) b (par-rank p t b ht f)) ∙ (λ j. over R (par-is p t b f j) (e j))

  local-star : (p : Pt) (r : Record) (f : ℕ) → rank p ≡ f → R p.at ≡ Some r → r.d ≢ 0
      → r ≡ cond (eqb (rank_of p.at) 0) (vertex p.at 6 (r.n.0 % 2) r.n.0) (said_by R p.at r.n.0)
  unfolding rank birth star_at
  local-star p r zero f x n =
      let s = (look-inside (pres_at H (at c) p 0) (int_at H p 0) p.at (star_at (at c) p 0) r (sym (rec-at H (at c) p 0 f) ∙ sym (record_is c H p) ∙ x) n).2 in
      let k : rank_of p.at + c p.at ≡ r.n.0 = sym (ap (λ (w : Record). w.n.0) s) in
      s ∙ ap (λ (m : ℕ). vertex p.at 6 (m % 2) m) k ∙ sym
      (when_true_lem (eqb (rank_of p.at) 0) (vertex p.at 6 (r.n.0 % 2) r.n.0) (said_by R p.at r.n.0) (of-true (eq-eqb (rank_of p.at) 0 f)))
  local-star p r (suc b) f x n =
      e ∙ go (ℕ_discrete r.d 6)
      ∙ sym (when_false (eqb (rank_of p.at) 0) (vertex p.at 6 (r.n.0 % 2) r.n.0) (said_by R p.at r.n.0)
      (λ z. omega (arith, eqb→eq (rank_of p.at) 0 z)))
    where
      e : r ≡ said_by R p.at (rank_of p.at + c p.at)
      e =
          let s = (look-inside (pres_at H (at c) p (suc b)) (int_at H p (suc b)) p.at (star_at (at c) p (suc b)) r
          (sym (rec-at H (at c) p (suc b) f) ∙ sym (record_is c H p) ∙ x) n).2 in
          let k : b ≡ rank_of p.at - 1 = omega arith in
          s ∙ (λ j. by_splits p.at (par-over p 0 b (omega arith) f j) (par-over p 1 b (omega arith) f j) (par-over p 2 b (omega arith) f j)
          (birth_of p.at) (k j) (rank_of p.at + c p.at))

      go : Dec (r.d ≡ 6) → said_by R p.at (rank_of p.at + c p.at) ≡ said_by R p.at r.n.0
      go (yes d) = ap (said_by R p.at) (sym (ap (λ (w : Record). w.n.0) (One.six H (at c) p r (sym (record_is c H p) ∙ x) d).2))
      go (no d) =
          splits-less p.at (over R (parent_of p.at 0) (rank_of p.at - 1)) (over R (parent_of p.at 1) (rank_of p.at - 1))
          (over R (parent_of p.at 2) (rank_of p.at - 1))
          (birth_of p.at) (rank_of p.at - 1) (rank_of p.at + c p.at) r.n.0 (λ z. d (ap (λ (w : Record). w.d) e ∙ z))

  -- ---- the whole test
  pub closed-local : (r : Record) → R r.at ≡ Some r → Local R r
  unfolding rank expected
  closed-local r x =
      let p : Pt = record { at = r.at; normal = record-normal H c r.at r x } in
      record {
        centre = local-centre r.at r x;
        corner = local-corner r.at r x;
        deep = λ m. local-deep p r (rank_of r.at - 2) x (two (rank_of r.at) r.at.m.0 m (rank_between r.at p.normal).0);
        star = λ n. local-star p r (rank p) refl x n;
        six = λ d. (
          (let e = ap (λ (w : Record). w.n.0) (six-record H c r x d).is in omega arith),
          λ j h. (let (u, y, _) = closed-adjacent H c good r x d j h in some-there R (adjacent_at r j) u y),
        );
      }
    where
      two : (f m : ℕ) → 0 < m → 2 * m ≤ f → f ≡ suc (suc (f - 2))
      two f m h l = omega arith
