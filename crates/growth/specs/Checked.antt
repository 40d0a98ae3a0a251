-- M3, one half: a sheet whose records all pass the local test is the mesh of some H and c, which are read off it.
-- H are the points of depth 0 there with a-b divisible by 3; c p is the level of p less its rank where p has degree 6, else 0. Then the sheet and the
-- model agree point by point: no induction is needed, but for one thing. A point whose creator q has a level above its birth must be there (`kids`). The
-- test only says that the six adjacents of q's present star are there. But an adjacent of q of level i + 1 has three parents there, two of which are
-- adjacents of q of level i (the side laws): so the stars of q at all levels from its rank on are there.
-- `Sound` what a table's sheet has · `centres`, `counts_of` H and c · `kids` ·
-- `closed_at` the sheet and the model agree (the rest of M3 is in specs/LocalGrown).
-- Assumes nothing.
use Rattle.std.proofs.lemmas.Option.{none-some}
use Rattle.std.specs.Prelude.{◌≡◌, ◌≢◌, Bool, ◌&&◌, eqb, ltb, leb, Option, Some, None}
use Rattle.std.proofs.Math.Path.{refl, sym, ap, subst}
use Rattle.std.proofs.Common.{◌∙◌, true≢false, eq-eqb, ne_eqb, ltb-true, ltb-false, lt-ltb, le-ltb}
use Rattle.std.proofs.Math.Bool.{true, false, cond}
use Prim.Native.Nat.{ℕ, zero, suc, ◌+◌, ◌*◌, ◌%◌, ◌/◌, ◌-◌, ◌≤◌, ◌<◌}
use native.Mathlib.Omega.{arith}
use Rattle.std.proofs.Math.Decide.{ℕ_discrete}
use Rattle.std.proofs.Math.Dec.{eqb→eq}
use Rattle.laws.specs.Bools.{and_left, and_right, and_both}
use Rattle.laws.specs.Choices.{is_true, of-true}
use Rattle.lattice.specs.Points.{is_normal}
use Rattle.lattice.specs.Records.{within, suits_of, valid_of}
use Rattle.lattice.specs.Points.{class_of}
use Rattle.lattice.specs.Ranks.{rank_of, birth_of, move_of, parent_of}
use Rattle.geometry.specs.RankLaws.{rank_between}
use Rattle.geometry.specs.SideLaws.{Dir, turn6}
use Rattle.geometry.specs.SubdivisionLaws.{six-place}
use Rattle.lattice.specs.RecordLaws.{inner}
use Rattle.lattice.specs.declared.points.Point.{Point}
use Rattle.lattice.specs.declared.records.Record.{Record}
use Rattle.growth.specs.Sheets.{Sheet, vertex, hexagon_round, given_by, inside_base}
use Rattle.growth.specs.Model.{Counts, by_splits}
use Rattle.growth.specs.Normal.{Pt, rank, birth, move, side-l, out-rank, out-birth}
use Rattle.growth.specs.Directions.{mod-12-4}
use Rattle.growth.specs.Parents.{par, creator_of, par-at, par-rank, par-back, par-dir, creator-ex, creator-is, creator-rank}
use Rattle.growth.specs.Closed.{look, T, star_at, pres_at, int_at, rec, rec-at}
use Rattle.growth.specs.Link.{at, par-is}
use Rattle.growth.specs.Updates.{splits-less}
use Rattle.growth.specs.Hexagons.{hexagon-centre, hexagon-corner, in-any, any-in, inside-all, all-inside, centre-in, centre-inside}
use Rattle.growth.specs.Local.{there, over, is_over, said_by, expected, Here, Local}
use Rattle.growth.specs.LocalTests.{there-some, some-there, over-six}
use Rattle.std.proofs.Math.Dec as D
use Rattle.lattice.specs.Ranks as L
use Rattle.growth.specs.Closed as C
use Rattle.growth.specs.Link as K

-- what looking up in a table in order gives: valid records, each at its point
abbrev pub Sound : Sheet → Type 0
Sound R = (p : Point) (r : Record) → R p ≡ Some r → (r.at ≡ p) × D.T (valid_of r)

-- "Degree 0 marks a boundary vertex; there k = n = 0."
boundary : (r : Record) → D.T (valid_of r) → r.d ≡ 0 → (r.k ≡ 0) × (r.n.0 ≡ 0)
boundary r v d =
    let s : D.T (suits_of r.d r.k r.n.0) = suited r v in
    let t : D.T (eqb r.k 0 && eqb r.n.0 0) = rw d at s in
    (eqb→eq r.k 0 (and_left (eqb r.k 0) (eqb r.n.0 0) t), eqb→eq r.n.0 0 (and_right (eqb r.k 0) (eqb r.n.0 0) t))
  where
    suited : (r : Record) → D.T (valid_of r) → D.T (suits_of r.d r.k r.n.0)
    suited r v =
        let m = r.at.m.0 in
        let s = suits_of r.d r.k r.n.0 in
        and_right (within r.at.b m) s
        (and_right (within r.at.a m) (within r.at.b m && s)
        (and_right (leb m 6) (within r.at.a m && (within r.at.b m && s))
        (and_right (is_normal r.at) (leb m 6 && (within r.at.a m && (within r.at.b m && s))) v)))

-- a point of rank 2 or more has a depth
pub deeper : (p : Pt) (i : ℕ) → rank p ≡ suc (suc i) → 0 < p.at.m.0
unfolding rank
deeper p i f = omega (arith, (rank_between p.at p.normal).1)

pub shallower : (p : Pt) → rank p ≤ 1 → p.at.m.0 ≡ 0
unfolding rank
shallower p l = omega (arith, (rank_between p.at p.normal).0)

-- ---- H and c
-- the level of a vertex of degree 6, else 0
abbrev pub level6 : Option Record → ℕ
level6 None = 0
level6 (Some r) = cond (eqb r.d 6) r.n.0 0

unfoldable pub counts_of : Sheet → Counts
counts_of R p = level6 (R p) - rank_of p

unfoldable pub centres : Sheet → Point → Bool
centres R p = eqb p.m.0 0 && (eqb (class_of p) 0 && there R p)

module _ (R : Sheet) (sound : Sound R) (local : (p : Point) (r : Record) → R p ≡ Some r → Local R r) where
  abbrev H : Point → Bool
  H = centres R

  abbrev c : Pt → ℕ
  c = at (counts_of R)

  -- the record of a point that is there, and what its test says of the point
  pub found : (p : Point) → Here R p → (r : Record) × (R p ≡ Some r) × (r.at ≡ p) × Local R r
  found p h = let (r, e) = there-some R p h in (r, e, (sound p r e).0, local p r e)

  -- a direction of level n is a place of a star of degree 6 and level n
  six-there : (p : Pt) (r : Record) (e : ℕ) → R p.at ≡ Some r → r.d ≡ 6 → Dir e r.n.0 → Here R (move p e r.n.0).at
  unfolding move
  six-there p r e x d dir =
      let s = sound p.at r x in
      let i = inner r s.1 (omega arith) in
      let k : r.k < 2 = (let l = i.turn in rw d at l) in
      let (l, z) = six-place r e d k i.parity dir in
      subst (Here R) (z ∙ ap (λ (q : Point). move_of q e r.n.0) s.0) (((local p.at r x).six d).1 (e / 2) l)

  -- ---- the stars of q at all levels from its rank to its level are there
  down : (q : Pt) (r : Record) → R q.at ≡ Some r → r.d ≡ 6 → (k i : ℕ) → i + k ≡ r.n.0 → rank q ≤ i → (g : ℕ) → Dir g i → Here R (move q g i).at
  down q r x d zero i e l g dg = let z : i ≡ r.n.0 = omega arith in subst (λ (n : ℕ). Here R (move q g n).at) (sym z) (six-there q r g x d (rw z at dg))
  down q r x d (suc k) i e l g dg = go (down q r x d k (suc i) (omega arith) (omega arith) a da)
    where
      -- the adjacent of level i + 1 from which two directions on lead to direction g of level i
      a : ℕ
      a = (g + 11) % 12

      da : Dir a (suc i)
      da = (omega arith, twelve (g + 11) ∙ odd g i dg.1)
        where
          twelve : (x : ℕ) → x % 12 % 2 ≡ x % 2
          twelve x = omega arith

          odd : (g i : ℕ) → g % 2 ≡ i % 2 → (g + 11) % 2 ≡ suc i % 2
          odd g i h = omega arith

      u : Pt
      u = move q a (suc i)

      fu : rank u ≡ suc (suc i)
      fu = out-rank q a (suc i) da (omega arith)

      b : ℕ
      b = (a + 2) % 12

      kb : b % 4 ≡ birth u
      kb = mod-12-4 (a + 2) ∙ four a ∙ sym (out-birth q a (suc i) da (omega arith))
        where
          four : (a : ℕ) → (a + 2) % 4 ≡ (a + 6) % 4
          four a = omega arith

      next : (g : ℕ) → g < 12 → ((g + 11) % 12 + 1) % 12 ≡ g
      next g h = omega arith

      is : par u (b / 4) (suc i) ≡ move q g i
      is = par-at u b (suc i) (omega arith) kb ∙ side-l q a i da ∙ ap (λ (x : ℕ). move q x i) (next g dg.0)

      go : Here R u.at → Here R (move q g i).at
      go h =
          let (w, y, z, lw) = found u.at h in
          let m : 0 < w.at.m.0 = subst (λ (p : Point). 0 < p.m.0) (sym z) (deeper u i fu) in
          let t : b / 4 < 3 = omega arith in
          subst (Here R) (ap (λ (p : Point). parent_of p (b / 4)) z ∙ sym (par-is u (b / 4) (suc i) fu) ∙ ap (λ (p : Pt). p.at) is) ((lw.deep m).1 (b / 4) t)

  -- a point whose creator has degree 6 and a level above its birth is there
  kids : (p : Pt) (i : ℕ) → rank p ≡ suc (suc i) → D.T (over R (creator_of p i).at i) → Here R p.at
  kids p i f o =
      let (t, ht, k) = creator-ex p i f in
      let (r, x, d, n) = over-six R (creator_of p i).at i o in
      let q = creator_of p i in
      let e = (birth p + 4 * t + 6) % 12 in
      let m : p ≡ move q e (suc i) = par-back p q t (suc i) ht f (sym (creator-is p i t ht f k)) in
      let z : suc i + (r.n.0 - suc i) ≡ r.n.0 = omega arith in
      let l : rank q ≤ suc i = (let y = creator-rank p i f in omega arith) in
      subst (λ (s : Pt). Here R s.at) (sym m) (down q r x d (r.n.0 - suc i) (suc i) z l e (turn6 (birth p + 4 * t) (suc i) (par-dir p t (suc i) ht f)))

  -- ---- H and c against the sheet
  pub centre-there : (p : Point) → D.T (H p) → (p.m.0 ≡ 0) × (class_of p ≡ 0) × Here R p
  unfolding centres
  centre-there p h =
      let u = and_right (eqb p.m.0 0) (eqb (class_of p) 0 && there R p) h in (
        eqb→eq p.m.0 0 (and_left (eqb p.m.0 0) (eqb (class_of p) 0 && there R p) h),
        eqb→eq (class_of p) 0
            (and_left (eqb (class_of p) 0) (there R p) u),
        and_right (eqb (class_of p) 0) (there R p) u,
      )

  pub there-centre : (p : Point) → p.m.0 ≡ 0 → class_of p ≡ 0 → Here R p → D.T (H p)
  unfolding centres
  there-centre p m z h =
      and_both (eqb p.m.0 0) (eqb (class_of p) 0 && there R p) (of-true (eq-eqb p.m.0 0 m))
      (and_both (eqb (class_of p) 0) (there R p) (of-true (eq-eqb (class_of p) 0 z)) h)

  T-over : (q : Pt) (i : ℕ) → rank q ≤ i → T c q i ≡ over R q.at i
  unfolding T over counts_of rank
  T-over q i l = go (R q.at)
    where
      f : ℕ
      f = rank_of q.at

      flag : (b : Bool) (n : ℕ) → ltb i (f + (cond b n 0 - f)) ≡ (b && ltb i n)
      flag true n = go (ltb i n) refl
        where
          go : (b : Bool) → ltb i n ≡ b → ltb i (f + (n - f)) ≡ b
          go true e = let m = ltb-true i n e in lt-ltb i (f + (n - f)) (omega arith)
          go false e = let m = ltb-false i n e in le-ltb i (f + (n - f)) (omega arith)
      flag false n = le-ltb i (f + (0 - f)) (omega arith)

      go : (o : Option Record) → ltb i (f + (level6 o - f)) ≡ is_over i o
      go None = le-ltb i (f + (0 - f)) (omega arith)
      go (Some u) = flag (eqb u.d 6) u.n.0

  -- the level of a vertex of degree 6 is its rank and its count
  level-is : (p : Pt) (r : Record) → R p.at ≡ Some r → r.d ≡ 6 → rank p ≤ r.n.0 → rank p + c p ≡ r.n.0
  unfolding counts_of rank
  level-is p r x d l =
      let e : level6 (R p.at) ≡ r.n.0 = ap level6 x ∙ ap (λ (b : Bool). cond b r.n.0 0) (eq-eqb r.d 6 d) in
      omega arith

  module _ (p : Pt) where
    -- ---- what is there is present
    here-ground : (r : Record) → R p.at ≡ Some r → p.at.m.0 ≡ 0 → D.T (given_by H p.at)
    here-ground r x m = go (ℕ_discrete (class_of p.at) 0)
      where
        s : r.at ≡ p.at
        s = (sound p.at r x).0

        go : Dec (class_of p.at ≡ 0) → D.T (given_by H p.at)
        go (yes z) = subst D.T (sym (centre-in H p.at z)) (there-centre p.at m z (some-there R p.at r x))
        go (no z) =
            let ((t, ht, h), _, _) = (local p.at r x).corner (ap (λ (q : Point). q.m.0) s ∙ m) (λ w. z (ap class_of (sym s) ∙ w)) in
            let (m', z') = hexagon-centre p.at m z t ht in
            any-in H p.at z t ht (there-centre (hexagon_round p.at t) m' z' (subst (λ (q : Point). Here R (hexagon_round q t)) s h))

    here : (r : Record) (f : ℕ) → rank p ≡ f → R p.at ≡ Some r → pres_at H c p f ≡ true
    unfolding pres_at rank
    here r zero f x = is_true (given_by H p.at) (here-ground r x (shallower p (omega arith)))
    here r (suc zero) f x = is_true (given_by H p.at) (here-ground r x (shallower p (omega arith)))
    here r (suc (suc i)) f x =
        let s = (sound p.at r x).0 in
        let d = ((local p.at r x).deep (subst (λ (q : Point). 0 < q.m.0) (sym s) (deeper p i f))).2 in
        let e : rank_of r.at - 2 ≡ i = (let g = ap rank_of s in omega arith) in
        T-over (creator_of p i) i (creator-rank p i f) ∙ is_true (over R (creator_of p i).at i)
        (subst D.T (λ j. over R ((ap L.creator_of s ∙ sym (K.creator-is p i f)) j) (e j)) d)

    -- ---- and what is present is there
    gone-ground : D.T (given_by H p.at) → p.at.m.0 ≡ 0 → Here R p.at
    gone-ground h m = go (ℕ_discrete (class_of p.at) 0)
      where
        go : Dec (class_of p.at ≡ 0) → Here R p.at
        go (yes z) = (centre-there p.at (subst D.T (centre-in H p.at z) h)).2
        go (no z) =
            let (t, ht, y) = in-any H p.at z h in
            let (m', z', k) = centre-there (hexagon_round p.at t) y in
            let (r, x, s, l) = found (hexagon_round p.at t) k in
            let (j, hj, e) = hexagon-corner p.at m z t ht in
            subst (Here R) (ap (λ (q : Point). move_of q (2 * j) 0) s ∙ e) ((l.centre (ap (λ (q : Point). q.m.0) s ∙ m') (ap class_of s ∙ z')).1 j hj)

    gone : (f : ℕ) → rank p ≡ f → pres_at H c p f ≡ true → Here R p.at
    unfolding pres_at
    gone zero f h = gone-ground (of-true h) (shallower p (omega arith))
    gone (suc zero) f h = gone-ground (of-true h) (shallower p (omega arith))
    gone (suc (suc i)) f h = kids p i f (of-true (sym (T-over (creator_of p i) i (creator-rank p i f)) ∙ h))

    -- ---- internal: of a degree that is not 0
    inside-ground : (r : Record) → R p.at ≡ Some r → p.at.m.0 ≡ 0 → (D.T (inside_base H p.at) → r.d ≢ 0) × (r.d ≢ 0 → D.T (inside_base H p.at))
    inside-ground r x m = go (ℕ_discrete (class_of p.at) 0)
      where
        s : r.at ≡ p.at
        s = (sound p.at r x).0

        rm : r.at.m.0 ≡ 0
        rm = ap (λ (q : Point). q.m.0) s ∙ m

        go : Dec (class_of p.at ≡ 0) → (D.T (inside_base H p.at) → r.d ≢ 0) × (r.d ≢ 0 → D.T (inside_base H p.at))
        go (yes z) = (
          (λ h. ((local p.at r x).centre rm (ap class_of s ∙ z)).0),
          λ n.
              subst D.T (sym (centre-inside H p.at z)) (there-centre p.at m z (some-there R p.at r x)),
        )
        go (no z) =
            let (_, f, g) = (local p.at r x).corner rm (λ w. z (ap class_of (sym s) ∙ w)) in (
              (λ h. g (λ t ht. subst (λ (q : Point). Here R (hexagon_round q t)) (sym s)
                  (centre-there (hexagon_round p.at t) (inside-all H p.at z h t ht)).2)),
              λ n. all-inside H p.at z
                  (λ t ht. there-centre (hexagon_round p.at t) (hexagon-centre p.at m z t ht).0 (hexagon-centre p.at m z t ht).1
                  (subst (λ (q : Point). Here R (hexagon_round q t)) s (f n t ht))),
            )

    inside : (r : Record) (f : ℕ) → rank p ≡ f → R p.at ≡ Some r → (int_at H p f ≡ true → r.d ≢ 0) × (r.d ≢ 0 → int_at H p f ≡ true)
    unfolding int_at
    inside r zero f x = let (a, b) = inside-ground r x (shallower p (omega arith)) in ((λ e. a (of-true e)), λ n. is_true (inside_base H p.at) (b n))
    inside r (suc zero) f x = let (a, b) = inside-ground r x (shallower p (omega arith)) in ((λ e. a (of-true e)), λ n. is_true (inside_base H p.at) (b n))
    inside r (suc (suc i)) f x =
        let s = (sound p.at r x).0 in
        ((λ e. ((local p.at r x).deep (subst (λ (q : Point). 0 < q.m.0) (sym s) (deeper p i f))).0), λ n. refl)

    -- ---- its star is what its parents say
    par-over : (b t : ℕ) → t < 3 → rank p ≡ suc b → T c (par p t b) b ≡ over R (parent_of p.at t) (rank_of p.at - 1)
    unfolding rank
    par-over b t ht f =
        let e : b ≡ rank_of p.at - 1 = omega arith in
        T-over (par p t b) b (par-rank p t b ht f) ∙ (λ j. over R (par-is p t b f j) (e j))

    expected-zero : (r : Record) → r.at ≡ p.at → rank p ≡ 0 → expected R r ≡ vertex p.at 6 (r.n.0 % 2) r.n.0
    unfolding expected rank
    expected-zero r s f =
        ap (λ (b : Bool). cond b (vertex r.at 6 (r.n.0 % 2) r.n.0) (said_by R r.at r.n.0)) (eq-eqb (rank_of r.at) 0 (ap rank_of s ∙ f))
        ∙ (λ i. vertex (s i) 6 (r.n.0 % 2) r.n.0)

    expected-suc : (r : Record) (b : ℕ) → r.at ≡ p.at → rank p ≡ suc b → expected R r ≡ said_by R p.at r.n.0
    unfolding expected rank
    expected-suc r b s f =
        ap (λ (w : Bool). cond w (vertex r.at 6 (r.n.0 % 2) r.n.0) (said_by R r.at r.n.0))
        (ne_eqb (rank_of r.at) 0 (λ z. (let e = ap rank_of s in omega arith)))
        ∙ ap (λ (q : Point). said_by R q r.n.0) s

    star-suc : (b : ℕ) → rank p ≡ suc b → star_at c p (suc b) ≡ said_by R p.at (rank p + c p)
    unfolding star_at rank birth
    star-suc b f =
        let e : b ≡ rank_of p.at - 1 = omega arith in
        λ j. by_splits p.at (par-over b 0 (omega arith) f j) (par-over b 1 (omega arith) f j) (par-over b 2 (omega arith) f j) (birth_of p.at) (e j)
        (rank_of p.at + c p)

    star-zero : star_at c p 0 ≡ vertex p.at 6 ((rank p + c p) % 2) (rank p + c p)
    unfolding star_at
    star-zero = refl

    rank-low : (r : Record) → R p.at ≡ Some r → r.d ≡ 6 → rank p ≤ r.n.0
    unfolding rank
    rank-low r x d = subst (λ (q : Point). rank_of q ≤ r.n.0) (sound p.at r x).0 ((local p.at r x).six d).0

    star-is : (r : Record) (f : ℕ) → rank p ≡ f → R p.at ≡ Some r → r.d ≢ 0 → star_at c p f ≡ r
    star-is r zero f x n =
        let s = (sound p.at r x).0 in
        let e = (local p.at r x).star n ∙ expected-zero r s f in
        let d : r.d ≡ 6 = ap (λ (w : Record). w.d) e in
        star-zero ∙ ap (λ (m : ℕ). vertex p.at 6 (m % 2) m) (level-is p r x d (rank-low r x d)) ∙ sym e
    star-is r (suc b) f x n = star-suc b f ∙ go (ℕ_discrete r.d 6)
      where
        e : r ≡ said_by R p.at r.n.0
        e = (local p.at r x).star n ∙ expected-suc r b (sound p.at r x).0 f

        go : Dec (r.d ≡ 6) → said_by R p.at (rank p + c p) ≡ r
        go (yes d) = ap (said_by R p.at) (level-is p r x d (rank-low r x d)) ∙ sym e
        go (no d) =
            sym (splits-less p.at (over R (parent_of p.at 0) (rank_of p.at - 1)) (over R (parent_of p.at 1) (rank_of p.at - 1))
            (over R (parent_of p.at 2) (rank_of p.at - 1))
            (birth_of p.at) (rank_of p.at - 1) r.n.0 (rank p + c p) (λ z. d (ap (λ (w : Record). w.d) e ∙ z))) ∙ sym e

    -- a boundary vertex has no more to it
    edge : (r : Record) → R p.at ≡ Some r → r.d ≡ 0 → r ≡ vertex p.at 0 0 0
    edge r x d =
        let (s, v) = sound p.at r x in
        let (k, n) = boundary r v d in
        λ i. vertex (s i) (d i) (k i) (n i)

    -- ---- so the sheet is the mesh of H and c
    pub closed_at : R p.at ≡ rec H c p
    closed_at = go (R p.at) refl
      where
        at-rank : rec H c p ≡ look (pres_at H c p (rank p)) (int_at H p (rank p)) p.at (star_at c p (rank p))
        at-rank = rec-at H c p (rank p) refl

        inner-edge : (r : Record) → R p.at ≡ Some r → Dec (r.d ≡ 0) → (b : Bool) → int_at H p (rank p) ≡ b
            → Some r ≡ look true b p.at (star_at c p (rank p))
        inner-edge r x (yes d) true e = absurd ((inside r (rank p) refl x).0 e d)
        inner-edge r x (yes d) false e = unfold look in ap Some (edge r x d)
        inner-edge r x (no d) true e = unfold look in ap Some (sym (star-is r (rank p) refl x d))
        inner-edge r x (no d) false e = absurd (true≢false (sym ((inside r (rank p) refl x).1 d) ∙ e))

        no_record : (b : Bool) → pres_at H c p (rank p) ≡ b → R p.at ≡ None → None ≡ look b (int_at H p (rank p)) p.at (star_at c p (rank p))
        no_record true e x = let (r, y) = there-some R p.at (gone (rank p) refl e) in absurd (none-some r (sym x ∙ y))
        no_record false e x = unfold look in refl

        go : (o : Option Record) → R p.at ≡ o → R p.at ≡ rec H c p
        go (Some r) x =
            x ∙ inner-edge r x (ℕ_discrete r.d 0) (int_at H p (rank p)) refl
            ∙ ap (λ (a : Bool). look a (int_at H p (rank p)) p.at (star_at c p (rank p))) (sym (here r (rank p) refl x)) ∙ sym at-rank
        go None x = x ∙ no_record (pres_at H c p (rank p)) refl x ∙ sym at-rank
