-- Faces counted. A table that holds a mesh has as many different faces as the mesh has starts that are alive (`faces-starts`): each face is a live cell's, two
-- live cells have the same face only where they are one (`face-cell`, by ranks alone), each live cell comes from one start and each start leads to one.
-- `StartIn` a start that is alive, `starts-add` a subdivision adds six: the cells round it at the level after · `lives`, `has-face` the faces of a table.
-- Assumes nothing.
use Rattle.lattice.specs.declared.points.Point.{Point}
use Rattle.std.specs.Prelude.{◌≡◌, refl, ◌≢◌, ◌⊎◌, Bool, true, false, ℕ, zero, suc, ◌+◌, ◌*◌, ◌%◌, ◌/◌, ◌≤◌, ◌<◌, length, Option, Some}
use Rattle.std.proofs.Common.{sym, ◌∙◌, ap, subst, inl, inr, arith}
use mathlib.Core.List.{List, Memᴰ}
use Rattle.laws.specs.Each.{not-both, at-among}
use Rattle.laws.specs.Some.{some_of, some_at, at_some}
use Rattle.lattice.specs.declared.records.Record.{Record}
use Rattle.geometry.specs.SideLaws.{Dir}
use Rattle.growth.specs.Normal.{Pt, pt-eq, rank, birth, move, inj}
use Rattle.growth.specs.Parents.{par}
use Rattle.growth.specs.Closed.{T, T-on, T-off, bump, pres_at, int_at, star_at, rec-look, Good}
use Rattle.growth.specs.Updates.{splits-some}
use Rattle.growth.specs.Order.{Low}
use Rattle.table.specs.Entries.{look_up, records_of}
use Rattle.table.specs.MapLaws.{records-looked, looked-records}
use Rattle.queries.specs.Queries.{chosen_at}
use Rattle.grown.specs.Steps.{sheet-held}
use Rattle.firsts.specs.Faces.{each, face_with, faces_at, turned, same_face, faces_in}
use Rattle.firsts.specs.Earlier.{face_on}
use Rattle.firsts.specs.DifferentLaws.{some-over, some-gather, some_one}
use Rattle.firsts.specs.FaceLaws.{Makes, gives-makes, SameRound, straight, once, twice, thrice, same-round, round_same}
use Rattle.firsts.specs.SameLaws.{faces-alike}
use Rattle.firsts.specs.declared.faces.Face.{Face}
use Rattle.together.specs.Cells.{Cell, cell, u_of, v_of, y_of, other, dir6, y-v, other-y, other-other, u-rank, v-rank, w-rank, y-rank}
use Rattle.together.specs.Corners.{Mesh, Alive, made-is, made-alive}
use Rattle.together.specs.Places.{ring-dir}
use Rattle.together.specs.Faces.{Live, xw_by, yz_by, xw_of, yz_of, cell_face, one-internal, other-live, face-other, Drawn, found}
use Rattle.together.specs.Together.{then-round, makes-seen}
use Rattle.together.specs.Inventory.{Inventory, different-labels, up_to, upto-in, in-upto, upto-distinct, upto-length}
use Rattle.together.specs.Chains.{Named, named-reverse, named-then, Start, ground, made, next_n, SpentTo, chain-alive, Descent, down, up}
use Rattle.together.specs.Chains.{one-start, one_end}
use Rattle.together.specs.Added.{after, keep-alive, ground-alive, split-new, Gains}

round-back : (f g : Face) → SameRound f g → SameRound g f
round-back f g r = same-round g f (faces-alike.turn g f ∙ round_same f g r)

-- ---- the same face only from the same cell. Of a cell's two names take one where y was not subdivided: its face is x or w, u, y, v
module _ (M : Mesh) where
  record Proper (k : Cell) : Type 0 where
    live : Live M k
    plain : T M.c (y_of k) k.i ≡ false

  proper : (k : Cell) → Live M k → (l : Cell) × Proper l × Named l k × SameRound (cell_face M k) (cell_face M l)
  proper k L = go (T M.c (y_of k) k.i) (T M.c k.x k.i) refl refl
    where
      go : (b a : Bool) → T M.c (y_of k) k.i ≡ b → T M.c k.x k.i ≡ a → (l : Cell) × Proper l × Named l k × SameRound (cell_face M k) (cell_face M l)
      go false a h g = (k, record { live = L; plain = h }, inl refl, straight refl)
      go true true h g = absurd (L.unspent g h)
      go true false h g =
          let x-off = ap (λ (q : Pt). T M.c q k.i) (other-y k L.alive.dir) ∙ g in
          (other k, record { live = other-live M k L; plain = x-off }, inr refl, twice (face-other M k L))

  module _ (k l : Cell) (K : Proper k) (L : Proper l) where
    dk : Dir k.e k.i
    dk = K.live.alive.dir

    dl : Dir l.e l.i
    dl = L.live.alive.dir

    far-k : yz_of M k ≡ y_of k
    far-k = ap (yz_by k) K.plain

    far-l : yz_of M l ≡ y_of l
    far-l = ap (yz_by l) L.plain

    ruk : rank (u_of k) ≡ suc k.i
    ruk = u-rank k dk K.live.alive.low

    rvk : rank (v_of k) ≡ suc k.i
    rvk = v-rank k dk K.live.alive.low

    ryk : rank (y_of k) ≤ k.i
    ryk = y-rank k dk K.live.alive.low

    rul : rank (u_of l) ≡ suc l.i
    rul = u-rank l dl L.live.alive.low

    rvl : rank (v_of l) ≡ suc l.i
    rvl = v-rank l dl L.live.alive.low

    ryl : rank (y_of l) ≤ l.i
    ryl = y-rank l dl L.live.alive.low

    same_rank : (p q : Pt) → p.at ≡ q.at → rank p ≡ rank q
    same_rank p q e = ap rank (pt-eq p q e)

    -- y and v tell the cell by its other name: the cell of y whose u is v
    by-far : (m : Cell) → Dir m.e m.i → k.i ≡ m.i → y_of k ≡ m.x → v_of k ≡ u_of m → other k ≡ m
    by-far m dm ei ey ev =
        let dm' : Dir m.e k.i = subst (λ (i : ℕ). Dir m.e i) (sym ei) dm in
        let z : move (y_of k) ((k.e + 6) % 12) k.i ≡ move (y_of k) m.e k.i = y-v k dk ∙ ev ∙ (λ t. move (sym ey t) m.e (sym ei t)) in
        let e6 : (k.e + 6) % 12 ≡ m.e = inj (y_of k) ((k.e + 6) % 12) m.e k.i (dir6 k dk) dm' z in
        (λ t. cell (ey t) (e6 t) (ei t))

    -- x or w of l, where its rank is no higher than its level: x
    near-low : rank (xw_of M l) ≤ l.i → xw_of M l ≡ l.x
    near-low h = go (T M.c l.x l.i) refl
      where
        go : (b : Bool) → T M.c l.x l.i ≡ b → xw_of M l ≡ l.x
        go false e = ap (xw_by l) e
        go true e = let r = w-rank l dl L.live.alive.low in let s = ap (λ (b : Bool). rank (xw_by l b)) e in absurd (omega arith)

    cell-read : SameRound (cell_face M k) (cell_face M l) → Named k l
    cell-read (straight e) =
        let ev = pt-eq (v_of k) (v_of l) (ap (λ (f : Face). f.next) e) in
        let ey = pt-eq (yz_of M k) (yz_of M l) (ap (λ (f : Face). f.opposite) e) in
        let r = ap rank ev in
        let z = by-far (other l) (dir6 l dl) (omega (arith, rvk, rvl, r)) (sym far-k ∙ ey ∙ far-l) (ev ∙ sym (y-v l dl)) in
        inl (sym (other-other k dk) ∙ ap other z ∙ other-other l dl)
    cell-read (once e) =
        let a = same_rank (yz_of M k) (u_of l) (ap (λ (f : Face). f.adjacent) e) in
        let b = same_rank (v_of k) (yz_of M l) (ap (λ (f : Face). f.opposite) e) in
        let a' = ap rank far-k in
        let b' = ap rank far-l in
        absurd (omega (arith, ryk, rul, rvk, ryl, a, b, a', b'))
    cell-read (twice e) =
        let en = pt-eq (yz_of M k) (xw_of M l) (ap (λ (f : Face). f.at) e) in
        let ev = pt-eq (v_of k) (u_of l) (ap (λ (f : Face). f.adjacent) e) in
        let r = ap rank ev in
        let ei : k.i ≡ l.i = omega (arith, rvk, rul, r) in
        let a = ap rank en in
        let b = ap rank far-k in
        let low : rank (xw_of M l) ≤ l.i = omega (arith, ryk, a, b, ei) in
        inr (sym (other-other k dk) ∙ ap other (by-far l dl ei (sym far-k ∙ en ∙ near-low low) ev))
    cell-read (thrice e) =
        let b = same_rank (u_of k) (yz_of M l) (ap (λ (f : Face). f.opposite) e) in
        let d = same_rank (yz_of M k) (v_of l) (ap (λ (f : Face). f.next) e) in
        let b' = ap rank far-l in
        let d' = ap rank far-k in
        absurd (omega (arith, ruk, ryl, ryk, rvl, b, d, b', d'))

  face-cell : (k l : Cell) → Live M k → Live M l → SameRound (cell_face M k) (cell_face M l) → Named k l
  face-cell k l K L r =
      let (k', P, n, rk) = proper k K in
      let (l', Q, n', rl) = proper l L in
      let z = cell-read k' l' P Q (then-round (cell_face M k') (cell_face M k) (cell_face M l') (round-back (cell_face M k) (cell_face M k') rk)
      (then-round (cell_face M k) (cell_face M l) (cell_face M l') r rl)) in
      named-then k k' l L.alive.dir (named-reverse k' k K.alive.dir n) (named-then k' l' l L.alive.dir z n')

  -- ---- starts that are alive
  abbrev pub StartIn : Cell → Type 0
  StartIn s = Start s × Alive M s

  -- the face of the live cell that s leads to
  record Shows (f : Face) (s : Cell) : Type 0 where
    start : StartIn s
    m : ℕ
    chain : SpentTo M s m
    live : Live M (next_n m s)
    reads : SameRound f (cell_face M (next_n m s))

  agree : (f g : Face) (s l : Cell) → Shows f s → Shows g l → same_face f g ≡ true → s ≡ l
  agree f g s l S L h =
      one-start M s l S.start.0 L.start.0 S.start.1 L.start.1 S.m L.m S.chain L.chain
      (face-cell (next_n S.m s) (next_n L.m l) S.live L.live
      (then-round (cell_face M (next_n S.m s)) f (cell_face M (next_n L.m l)) (round-back f (cell_face M (next_n S.m s)) S.reads)
      (then-round f g (cell_face M (next_n L.m l)) (same-round f g h) L.reads)))

  alike : (f g : Face) (s : Cell) → Shows f s → Shows g s → same_face f g ≡ true
  alike f g s S L =
      let e : L.m ≡ S.m = one_end M s L.m S.m L.chain S.chain L.live S.live in
      let r : SameRound g (cell_face M (next_n S.m s)) = subst (λ (m : ℕ). SameRound g (cell_face M (next_n m s))) e L.reads in
      round_same f g (then-round f (cell_face M (next_n S.m s)) g S.reads (round-back g (cell_face M (next_n S.m s)) r))

-- ---- the faces of a table are those of live cells
makes-has : (t : List ℕ) (f g : Face) (u : Record) → Makes t u g → SameRound f g → some_of (same_face f) (faces_at t u) ≡ true
makes-has t f g u m r =
    some-gather (same_face f) u.d (λ j. face_with u j (chosen_at t u j))
    ∙ at-among (λ j. some_of (same_face f) (face_with u j (chosen_at t u j))) u.d m.corner m.below
    (ap (λ (s : Option Point). some_of (same_face f) (face_with u m.corner s)) m.chosen ∙ some_one (same_face f) (face_on u m.corner m.opposite)
    ∙ ap (same_face f) m.is ∙ round_same f g r)

module _ (t : List ℕ) (M : Mesh) (D : Drawn t M) where
  abbrev faces : List Face
  faces = each (faces_at t) (records_of t)

  pub lives : (f : Face) → some_of (same_face f) (each (faces_at t) (records_of t)) ≡ true → (k : Cell) × Live M k × SameRound f (cell_face M k)
  lives f h =
      let (v, n, e) = some_at (λ r. some_of (same_face f) (faces_at t r)) (records_of t) (sym (some-over (same_face f) (faces_at t) (records_of t)) ∙ h) in
      let (g, m, r) = gives-makes t f v e in
      let b = m.below in
      let (s, q) = makes-seen t M D v (records-looked t D.order v n) (λ z. omega arith) g m in
      (s.k, s.live, then-round f g (cell_face M s.k) r (round-back (cell_face M s.k) g q))

  -- u or v is internal, and shows it
  pub has-face : (k : Cell) → Live M k → some_of (same_face (cell_face M k)) (each (faces_at t) (records_of t)) ≡ true
  has-face k L = go (one-internal M k A)
    where
      A : Alive M k
      A = L.alive

      by : (p : Pt) → rank p ≡ suc k.i → pres_at M.H M.c p (rank p) ≡ true → int_at M.H p (suc k.i) ≡ true → (g : Face) → g.at ≡ p.at
          → SameRound (cell_face M k) g
          → some_of (same_face (cell_face M k)) (each (faces_at t) (records_of t)) ≡ true
      by p f on int g e s =
          let r = star_at M.c p (suc k.i) in
          let x : look_up t p.at ≡ Some r =
          sheet-held (look_up t p.at) r (D.is p ∙ rec-look M.H M.c p r on (ap (int_at M.H p) f ∙ int) (ap (star_at M.c p) f)) in
          let m = found t M D k L g s r (ap (look_up t) e ∙ x) (star-some p k.i) in
          some-over (same_face (cell_face M k)) (faces_at t) (records_of t)
          ∙ at_some (λ r. some_of (same_face (cell_face M k)) (faces_at t r)) (records_of t) r (looked-records t D.order p.at r x)
          (makes-has t (cell_face M k) g r m s)
        where
          star-some : (p : Pt) (b : ℕ) → (star_at M.c p (suc b)).d ≢ 0
          star-some p b =
              unfold star_at in
              splits-some p.at (T M.c (par p 0 b) b) (T M.c (par p 1 b) b) (T M.c (par p 2 b) b) (birth p) b (rank p + M.c p)

      go : (int_at M.H (u_of k) (suc k.i) ≡ true) ⊎ (int_at M.H (v_of k) (suc k.i) ≡ true)
          → some_of (same_face (cell_face M k)) (each (faces_at t) (records_of t)) ≡ true
      go (inl i) = by (u_of k) (u-rank k A.dir A.low) A.u-there i (turned (cell_face M k)) refl (once refl)
      go (inr i) = by (v_of k) (v-rank k A.dir A.low) A.v-there i (turned (turned (turned (cell_face M k)))) refl (thrice refl)

  pub faces-starts : Low M.c → (ss : List Cell) → Inventory (StartIn M) ss → faces_in t ≡ length ss
  faces-starts low ss L = different-labels same_face faces-alike (Shows M) (agree M) (alike M) faces (StartIn M) ss L label back
    where
      label : (f : Face) → some_of (same_face f) (each (faces_at t) (records_of t)) ≡ true → (s : Cell) × StartIn M s × Shows M f s
      label f h =
          let (k, K, r) = lives f h in
          let F = down M k.i k refl K.alive in
          let (N, q) = by k K r F F.is in
          (F.s, (F.start, F.alive), record { start = (F.start, F.alive); m = F.m; chain = F.chain; live = N; reads = q })
        where
          by : (k : Cell) → Live M k → SameRound f (cell_face M k) → (F : Descent M k) → Named k (next_n F.m F.s)
              → Live M (next_n F.m F.s) × SameRound f (cell_face M (next_n F.m F.s))
          by k K r F (inl e) = (subst (Live M) e K, subst (λ (x : Cell). SameRound f (cell_face M x)) e r)
          by k K r F (inr e) =
              let n = next_n F.m F.s in
              let z : other k ≡ n = ap other e ∙ other-other n (chain-alive M F.s F.m F.alive F.chain).dir in (
                subst (Live M) z (other-live M k K),
                subst (λ (x : Cell). SameRound f (cell_face M x)) z
                    (then-round f (cell_face M k) (cell_face M (other k)) r (twice (face-other M k K))),
              )

      back : (s : Cell) → StartIn M s → (f : Face) × (some_of (same_face f) (each (faces_at t) (records_of t)) ≡ true) × Shows M f s
      back s S =
          let U = up M low s S.1 in
          let k = next_n U.m s in
          (cell_face M k, has-face k U.live, record { start = S; m = U.m; chain = U.chain; live = U.live; reads = straight refl })

-- ---- a subdivision of q adds the six cells round it at the level after
abbrev ring_cell : Pt → ℕ → ℕ → Cell
ring_cell q i j = cell q (2 * j + i % 2) i

abbrev pub new_starts : Mesh → Pt → List Cell
new_starts M q = up_to (ring_cell q (suc (rank q + M.c q))) 6

pub starts-size : (M : Mesh) (q : Pt) → length (new_starts M q) ≡ 6
starts-size M q = upto-length (ring_cell q (suc (rank q + M.c q))) 6

pub starts-add : (M : Mesh) (q : Pt) (g : Good M.H (bump q M.c)) → Gains StartIn M (after M q g) (new_starts M q)
starts-add M q g =
    record {
      distinct = upto-distinct ring 6 (λ i j a b e. (let z = ap (λ (s : Cell). s.e) e in omega arith));
      sound = λ s m. sound s (upto-in ring 6 s m);
      keep = λ s (st, A). (st, keep-alive M q g s A);
      old = λ s (st, A). old s st A;
    }
  where
    n : ℕ
    n = rank q + M.c q

    ring : ℕ → Cell
    ring = ring_cell q (suc (rank q + M.c q))

    sound : (s : Cell) → (j : ℕ) × (j < 6) × (s ≡ ring j) → StartIn (after M q g) s × (StartIn M s → ⊥)
    sound s (j, h, e) =
        let d = ring-dir (suc (rank q + M.c q)) j h in (
          subst (StartIn (after M q g)) (sym e) (made (omega arith), made-alive (after M q g) q (2 * j + suc n % 2) n d (omega arith) (T-on M.c q n refl)),
          λ (st, A). not-both (sym (made-is M q (2 * j + suc n % 2) n d (omega arith)) ∙ (subst (Alive M) e A).u-there) (T-off M.c q n refl),
        )

    half : (e x : ℕ) → e % 2 ≡ x → 2 * (e / 2) + x ≡ e
    half e x h = omega arith

    old : (s : Cell) → Start s → Alive (after M q g) s → StartIn M s ⊎ Memᴰ s (new_starts M q)
    old s (ground a b) A = inl (ground a b, ground-alive M q g s a A)
    old s (made a) A = go s.i refl
      where
        go : (i : ℕ) → s.i ≡ i → StartIn M s ⊎ Memᴰ s (new_starts M q)
        go zero e = absurd (omega arith)
        go (suc i) e = by (T M.c s.x i) refl
          where
            s-is : s ≡ cell s.x s.e (suc i)
            s-is = λ t. cell s.x s.e (e t)

            B : Alive (after M q g) (cell s.x s.e (suc i))
            B = subst (Alive (after M q g)) s-is A

            by : (b : Bool) → T M.c s.x i ≡ b → StartIn M s ⊎ Memᴰ s (new_starts M q)
            by true h = inl (made a, subst (Alive M) (sym s-is) (made-alive M s.x s.e i B.dir (omega arith) h))
            by false h =
                let on = sym (made-is (after M q g) s.x s.e i B.dir (omega arith)) ∙ B.u-there in
                let (z, w) = split-new M q g s.x i on h in
                let d = B.dir.0 in
                let e-is : 2 * (s.e / 2) + suc (rank q + M.c q) % 2 ≡ s.e = half s.e (suc (rank q + M.c q) % 2)
                (B.dir.1 ∙ ap (λ (i : ℕ). suc i % 2) w) in
                inr (subst (λ (s : Cell). Memᴰ s (new_starts M q)) (λ t. cell (sym z t) (e-is t) ((sym (ap suc w) ∙ sym e) t))
                (in-upto ring 6 (s.e / 2) (omega arith)))
