-- Every face is found from each of its internal vertices. A cell is live when its points u and v are there and x and y were not both subdivided at its
-- level; its face is x or w, u, y or z, v: w where x was subdivided, z where y was. Each corner of an internal vertex shows the face of a live cell
-- (`seen`), and the face of a live cell is made by each of its internal vertices (`found`): at x or w and at u (`found-near`, `found_side`), and at the two
-- others by the cell's other name.
-- `Drawn` a table that holds the mesh of H and c · `Live`, `xw_of`, `yz_of`, `cell_face` a live cell and its face · `centre-int`, `base-gap`, `star-some`
-- the base, and which vertices are internal.
-- Assumes nothing.
use Rattle.std.specs.Prelude.{◌≡◌, ◌≢◌, ◌⊎◌, cond, List, ℕ, zero, suc, ◌+◌, ◌*◌, ◌%◌, ◌/◌, ◌≤◌, ◌<◌, Option, Some, None}
use Rattle.std.proofs.Math.Path.{refl, sym, ap}
use Rattle.std.proofs.Common.{◌∙◌, subst, inl, inr, arith}
use Rattle.std.proofs.Math.Bool.{Bool, true, false}
use Rattle.std.proofs.Math.Decide.{ℕ_discrete}
use Rattle.laws.specs.Each.{not-both, never}
use Rattle.laws.specs.Choices.{is_true, of-true}
use Rattle.lattice.specs.Points.{class_of}
use Rattle.lattice.specs.Ranks.{move_of}
use Rattle.lattice.specs.declared.points.Point.{Point}
use Rattle.lattice.specs.declared.records.Record.{Record}
use Rattle.geometry.specs.SideLaws.{Dir}
use Rattle.geometry.specs.RankLaws.{rank_between}
use Rattle.growth.specs.Sheets.{given_by, hexagon_round}
use Rattle.growth.specs.Normal.{Pt, rank, birth, move, birth-lt, birth-par, in-rank}
use Rattle.growth.specs.Directions.{thirds, mod4}
use Rattle.growth.specs.Hexagons.{hexagon-centre, corner-hexagon, corner-not, any-in, inside-all, centre-in, centre-inside}
use Rattle.growth.specs.BaseLaws.{class-one}
use Rattle.growth.specs.Parents.{par-at, par-dir, par-move, creator_of, creator-ex, creator-is}
use Rattle.growth.specs.Closed.{T, look, pres_at, int_at, star_at, rec, rec-at}
use Rattle.growth.specs.Neighbours.{parent-there}
use Rattle.table.specs.Order.{InOrder}
use Rattle.table.specs.Entries.{look_up, is_held, holds}
use Rattle.table.specs.MapLaws.{lookup-point}
use Rattle.queries.specs.Queries.{there, chosen_at}
use Rattle.local.specs.Sheet.{as_option, sheet_of}
use Rattle.firsts.specs.Faces.{face, turned}
use Rattle.firsts.specs.Earlier.{face_on}
use Rattle.firsts.specs.FaceLaws.{Makes, SameRound, straight, once, twice, thrice}
use Rattle.firsts.specs.declared.faces.Face.{Face}
use Rattle.together.specs.Cells.{add_turn, whole, even-turn, odd-turn, down_turn, back_at, Cell, cell, u_of, v_of, y_of, w_of, z_of, other, dir2, dir6}
use Rattle.together.specs.Cells.{u-x, u-v, y-v, v-y, w-u, w-v, u-w, w-z, z-y, other-u, other-v, other-y, other-w, other-z, next-u}
use Rattle.together.specs.Cells.{u-rank, v-rank, w-rank, y-rank, u-birth, v-birth}
use Rattle.together.specs.Corners.{Mesh, pres, Alive, made-is, old-alive, inside, not_yet, Place, low_of, high_of, far_off, Gap, NotBoth}
use Rattle.together.specs.Places.{Corner, acute, gap, corners, acute-at, gap_at}
use Rattle.std.proofs.Math.Dec as D
use Rattle.together.specs.Cells as Cells

-- ---- the base
module _ (M : Mesh) where
  -- a centre that is there is internal
  pub centre-int : (p : Pt) → rank p ≡ 1 → birth p ≡ 0 → pres_at M.H M.c p 1 ≡ true → int_at M.H p 1 ≡ true
  unfolding pres_at int_at
  centre-int p f k h = let z = sym (class-one p f) ∙ k in centre-inside M.H p.at z ∙ sym (centre-in M.H p.at z) ∙ h

  -- of u and v of a cell of level 0 one is a centre, so internal
  pub one-internal : (k : Cell) → Alive M k → (int_at M.H (u_of k) (suc k.i) ≡ true) ⊎ (int_at M.H (v_of k) (suc k.i) ≡ true)
  one-internal k A = at k.i refl
    where
      deep : (p : Pt) (i : ℕ) → int_at M.H p (suc (suc i)) ≡ true
      deep p i = unfold int_at in refl

      two : (e i b d : ℕ) → i ≡ 0 → e % 2 ≡ i % 2 → (e + 2) % 12 % 4 ≡ b → e % 4 ≡ d → b ≢ 0 → d ≡ 0
      two e i b d z p hb hd n = omega arith

      at : (i : ℕ) → k.i ≡ i → (int_at M.H (u_of k) (suc k.i) ≡ true) ⊎ (int_at M.H (v_of k) (suc k.i) ≡ true)
      at (suc i) z = inl (ap (λ (i : ℕ). int_at M.H (u_of k) (suc i)) z ∙ deep (u_of k) i)
      at zero z = choose (ℕ_discrete (birth (u_of k)) 0)
        where
          centre : (p : Pt) → rank p ≡ suc k.i → birth p ≡ 0 → pres M p ≡ true → int_at M.H p (suc k.i) ≡ true
          centre p f b h =
              ap (λ (i : ℕ). int_at M.H p (suc i)) z
              ∙ centre-int p (f ∙ ap suc z) b (ap (pres_at M.H M.c p) (sym (f ∙ ap suc z)) ∙ h)

          choose : Dec (birth (u_of k) ≡ 0) → (int_at M.H (u_of k) (suc k.i) ≡ true) ⊎ (int_at M.H (v_of k) (suc k.i) ≡ true)
          choose (yes b) = inl (centre (u_of k) (u-rank k A.dir A.low) b A.u-there)
          choose (no b) =
              inr (centre (v_of k) (v-rank k A.dir A.low)
              (two k.e k.i (birth (u_of k)) (birth (v_of k)) z A.dir.1 (u-birth k A.dir A.low) (v-birth k A.dir A.low) b) A.v-there)

  -- an internal vertex of rank 1 has the vertices of rank 1 round it
  pub base-gap : (p : Pt) (g : ℕ) → rank p ≡ 1 → int_at M.H p 1 ≡ true → Dir g 0 → (g + 2) % 4 ≡ birth p → pres_at M.H M.c (move p g 0) 1 ≡ true
  unfolding pres_at int_at move rank
  base-gap p g f int d k = go (ℕ_discrete (birth p) 0)
    where
      m : p.at.m.0 ≡ 0
      m = omega (arith, (rank_between p.at p.normal).0)

      go : Dec (birth p ≡ 0) → given_by M.H (move_of p.at g 0) ≡ true
      go (yes z) =
          let q : class_of p.at ≡ 0 = sym (class-one p f) ∙ z in
          let l = d.0 in
          let j = g / 2 in
          let twice : 2 * j ≡ g = even g d.1 in
          let (t, ht, e) = corner-hexagon p.at m q j (omega arith) in
          let h : D.T (M.H p.at) = of-true (sym (centre-inside M.H p.at q) ∙ int) in
          let c = move_of p.at (2 * j) 0 in
          ap (λ (g : ℕ). given_by M.H (move_of p.at g 0)) (sym twice)
          ∙ is_true (given_by M.H c) (any-in M.H c (corner-not p.at m q j (omega arith)) t ht (subst (λ (y : Point). D.T (M.H y)) (sym e) h))
        where
          even : (g : ℕ) → g % 2 ≡ 0 → 2 * (g / 2) ≡ g
          even g h = omega arith
      go (no z) =
          let b = birth-lt p in
          let bp = birth-par p 0 f in
          let two : birth p ≡ 2 = omega arith in
          let q : class_of p.at ≡ 2 = sym (class-one p f) ∙ two in
          let n : class_of p.at ≢ 0 = (λ w. omega arith) in
          let l = d.0 in
          let j = g / 4 in
          let is : hexagon_round p.at j ≡ move_of p.at g 0 = rw q (ap (λ (g : ℕ). move_of p.at g 0) (fours g (k ∙ two))) in
          let h : D.T (M.H (hexagon_round p.at j)) = inside-all M.H p.at n (of-true int) j (omega arith) in
          ap (given_by M.H) (sym is) ∙ centre-in M.H (hexagon_round p.at j) (hexagon-centre p.at m n j (omega arith)).1
          ∙ is_true (M.H (hexagon_round p.at j)) h
        where
          fours : (g : ℕ) → (g + 2) % 4 ≡ 2 → 0 + 4 * (g / 4) ≡ g
          fours g h = omega arith

-- ---- live cells and their faces
pub record Live (M : Mesh) (k : Cell) : Type 0 where
  pub alive : Alive M k
  pub unspent : NotBoth (T M.c k.x k.i) (T M.c (y_of k) k.i)

abbrev pub xw_by : Cell → Bool → Pt
xw_by k true = w_of k
xw_by k false = k.x

abbrev pub yz_by : Cell → Bool → Pt
yz_by k true = z_of k
yz_by k false = y_of k

abbrev pub xw_of : Mesh → Cell → Pt
xw_of M k = xw_by k (T M.c k.x k.i)

abbrev pub yz_of : Mesh → Cell → Pt
yz_of M k = yz_by k (T M.c (y_of k) k.i)

abbrev pub cell_face : Mesh → Cell → Face
cell_face M k = face (xw_of M k).at (u_of k).at (yz_of M k).at (v_of k).at

-- the same cell by its other name
pub alive-other : (M : Mesh) (k : Cell) → Alive M k → Alive M (other k)
alive-other M k A =
    record {
      dir = dir6 k A.dir;
      low = y-rank k A.dir A.low;
      u-there = ap (pres M) (other-u k A.dir) ∙ A.v-there;
      v-there = ap (pres M) (other-v k A.dir) ∙ A.u-there;
    }

module _ (M : Mesh) (k : Cell) (L : Live M k) where
  abbrev d : Dir k.e k.i
  d = L.alive.dir

  abbrev l : rank k.x ≤ k.i
  l = L.alive.low

  pub other-live : Live M (other k)
  other-live =
      record { alive = alive-other M k L.alive; unspent = λ hy hx. L.unspent (sym (ap (λ (q : Pt). T M.c q k.i) (other-y k d)) ∙ hx) hy }

  pub face-other : turned (turned (cell_face M k)) ≡ cell_face M (other k)
  face-other = λ t. face (sym (near (T M.c (y_of k) k.i)) t).at (sym (other-u k d) t).at (sym far t).at (sym (other-v k d) t).at
    where
      near : (b : Bool) → xw_by (other k) b ≡ yz_by k b
      near true = other-w k d
      near false = refl

      go : (b : Bool) → yz_by (other k) b ≡ xw_by k b
      go true = other-z k d
      go false = other-y k d

      far : yz_of M (other k) ≡ xw_of M k
      far = ap (λ (q : Pt). yz_by (other k) (T M.c q k.i)) (other-y k d) ∙ go (T M.c k.x k.i)

  -- y is a parent of u and of v, of which one is internal
  y-there : pres M (y_of k) ≡ true
  y-there = go (one-internal M k L.alive)
    where
      by : (p : Pt) (a : ℕ) → rank p ≡ suc k.i → a < 12 → a % 4 ≡ birth p → move p a k.i ≡ y_of k → pres M p ≡ true
          → int_at M.H p (suc k.i) ≡ true → pres M (y_of k) ≡ true
      by p a f h b e on int =
          ap (pres M) (sym (par-at p a k.i h b ∙ e))
          ∙ parent-there M.H M.c M.good p k.i (a / 4) f (ap (pres_at M.H M.c p) (sym f) ∙ on) int (omega arith)

      go : (int_at M.H (u_of k) (suc k.i) ≡ true) ⊎ (int_at M.H (v_of k) (suc k.i) ≡ true) → pres M (y_of k) ≡ true
      go (inl int) = by (u_of k) ((k.e + 2) % 12) (u-rank k d l) (omega arith) (u-birth k d l) refl L.alive.u-there int
      go (inr int) = by (v_of k) k.e (v-rank k d l) d.0 (v-birth k d l) (v-y k d) L.alive.v-there int

  z-is : pres M (z_of k) ≡ T M.c (y_of k) k.i
  z-is = made-is M (y_of k) ((k.e + 7) % 12) k.i (odd-turn 7 k.e k.i refl d) (y-rank k d l)

  -- where x was subdivided y was not, nor were u and v since
  far-off : T M.c k.x k.i ≡ true → T M.c (y_of k) k.i ≡ false
  far-off on = go (T M.c (y_of k) k.i) refl
    where
      go : (b : Bool) → T M.c (y_of k) k.i ≡ b → b ≡ false
      go true h = absurd (L.unspent on h)
      go false h = refl

  pub u-off : T M.c k.x k.i ≡ true → T M.c (u_of k) (suc k.i) ≡ false
  u-off on = not_yet M (u_of k) k.i ((k.e + 2) % 12) (u-rank k d l) (dir2 k d) (u-birth k d l) (far-off on) (suc k.i) (omega arith)

  pub v-off : T M.c k.x k.i ≡ true → T M.c (v_of k) (suc k.i) ≡ false
  v-off on =
      not_yet M (v_of k) k.i k.e (v-rank k d l) d (v-birth k d l) (ap (λ (q : Pt). T M.c q k.i) (v-y k d) ∙ far-off on) (suc k.i) (omega arith)

-- ---- a table that holds the mesh
pub record Drawn (t : List ℕ) (M : Mesh) : Type 0 where
  pub order : InOrder t
  pub is : (q : Pt) → sheet_of t q.at ≡ rec M.H M.c q

module _ (t : List ℕ) (M : Mesh) (D : Drawn t M) where
  holds-is : (q : Pt) → holds t q.at ≡ pres M q
  unfolding look
  holds-is q = go (look_up t q.at) ∙ ap is_some (D.is q ∙ rec-at M.H M.c q (rank q) refl) ∙ by (pres M q) (int_at M.H q (rank q))
    where
      is_some : Option Record → Bool
      is_some None = false
      is_some (Some r) = true

      go : (l : Option Record) → is_held l ≡ is_some (as_option l)
      go None = refl
      go (Some r) = refl

      by : (a i : Bool) → is_some (look a i q.at (star_at M.c q (rank q))) ≡ a
      by false i = refl
      by true false = refl
      by true true = refl

  -- the opposite that is chosen of a first and a second
  abbrev choice : Point → Option Point → Option Point
  choice f s = cond (holds t f) (Some f) (there t s)

  choice-first : (q : Pt) (s : Option Point) → pres M q ≡ true → choice q.at s ≡ Some q.at
  choice-first q s h = rw (holds-is q, h)

  -- z where y was subdivided, else y
  choice-far : (k : Cell) → Live M k → choice (z_of k).at (Some (y_of k).at) ≡ Some (yz_of M k).at
  choice-far k L = go (T M.c (y_of k) k.i) refl
    where
      go : (b : Bool) → T M.c (y_of k) k.i ≡ b → choice (z_of k).at (Some (y_of k).at) ≡ Some (yz_by k b).at
      go true h = choice-first (z_of k) (Some (y_of k).at) (z-is M k L ∙ h)
      go false h = rw (holds-is (z_of k), z-is M k L, h, holds-is (y_of k), y-there M k L)

  place-chosen : {r : Record} {j : ℕ} {a n f : Point} {s : Option Point} {o : Point} → Place r j a n f s → choice f s ≡ Some o → chosen_at t r j ≡ Some o
  unfolding chosen_at
  place-chosen P h = (λ i. choice (P.first i) (P.second i)) ∙ h

  -- the face of a place
  place-face : {r : Record} {j : ℕ} {a n f : Point} {s : Option Point} {p o : Point} → Place r j a n f s → r.at ≡ p → face_on r j o ≡ face p a o n
  place-face {o = o} P e = λ i. face (e i) (P.adjacent i) o (P.next i)

  place-makes : {r : Record} {j : ℕ} {a n f : Point} {s : Option Point} {p o : Point} → Place r j a n f s → choice f s ≡ Some o → r.at ≡ p → Makes t r (face p a o n)
  place-makes {j = j} {o = o} P h e = record { corner = j; below = P.below; opposite = o; chosen = place-chosen P h; is = place-face P e }

  point-of : (p : Pt) (r : Record) → look_up t p.at ≡ Some r → r.at ≡ p.at
  point-of p r h = lookup-point t D.order p.at r h

  -- ---- from x or w, and from u
  module _ (k : Cell) (L : Live M k) (r : Record) (n : r.d ≢ 0) where
    abbrev A : Alive M k
    A = L.alive

    record_of : (p : Pt) → look_up t p.at ≡ Some r → rec M.H M.c p ≡ Some r
    record_of p h = sym (D.is p) ∙ ap as_option h

    abbrev from : Pt → Type 0
    from p = look_up t p.at ≡ Some r → Makes t r (face p.at (u_of k).at (yz_of M k).at (v_of k).at)

    from-x : T M.c k.x k.i ≡ false → from k.x
    from-x off h = place-makes (acute-at M k.x r (record_of k.x h) n k.e k.i A off).1 (choice-far k L) (point-of k.x r h)

    -- between u and v, which were not subdivided since
    from-w : T M.c k.x k.i ≡ true → from (w_of k)
    from-w on h =
        let d = A.dir in
        let l = A.low in
        let e = k.e in
        let i = suc k.i in
        let a = (e + 11) % 12 in
        let v-is : move (w_of k) ((a + 4) % 12) i ≡ v_of k = ap (λ (g : ℕ). move (w_of k) g i) (add_turn e 11 4 ∙ Cells.once e 3) ∙ w-v k d in
        let m-is : (a + 2) % 12 ≡ (e + 1) % 12 = add_turn e 11 2 ∙ Cells.once e 1 in
        let z-at : move (w_of k) ((a + 2) % 12) i ≡ z_of k = ap (λ (g : ℕ). move (w_of k) g i) m-is ∙ w-z k d in
        let b : a % 4 ≡ birth (w_of k) = four e ∙ u-birth (cell k.x ((e + 1) % 12) i) (odd-turn 1 e k.i refl d) (omega arith) in
        let G = (gap_at M (w_of k) r (record_of (w_of k) h) n a i (w-rank k d l) (odd-turn 11 e k.i refl d) b false false
        (ap (λ (q : Pt). T M.c q i) (w-u k d) ∙ u-off M k L on) (ap (λ (q : Pt). T M.c q i) v-is ∙ v-off M k L on) (λ x y. never x)).1 in
        place-makes
        (record {
          below = G.below;
          adjacent = G.adjacent ∙ ap (λ (q : Pt). q.at) (w-u k d);
          next = G.next ∙ ap (λ (q : Pt). q.at) v-is;
          first = G.first ∙ ap (λ (q : Pt). q.at) z-at;
          second = G.second ∙ (λ t. Some (move (z-at t) (m-is t) i).at) ∙ ap (λ (q : Pt). Some q.at) (z-y k d);
        })
        (choice-far k L) (point-of (w_of k) r h)
      where
        four : (e : ℕ) → (e + 11) % 12 % 4 ≡ ((e + 1) % 12 + 2) % 12 % 4
        four e = omega arith

    found-near : look_up t (xw_of M k).at ≡ Some r → Makes t r (cell_face M k)
    found-near = go (T M.c k.x k.i) refl
      where
        go : (b : Bool) → T M.c k.x k.i ≡ b → from (xw_by k b)
        go true h = from-w h
        go false h = from-x h

    -- between y and x
    found_side : look_up t (u_of k).at ≡ Some r → Makes t r (turned (cell_face M k))
    found_side h =
        let d = A.dir in
        let e = k.e in
        let a = (e + 2) % 12 in
        let x-is : move (u_of k) ((a + 4) % 12) k.i ≡ k.x = ap (λ (g : ℕ). move (u_of k) g k.i) (add_turn e 2 4) ∙ u-x k d in
        let G = (gap_at M (u_of k) r (record_of (u_of k) h) n a k.i (u-rank k d A.low) (dir2 k d) (u-birth k d A.low)
        (T M.c (y_of k) k.i) (T M.c k.x k.i) refl (ap (λ (q : Pt). T M.c q k.i) x-is) (λ hy hx. L.unspent hx hy)).1 in
        place-makes
        (record {
          below = G.below;
          adjacent = G.adjacent ∙ low (T M.c (y_of k) k.i);
          next = G.next ∙ high (T M.c k.x k.i) x-is;
          first = G.first ∙ ap (λ (q : Pt). q.at) (ap (λ (g : ℕ). move (u_of k) g k.i) (add_turn e 2 2) ∙ u-v k d);
          second = G.second;
        })
        (choice-first (v_of k) (far_off (u_of k) a k.i (T M.c (y_of k) k.i) (T M.c k.x k.i)) A.v-there) (point-of (u_of k) r h)
      where
        low : (s : Bool) → (low_of (u_of k) ((k.e + 2) % 12) k.i s).at ≡ (yz_by k s).at
        low true = ap (λ (q : Pt). q.at) (ap (λ (g : ℕ). move (u_of k) g (suc k.i)) (add_turn k.e 2 1) ∙ next-u k A.dir)
        low false = refl

        high : (s : Bool) → move (u_of k) (((k.e + 2) % 12 + 4) % 12) k.i ≡ k.x → (high_of (u_of k) ((k.e + 2) % 12) k.i s).at ≡ (xw_by k s).at
        high true q = ap (λ (q : Pt). q.at) (ap (λ (g : ℕ). move (u_of k) g (suc k.i)) (add_turn k.e 2 3) ∙ u-w k A.dir)
        high false q = ap (λ (q : Pt). q.at) q

  -- from each of its internal vertices: g is the face, read from one of them on
  pub found : (k : Cell) → Live M k → (g : Face) → SameRound (cell_face M k) g → (r : Record) → look_up t g.at ≡ Some r → r.d ≢ 0 → Makes t r g
  found k L g s r h n = go s
    where
      read : (f : Face) → f ≡ g → (look_up t f.at ≡ Some r → Makes t r f) → Makes t r g
      read f e m = subst (λ (f : Face). look_up t f.at ≡ Some r → Makes t r f) e m h

      go : SameRound (cell_face M k) g → Makes t r g
      go (straight e) = read (cell_face M k) e (found-near k L r n)
      go (once e) = read (turned (cell_face M k)) e (found_side k L r n)
      go (twice e) = read (cell_face M (other k)) (sym (face-other M k L) ∙ e) (found-near (other k) (other-live M k L) r n)
      go (thrice e) = read (turned (cell_face M (other k))) (ap turned (sym (face-other M k L)) ∙ e) (found_side (other k) (other-live M k L) r n)

  -- ---- every corner shows the face of a live cell
  pub record Shows (r : Record) (j : ℕ) : Type 0 where
    pub k : Cell
    pub live : Live M k
    pub opposite : Point
    pub chosen : chosen_at t r j ≡ Some opposite
    pub reads : SameRound (cell_face M k) (face_on r j opposite)

  -- a gap, between the parents in directions a and a + 4: p is u of the cell of the second
  module _ (p : Pt) (r : Record) (j a b : ℕ) (pl : r.at ≡ p.at) (f : rank p ≡ suc b) (d : Dir a b) (q : a % 4 ≡ birth p) (here : pres M p ≡ true) where
    abbrev K : Cell
    K = cell (move p ((a + 4) % 12) b) ((a + 10) % 12) b

    d4 : Dir ((a + 4) % 12) b
    d4 = even-turn 4 a b refl d

    dK : Dir ((a + 10) % 12) b
    dK = even-turn 10 a b refl d

    low : rank (move p ((a + 4) % 12) b) ≤ b
    low = in-rank p ((a + 4) % 12) b (omega arith) f (four a ∙ q)
      where
        four : (a : ℕ) → (a + 4) % 12 % 4 ≡ a % 4
        four a = omega arith

    u-is : u_of K ≡ p
    u-is = back_at p K.x ((a + 4) % 12) ((a + 10) % 12) b d4 refl (add_turn a 4 6)

    y-is : y_of K ≡ move p a b
    y-is = λ t. move (u-is t) ((add_turn a 10 2 ∙ whole a d.0) t) b

    v-is : v_of K ≡ move p ((a + 2) % 12) b
    v-is = sym (u-v K dK) ∙ (λ t. move (u-is t) ((add_turn a 10 4 ∙ Cells.once a 2) t) b)

    -- where its first opposite is there
    whole-gap : (s t : Bool) → T M.c (move p a b) b ≡ s → T M.c (move p ((a + 4) % 12) b) b ≡ t → NotBoth s t → Gap r j p a b s t
        → pres M (move p ((a + 2) % 12) b) ≡ true → Shows r j
    whole-gap s z hs hz un G v =
        let y-s : T M.c (y_of K) b ≡ s = ap (λ (q : Pt). T M.c q b) y-is ∙ hs in
        let L : Live M K =
        record {
          alive = record { dir = dK; low = low; u-there = ap (pres M) u-is ∙ here; v-there = ap (pres M) v-is ∙ v };
          unspent = λ hx hy. un (sym y-s ∙ hy) (sym hz ∙ hx);
        } in
        let P : Place r j (yz_of M K).at (xw_of M K).at (v_of K).at (far_off p a b s z) =
        record {
          below = G.below;
          adjacent = G.adjacent ∙ sym (ap (λ (s : Bool). (yz_by K s).at) y-s ∙ far s);
          next = G.next ∙ sym (ap (λ (s : Bool). (xw_by K s).at) hz ∙ close z);
          first = G.first ∙ sym (ap (λ (q : Pt). q.at) v-is);
          second = G.second;
        } in
        record {
          k = K;
          live = L;
          opposite = (v_of K).at;
          chosen = place-chosen P (choice-first (v_of K) (far_off p a b s z) L.alive.v-there);
          reads = once (sym (place-face P (pl ∙ ap (λ (q : Pt). q.at) (sym u-is))));
        }
      where
        far : (s : Bool) → (yz_by K s).at ≡ (low_of p a b s).at
        far true = ap (λ (q : Pt). q.at) (sym (next-u K dK) ∙ (λ t. move (u-is t) ((add_turn a 10 3 ∙ Cells.once a 1) t) (suc b)))
        far false = ap (λ (q : Pt). q.at) y-is

        close : (z : Bool) → (xw_by K z).at ≡ (high_of p a b z).at
        close true = ap (λ (q : Pt). q.at) (sym (u-w K dK) ∙ (λ t. move (u-is t) ((add_turn a 10 5 ∙ Cells.once a 3) t) (suc b)))
        close false = refl

    -- both parents have the first opposite as an adjacent, so it is there where one was subdivided
    y-v-at : move (move p a b) ((a + 4) % 12) b ≡ move p ((a + 2) % 12) b
    y-v-at = (λ t. move (sym y-is t) (sym (add_turn a 10 6 ∙ Cells.once a 4) t) b) ∙ y-v K dK ∙ v-is

    x-v-at : move (move p ((a + 4) % 12) b) a b ≡ move p ((a + 2) % 12) b
    x-v-at = ap (λ (g : ℕ). move K.x g b) (sym (add_turn a 10 2 ∙ whole a d.0)) ∙ v-is

    old-y : T M.c (move p a b) b ≡ true → pres M (move p ((a + 2) % 12) b) ≡ true
    old-y h = ap (pres M) (sym y-v-at) ∙ (old-alive M (move p a b) ((a + 4) % 12) b d4 (in-rank p a b d.0 f q) h).u-there

    old-x : T M.c (move p ((a + 4) % 12) b) b ≡ true → pres M (move p ((a + 2) % 12) b) ≡ true
    old-x h = ap (pres M) (sym x-v-at) ∙ (old-alive M K.x a b d low h).u-there

    v-rank-at : rank (move p ((a + 2) % 12) b) ≡ suc b
    v-rank-at = ap rank (sym v-is) ∙ v-rank K dK low

  -- where it is not: p is the inner point w of the cell of its creator, its third parent, one level before
  module _ (p : Pt) (r : Record) (j a b : ℕ) (pl : r.at ≡ p.at) (f : rank p ≡ suc (suc b)) (d : Dir a (suc b)) (q : a % 4 ≡ birth p) (here : pres M p ≡ true)
      (gone : pres M (move p ((a + 2) % 12) (suc b)) ≡ false) where
    abbrev C : Cell
    C = cell (move p ((a + 8) % 12) (suc b)) ((a + 1) % 12) b

    dC : Dir ((a + 1) % 12) b
    dC = down_turn 1 a b refl d

    w-is : w_of C ≡ p
    w-is =
        ap (λ (g : ℕ). move C.x g (suc b)) (add_turn a 1 1)
        ∙ back_at p C.x ((a + 8) % 12) ((a + 2) % 12) (suc b) (even-turn 8 a (suc b) refl d) refl (add_turn a 8 6 ∙ Cells.once a 2)

    z-of : move p ((a + 2) % 12) (suc b) ≡ z_of C
    z-of = (λ t. move (sym w-is t) (sym (add_turn a 1 1) t) (suc b)) ∙ w-z C dC

    tip : Gap r j p a (suc b) false false → rank C.x ≤ b → T M.c C.x b ≡ true → Shows r j
    tip G l on =
        let z-made : pres M (z_of C) ≡ T M.c (y_of C) b = made-is M (y_of C) ((C.e + 7) % 12) b (odd-turn 7 C.e b refl dC) (y-rank C dC l) in
        let L : Live M C =
        record { alive = old-alive M C.x C.e b dC l on; unspent = λ hx hy. not-both hy (sym z-made ∙ ap (pres M) (sym z-of) ∙ gone) } in
        let P : Place r j (u_of C).at (v_of C).at (z_of C).at (Some (y_of C).at) =
        record {
          below = G.below;
          adjacent = G.adjacent ∙ ap (λ (q : Pt). q.at) ((λ t. move (sym w-is t) (sym (add_turn a 1 11 ∙ whole a d.0) t) (suc b)) ∙ w-u C dC);
          next = G.next ∙ ap (λ (q : Pt). q.at) ((λ t. move (sym w-is t) (sym (add_turn a 1 3) t) (suc b)) ∙ w-v C dC);
          first = G.first ∙ ap (λ (q : Pt). q.at) z-of;
          second = G.second ∙ ap (λ (q : Pt). Some q.at) ((λ t. move (z-of t) (sym (add_turn a 1 1) t) (suc b)) ∙ z-y C dC);
        } in
        record {
          k = C;
          live = L;
          opposite = (yz_of M C).at;
          chosen = place-chosen P (choice-far C L);
          reads = straight (sym (place-face P (pl ∙ ap (λ (q : Pt). q.at) (sym (ap (xw_by C) on ∙ w-is)))));
        }

    -- neither of the two parents is the creator: it would have made the first opposite too
    third : (rank C.x ≤ b) × (T M.c C.x b ≡ true)
    unfolding pres_at
    third =
        let (t, ht, l) = creator-ex p b f in
        let g = birth p + 4 * t in
        let is-it : creator_of p b ≡ move p g (suc b) = creator-is p b t ht f l ∙ par-move p t (suc b) in
        let on : T M.c (move p g (suc b)) b ≡ true = ap (λ (z : Pt). T M.c z b) (sym is-it) ∙ ap (pres_at M.H M.c p) (sym f) ∙ here in
        go g (thirds g a (par-dir p t (suc b) ht f).0 d.0 (mod4 (birth p) t (birth-lt p) ∙ sym q))
        (subst (λ (z : Pt). rank z ≤ b) (par-move p t (suc b)) l) on
      where
        made : (x : Pt) (e : ℕ) → Dir e (suc b) → move x e (suc b) ≡ move p ((a + 2) % 12) (suc b) → rank x ≤ b → T M.c x b ≡ true → ⊥
        made x e de is l on = not-both (ap (pres M) (sym is) ∙ made-is M x e b de l ∙ on) gone

        go : (g : ℕ) → (g ≡ a) ⊎ ((g ≡ (a + 4) % 12) ⊎ (g ≡ (a + 8) % 12)) → rank (move p g (suc b)) ≤ b → T M.c (move p g (suc b)) b ≡ true
            → (rank C.x ≤ b) × (T M.c C.x b ≡ true)
        go g (inl z) l on =
            let is : move p g (suc b) ≡ move p a (suc b) = ap (λ (g : ℕ). move p g (suc b)) z in
            absurd (made (move p g (suc b)) ((a + 4) % 12) (even-turn 4 a (suc b) refl d)
            (ap (λ (x : Pt). move x ((a + 4) % 12) (suc b)) is ∙ y-v-at p r j a (suc b) pl f d q here) l on)
        go g (inr (inl z)) l on =
            let is : move p g (suc b) ≡ move p ((a + 4) % 12) (suc b) = ap (λ (g : ℕ). move p g (suc b)) z in
            absurd (made (move p g (suc b)) a d (ap (λ (x : Pt). move x a (suc b)) is ∙ x-v-at p r j a (suc b) pl f d q here) l on)
        go g (inr (inr z)) l on = (subst (λ (g : ℕ). rank (move p g (suc b)) ≤ b) z l, ap (λ (g : ℕ). T M.c (move p g (suc b)) b) (sym z) ∙ on)

  pub seen : (p : Pt) (r : Record) → look_up t p.at ≡ Some r → r.d ≢ 0 → (j : ℕ) → j < r.d → Shows r j
  seen p r x n j h = go (corners M p r R n j h)
    where
      R : rec M.H M.c p ≡ Some r
      R = sym (D.is p) ∙ ap as_option x

      pl : r.at ≡ p.at
      pl = point-of p r x

      here : pres M p ≡ true
      here = (inside M p r R n (rank p) refl).0

      go : Corner M p r j → Shows r j
      go (acute e i A off P) =
          let k = cell p e i in
          let L : Live M k = record { alive = A; unspent = λ on _. not-both on off } in
          record {
            k = k;
            live = L;
            opposite = (yz_of M k).at;
            chosen = place-chosen P (choice-far k L);
            reads = straight (sym (place-face P (pl ∙ ap (λ (b : Bool). (xw_by k b).at) (sym off))));
          }
      go (gap a b f d q s z hs hz un G) = at b f d s z hs hz un G (pres M (move p ((a + 2) % 12) b)) refl
        where
          at : (b : ℕ) → rank p ≡ suc b → Dir a b → (s z : Bool) → T M.c (move p a b) b ≡ s → T M.c (move p ((a + 4) % 12) b) b ≡ z → NotBoth s z
              → Gap r j p a b s z → (v : Bool) → pres M (move p ((a + 2) % 12) b) ≡ v → Shows r j
          at b f d s z hs hz un G true v = whole-gap p r j a b pl f d q here s z hs hz un G v
          at b f d true z hs hz un G false v = absurd (not-both (old-y p r j a b pl f d q here hs) v)
          at b f d false true hs hz un G false v = absurd (not-both (old-x p r j a b pl f d q here hz) v)
          at zero f d false false hs hz un G false v =
              let rk = v-rank-at p r j a 0 pl f d q here in
              let b = base-gap M p ((a + 2) % 12) f (inside M p r R n 1 f).1 (even-turn 2 a 0 refl d) (four a ∙ q) in
              absurd (not-both (ap (pres_at M.H M.c (move p ((a + 2) % 12) 0)) rk ∙ b) v)
            where
              four : (a : ℕ) → ((a + 2) % 12 + 2) % 4 ≡ a % 4
              four a = omega arith
          at (suc b) f d false false hs hz un G false v =
              let (l, on) = third p r j a b pl f d q here v in
              tip p r j a b pl f d q here v G l on
