-- The corners of a vertex, in the mesh of H and c. A corner is acute where its two adjacents are two directions apart: it is the corner of a cell at x.
-- Any other is a gap: it lies between two parents of the vertex, of which at most one was subdivided.
-- `Mesh` hexagons and counts · `pres` what is there, `made-is`, `old-there` what a subdivision made, and what it had round it · `Alive` a cell whose u and
-- v are there, `round-alive`, `made-alive`, `old-alive` round a point that was subdivided · `Star`, `star-of` the record of a vertex by its orientation:
-- the parents lie in directions k, k + 4, k + 8, and none, the last, or the last two were subdivided · `not_yet` then the vertex was not itself ·
-- `Acute`, `Gap` document 01's star, place by place, `acute-place`, `gap-place` by its table.
-- Assumes nothing.
use Rattle.std.specs.Prelude.{◌≡◌, ◌≢◌, true, false, cond, Option, Some, None}
use Rattle.std.proofs.Math.Path.{refl, ap}
use Rattle.std.proofs.Common.{sym, ◌∙◌}
use Rattle.std.proofs.Math.Bool.{Bool}
use Prim.Native.Nat.{ℕ, suc, ◌+◌, ◌*◌, ◌%◌, ◌/◌, ◌≤◌, ◌<◌}
use native.Mathlib.Omega.{arith}
use Rattle.laws.specs.Each.{not-both}
use Rattle.laws.specs.Rules.{◌≡?◌, ◌≤?◌, ◌&◌, ◌⇒◌, rule2}
use Rattle.lattice.specs.Stars.{adjacent_at, first_at, second_at}
use Rattle.lattice.specs.Ranks.{move_of}
use Rattle.lattice.specs.declared.points.Point.{Point}
use Rattle.lattice.specs.declared.records.Record.{Record}
use Rattle.geometry.specs.SideLaws.{Dir}
use Rattle.geometry.specs.StarSteps.{turn_of, down_of, star-step}
use Rattle.growth.specs.Sheets.{vertex}
use Rattle.growth.specs.Model.{by_splits}
use Rattle.growth.specs.Normal.{Pt, rank, birth, move, back, birth-lt, out-rank, in-rank}
use Rattle.growth.specs.Directions.{mod4}
use Rattle.growth.specs.Parents.{par, par-dir, par-at, creator-new}
use Rattle.growth.specs.Closed.{T, T-lo, pres_at, int_at, star_at, full_at, rec, rec-at, full-make, full-par, full-zero, Good}
use Rattle.growth.specs.Updates.{look-inside}
use Rattle.growth.specs.OneStep.{present-old}
use Rattle.firsts.specs.Faces.{next_place}
use Rattle.together.specs.StarOpposites.{acute_of, mid_of, has_second, acute-first, acute-second, blunt-first, blunt-second, blunt-none}
use Rattle.together.specs.Cells.{add_turn, once, even-turn, odd-turn, Cell, cell, u_of, v_of, y_of, z_of, u-w, v-w}

pub record Mesh : Type 0 where
  pub H : Point → Bool
  pub c : Pt → ℕ
  pub good : Good H c

-- a cell whose u and v are there
abbrev pub pres : Mesh → Pt → Bool
pres M p = pres_at M.H M.c p (rank p)

pub record Alive (M : Mesh) (k : Cell) : Type 0 where
  pub dir : Dir k.e k.i
  pub low : rank k.x ≤ k.i
  pub u-there : pres M (u_of k) ≡ true
  pub v-there : pres M (v_of k) ≡ true

module _ (M : Mesh) where
  -- what a subdivision of x at level i enters is there where it was made
  pub made-is : (x : Pt) (g i : ℕ) → Dir g (suc i) → rank x ≤ i → pres M (move x g (suc i)) ≡ T M.c x i
  unfolding pres_at
  made-is x g i dg l =
      ap (pres_at M.H M.c (move x g (suc i))) (out-rank x g (suc i) dg (omega arith)) ∙ ap (λ (q : Pt). T M.c q i) (creator-new x g i dg l)

  -- so are the adjacents that it had then
  pub old-there : (x : Pt) (e i : ℕ) → Dir e i → rank x ≤ i → i ≤ rank x + M.c x → full_at M.H M.c x (rank x) ≡ true → pres M (move x e i) ≡ true
  old-there x e i d l h f = ap (pres_at M.H M.c (move x e i)) (out-rank x e i d l) ∙ present-old M.H M.c x e i d l h f

  is-full : (x : Pt) (i : ℕ) → rank x ≤ i → T M.c x i ≡ true → full_at M.H M.c x (rank x) ≡ true
  is-full x i l h = let m = T-lo M.c x i h in M.good x (omega arith)

  pub old-alive : (x : Pt) (e i : ℕ) → Dir e i → rank x ≤ i → T M.c x i ≡ true → Alive M (cell x e i)
  old-alive x e i d l h =
      let m = T-lo M.c x i h in
      let f = is-full x i l h in
      record {
        dir = d;
        low = l;
        u-there = old-there x e i d l (omega arith) f;
        v-there = old-there x ((e + 2) % 12) i (even-turn 2 e i refl d) l (omega arith) f;
      }

  pub made-alive : (x : Pt) (e i : ℕ) → Dir e (suc i) → rank x ≤ i → T M.c x i ≡ true → Alive M (cell x e (suc i))
  made-alive x e i d l h =
      record {
        dir = d;
        low = omega arith;
        u-there = made-is x e i d l ∙ h;
        v-there = made-is x ((e + 2) % 12) i (even-turn 2 e (suc i) refl d) l ∙ h;
      }

  -- beside a parent of p, in direction a
  module _ (p : Pt) (a b : ℕ) (f : rank p ≡ suc b) (d : Dir a b) (k : a % 4 ≡ birth p) where
    low : rank (move p a b) ≤ b
    low = in-rank p a b d.0 f k

    pub right_there : pres M (move p ((a + 11) % 12) (suc b)) ≡ T M.c (move p a b) b
    right_there =
        let q = cell (move p a b) ((a + 6) % 12) b in
        let dq = even-turn 6 a b refl d in
        ap (pres M) ((λ t. move (sym (back p a b d) t) (sym (add_turn a 6 5) t) (suc b)) ∙ u-w q dq)
        ∙ made-is q.x ((q.e + 1) % 12) b (odd-turn 1 q.e b refl dq) low

    pub left_there : pres M (move p ((a + 1) % 12) (suc b)) ≡ T M.c (move p a b) b
    left_there =
        let q = cell (move p a b) ((a + 4) % 12) b in
        let dq = even-turn 4 a b refl d in
        let is : p ≡ v_of q = sym (back p a b d) ∙ ap (λ (g : ℕ). move (move p a b) g b) (sym (add_turn a 4 2)) in
        ap (pres M) ((λ t. move (is t) (sym (add_turn a 4 9 ∙ once a 1) t) (suc b)) ∙ v-w q dq)
        ∙ made-is q.x ((q.e + 1) % 12) b (odd-turn 1 q.e b refl dq) low

    pub round-alive : T M.c (move p a b) b ≡ true → Alive M (cell p ((a + 11) % 12) (suc b))
    round-alive on =
        record {
          dir = odd-turn 11 a b refl d;
          low = omega arith;
          u-there = right_there ∙ on;
          v-there = ap (λ (g : ℕ). pres M (move p g (suc b))) (add_turn a 11 2 ∙ once a 1) ∙ left_there ∙ on;
        }

-- ---- the star of a vertex of less than degree 6, by its own orientation k: the parents in directions k + 4, k + 8, or the last, were subdivided
pub record Lesser (M : Mesh) (p : Pt) (b k : ℕ) (s t : Bool) : Type 0 where
  pub dir : Dir k b
  pub birth-is : k % 4 ≡ birth p
  pub s0 : T M.c (move p k b) b ≡ false
  pub s4 : T M.c (move p ((k + 4) % 12) b) b ≡ s
  pub s8 : T M.c (move p ((k + 8) % 12) b) b ≡ t

pub data Degree : Bool → Bool → ℕ → Type 0 where
  three : Degree false false 3
  four : Degree false true 4
  five : Degree true true 5

abbrev pub full_record : Mesh → Pt → Record
full_record M p = vertex p.at 6 ((rank p + M.c p) % 2) (rank p + M.c p)

pub data Star (M : Mesh) (p : Pt) (r : Record) (b : ℕ) : Type 0 where
  six : full_at M.H M.c p (suc b) ≡ true → r ≡ full_record M p → Star M p r b
  less : {s t : Bool} {d : ℕ} → Degree s t d → (k : ℕ) → Lesser M p b k s t → r ≡ vertex p.at d k b → Star M p r b

module _ (M : Mesh) (p : Pt) (r : Record) (x : rec M.H M.c p ≡ Some r) (n : r.d ≢ 0) where
  pub inside : (f : ℕ) → rank p ≡ f → (pres_at M.H M.c p f ≡ true) × (int_at M.H p f ≡ true) × (r ≡ star_at M.c p f)
  inside f e =
      look-inside (pres_at M.H M.c p f) (int_at M.H p f) p.at (star_at M.c p f) r (sym (rec-at M.H M.c p f e) ∙ x) n

  pub star-zero : rank p ≡ 0 → (full_at M.H M.c p 0 ≡ true) × (r ≡ full_record M p)
  unfolding int_at star_at
  star-zero e = let (_, i, s) = inside 0 e in (full-zero M.H M.c p ∙ i, s)

  pub star-of : (b : ℕ) → rank p ≡ suc b → Star M p r b
  unfolding star_at by_splits par
  star-of b e = go (split 0) (split 1) (split 2) refl refl refl (inside (suc b) e).2
    where
      split : ℕ → Bool
      split t = T M.c (par p t b) b

      l : birth p < 4
      l = birth-lt p

      -- from the parent t on
      lesser : (t t4 t8 : ℕ) {y z : Bool} → t < 3 → (birth p + 4 * t + 4) % 12 ≡ birth p + 4 * t4 → (birth p + 4 * t + 8) % 12 ≡ birth p + 4 * t8
          → split t ≡ false → split t4 ≡ y → split t8 ≡ z → Lesser M p b (birth p + 4 * t) y z
      lesser t t4 t8 ht h4 h8 a0 a4 a8 =
          record {
            dir = par-dir p t b ht e;
            birth-is = mod4 (birth p) t l;
            s0 = a0;
            s4 = ap (λ (g : ℕ). T M.c (move p g b) b) h4 ∙ a4;
            s8 = ap (λ (g : ℕ). T M.c (move p g b) b) h8 ∙ a8;
          }

      from0 : {y z : Bool} → split 0 ≡ false → split 1 ≡ y → split 2 ≡ z → Lesser M p b (birth p + 4 * 0) y z
      from0 = lesser 0 1 2 (omega arith) (omega (arith, l)) (omega (arith, l))

      from1 : {y z : Bool} → split 1 ≡ false → split 2 ≡ y → split 0 ≡ z → Lesser M p b (birth p + 4 * 1) y z
      from1 = lesser 1 2 0 (omega arith) (omega (arith, l)) (omega (arith, l))

      from2 : {y z : Bool} → split 2 ≡ false → split 0 ≡ y → split 1 ≡ z → Lesser M p b (birth p + 4 * 2) y z
      from2 = lesser 2 0 1 (omega arith) (omega (arith, l)) (omega (arith, l))

      here : (d : ℕ) → r ≡ vertex p.at d (birth p) b → r ≡ vertex p.at d (birth p + 4 * 0) b
      here d q = q ∙ ap (λ (k : ℕ). vertex p.at d k b) (omega arith)

      go : (s0 s1 s2 : Bool) → split 0 ≡ s0 → split 1 ≡ s1 → split 2 ≡ s2 → r ≡ by_splits p.at s0 s1 s2 (birth p) b (rank p + M.c p) → Star M p r b
      go false false false h0 h1 h2 q = less three (birth p + 4 * 0) (from0 h0 h1 h2) (here 3 q)
      go true false false h0 h1 h2 q = less four (birth p + 4 * 1) (from1 h1 h2 h0) q
      go false true false h0 h1 h2 q = less four (birth p + 4 * 2) (from2 h2 h0 h1) q
      go false false true h0 h1 h2 q = less four (birth p + 4 * 0) (from0 h0 h1 h2) (here 4 q)
      go true true false h0 h1 h2 q = less five (birth p + 4 * 2) (from2 h2 h0 h1) q
      go true false true h0 h1 h2 q = less five (birth p + 4 * 1) (from1 h1 h2 h0) q
      go false true true h0 h1 h2 q = less five (birth p + 4 * 0) (from0 h0 h1 h2) (here 5 q)
      go true true true h0 h1 h2 q = six (full-make M.H M.c p b (inside (suc b) e).1 h0 h1 h2) q

-- a vertex with a parent, in direction k, that was not subdivided has not been subdivided
pub not_yet : (M : Mesh) (p : Pt) (b k : ℕ) → rank p ≡ suc b → Dir k b → k % 4 ≡ birth p → T M.c (move p k b) b ≡ false → (i : ℕ) → suc b ≤ i
    → T M.c p i ≡ false
not_yet M p b k f d e s i l = go (T M.c p i) refl
  where
    go : (x : Bool) → T M.c p i ≡ x → x ≡ false
    go false h = refl
    go true h =
        let m = d.0 in
        let full = ap (full_at M.H M.c p) (sym f) ∙ is-full M p i (omega arith) h in
        absurd (not-both (full-par M.H M.c p b (k / 4) (omega arith) full) (ap (λ (q : Pt). T M.c q b) (par-at p k b d.0 e) ∙ s))

-- ---- document 01's star, place by place
pub record Place (r : Record) (j : ℕ) (a n f : Point) (s : Option Point) : Type 0 where
  pub below : j < r.d
  pub adjacent : adjacent_at r j ≡ a
  pub next : adjacent_at r (next_place r.d j) ≡ n
  pub first : first_at r j ≡ f
  pub second : second_at r j ≡ s

-- the corner of a cell at x
abbrev pub Acute : Record → ℕ → Cell → Type 0
Acute r j k = Place r j (u_of k).at (v_of k).at (z_of k).at (Some (y_of k).at)

-- between the parents in directions a and a + 4: whether each was subdivided
abbrev pub low_of : Pt → ℕ → ℕ → Bool → Pt
low_of p a b true = move p ((a + 1) % 12) (suc b)
low_of p a b false = move p a b

abbrev pub high_of : Pt → ℕ → ℕ → Bool → Pt
high_of p a b true = move p ((a + 3) % 12) (suc b)
high_of p a b false = move p ((a + 4) % 12) b

abbrev pub far_off : Pt → ℕ → ℕ → Bool → Bool → Option Point
far_off p a b true t = None
far_off p a b false true = None
far_off p a b false false = Some (move (move p ((a + 2) % 12) b) ((a + 2) % 12) b).at

abbrev pub Gap : Record → ℕ → Pt → ℕ → ℕ → Bool → Bool → Type 0
Gap r j p a b s t = Place r j (low_of p a b s).at (high_of p a b t).at (move p ((a + 2) % 12) b).at (far_off p a b s t)

abbrev pub NotBoth : Bool → Bool → Type 0
NotBoth s t = (s ≡ true) → (t ≡ true) → ⊥

-- the next place at an acute corner
acute-next : (d j : ℕ) → d < 7 → j < 6 → 3 ≤ d → suc j ≤ d → acute_of d j ≡ 1
    → (suc (next_place d j) ≤ d) × ((turn_of d (next_place d j) ≡ (turn_of d j + 2) % 12) × (down_of d (next_place d j) ≡ down_of d j))
unfolding turn_of down_of acute_of
acute-next d j hd hj =
    rule2 7 6 (λ d j. 3 ≤? d ⇒ suc j ≤? d ⇒ acute_of d j ≡? 1
    ⇒ suc (next_place d j) ≤? d & turn_of d (next_place d j) ≡? ((turn_of d j + 2) % 12) & down_of d (next_place d j) ≡? down_of d j) tt d hd j hj

module _ (p : Pt) (d k n : ℕ) (l : 3 ≤ d) (h : d ≤ 6) (dir : Dir k n) where
  abbrev R : Record
  R = vertex p.at d k n

  pub acute-place : (j e i : ℕ) → j < d → acute_of d j ≡ 1 → (k + turn_of d j) % 12 ≡ e → n + down_of d j ≡ i → Acute R j (cell p e i)
  unfolding move
  acute-place j e i hj a he hi =
      let (nb, (nt, nd)) = acute-next d j (omega arith) (omega arith) l hj a in
      let e2 : (k + turn_of d (next_place d j)) % 12 ≡ (e + 2) % 12 = two (turn_of d j) (turn_of d (next_place d j)) nt ∙ ap (λ (g : ℕ). (g + 2) % 12) he in
      let i2 : n + down_of d (next_place d j) ≡ i = ap (λ (o : ℕ). n + o) nd ∙ hi in
      record {
        below = hj;
        adjacent = star-step R j l h hj dir.0 dir.1 ∙ (λ t. move_of p.at (he t) (hi t));
        next = star-step R (next_place d j) l h nb dir.0 dir.1 ∙ (λ t. move_of p.at (e2 t) (i2 t));
        first = acute-first R j l h hj dir.0 dir.1 a
            ∙ (λ t. move_of (move_of (move_of p.at (he t) (hi t)) ((he t + 2) % 12) (hi t)) ((he t + 7) % 12) (suc (hi t)));
        second = acute-second R j l h hj dir.0 dir.1 a ∙ (λ t. Some (move_of (move_of p.at (he t) (hi t)) ((he t + 2) % 12) (hi t)));
      }
    where
      two : (s s' : ℕ) → s' ≡ (s + 2) % 12 → (k + s') % 12 ≡ ((k + s) % 12 + 2) % 12
      two s s' q = rw q (go s)
        where
          go : (s : ℕ) → (k + (s + 2) % 12) % 12 ≡ ((k + s) % 12 + 2) % 12
          go s = omega arith

  -- the two adjacents, the middle direction, and whether there is a second opposite
  pub gap-place : (j j' a : ℕ) (s t : Bool) → j < d → j' < d → next_place d j ≡ j' → acute_of d j ≡ 0 → (k + mid_of d j) % 12 ≡ (a + 2) % 12
      → (k + turn_of d j) % 12 ≡ cond s ((a + 1) % 12) a → down_of d j ≡ cond s 1 0
      → (k + turn_of d j') % 12 ≡ cond t ((a + 3) % 12) ((a + 4) % 12) → down_of d j' ≡ cond t 1 0
      → has_second d j ≡ cond s 0 (cond t 0 1) → Gap R j p a n s t
  unfolding move
  gap-place j j' a s t hj hj' hn ac hm he hd he' hd' hf =
      record {
        below = hj;
        adjacent = star-step R j l h hj dir.0 dir.1 ∙ (λ i. move_of p.at (he i) (n + hd i)) ∙ low s;
        next = ap (adjacent_at R) hn ∙ star-step R j' l h hj' dir.0 dir.1 ∙ (λ i. move_of p.at (he' i) (n + hd' i)) ∙ high t;
        first = blunt-first R j l h hj dir.0 dir.1 ac ∙ ap (λ (g : ℕ). move_of p.at g n) hm;
        second = far s t hf;
      }
    where
      plus : (o m : ℕ) → n + o ≡ m → (g : ℕ) → move_of p.at g (n + o) ≡ move_of p.at g m
      plus o m q g = ap (λ (i : ℕ). move_of p.at g i) q

      low : (s : Bool) → move_of p.at (cond s ((a + 1) % 12) a) (n + cond s 1 0) ≡ (low_of p a n s).at
      low true = plus 1 (suc n) (omega arith) ((a + 1) % 12)
      low false = plus 0 n (omega arith) a

      high : (t : Bool) → move_of p.at (cond t ((a + 3) % 12) ((a + 4) % 12)) (n + cond t 1 0) ≡ (high_of p a n t).at
      high true = plus 1 (suc n) (omega arith) ((a + 3) % 12)
      high false = plus 0 n (omega arith) ((a + 4) % 12)

      far : (s t : Bool) → has_second d j ≡ cond s 0 (cond t 0 1) → second_at R j ≡ far_off p a n s t
      far true t q = blunt-none R j l h hj dir.0 dir.1 ac q
      far false true q = blunt-none R j l h hj dir.0 dir.1 ac q
      far false false q = blunt-second R j l h hj dir.0 dir.1 ac q ∙ ap (λ (g : ℕ). Some (move_of (move_of p.at g n) g n)) hm
