-- Cells: the rhombi of which faces are made. The cell of a point x, a direction e and a level i (e as even or odd as i) has the points x, u, y, v: u and
-- v one step of level i from x, in directions e and e + 2, and y across from x. It is also the cell of y, e + 6, i: its `other` name. w and z are its
-- inner points, one step of level i + 1 from x and from y.
--         v ------- y        u, v are of rank i + 1, and x and y are parents of both; w and z are of rank i + 2.
--        /   w  z  /         Subdividing x at level i enters w, subdividing y enters z: then the rhombus u, z, v, w takes its place, the `next` cell, of
--       x ------- u          u, e + 3, i + 1.
-- `add_turn` .. `down_turn` directions · `u-x` .. `z-y` steps from point to point, by four laws of steps: back, fan, and the two side laws · `other-u` ..
-- `other-z`, `next-u` .. `next-y` the points of the other name and of the next cell · `u-rank` .. `v-birth` ranks and births · `other-other`,
-- `next-other`, `next-inj` names.
-- Assumes nothing.
use Rattle.std.specs.Prelude.{◌≡◌, refl, ℕ, suc, ◌+◌, ◌%◌, ◌≤◌, ◌<◌}
use Rattle.std.proofs.Common.{sym, ◌∙◌, ap, arith}
use Rattle.geometry.specs.SideLaws.{Dir}
use Rattle.growth.specs.Normal.{Pt, rank, birth, move, back, fan, side-l, side-r, out-rank, out-birth, in-rank}
use Rattle.growth.specs.Directions.{mod-12-4}

-- ---- directions
pub add_turn : (e s t : ℕ) → ((e + s) % 12 + t) % 12 ≡ (e + (s + t)) % 12
add_turn e s t = omega arith

pub once : (e s : ℕ) → (e + (12 + s)) % 12 ≡ (e + s) % 12
once e s = omega arith

pub whole : (e : ℕ) → e < 12 → (e + 12) % 12 ≡ e
whole e h = omega arith

-- turned by s, for a level j as even or odd
turned : (s e i j : ℕ) → (e + s) % 2 ≡ j % 2 → Dir ((e + s) % 12) j
turned s e i j h = (omega arith, two (e + s) ∙ h)
  where
    two : (x : ℕ) → x % 12 % 2 ≡ x % 2
    two x = omega arith

pub even-turn : (s e i : ℕ) → s % 2 ≡ 0 → Dir e i → Dir ((e + s) % 12) i
even-turn s e i h d = let p = d.1 in turned s e i i (omega arith)

pub odd-turn : (s e i : ℕ) → s % 2 ≡ 1 → Dir e i → Dir ((e + s) % 12) (suc i)
odd-turn s e i h d = let p = d.1 in turned s e i (suc i) (omega arith)

pub down_turn : (s e i : ℕ) → s % 2 ≡ 1 → Dir e (suc i) → Dir ((e + s) % 12) i
down_turn s e i h d = let p = d.1 in turned s e i i (omega arith)

-- where the direction before e's cell is no parent's, those two on and two back are
pub one_parent : (e b k : ℕ) → e % 2 ≡ suc b % 2 → k < 4 → k % 2 ≡ b % 2 → ((e + 1) % 12 % 4 ≡ k → ⊥) → ((e + 3) % 12 % 4 ≡ k) × ((e + 11) % 12 % 4 ≡ k)
one_parent e b k p l m n = let z = swap ((e + 1) % 4) k (omega arith) l (odd e b k p m) (λ z. n (mod-12-4 (e + 1) ∙ z)) in (on e ∙ z, off e ∙ z)
  where
    on : (e : ℕ) → (e + 3) % 12 % 4 ≡ ((e + 1) % 4 + 2) % 4
    on e = omega arith

    off : (e : ℕ) → (e + 11) % 12 % 4 ≡ ((e + 1) % 4 + 2) % 4
    off e = omega arith

    two : (x : ℕ) → x % 4 % 2 ≡ x % 2
    two x = omega arith

    step : (e b k : ℕ) → e % 2 ≡ suc b % 2 → k % 2 ≡ b % 2 → (e + 1) % 2 ≡ k % 2
    step e b k p m = omega arith

    odd : (e b k : ℕ) → e % 2 ≡ suc b % 2 → k % 2 ≡ b % 2 → (e + 1) % 4 % 2 ≡ k % 2
    odd e b k p m = two (e + 1) ∙ step e b k p m

    swap : (x k : ℕ) → x < 4 → k < 4 → x % 2 ≡ k % 2 → (x ≡ k → ⊥) → (x + 2) % 4 ≡ k
    swap x k hx hk h n = omega arith

-- a step back, by the direction that it is
pub back_at : (p q : Pt) (e g i : ℕ) → Dir e i → move p e i ≡ q → (e + 6) % 12 ≡ g → move q g i ≡ p
back_at p q e g i d h k = (λ t. move (sym h t) (sym k t) i) ∙ back p e i d

-- ---- cells and their points
pub record Cell : Type 0 where
  pub x : Pt
  pub e : ℕ
  pub i : ℕ

abbrev pub cell : Pt → ℕ → ℕ → Cell
cell x e i = record { x = x; e = e; i = i }

abbrev pub u_of : Cell → Pt
u_of k = move k.x k.e k.i

abbrev pub v_of : Cell → Pt
v_of k = move k.x ((k.e + 2) % 12) k.i

abbrev pub y_of : Cell → Pt
y_of k = move (u_of k) ((k.e + 2) % 12) k.i

abbrev pub w_of : Cell → Pt
w_of k = move k.x ((k.e + 1) % 12) (suc k.i)

abbrev pub z_of : Cell → Pt
z_of k = move (y_of k) ((k.e + 7) % 12) (suc k.i)

abbrev pub other : Cell → Cell
other k = cell (y_of k) ((k.e + 6) % 12) k.i

abbrev pub next : Cell → Cell
next k = cell (u_of k) ((k.e + 3) % 12) (suc k.i)

module _ (k : Cell) (d : Dir k.e k.i) where
  abbrev e : ℕ
  e = k.e

  abbrev i : ℕ
  i = k.i

  pub dir2 : Dir ((k.e + 2) % 12) k.i
  dir2 = even-turn 2 e i refl d

  pub dir6 : Dir ((k.e + 6) % 12) k.i
  dir6 = even-turn 6 e i refl d

  pub u-x : move (u_of k) ((k.e + 6) % 12) k.i ≡ k.x
  u-x = back k.x e i d

  pub v-x : move (v_of k) ((k.e + 8) % 12) k.i ≡ k.x
  v-x = back_at k.x (v_of k) ((e + 2) % 12) ((e + 8) % 12) i dir2 refl (add_turn e 2 6)

  pub u-v : move (u_of k) ((k.e + 4) % 12) k.i ≡ v_of k
  u-v = fan k.x e i d

  pub y-v : move (y_of k) ((k.e + 6) % 12) k.i ≡ v_of k
  y-v = ap (λ (g : ℕ). move (y_of k) g i) (sym (add_turn e 2 4)) ∙ fan (u_of k) ((e + 2) % 12) i dir2 ∙ ap (λ (g : ℕ). move (u_of k) g i) (add_turn e 2 2) ∙ u-v

  y-u : move (y_of k) ((k.e + 8) % 12) k.i ≡ u_of k
  y-u = back_at (u_of k) (y_of k) ((e + 2) % 12) ((e + 8) % 12) i dir2 refl (add_turn e 2 6)

  pub v-y : move (v_of k) k.e k.i ≡ y_of k
  v-y = back_at (y_of k) (v_of k) ((e + 6) % 12) e i dir6 y-v (add_turn e 6 6 ∙ whole e d.0)

  d1 : Dir ((k.e + 1) % 12) (suc k.i)
  d1 = odd-turn 1 e i refl d

  pub w-u : move (w_of k) ((k.e + 11) % 12) (suc k.i) ≡ u_of k
  w-u =
      ap (λ (g : ℕ). move (w_of k) g (suc i)) (sym (add_turn e 1 10)) ∙ side-r k.x ((e + 1) % 12) i d1
      ∙ ap (λ (g : ℕ). move k.x g i) (add_turn e 1 11 ∙ whole e d.0)

  pub w-v : move (w_of k) ((k.e + 3) % 12) (suc k.i) ≡ v_of k
  w-v =
      ap (λ (g : ℕ). move (w_of k) g (suc i)) (sym (add_turn e 1 2)) ∙ side-l k.x ((e + 1) % 12) i d1
      ∙ ap (λ (g : ℕ). move k.x g i) (add_turn e 1 1)

  pub u-w : move (u_of k) ((k.e + 5) % 12) (suc k.i) ≡ w_of k
  u-w = back_at (w_of k) (u_of k) ((e + 11) % 12) ((e + 5) % 12) (suc i) (odd-turn 11 e i refl d) w-u (add_turn e 11 6 ∙ once e 5)

  pub v-w : move (v_of k) ((k.e + 9) % 12) (suc k.i) ≡ w_of k
  v-w = back_at (w_of k) (v_of k) ((e + 3) % 12) ((e + 9) % 12) (suc i) (odd-turn 3 e i refl d) w-v (add_turn e 3 6)

  -- ---- the other name
  pub other-u : u_of (other k) ≡ v_of k
  other-u = y-v

  pub other-v : v_of (other k) ≡ u_of k
  other-v = ap (λ (g : ℕ). move (y_of k) g i) (add_turn e 6 2) ∙ y-u

  pub other-y : y_of (other k) ≡ k.x
  other-y = (λ t. move (y-v t) (add_turn e 6 2 t) i) ∙ v-x

  pub other-w : w_of (other k) ≡ z_of k
  other-w = ap (λ (g : ℕ). move (y_of k) g (suc i)) (add_turn e 6 1)

  pub other-z : z_of (other k) ≡ w_of k
  other-z = λ t. move (other-y t) ((add_turn e 6 7 ∙ once e 1) t) (suc i)

  pub other-other : other (other k) ≡ k
  other-other = λ t. cell (other-y t) ((add_turn e 6 6 ∙ whole e d.0) t) i

-- ---- z by the other name; the next cell
module _ (k : Cell) (d : Dir k.e k.i) where
  pub next-dir : Dir ((k.e + 3) % 12) (suc k.i)
  next-dir = odd-turn 3 k.e k.i refl d

  pub next-u : u_of (next k) ≡ z_of k
  next-u = (λ t. move (sym (other-v k d) t) (sym (add_turn k.e 6 9 ∙ once k.e 3) t) (suc k.i)) ∙ v-w (other k) (dir6 k d) ∙ other-w k d

  pub next-v : v_of (next k) ≡ w_of k
  next-v = ap (λ (g : ℕ). move (u_of k) g (suc k.i)) (add_turn k.e 3 2) ∙ u-w k d

  pub next-y : y_of (next k) ≡ v_of k
  next-y = side-l (u_of k) ((k.e + 3) % 12) k.i next-dir ∙ ap (λ (g : ℕ). move (u_of k) g k.i) (add_turn k.e 3 1) ∙ u-v k d

  -- w, z and y lie on a line
  pub w-z : move (w_of k) ((k.e + 1) % 12) (suc k.i) ≡ z_of k
  w-z = back_at (z_of k) (w_of k) ((k.e + 7) % 12) ((k.e + 1) % 12) (suc k.i) (odd-turn 7 k.e k.i refl d) z-w (add_turn k.e 7 6 ∙ once k.e 1)
    where
      z-w : move (z_of k) ((k.e + 7) % 12) (suc k.i) ≡ w_of k
      z-w = (λ t. move (sym next-u t) (sym (add_turn k.e 3 4) t) (suc k.i)) ∙ u-v (next k) next-dir ∙ next-v

  pub z-y : move (z_of k) ((k.e + 1) % 12) (suc k.i) ≡ y_of k
  z-y = back_at (y_of k) (z_of k) ((k.e + 7) % 12) ((k.e + 1) % 12) (suc k.i) (odd-turn 7 k.e k.i refl d) refl (add_turn k.e 7 6 ∙ once k.e 1)

  pub next-other : next (other k) ≡ other (next k)
  next-other = λ t. cell ((other-u k d ∙ sym next-y) t) (swap k.e t) (suc k.i)
    where
      swap : (e : ℕ) → ((e + 6) % 12 + 3) % 12 ≡ ((e + 3) % 12 + 6) % 12
      swap e = omega arith

  -- ---- ranks, and the births of u and v: y is a parent of both
  module _ (l : rank k.x ≤ k.i) where
    pub u-rank : rank (u_of k) ≡ suc k.i
    u-rank = out-rank k.x k.e k.i d l

    pub v-rank : rank (v_of k) ≡ suc k.i
    v-rank = out-rank k.x ((k.e + 2) % 12) k.i (dir2 k d) l

    pub w-rank : rank (w_of k) ≡ suc (suc k.i)
    w-rank = out-rank k.x ((k.e + 1) % 12) (suc k.i) (odd-turn 1 k.e k.i refl d) (omega arith)

    pub u-birth : (k.e + 2) % 12 % 4 ≡ birth (u_of k)
    u-birth = go k.e ∙ sym (out-birth k.x k.e k.i d l)
      where
        go : (e : ℕ) → (e + 2) % 12 % 4 ≡ (e + 6) % 4
        go e = omega arith

    pub v-birth : k.e % 4 ≡ birth (v_of k)
    v-birth = go k.e ∙ sym (out-birth k.x ((k.e + 2) % 12) k.i (dir2 k d) l)
      where
        go : (e : ℕ) → e % 4 ≡ ((e + 2) % 12 + 6) % 4
        go e = omega arith

    pub y-rank : rank (y_of k) ≤ k.i
    y-rank = in-rank (u_of k) ((k.e + 2) % 12) k.i (omega arith) u-rank u-birth

-- a next cell tells what it is the next of
pub next-inj : (k l : Cell) → Dir k.e k.i → Dir l.e l.i → next k ≡ next l → k ≡ l
next-inj k l d d' h =
    let i-is : k.i ≡ l.i = (let z = ap (λ (c : Cell). c.i) h in omega arith) in
    let e-is : k.e ≡ l.e = turn k.e l.e d.0 d'.0 (ap (λ (c : Cell). c.e) h) in
    let u-is : u_of k ≡ u_of l = ap (λ (c : Cell). c.x) h in
    let x-is : k.x ≡ l.x = sym (u-x k d) ∙ (λ t. move (u-is t) ((e-is t + 6) % 12) (i-is t)) ∙ u-x l d' in
    (λ t. cell (x-is t) (e-is t) (i-is t))
  where
    turn : (a b : ℕ) → a < 12 → b < 12 → (a + 3) % 12 ≡ (b + 3) % 12 → a ≡ b
    turn a b ha hb h = omega arith
