-- Chains of cells. Where x and y of a cell were both subdivided at its level the cell is spent, and its next cell takes its place: so each start is
-- followed to exactly one live cell, and each live cell comes from exactly one start. Starts are the base's cells, and the cells of x, e, i with x of rank
-- below i, alive where x was subdivided at level i - 1: one for each point that a subdivision enters. So faces are counted by starts.
-- `Spent`, `alive-next`, `next-alive` the next cell is alive exactly where a cell is spent · `Start`, `SpentTo` · `down` a cell that is alive comes from a
-- start · `up` a start leads to a live cell · `one-start`, `one_end` only one.
-- Assumes nothing.
use Rattle.std.specs.Prelude.{◌≡◌, refl, ◌≢◌, ◌⊎◌, Bool, true, false, ℕ, zero, suc, ◌+◌, ◌%◌, ◌≤◌, ◌<◌}
use Rattle.std.proofs.Common.{sym, ◌∙◌, ap, subst, inl, inr, arith}
use Rattle.std.proofs.Math.Decide.{ℕ_discrete, dec_le}
use Rattle.laws.specs.Each.{never}
use Rattle.geometry.specs.SideLaws.{Dir}
use Rattle.growth.specs.Normal.{Pt, rank, birth, move, side-l, birth-lt, birth-par, out-rank, in-rank}
use Rattle.growth.specs.Closed.{T, T-lo}
use Rattle.growth.specs.Order.{Low}
use Rattle.together.specs.Cells.{add_turn, whole, odd-turn, down_turn, one_parent, back_at, Cell, cell, v_of, y_of, w_of, z_of, other, next, dir6}
use Rattle.together.specs.Cells.{other-y, other-other, next-dir, next-u, next-v, next-y, next-other, next-inj, u-rank, v-rank, y-rank}
use Rattle.together.specs.Corners.{Mesh, pres, Alive, made-is, old-alive}
use Rattle.together.specs.Faces.{Live, alive-other}

-- k is l, by one of its names
abbrev pub Named : Cell → Cell → Type 0
Named k l = (k ≡ l) ⊎ (k ≡ other l)

pub named-reverse : (k l : Cell) → Dir l.e l.i → Named k l → Named l k
named-reverse k l d (inl h) = inl (sym h)
named-reverse k l d (inr h) = inr (sym (ap other h ∙ other-other l d))

pub named-then : (k l m : Cell) → Dir m.e m.i → Named k l → Named l m → Named k m
named-then k l m d (inl e) (inl g) = inl (e ∙ g)
named-then k l m d (inl e) (inr g) = inr (e ∙ g)
named-then k l m d (inr e) (inl g) = inr (e ∙ ap other g)
named-then k l m d (inr e) (inr g) = inl (e ∙ ap other g ∙ other-other m d)

-- starts, by the one of their names where x is the end of lower rank; in the base, where u is the hexagon's centre
pub data Start (k : Cell) : Type 0 where
  ground : k.i ≡ 0 → k.e % 4 ≡ 2 → Start k
  made : rank k.x < k.i → Start k

abbrev pub next_n : ℕ → Cell → Cell
next_n zero k = k
next_n (suc m) k = next (next_n m k)

next_n-level : (m : ℕ) (s : Cell) → (next_n m s).i ≡ s.i + m
next_n-level zero s = omega arith
next_n-level (suc m) s = let z = next_n-level m s in omega arith

-- a start by the other name is none, nor is a next cell one
start-other : (s l : Cell) → Start s → Start l → Dir l.e l.i → s ≡ other l → ⊥
start-other s l (ground a b) (ground a' b') d h = let z = ap (λ (k : Cell). k.e % 4) h in turned l.e b' (sym z ∙ b)
  where
    turned : (e : ℕ) → e % 4 ≡ 2 → (e + 6) % 12 % 4 ≡ 2 → ⊥
    turned e p q = omega arith
start-other s l (ground a b) (made q) d h = let z = ap (λ (k : Cell). k.i) h in omega arith
start-other s l (made p) (ground a b) d h = let z = ap (λ (k : Cell). k.i) h in omega arith
start-other s l (made p) (made q) d h = go l.i refl
  where
    x-is : rank s.x ≡ rank (y_of l)
    x-is = ap (λ (k : Cell). rank k.x) h

    i-is : s.i ≡ l.i
    i-is = ap (λ (k : Cell). k.i) h

    go : (j : ℕ) → l.i ≡ j → ⊥
    go zero e = omega arith
    go (suc j) e =
        let dl : Dir l.e (suc j) = subst (λ (i : ℕ). Dir l.e i) e d in
        let w : y_of l ≡ move l.x ((l.e + 1) % 12) j = ap (λ (i : ℕ). y_of (cell l.x l.e i)) e ∙ side-l l.x l.e j dl in
        let r : rank (y_of l) ≡ suc j = ap rank w ∙ out-rank l.x ((l.e + 1) % 12) j (down_turn 1 l.e j refl dl) (omega arith) in
        omega (arith, x-is, i-is, r)

start-next : (s k : Cell) → Start s → Dir k.e k.i → rank k.x ≤ k.i → Named s (next k) → ⊥
start-next s k (ground a b) d l (inl h) = let z = ap (λ (k : Cell). k.i) h in omega arith
start-next s k (ground a b) d l (inr h) = let z = ap (λ (k : Cell). k.i) h in omega arith
start-next s k (made p) d l (inl h) =
    let z = ap (λ (k : Cell). k.i) h in
    let w = ap (λ (k : Cell). rank k.x) h in
    let r = u-rank k d l in
    omega arith
start-next s k (made p) d l (inr h) =
    let z = ap (λ (k : Cell). k.i) h in
    let w : rank s.x ≡ rank (v_of k) = ap (λ (k : Cell). rank k.x) h ∙ ap rank (next-y k d) in
    let r = v-rank k d l in
    omega arith

module _ (M : Mesh) where
  abbrev Spent : Cell → Type 0
  Spent k = (T M.c k.x k.i ≡ true) × (T M.c (y_of k) k.i ≡ true)

  spent-other : (k : Cell) → Dir k.e k.i → Spent k → Spent (other k)
  spent-other k d (a, b) = (b, ap (λ (q : Pt). T M.c q k.i) (other-y k d) ∙ a)

  -- ---- the next cell is alive exactly where a cell is spent
  module _ (k : Cell) (d : Dir k.e k.i) (l : rank k.x ≤ k.i) where
    z-made : pres M (z_of k) ≡ T M.c (y_of k) k.i
    z-made = made-is M (y_of k) ((k.e + 7) % 12) k.i (odd-turn 7 k.e k.i refl d) (y-rank k d l)

    w-made : pres M (w_of k) ≡ T M.c k.x k.i
    w-made = made-is M k.x ((k.e + 1) % 12) k.i (odd-turn 1 k.e k.i refl d) l

    alive-next : Spent k → Alive M (next k)
    alive-next (a, b) =
        let r = u-rank k d l in
        record {
          dir = next-dir k d;
          low = omega arith;
          u-there = ap (pres M) (next-u k d) ∙ z-made ∙ b;
          v-there = ap (pres M) (next-v k d) ∙ w-made ∙ a;
        }

    next-alive : Alive M (next k) → Spent k
    next-alive A = (sym w-made ∙ ap (pres M) (sym (next-v k d)) ∙ A.v-there, sym z-made ∙ ap (pres M) (sym (next-u k d)) ∙ A.u-there)

  -- ---- all before the m-th next of s are spent
  abbrev pub SpentTo : Cell → ℕ → Type 0
  SpentTo s m = (n : ℕ) → n < m → Spent (next_n n s)

  none_before : (s : Cell) → SpentTo s 0
  none_before s n l = absurd (omega arith)

  longer : (s : Cell) (m : ℕ) → SpentTo s m → Spent (next_n m s) → SpentTo s (suc m)
  longer s m h z n l = go (ℕ_discrete n m)
    where
      go : Dec (n ≡ m) → Spent (next_n n s)
      go (yes e) = subst (λ (n : ℕ). Spent (next_n n s)) (sym e) z
      go (no e) = h n (omega arith)

  pub chain-alive : (s : Cell) (m : ℕ) → Alive M s → SpentTo s m → Alive M (next_n m s)
  chain-alive s zero A h = A
  chain-alive s (suc m) A h = let B = chain-alive s m A (λ n l. h n (omega arith)) in alive-next (next_n m s) B.dir B.low (h m (omega arith))

  -- ---- down: the cell before
  module _ (K : Cell) (i : ℕ) (z : K.i ≡ suc i) (A : Alive M K) (f : rank K.x ≡ suc i) (g : rank (y_of K) ≡ suc i) where
    abbrev E : ℕ
    E = K.e

    abbrev before : Cell
    before = cell (move K.x ((K.e + 3) % 12) i) ((K.e + 9) % 12) i

    dK : Dir K.e (suc i)
    dK = subst (λ (i : ℕ). Dir K.e i) z A.dir

    -- y is not a parent of x, so what lies two directions on is
    near : (K.e + 3) % 12 % 4 ≡ birth K.x
    near = (one_parent E i (birth K.x) dK.1 (birth-lt K.x) (birth-par K.x i f) apart).0
      where
        apart : (K.e + 1) % 12 % 4 ≡ birth K.x → ⊥
        apart h =
            let r : rank (move K.x ((K.e + 1) % 12) i) ≤ i = in-rank K.x ((K.e + 1) % 12) i (omega arith) f h in
            let y-is : y_of K ≡ move K.x ((K.e + 1) % 12) i = ap (λ (i : ℕ). y_of (cell K.x K.e i)) z ∙ side-l K.x K.e i dK in
            let w = ap rank y-is in
            omega arith

    before-dir : Dir ((K.e + 9) % 12) i
    before-dir = down_turn 9 E i refl dK

    before-low : rank (move K.x ((K.e + 3) % 12) i) ≤ i
    before-low = in-rank K.x ((E + 3) % 12) i (omega arith) f near

    before-next : next before ≡ K
    before-next =
        λ t. cell (back_at K.x before.x ((E + 3) % 12) ((E + 9) % 12) i (down_turn 3 E i refl dK) refl (add_turn E 3 6) t)
        ((add_turn E 9 3 ∙ whole E dK.0) t) (sym z t)

    before-spent : Spent before
    before-spent = next-alive before before-dir before-low (subst (Alive M) (sym before-next) A)

    before-alive : Alive M before
    before-alive = old-alive M before.x before.e i before-dir before-low before-spent.0

  -- a cell that is alive comes from a start
  pub record Descent (k : Cell) : Type 0 where
    pub s : Cell
    pub m : ℕ
    pub start : Start s
    pub alive : Alive M s
    pub chain : SpentTo s m
    pub is : Named k (next_n m s)

  from-here : (k : Cell) → Start k → Alive M k → Descent k
  from-here k st A = record { s = k; m = 0; start = st; alive = A; chain = none_before k; is = inl refl }

  from-other : (k : Cell) → Alive M k → Start (other k) → Descent k
  from-other k A st =
      record {
        s = other k;
        m = 0;
        start = st;
        alive = alive-other M k A;
        chain = none_before (other k);
        is = inr (sym (other-other k A.dir));
      }

  from_next : (b k : Cell) → next b ≡ k → Spent b → Alive M b → Descent b → Descent k
  from_next b k e z A F = at F.is
    where
      d : Dir (next_n F.m F.s).e (next_n F.m F.s).i
      d = (chain-alive F.s F.m F.alive F.chain).dir

      on : Spent (next_n F.m F.s) → Named (next b) (next (next_n F.m F.s)) → Descent k
      on w n =
          record {
            s = F.s;
            m = suc F.m;
            start = F.start;
            alive = F.alive;
            chain = longer F.s F.m F.chain w;
            is = subst (λ (k : Cell). Named k (next (next_n F.m F.s))) e n;
          }

      at : Named b (next_n F.m F.s) → Descent k
      at (inl w) = on (subst Spent w z) (inl (ap next w))
      at (inr w) =
          on (subst Spent (ap other w ∙ other-other (next_n F.m F.s) d) (spent-other b A.dir z))
          (inr (ap next w ∙ next-other (next_n F.m F.s) d))

  pub down : (i : ℕ) (k : Cell) → k.i ≡ i → Alive M k → Descent k
  down zero k z A = go (ℕ_discrete (k.e % 4) 2)
    where
      half : (e i : ℕ) → i ≡ 0 → e % 2 ≡ i % 2 → e % 4 ≢ 2 → (e + 6) % 12 % 4 ≡ 2
      half e i q p n = omega arith

      go : Dec (k.e % 4 ≡ 2) → Descent k
      go (yes h) = from-here k (ground z h) A
      go (no h) = from-other k A (ground z (half k.e k.i z A.dir.1 h))
  down (suc i) k z A = go (dec_le (rank k.x) i) (dec_le (rank (y_of k)) i) (λ b e B. down i b e B)
    where
      yr : rank (y_of k) ≤ k.i
      yr = y-rank k A.dir A.low

      xr : rank k.x ≤ k.i
      xr = A.low

      go : Dec (rank k.x ≤ i) → Dec (rank (y_of k) ≤ i) → ((b : Cell) → b.i ≡ i → Alive M b → Descent b) → Descent k
      go (yes h) q ih = from-here k (made (omega arith)) A
      go (no h) (yes q) ih = from-other k A (made (omega arith))
      go (no h) (no q) ih =
          let f : rank k.x ≡ suc i = omega (arith, xr, z) in
          let g : rank (y_of k) ≡ suc i = omega (arith, yr, z) in
          let B = before-alive k i z A f g in
          from_next (before k i z A f g) k (before-next k i z A f g) (before-spent k i z A f g) B (ih (before k i z A f g) refl B)

  -- ---- up: a start leads to a live cell
  pub record To (s : Cell) : Type 0 where
    pub m : ℕ
    pub chain : SpentTo s m
    pub live : Live M (next_n m s)

  spent? : (k : Cell) → Dec (Spent k)
  spent? k = go (T M.c k.x k.i) (T M.c (y_of k) k.i) refl refl
    where
      go : (a b : Bool) → T M.c k.x k.i ≡ a → T M.c (y_of k) k.i ≡ b → Dec (Spent k)
      go true true a b = yes (a, b)
      go true false a b = no (λ z. never (sym b ∙ z.1))
      go false q a b = no (λ z. never (sym a ∙ z.0))

  -- what is spent lies below level 12
  below : Low M.c → (k : Cell) → Alive M k → Spent k → k.i < 12
  below low k B z = let a = T-lo M.c k.x k.i z.0 in let r = B.low in let w = low k.x (omega arith) in omega arith

  stop : (s : Cell) → Alive M s → (m : ℕ) → SpentTo s m → Dec (Spent (next_n m s)) → (Spent (next_n m s) → To s) → To s
  stop s A m h (yes z) go = go z
  stop s A m h (no z) go = record { m = m; chain = h; live = record { alive = chain-alive s m A h; unspent = λ a b. z (a, b) } }

  climb : Low M.c → (s : Cell) → Alive M s → (fuel m : ℕ) → SpentTo s m → 12 ≤ fuel + m → To s
  climb low s A zero m h l =
      stop s A m h (spent? (next_n m s))
      (λ z. (let w = below low (next_n m s) (chain-alive s m A h) z in let v = next_n-level m s in absurd (omega arith)))
  climb low s A (suc n) m h l = stop s A m h (spent? (next_n m s)) (λ z. climb low s A n (suc m) (longer s m h z) (omega arith))

  pub up : Low M.c → (s : Cell) → Alive M s → To s
  up low s A = climb low s A 12 0 (none_before s) (omega arith)

  -- ---- only one start, and only one end
  pub one-start : (s l : Cell) → Start s → Start l → Alive M s → Alive M l → (m n : ℕ) → SpentTo s m → SpentTo l n → Named (next_n m s) (next_n n l) → s ≡ l
  one-start s l p q A B zero zero g h (inl e) = e
  one-start s l p q A B zero zero g h (inr e) = absurd (start-other s l p q B.dir e)
  one-start s l p q A B zero (suc n) g h e = let C = chain-alive l n B (λ j k. h j (omega arith)) in absurd (start-next s (next_n n l) p C.dir C.low e)
  one-start s l p q A B (suc m) zero g h e =
      let C = chain-alive s m A (λ j k. g j (omega arith)) in
      absurd (start-next l (next_n m s) q C.dir C.low (named-reverse (next_n (suc m) s) l B.dir e))
  one-start s l p q A B (suc m) (suc n) g h e = one-start s l p q A B m n (λ j k. g j (omega arith)) (λ j k. h j (omega arith)) (prior e)
    where
      dm : Dir (next_n m s).e (next_n m s).i
      dm = (chain-alive s m A (λ j k. g j (omega arith))).dir

      dn : Dir (next_n n l).e (next_n n l).i
      dn = (chain-alive l n B (λ j k. h j (omega arith))).dir

      prior : Named (next_n (suc m) s) (next_n (suc n) l) → Named (next_n m s) (next_n n l)
      prior (inl e) = inl (next-inj (next_n m s) (next_n n l) dm dn e)
      prior (inr e) = inr (next-inj (next_n m s) (other (next_n n l)) dm (dir6 (next_n n l) dn) (e ∙ sym (next-other (next_n n l) dn)))

  pub one_end : (s : Cell) (m n : ℕ) → SpentTo s m → SpentTo s n → Live M (next_n m s) → Live M (next_n n s) → m ≡ n
  one_end s m n h k K L = go (ℕ_discrete m n) (dec_le m n)
    where
      go : Dec (m ≡ n) → Dec (m ≤ n) → m ≡ n
      go (yes e) w = e
      go (no e) (yes w) = let z = k m (omega arith) in absurd (K.unspent z.0 z.1)
      go (no e) (no w) = let z = h n (omega arith) in absurd (L.unspent z.0 z.1)
