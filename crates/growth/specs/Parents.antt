-- A private device: the parents and the creator of a point, by steps alone.
-- A point p of rank b + 1 has three parents, one step of level b away in every fourth direction from its birth orientation (`par`). If b is at least 1,
-- exactly one of them has a rank below b:
-- the creator. For if x is such a parent, p = x + step, and the two other parents are ends of steps of level b - 1 from x (the side laws), whose rank is
-- b (`unique`).
-- `par`, `par-rank`, `par-back`, `par-at`, `parent_of` · `creator_of`, `creator-ex`, `creator-is`, `creator-new` ·
-- `parent-near` the creator of p is a parent of p's other parents.
-- Assumes nothing.
use Rattle.std.specs.Prelude.{◌≡◌, refl, ◌≢◌, ◌⊎◌, Bool, true, false, cond, ℕ, zero, suc, ◌+◌, ◌*◌, ◌%◌, ◌/◌, ◌≤◌, ◌<◌, ltb}
use Rattle.std.proofs.Common.{sym, ◌∙◌, ap, inl, inr, arith, ltb-true, lt-ltb}
use Rattle.geometry.specs.SideLaws.{Dir, turn1, turn6, turn11}
use Rattle.growth.specs.Normal.{Pt, rank, birth, move, back, inj, side-l, side-r, birth-lt, birth-par, out-rank, out-birth, in-rank, creator}
use Rattle.growth.specs.Directions.{thirds, third_of, mod-12-4, below3, mod4, plus4, plus8}

unfoldable pub par : Pt → ℕ → ℕ → Pt
par p t b = move p (birth p + 4 * t) b

unfoldable pub creator_of : Pt → ℕ → Pt
creator_of p i =
    cond (ltb (rank (par p 0 (suc i))) (suc i)) (par p 0 (suc i))
    (cond (ltb (rank (par p 1 (suc i))) (suc i)) (par p 1 (suc i)) (par p 2 (suc i)))

-- ---- the side laws, from a point that is known to be a step's end
pub aside-l : (q p : Pt) (e i a : ℕ) → Dir e (suc i) → p ≡ move q e (suc i) → a ≡ (e + 2) % 12 → move p a (suc i) ≡ move q ((e + 1) % 12) i
aside-l q p e i a he hp ha = rw (hp, ha) (side-l q e i he)

pub aside-r : (q p : Pt) (e i a : ℕ) → Dir e (suc i) → p ≡ move q e (suc i) → a ≡ (e + 10) % 12 → move p a (suc i) ≡ move q ((e + 11) % 12) i
aside-r q p e i a he hp ha = rw (hp, ha) (side-r q e i he)

-- ---- parents
pub par-dir : (p : Pt) (t b : ℕ) → t < 3 → rank p ≡ suc b → Dir (birth p + 4 * t) b
par-dir p t b h f = let l = birth-lt p in let m = birth-par p b f in (omega arith, even (birth p) t b m)
  where
    even : (k t b : ℕ) → k % 2 ≡ b % 2 → (k + 4 * t) % 2 ≡ b % 2
    even k t b h = omega arith

pub par-back : (p q : Pt) (t b : ℕ) → t < 3 → rank p ≡ suc b → par p t b ≡ q → p ≡ move q ((birth p + 4 * t + 6) % 12) b
unfolding par
par-back p q t b h f e = rw (← e) (sym (back p (birth p + 4 * t) b (par-dir p t b h f)))

pub par-rank : (p : Pt) (t b : ℕ) → t < 3 → rank p ≡ suc b → rank (par p t b) ≤ b
unfolding par
par-rank p t b h f = let l = birth-lt p in in-rank p (birth p + 4 * t) b (omega arith) f (mod4 (birth p) t l)

pub par-inj : (p : Pt) (t t' b : ℕ) → t < 3 → t' < 3 → rank p ≡ suc b → par p t b ≡ par p t' b → t ≡ t'
unfolding par
par-inj p t t' b h h' f e =
    let x = inj p (birth p + 4 * t) (birth p + 4 * t') b (par-dir p t b h f) (par-dir p t' b h' f) e in
    omega arith

pub par-move : (p : Pt) (t b : ℕ) → par p t b ≡ move p (birth p + 4 * t) b
unfolding par
par-move p t b = refl

-- the parent in direction a
pub par-at : (p : Pt) (a b : ℕ) → a < 12 → a % 4 ≡ birth p → par p (a / 4) b ≡ move p a b
unfolding par
par-at p a b h k = ap (λ (x : ℕ). move p x b) (sym (third_of a (birth p) h k))

-- q is a parent of the ends of its steps
pub parent_of : (q : Pt) (e i : ℕ) → Dir e i → rank q ≤ i → par (move q e i) ((e + 6) % 12 / 4) i ≡ q
parent_of q e i he hq =
    par-at (move q e i) ((e + 6) % 12) i (omega arith) (mod-12-4 (e + 6) ∙ sym (out-birth q e i he hq)) ∙ back q e i he

-- ---- the creator
-- of the parents of a point of rank i + 2 only one has rank i or less
unique : (p : Pt) (i a a' : ℕ) → Dir a (suc i) → Dir a' (suc i) → a % 4 ≡ a' % 4 → rank (move p a (suc i)) ≤ i → rank (move p a' (suc i)) ≤ i → a ≡ a'
unique p i a a' ha ha' hm h h' = go (thirds a' a ha'.0 ha.0 (sym hm))
  where
    q : Pt
    q = move p a (suc i)

    e : ℕ
    e = (a + 6) % 12

    he : Dir e (suc i)
    he = turn6 a (suc i) ha

    hp : p ≡ move q e (suc i)
    hp = sym (back p a (suc i) ha)

    go : (a' ≡ a) ⊎ ((a' ≡ (a + 4) % 12) ⊎ (a' ≡ (a + 8) % 12)) → a ≡ a'
    go (inl x) = sym x
    go (inr (inl x)) =
        let m = aside-r q p e i a' he hp (x ∙ plus4 a ha.0) in
        let f = out-rank q ((e + 11) % 12) i (turn11 e i he) h in
        let g : rank (move p a' (suc i)) ≡ suc i = ap rank m ∙ f in
        omega arith
    go (inr (inr x)) =
        let m = aside-l q p e i a' he hp (x ∙ plus8 a ha.0) in
        let f = out-rank q ((e + 1) % 12) i (turn1 e i he) h in
        let g : rank (move p a' (suc i)) ≡ suc i = ap rank m ∙ f in
        omega arith

pub creator-ex : (p : Pt) (i : ℕ) → rank p ≡ suc (suc i) → (t : ℕ) × (t < 3) × (rank (par p t (suc i)) ≤ i)
creator-ex p i f =
    let (e, h, k, l) = creator p i f in
    (e / 4, omega arith, rw (par-at p e (suc i) h k) l)

par-unique : (p : Pt) (i t t' : ℕ) → t < 3 → t' < 3 → rank p ≡ suc (suc i) → rank (par p t (suc i)) ≤ i → rank (par p t' (suc i)) ≤ i → t ≡ t'
unfolding par
par-unique p i t t' ht ht' f h h' =
    let x = unique p i (birth p + 4 * t) (birth p + 4 * t') (par-dir p t (suc i) ht f) (par-dir p t' (suc i) ht' f) (m4 (birth p) t t') h h' in
    omega arith
  where
    m4 : (k t t' : ℕ) → (k + 4 * t) % 4 ≡ (k + 4 * t') % 4
    m4 k t t' = omega arith

pub creator-is : (p : Pt) (i t : ℕ) → t < 3 → rank p ≡ suc (suc i) → rank (par p t (suc i)) ≤ i → creator_of p i ≡ par p t (suc i)
unfolding creator_of
creator-is p i t ht f h = go t ht h
  where
    here : (t : ℕ) → rank (par p t (suc i)) ≤ i → ltb (rank (par p t (suc i))) (suc i) ≡ true
    here t h = lt-ltb (rank (par p t (suc i))) (suc i) (omega arith)

    not-here : (t t' : ℕ) → t < 3 → t' < 3 → rank (par p t (suc i)) ≤ i → t ≢ t' → ltb (rank (par p t' (suc i))) (suc i) ≡ false
    not-here t t' ht ht' h n = by (ltb (rank (par p t' (suc i))) (suc i)) refl
      where
        by : (b : Bool) → ltb (rank (par p t' (suc i))) (suc i) ≡ b → b ≡ false
        by true e = let l = ltb-true (rank (par p t' (suc i))) (suc i) e in absurd (n (par-unique p i t t' ht ht' f h (omega arith)))
        by false e = refl

    go : (t : ℕ) → t < 3 → rank (par p t (suc i)) ≤ i → creator_of p i ≡ par p t (suc i)
    go zero ht h = rw (here 0 h)
    go (suc zero) ht h = rw (not-here 1 0 ht (omega arith) h (omega arith), here 1 h)
    go (suc (suc zero)) ht h = rw (not-here 2 0 ht (omega arith) h (omega arith), not-here 2 1 ht (omega arith) h (omega arith))
    go (suc (suc (suc t))) ht h = absurd (omega arith)

-- the creator of a point that q makes
pub creator-new : (q : Pt) (e i : ℕ) → Dir e (suc i) → rank q ≤ i → creator_of (move q e (suc i)) i ≡ q
creator-new q e i he hq =
    let a = parent_of q e (suc i) he (omega arith) in
    creator-is (move q e (suc i)) i ((e + 6) % 12 / 4) (below3 (e + 6)) (out-rank q e (suc i) he (omega arith)) (rw a hq) ∙ a

pub creator-rank : (p : Pt) (i : ℕ) → rank p ≡ suc (suc i) → rank (creator_of p i) ≤ i
creator-rank p i f = let (t, ht, k) = creator-ex p i f in rw (creator-is p i t ht f k) k

-- x made p, and q is another parent of p: then q is the end of a step of level i from x, and x a parent of q
pub parent-near : (x p q : Pt) (i a g : ℕ) → Dir a (suc i) → Dir g (suc i) → a % 4 ≡ g % 4 → a ≢ g → x ≡ move p a (suc i) → q ≡ move p g (suc i)
    → (h : ℕ) × Dir h i × (q ≡ move x h i)
parent-near x p q i a g ha hg hm ne hx hq = go (thirds g a hg.0 ha.0 (sym hm))
  where
    e : ℕ
    e = (a + 6) % 12

    he : Dir e (suc i)
    he = turn6 a (suc i) ha

    hp : p ≡ move x e (suc i)
    hp = rw hx (sym (back p a (suc i) ha))

    go : (g ≡ a) ⊎ ((g ≡ (a + 4) % 12) ⊎ (g ≡ (a + 8) % 12)) → (h : ℕ) × Dir h i × (q ≡ move x h i)
    go (inl y) = absurd (ne (sym y))
    go (inr (inl y)) = ((e + 11) % 12, turn11 e i he, hq ∙ aside-r x p e i g he hp (y ∙ plus4 a ha.0))
    go (inr (inr y)) = ((e + 1) % 12, turn1 e i he, hq ∙ aside-l x p e i g he hp (y ∙ plus8 a ha.0))

-- so the parents of p are its creator x and two ends of steps of level i from x
pub parents-near : (p : Pt) (i t u : ℕ) → t < 3 → u < 3 → t ≢ u → rank p ≡ suc (suc i) → (h : ℕ) × Dir h i × (par p t (suc i) ≡ move (par p u (suc i)) h i)
parents-near p i t u ht hu ne f =
    parent-near (par p u (suc i)) p (par p t (suc i)) i (birth p + 4 * u) (birth p + 4 * t) (par-dir p u (suc i) hu f) (par-dir p t (suc i) ht f)
    (mod4 (birth p) u (birth-lt p) ∙ sym (mod4 (birth p) t (birth-lt p))) (λ z. ne (omega arith)) (par-move p u (suc i)) (par-move p t (suc i))
