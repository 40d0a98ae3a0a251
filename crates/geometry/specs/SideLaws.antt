-- Steps of one level and of the next. A step of level i + 1 in direction e ends between the steps of level i in directions e - 1 and e + 1:
-- from its end, two directions on or back, a step of level i + 1 leads to theirs (`side_left`, `side_right`), and it is a third of their sum
-- (`middle-wide`, `middle-high`).
-- `fan` at one level, four directions on leads to the next end round.
-- The directions' parities are the levels', so one table over the directions serves all levels.
-- Assumes nothing.
use Rattle.std.specs.Prelude.{◌≡◌, ℕ, suc, ◌+◌, ◌%◌, ◌/◌, ◌≤◌, ◌<◌, ◌-◌, ◌^◌, ℤ, pos, ◌+ℤ◌, ◌*ℤ◌}
use Rattle.std.proofs.Common.{sym, ◌∙◌, ap, arith, mul_comm}
use Rattle.laws.specs.Rules.{Test, ◌≡?◌, ◌≡ᶻ?◌, ◌&◌, ◌⇒◌, rule2, rule}
use Rattle.laws.specs.Multiples.{mul-mul, add_times}
use Rattle.laws.specs.Parts.{up}
use Rattle.lattice.specs.Points.{pt, lift}
use Rattle.lattice.specs.Places.{wide, high, lift-lift}
use Rattle.lattice.specs.Patterns.{orient}
use Rattle.lattice.specs.PatternLaws.{orient-depth}
use Rattle.lattice.specs.Stars.{scale_of}
use Rattle.lattice.specs.Ranks.{move_of, level}
use Rattle.geometry.specs.GeometryLaws.{sum-sum, scale-lift}
use Rattle.lattice.specs.declared.points.Point.{Point}

-- a direction of level i
abbrev pub Dir : ℕ → ℕ → Type 0
Dir e i = (e < 12) × (e % 2 ≡ i % 2)

-- turned by t directions: to the same level, or to its neighbour
twelve : (x : ℕ) → x % 12 % 2 ≡ x % 2
twelve x = omega arith

pub turn2 : (e i : ℕ) → Dir e i → Dir ((e + 2) % 12) i
turn2 e i d = let p = d.1 in (omega arith, twelve (e + 2) ∙ omega arith)

pub turn6 : (e i : ℕ) → Dir e i → Dir ((e + 6) % 12) i
turn6 e i d = let p = d.1 in (omega arith, twelve (e + 6) ∙ omega arith)

pub turn10 : (e i : ℕ) → Dir e i → Dir ((e + 10) % 12) i
turn10 e i d = let p = d.1 in (omega arith, twelve (e + 10) ∙ omega arith)

pub turn1 : (e i : ℕ) → Dir e (suc i) → Dir ((e + 1) % 12) i
turn1 e i d = let p = d.1 in (omega arith, twelve (e + 1) ∙ omega arith)

pub turn11 : (e i : ℕ) → Dir e (suc i) → Dir ((e + 11) % 12) i
turn11 e i d = let p = d.1 in (omega arith, twelve (e + 11) ∙ omega arith)

-- what is stepped by in direction e: its place at depth d, before the level scales it
abbrev across : ℕ → ℕ → ℤ
across d e = wide d (orient e (pt (pos 1) (pos 0) 0))

abbrev upward : ℕ → ℕ → ℤ
upward d e = high d (orient e (pt (pos 1) (pos 0) 0))

-- the vector of a step
abbrev pub vector : ℕ → ℕ → Point
vector e i = scale_of (level i) (orient e (pt (pos 1) (pos 0) 0))

-- its place at depth 1 + i/2: of the level i, and of the next one
pub vector-wide : (e i : ℕ) → wide (1 + i / 2) (vector e i) ≡ across 1 e
vector-wide e i = scale-lift (orient e (pt (pos 1) (pos 0) 0)).a (orient e (pt (pos 1) (pos 0) 0)).m.0 (i / 2) 1

pub vector-high : (e i : ℕ) → high (1 + i / 2) (vector e i) ≡ upward 1 e
vector-high e i = scale-lift (orient e (pt (pos 1) (pos 0) 0)).b (orient e (pt (pos 1) (pos 0) 0)).m.0 (i / 2) 1

next-depth : (i : ℕ) → 1 + i / 2 ≡ 1 - i % 2 + suc i / 2
next-depth i = omega arith

next-wide : (e i : ℕ) → wide (1 + i / 2) (vector e (suc i)) ≡ across (1 - i % 2) e
next-wide e i =
    ap (λ (d : ℕ). wide d (vector e (suc i))) (next-depth i)
    ∙ scale-lift (orient e (pt (pos 1) (pos 0) 0)).a (orient e (pt (pos 1) (pos 0) 0)).m.0 (suc i / 2) (1 - i % 2)

next-high : (e i : ℕ) → high (1 + i / 2) (vector e (suc i)) ≡ upward (1 - i % 2) e
next-high e i =
    ap (λ (d : ℕ). high d (vector e (suc i))) (next-depth i)
    ∙ scale-lift (orient e (pt (pos 1) (pos 0) 0)).b (orient e (pt (pos 1) (pos 0) 0)).m.0 (suc i / 2) (1 - i % 2)

pub vector-depth : (e i : ℕ) → (vector e i).m.0 ≤ 1 + i / 2
vector-depth e i = let d = orient-depth e (pt (pos 1) (pos 0) 0) in omega arith

pub next-deep : (e i : ℕ) → Dir e (suc i) → (vector e (suc i)).m.0 ≤ 1 + i / 2
next-deep e i h = let d = orient-depth e (pt (pos 1) (pos 0) 0) in let p = h.1 in omega arith

-- ---- the tables
-- directions e and g of the next level make direction f of this one; b is the parity of this level
sides : ℕ → ℕ → ℕ → ℕ → Test
sides b e g f = (across (1 - b) e +ℤ across (1 - b) g) ≡ᶻ? across 1 f & (upward (1 - b) e +ℤ upward (1 - b) g) ≡ᶻ? upward 1 f

left-row : (b e : ℕ) → b < 2 → e < 12 → e % 2 ≡ 1 - b
    → (across (1 - b) e +ℤ across (1 - b) ((e + 2) % 12) ≡ across 1 ((e + 1) % 12))
    × (upward (1 - b) e +ℤ upward (1 - b) ((e + 2) % 12) ≡ upward 1 ((e + 1) % 12))
unfolding orient sides
left-row b e hb he = rule2 2 12 (λ b e. (e % 2) ≡? (1 - b) ⇒ sides b e ((e + 2) % 12) ((e + 1) % 12)) tt b hb e he

right-row : (b e : ℕ) → b < 2 → e < 12 → e % 2 ≡ 1 - b
    → (across (1 - b) e +ℤ across (1 - b) ((e + 10) % 12) ≡ across 1 ((e + 11) % 12))
    × (upward (1 - b) e +ℤ upward (1 - b) ((e + 10) % 12) ≡ upward 1 ((e + 11) % 12))
unfolding orient sides
right-row b e hb he = rule2 2 12 (λ b e. (e % 2) ≡? (1 - b) ⇒ sides b e ((e + 10) % 12) ((e + 11) % 12)) tt b hb e he

-- ---- the laws
odd-of : (e i : ℕ) → e % 2 ≡ suc i % 2 → e % 2 ≡ 1 - i % 2
odd-of e i h = omega arith

side : (q : Point) (e g f i : ℕ) → Dir e (suc i) → Dir g (suc i)
    → (across (1 - i % 2) e +ℤ across (1 - i % 2) g ≡ across 1 f) × (upward (1 - i % 2) e +ℤ upward (1 - i % 2) g ≡ upward 1 f)
    → move_of (move_of q e (suc i)) g (suc i) ≡ move_of q f i
side q e g f i he hg h =
    sum-sum q (vector e (suc i)) (vector g (suc i)) (vector f i) (1 + i / 2) (next-deep e i he) (next-deep g i hg) (vector-depth f i)
    ((λ t. next-wide e i t +ℤ next-wide g i t) ∙ h.0 ∙ sym (vector-wide f i))
    ((λ t. next-high e i t +ℤ next-high g i t) ∙ h.1 ∙ sym (vector-high f i))

pub side_left : (q : Point) (e i : ℕ) → Dir e (suc i) → move_of (move_of q e (suc i)) ((e + 2) % 12) (suc i) ≡ move_of q ((e + 1) % 12) i
side_left q e i h = side q e ((e + 2) % 12) ((e + 1) % 12) i h (turn2 e (suc i) h) (left-row (i % 2) e (omega arith) h.0 (odd-of e i h.1))

pub side_right : (q : Point) (e i : ℕ) → Dir e (suc i) → move_of (move_of q e (suc i)) ((e + 10) % 12) (suc i) ≡ move_of q ((e + 11) % 12) i
side_right q e i h = side q e ((e + 10) % 12) ((e + 11) % 12) i h (turn10 e (suc i) h) (right-row (i % 2) e (omega arith) h.0 (odd-of e i h.1))

-- ---- at one level
fan-row : (e : ℕ) → e < 12 → (across 1 e +ℤ across 1 ((e + 4) % 12) ≡ across 1 ((e + 2) % 12))
    × (upward 1 e +ℤ upward 1 ((e + 4) % 12) ≡ upward 1 ((e + 2) % 12))
unfolding orient
fan-row e he = rule 12 (λ e. (across 1 e +ℤ across 1 ((e + 4) % 12)) ≡ᶻ? across 1 ((e + 2) % 12)
    & (upward 1 e +ℤ upward 1 ((e + 4) % 12)) ≡ᶻ? upward 1 ((e + 2) % 12)) tt e he

pub fan : (q : Point) (e i : ℕ) → e < 12 → move_of (move_of q e i) ((e + 4) % 12) i ≡ move_of q ((e + 2) % 12) i
fan q e i h =
    let g : ℕ = (e + 4) % 12 in
    let f : ℕ = (e + 2) % 12 in
    sum-sum q (vector e i) (vector g i) (vector f i) (1 + i / 2) (vector-depth e i) (vector-depth g i) (vector-depth f i)
    ((λ t. vector-wide e i t +ℤ vector-wide g i t) ∙ (fan-row e h).0 ∙ sym (vector-wide f i))
    ((λ t. vector-high e i t +ℤ vector-high g i t) ∙ (fan-row e h).1 ∙ sym (vector-high f i))

-- ---- a step of the next level is a third of the two beside it
middle-row : (b e : ℕ) → b < 2 → e < 12 → e % 2 ≡ 1 - b
    → (across 1 ((e + 11) % 12) +ℤ across 1 ((e + 1) % 12) ≡ across (1 - b) e *ℤ pos 3)
    × (upward 1 ((e + 11) % 12) +ℤ upward 1 ((e + 1) % 12) ≡ upward (1 - b) e *ℤ pos 3)
unfolding orient
middle-row b e hb he =
    rule2 2 12
    (λ b e. (e % 2) ≡? (1 - b)
    ⇒ (across 1 ((e + 11) % 12) +ℤ across 1 ((e + 1) % 12)) ≡ᶻ? (across (1 - b) e *ℤ pos 3)
    & (upward 1 ((e + 11) % 12) +ℤ upward 1 ((e + 1) % 12)) ≡ᶻ? (upward (1 - b) e *ℤ pos 3))
    tt b hb e he

-- what is three times another at a depth is so at any greater
raise-third : (x y z : Point) (f : Point → ℤ) (d D : ℕ) → d ≤ D
    → ((p : Point) → p.m.0 ≤ d → lift (f p) p.m.0 D ≡ lift (f p) p.m.0 d *ℤ pos (3 ^ (D - d)))
    → x.m.0 ≤ d → y.m.0 ≤ d → z.m.0 ≤ d → lift (f x) x.m.0 d +ℤ lift (f y) y.m.0 d ≡ lift (f z) z.m.0 d *ℤ pos 3
    → lift (f x) x.m.0 D +ℤ lift (f y) y.m.0 D ≡ lift (f z) z.m.0 D *ℤ pos 3
raise-third x y z f d D h up hx hy hz e =
    let k = 3 ^ (D - d) in
    (λ t. up x hx t +ℤ up y hy t) ∙ sym (add_times (lift (f x) x.m.0 d) (lift (f y) y.m.0 d) k) ∙ ap (λ (w : ℤ). w *ℤ pos k) e
    ∙ mul-mul (lift (f z) z.m.0 d) 3 k ∙ ap (λ (n : ℕ). lift (f z) z.m.0 d *ℤ pos n) (mul_comm 3 k) ∙ sym (mul-mul (lift (f z) z.m.0 d) k 3)
    ∙ ap (λ (w : ℤ). w *ℤ pos 3) (sym (up z hz))

module _ (e i D : ℕ) (h : Dir e (suc i)) (k : 1 + i / 2 ≤ D) where
  pub middle-wide : wide D (vector ((e + 11) % 12) i) +ℤ wide D (vector ((e + 1) % 12) i) ≡ wide D (vector e (suc i)) *ℤ pos 3
  middle-wide =
      raise-third (vector ((e + 11) % 12) i) (vector ((e + 1) % 12) i) (vector e (suc i)) (λ p. p.a) (1 + i / 2) D k
      (λ p l. sym (lift-lift p.a p.m.0 (1 + i / 2) D l k))
      (vector-depth ((e + 11) % 12) i) (vector-depth ((e + 1) % 12) i) (next-deep e i h)
      ((λ t. vector-wide ((e + 11) % 12) i t +ℤ vector-wide ((e + 1) % 12) i t)
      ∙ (middle-row (i % 2) e (omega arith) h.0 (odd-of e i h.1)).0 ∙ ap (λ (z : ℤ). z *ℤ pos 3) (sym (next-wide e i)))

  pub middle-high : high D (vector ((e + 11) % 12) i) +ℤ high D (vector ((e + 1) % 12) i) ≡ high D (vector e (suc i)) *ℤ pos 3
  middle-high =
      raise-third (vector ((e + 11) % 12) i) (vector ((e + 1) % 12) i) (vector e (suc i)) (λ p. p.b) (1 + i / 2) D k
      (λ p l. sym (lift-lift p.b p.m.0 (1 + i / 2) D l k))
      (vector-depth ((e + 11) % 12) i) (vector-depth ((e + 1) % 12) i) (next-deep e i h)
      ((λ t. vector-high ((e + 11) % 12) i t +ℤ vector-high ((e + 1) % 12) i t)
      ∙ (middle-row (i % 2) e (omega arith) h.0 (odd-of e i h.1)).1 ∙ ap (λ (z : ℤ). z *ℤ pos 3) (sym (next-high e i)))
