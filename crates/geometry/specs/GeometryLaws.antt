-- The geometry of stars: steps in the twelve directions, and the adjacent points of a record's star.
-- `six-adjacent` a degree 6 star goes by the even or the odd directions · `turned_move` a corner of a hexagon by directions ·
-- `move-back` a step read from its other end ·
-- `move-inj` two directions lead to two points ·
-- `star-distinct` the places of a star are different points · `sum-sum` two steps that add up to a third.
-- Each is a law of places at a common depth: a step adds the place of what is stepped by (`step-told`, `sum_same`).
-- Assumes nothing.
use Rattle.std.specs.Prelude.{◌≡◌, refl, Bool, true, false, ◌&&◌, not, ◌||◌, ℕ, zero, suc, ◌+◌, ◌*◌, ◌%◌, ◌/◌, ◌≤◌, ◌<◌, ◌-◌, ◌^◌, T, eqb, ℤ, neg_ℤ, pos, ◌+ℤ◌, ◌*ℤ◌, ◌-ℤ◌}
use Rattle.std.proofs.Common.{sym, ◌∙◌, ap, subst, arith}
use Rattle.std.proofs.Math.Decide.{dec_lt}
use Rattle.std.proofs.Math.Dec.{eqb-suc-zero}
use Rattle.laws.specs.Rules.{Test, ◌≡?◌, ◌≡ᶻ?◌, ◌≤?◌, ◌&◌, ◌⇒◌, run, upto, upto-at, rule2, rule}
use Rattle.laws.specs.Linear.{same, told-≡, ‵, ◌⊕◌, ◌⊝◌, ⊟, ◌⊗◌}
use Rattle.laws.specs.Multiples.{add_times, neg-times, cancel}
use Rattle.lattice.specs.Points.{pt, by3, is_normal, turn60_of, turn30_of, turns, lift, sum_of}
use Rattle.lattice.specs.PointLaws.{alike, alike-eq, turns-three}
use Rattle.lattice.specs.Places.{wide, high, sum-wide, sum-high, sum-depth, sum-assoc, unique, normal-low, Low, turn60-wide, turn60-high, away}
use Rattle.lattice.specs.Places.{sum_away, lift-lift, pow-over}
use Rattle.lattice.specs.Patterns.{orient, three, four, five, six, rows_of, pattern_of, adjacent_of}
use Rattle.lattice.specs.PatternLaws.{orient-depth, adjacent-close, orient-turn}
use Rattle.lattice.specs.Stars.{scale_of, step_of, adjacent_at}
use Rattle.lattice.specs.Ranks.{move_of, level}
use Rattle.lattice.specs.declared.points.Point.{Point}
use Rattle.lattice.specs.declared.records.Level.{Level}
use Rattle.lattice.specs.declared.records.Record.{Record}

-- ---- a normalised point, as the laws of places want it
pub low-normal : (p : Point) → T (is_normal p) → Low p
low-normal p t = record { low = go p.m.0 (by3 p.a && by3 p.b) t }
  where
    go : (m : ℕ) (b : Bool) → T (eqb m 0 || not b) → 0 < m → b ≡ false
    go zero b t h = absurd (omega arith)
    go (suc m) true t h = absurd (subst (λ (x : Bool). T (x || false)) (eqb-suc-zero m) t)
    go (suc m) false t h = refl

-- ---- directions: a turn of 60 degrees goes two directions on
orient-turns : (j k : ℕ) (p : Point) → orient k (turns j p) ≡ orient (2 * j + k) p
unfolding turns orient
orient-turns zero k p = let e : 2 * 0 + k ≡ k = omega arith in rw e
orient-turns (suc j) k p = let e : 2 * suc j + k ≡ suc (suc (2 * j + k)) = omega arith in rw e (orient-turn k (turns j p) ∙ ap turn60_of (orient-turns j k p))

abbrev unit : Point
unit = pt (pos 1) (pos 0) 0

six-row : (j : ℕ) → j < 6 → (pattern_of 6 j).adjacent ≡ turns j unit
unfolding pattern_of rows_of three four five six turns
six-row j h = alike-eq _ _ (rule 6 (λ j. alike (pattern_of 6 j).adjacent (turns j unit)) tt j h)

-- place j of a degree 6 star is direction 2j + k
pub six-adjacent : (r : Record) (j : ℕ) → r.d ≡ 6 → j < 6 → adjacent_at r j ≡ move_of r.at (2 * j + r.k) r.n.0
six-adjacent r j d h = ap (λ (p : Point). step_of r.at r.n p)
    (ap (λ (d : ℕ). adjacent_of d r.k j) d ∙ ap (orient r.k) (six-row j h) ∙ orient-turns j r.k unit)

-- a unit step turned j times is a step of level 0 in direction 2j
pub turned_move : (p : Point) (j : ℕ) → j < 6 → sum_of p (turns j unit) ≡ move_of p (2 * j) 0
unfolding turns orient
turned_move p j h = ap (sum_of p) (alike-eq _ _ (rule 6 (λ j. alike (turns j unit) (scale_of (level 0) (orient (2 * j) unit))) tt j h))

-- ---- six directions on is the other way
away-away : (p : Point) → away (away p) ≡ p
away-away p = λ i. pt (same (⊟ (⊟ (‵ p.a))) (‵ p.a) (omega arith) i) (same (⊟ (⊟ (‵ p.b))) (‵ p.b) (omega arith) i) p.m.0

orient-half : (e : ℕ) (p : Point) → orient (6 + e) p ≡ away (orient e p)
unfolding orient turns
orient-half e p = let x : 6 + e ≡ suc (suc (suc (suc (suc (suc e))))) = omega arith in ap (λ (k : ℕ). orient k p) x ∙ turns-three (orient e p)

orient-away : (e : ℕ) (p : Point) → e < 12 → orient ((e + 6) % 12) p ≡ away (orient e p)
orient-away e p h = go (dec_lt e 6)
  where
    go : Dec (e < 6) → orient ((e + 6) % 12) p ≡ away (orient e p)
    go (yes l) = let x : (e + 6) % 12 ≡ 6 + e = omega arith in ap (λ (k : ℕ). orient k p) x ∙ orient-half e p
    go (no l) =
        let f = e - 6 in
        let x : (e + 6) % 12 ≡ f = omega arith in
        let y : e ≡ 6 + f = omega arith in
        ap (λ (k : ℕ). orient k p) x ∙ sym (away-away (orient f p)) ∙ ap away (sym (ap (λ (k : ℕ). orient k p) y ∙ orient-half f p))

-- a step, read from its other end
pub move-back : (p : Point) (e i : ℕ) → T (is_normal p) → e < 12 → move_of (move_of p e i) ((e + 6) % 12) i ≡ p
move-back p e i t h =
    ap (λ (q : Point). sum_of (move_of p e i) (scale_of (level i) q)) (orient-away e unit h)
    ∙ sum_away p (scale_of (level i) (orient e unit)) (low-normal p t)

-- ---- steps add places
-- two places that are the same, at depth D
pub record Same (D : ℕ) (p q : Point) : Type 0 where
  pub across : wide D p ≡ wide D q
  pub up : high D p ≡ high D q

-- what is told at a greater depth holds at any that both points have
same-down : (d D : ℕ) (p q : Point) → d ≤ D → p.m.0 ≤ d → q.m.0 ≤ d → Same D p q → Same d p q
same-down d D p q h hp hq s = record { across = one p.a q.a s.across; up = one p.b q.b s.up }
  where
    one : (x y : ℤ) → lift x p.m.0 D ≡ lift y q.m.0 D → lift x p.m.0 d ≡ lift y q.m.0 d
    one x y e = cancel (lift x p.m.0 d) (lift y q.m.0 d) (3 ^ (D - d)) (pow-over (D - d))
        (lift-lift x p.m.0 d D hp h ∙ e ∙ sym (lift-lift y q.m.0 d D hq h))

-- the step's length only scales what is stepped by
pub scale-lift : (x : ℤ) (m h D : ℕ) → lift x (m + h) (D + h) ≡ lift x m D
scale-lift x m h D = let e : D + h - (m + h) ≡ D - m = omega arith in ap (λ (k : ℕ). x *ℤ pos (3 ^ k)) e

same_scale : (n : Level) (D : ℕ) (p q : Point) → Same (D + n.0 / 2) (scale_of n p) (scale_of n q) → Same D p q
same_scale n D p q s = record { across = one p.a q.a s.across; up = one p.b q.b s.up }
  where
    one : (x y : ℤ) → lift x (p.m.0 + n.0 / 2) (D + n.0 / 2) ≡ lift y (q.m.0 + n.0 / 2) (D + n.0 / 2) → lift x p.m.0 D ≡ lift y q.m.0 D
    one x y e = sym (scale-lift x p.m.0 (n.0 / 2) D) ∙ e ∙ scale-lift y q.m.0 (n.0 / 2) D

-- a sum tells what was added
sum_told : (v p q : Point) (D : ℕ) → v.m.0 ≤ D → p.m.0 ≤ D → q.m.0 ≤ D → sum_of v p ≡ sum_of v q → Same D p q
sum_told v p q D hv hp hq e =
    record {
      across = one (wide D v) (wide D p) (wide D q) (sym (sum-wide v p D hv hp) ∙ ap (wide D) e ∙ sum-wide v q D hv hq);
      up = one (high D v) (high D p) (high D q) (sym (sum-high v p D hv hp) ∙ ap (high D) e ∙ sum-high v q D hv hq);
    }
  where
    one : (x y z : ℤ) → x +ℤ y ≡ x +ℤ z → y ≡ z
    one x y z e = let t = told-≡ (‵ x ⊕ ‵ y) (‵ x ⊕ ‵ z) e in same (‵ y) (‵ z) (omega arith)

pub step-told : (v p q : Point) (n : Level) (d : ℕ) → p.m.0 ≤ d → q.m.0 ≤ d → step_of v n p ≡ step_of v n q → Same d p q
step-told v p q n d hp hq e =
    let D = v.m.0 + d in
    same-down d D p q (omega arith) hp hq
    (same_scale n D p q (sum_told v (scale_of n p) (scale_of n q) (D + n.0 / 2) (omega arith) (omega arith) (omega arith) e))

-- ---- two directions lead to two points
row-inj : (e g : ℕ) → e < 12 → g < 12 → Same 1 (orient e unit) (orient g unit) → e ≡ g
unfolding orient
row-inj e g he hg s = rule2 12 12 (λ e g. wide 1 (orient e unit) ≡ᶻ? wide 1 (orient g unit) & high 1 (orient e unit) ≡ᶻ? high 1 (orient g unit)
    ⇒ e ≡? g) tt e he g hg (s.across, s.up)

unit-depth : (e : ℕ) → (orient e unit).m.0 ≤ 1
unit-depth e = let d = orient-depth e unit in omega arith

pub move-inj : (p : Point) (e g i : ℕ) → e < 12 → g < 12 → move_of p e i ≡ move_of p g i → e ≡ g
move-inj p e g i he hg h = row-inj e g he hg (step-told p (orient e unit) (orient g unit) (level i) 1 (unit-depth e) (unit-depth g) h)

-- ---- the places of a star are different points
turn60-told : (D : ℕ) (p q : Point) → Same D (turn60_of p) (turn60_of q) → Same D p q
turn60-told D p q s =
    let x = told-≡ (⊟ (‵ (high D p))) (⊟ (‵ (high D q))) (sym (turn60-wide p D) ∙ s.across ∙ turn60-wide q D) in
    let y = told-≡ (‵ (wide D p) ⊕ ‵ (high D p)) (‵ (wide D q) ⊕ ‵ (high D q)) (sym (turn60-high p D) ∙ s.up ∙ turn60-high q D) in
    record { across = same (‵ (wide D p)) (‵ (wide D q)) (omega arith); up = same (‵ (high D p)) (‵ (high D q)) (omega arith) }

turn30-wide : (p : Point) (D : ℕ) → wide (D + 1) (turn30_of p) ≡ wide D p -ℤ high D p
turn30-wide p D =
    scale-lift (p.a -ℤ p.b) p.m.0 1 D ∙ add_times p.a (neg_ℤ p.b) (3 ^ (D - p.m.0))
    ∙ ap (λ (z : ℤ). wide D p +ℤ z) (neg-times p.b (3 ^ (D - p.m.0)))

turn30-high : (p : Point) (D : ℕ) → high (D + 1) (turn30_of p) ≡ wide D p +ℤ (high D p +ℤ high D p)
turn30-high p D =
    let k = 3 ^ (D - p.m.0) in
    scale-lift (p.a +ℤ pos 2 *ℤ p.b) p.m.0 1 D ∙ add_times p.a (pos 2 *ℤ p.b) k
    ∙ ap (λ (z : ℤ). wide D p +ℤ z) (ap (λ (z : ℤ). z *ℤ pos k) (same (2 ⊗ ‵ p.b) (‵ p.b ⊕ ‵ p.b) (omega arith)) ∙ add_times p.b p.b k)

turn30-told : (D : ℕ) (p q : Point) → Same (D + 1) (turn30_of p) (turn30_of q) → Same D p q
turn30-told D p q s =
    let x = told-≡ (‵ (wide D p) ⊝ ‵ (high D p)) (‵ (wide D q) ⊝ ‵ (high D q)) (sym (turn30-wide p D) ∙ s.across ∙ turn30-wide q D) in
    let y = told-≡ (‵ (wide D p) ⊕ (‵ (high D p) ⊕ ‵ (high D p))) (‵ (wide D q) ⊕ (‵ (high D q) ⊕ ‵ (high D q)))
    (sym (turn30-high p D) ∙ s.up ∙ turn30-high q D) in
    record { across = same (‵ (wide D p)) (‵ (wide D q)) (omega arith); up = same (‵ (high D p)) (‵ (high D q)) (omega arith) }

-- an orientation keeps different points different
orient-told : (k D : ℕ) (p q : Point) → Same (D + k % 2) (orient k p) (orient k q) → Same D p q
unfolding orient
orient-told zero D p q s = let e : D + 0 % 2 ≡ D = omega arith in subst (λ (n : ℕ). Same n p q) e s
orient-told (suc zero) D p q s = turn30-told D p q s
orient-told (suc (suc k)) D p q s =
    let e : D + suc (suc k) % 2 ≡ D + k % 2 = omega arith in
    orient-told k D p q (turn60-told (D + k % 2) (orient k p) (orient k q) (subst (λ (n : ℕ). Same n (turn60_of (orient k p)) (turn60_of (orient k q))) e s))

row-distinct : (d i j : ℕ) → 3 ≤ d → d ≤ 6 → i < d → j < d → Same 1 (pattern_of d i).adjacent (pattern_of d j).adjacent → i ≡ j
unfolding pattern_of rows_of three four five six
row-distinct d i j l h hi hj s =
    let f : ℕ → ℕ → ℕ → Test = λ d i j.
    3 ≤? d ⇒ suc i ≤? d ⇒ suc j ≤? d
    ⇒ wide 1 (pattern_of d i).adjacent ≡ᶻ? wide 1 (pattern_of d j).adjacent & high 1 (pattern_of d i).adjacent ≡ᶻ? high 1 (pattern_of d j).adjacent ⇒ i ≡? j in
    rule2 6 6 (f d) (upto-at 7 (λ d. upto 6 (λ i. upto 6 (λ j. run (f d i j)))) tt d (omega arith)) i (omega arith) j (omega arith) l hi hj (s.across, s.up)

pub star-distinct : (r : Record) (i j : ℕ) → 3 ≤ r.d → r.d ≤ 6 → i < r.d → j < r.d → adjacent_at r i ≡ adjacent_at r j → i ≡ j
star-distinct r i j l h hi hj e =
    let x = (pattern_of r.d i).adjacent in
    let y = (pattern_of r.d j).adjacent in
    let dx = orient-depth r.k x in
    let dy = orient-depth r.k y in
    let cx = (adjacent-close r.d i l h hi).depth in
    let cy = (adjacent-close r.d j l h hj).depth in
    row-distinct r.d i j l h hi hj
    (orient-told r.k 1 x y (step-told r.at (orient r.k x) (orient r.k y) r.n (1 + r.k % 2) (omega arith) (omega arith) e))

-- ---- two steps that add up to a third
same-raised : (d D : ℕ) (p q : Point) → d ≤ D → p.m.0 ≤ d → q.m.0 ≤ d → Same d p q → Same D p q
same-raised d D p q h hp hq s = record { across = one p.a q.a s.across; up = one p.b q.b s.up }
  where
    one : (x y : ℤ) → lift x p.m.0 d ≡ lift y q.m.0 d → lift x p.m.0 D ≡ lift y q.m.0 D
    one x y e = sym (lift-lift x p.m.0 d D hp h) ∙ ap (λ (z : ℤ). lift z d D) e ∙ lift-lift y q.m.0 d D hq h

-- a sum knows only the place of what is added
pub sum_same : (v p q : Point) (D : ℕ) → p.m.0 ≤ D → q.m.0 ≤ D → Same D p q → sum_of v p ≡ sum_of v q
sum_same v p q D hp hq s =
    let E = v.m.0 + D in
    let t = same-raised D E p q (omega arith) hp hq s in
    let dp = sum-depth v p in
    let dq = sum-depth v q in
    unique (sum_of v p) (sum_of v q) E (omega arith) (omega arith) (normal-low _ _ _) (normal-low _ _ _)
    (sum-wide v p E (omega arith) (omega arith) ∙ ap (λ (z : ℤ). wide E v +ℤ z) t.across ∙ sym (sum-wide v q E (omega arith) (omega arith)))
    (sum-high v p E (omega arith) (omega arith) ∙ ap (λ (z : ℤ). high E v +ℤ z) t.up ∙ sym (sum-high v q E (omega arith) (omega arith)))

pub sum-sum : (v p q r : Point) (D : ℕ) → p.m.0 ≤ D → q.m.0 ≤ D → r.m.0 ≤ D → wide D p +ℤ wide D q ≡ wide D r → high D p +ℤ high D q ≡ high D r
    → sum_of (sum_of v p) q ≡ sum_of v r
sum-sum v p q r D hp hq hr a b =
    let d = sum-depth p q in
    sum-assoc v p q
    ∙ sum_same v (sum_of p q) r D (omega arith) hr (record { across = sum-wide p q D hp hq ∙ a; up = sum-high p q D hp hq ∙ b })
