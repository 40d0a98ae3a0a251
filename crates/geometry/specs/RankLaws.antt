-- Ranks and birth orientations, read off what a point's numerators leave on division by 3.
-- `Ranked`, `ranked` the four kinds of points · `rank_between`, `birth-below`, `birth-parity` bounds ·
-- `ra`, `rb`, `rc` what the numerators, and their difference, leave at a depth ·
-- `ground-in` .. `paired-born` a rank by remainders, and back, at level 0, at an odd level 2h + 1, at an even level 2h + 2 ·
-- `step-a` .. `step-9` a step adds remainders.
-- Assumes nothing.
use Rattle.std.specs.Prelude.{◌≡◌, refl, ◌⊎◌, true, cond, ◌&&◌, ℕ, zero, suc, ◌+◌, ◌*◌, ◌%◌, ◌/◌, ◌≤◌, ◌<◌, ◌-◌, ◌^◌, T, eqb, ℤ, pos, ◌+ℤ◌, ◌*ℤ◌, ◌-ℤ◌, nat_abs}
use Rattle.std.proofs.Common.{sym, ◌∙◌, ap, inl, inr, true≢false, arith, eq-eqb, ne_eqb}
use Rattle.std.proofs.Math.Decide.{ℕ_discrete}
use Rattle.std.proofs.Math.IntN.{*ℤ_comm}
use Rattle.laws.specs.Linear.{same, ‵, ◌⊕◌, ◌⊝◌, ◌⊗◌}
use Rattle.laws.specs.Residue.{mod_z, left3-plus}
use Rattle.laws.specs.Rules.{◌≡?◌, ◌&◌, ◌⇒◌, rule}
use Rattle.laws.specs.Thirds.{three-below, three-minus, nine-add, zero-three, three-power}
use Rattle.lattice.specs.Points.{pt, by3, is_normal, lift}
use Rattle.lattice.specs.Places.{wide, high, sum-wide, sum-high, sum-depth}
use Rattle.lattice.specs.Patterns.{orient}
use Rattle.lattice.specs.PatternLaws.{orient-depth}
use Rattle.lattice.specs.Points.{class_of}
use Rattle.lattice.specs.Ranks.{rank_of, birth_of, move_of}
use Rattle.geometry.specs.GeometryLaws.{low-normal}
use Rattle.geometry.specs.SideLaws.{Dir, vector}
use Rattle.lattice.specs.declared.points.Point.{Point}

-- ---- what a point leaves at depth D
abbrev pub ra : ℕ → Point → ℕ
ra D p = mod_z (wide D p) 3

abbrev pub rb : ℕ → Point → ℕ
rb D p = mod_z (high D p) 3

pub times-one : (z : ℤ) (k : ℕ) → k ≡ 0 → z *ℤ pos (3 ^ k) ≡ z
times-one z k e = ap (λ (k : ℕ). z *ℤ pos (3 ^ k)) e ∙ *ℤ_comm z (pos 1) ∙ same (1 ⊗ ‵ z) (‵ z) (omega arith)

-- at a point's own depth it is what its numerators leave; at a greater depth nothing is left
own : (p : Point) → (ra p.m.0 p ≡ mod_z p.a 3) × (rb p.m.0 p ≡ mod_z p.b 3)
own p = (
  ap (λ (z : ℤ). mod_z z 3) (times-one p.a (p.m.0 - p.m.0) (omega arith)),
  ap (λ (z : ℤ). mod_z z 3)
      (times-one p.b (p.m.0 - p.m.0) (omega arith)),
)

pub zeros : (p : Point) (h : ℕ) → p.m.0 ≤ h → (ra (suc h) p ≡ 0) × (rb (suc h) p ≡ 0)
zeros p h l = (one p.a, one p.b)
  where
    one : (z : ℤ) → mod_z (lift z p.m.0 (suc h)) 3 ≡ 0
    one z = let e : suc h - p.m.0 ≡ suc (h - p.m.0) = omega arith in ap (λ (k : ℕ). mod_z (z *ℤ pos (3 ^ k)) 3) e ∙ three-power z (h - p.m.0)

-- a normalised point of depth above 0 leaves something
not_zeros : (p : Point) → T (is_normal p) → 0 < p.m.0 → mod_z p.a 3 ≡ 0 → mod_z p.b 3 ≡ 0 → ⊥
not_zeros p t h a b =
    let e : by3 p.a && by3 p.b ≡ true = simp (eq-eqb (nat_abs p.a % 3) 0 (zero-three p.a a), eq-eqb (nat_abs p.b % 3) 0 (zero-three p.b b)) in
    true≢false (sym e ∙ (low-normal p t).low h)

-- so: nothing left at depth h + 1 tells a lesser depth, and something left tells that depth
pub shallow : (p : Point) (h : ℕ) → T (is_normal p) → p.m.0 ≤ suc h → ra (suc h) p ≡ 0 → rb (suc h) p ≡ 0 → p.m.0 ≤ h
shallow p h t l a b = go (ℕ_discrete p.m.0 (suc h))
  where
    go : Dec (p.m.0 ≡ suc h) → p.m.0 ≤ h
    go (yes e) = absurd (not_zeros p t (omega arith) (sym (own p).0 ∙ ap (λ (d : ℕ). ra d p) e ∙ a) (sym (own p).1 ∙ ap (λ (d : ℕ). rb d p) e ∙ b))
    go (no e) = omega arith

pub deep : (p : Point) (h : ℕ) → p.m.0 ≤ suc h → ((ra (suc h) p ≡ 0) × (rb (suc h) p ≡ 0) → ⊥)
    → (p.m.0 ≡ suc h) × (mod_z p.a 3 ≡ ra (suc h) p) × (mod_z p.b 3 ≡ rb (suc h) p)
deep p h l n = go (ℕ_discrete p.m.0 (suc h))
  where
    go : Dec (p.m.0 ≡ suc h) → (p.m.0 ≡ suc h) × (mod_z p.a 3 ≡ ra (suc h) p) × (mod_z p.b 3 ≡ rb (suc h) p)
    go (yes e) = (e, sym (own p).0 ∙ ap (λ (d : ℕ). ra d p) e, sym (own p).1 ∙ ap (λ (d : ℕ). rb d p) e)
    go (no e) = absurd (n (zeros p h (omega arith)))

pub class-is : (p : Point) → class_of p ≡ (mod_z p.a 3 + 2 * mod_z p.b 3) % 3
class-is p = three-minus p.a p.b

-- ---- a point's rank and birth orientation, by its numbers
pub data Ranked (p : Point) : Type 0 where
  first : p.m.0 ≡ 0 → class_of p ≡ 1 → rank_of p ≡ 0 → birth_of p ≡ 0 → Ranked p
  base : p.m.0 ≡ 0 → (class_of p ≡ 1 → ⊥) → rank_of p ≡ 1 → birth_of p ≡ class_of p → Ranked p
  even : (h : ℕ) → p.m.0 ≡ suc h → class_of p ≡ 0 → 0 < mod_z p.a 3 → rank_of p ≡ 2 * h + 2 → birth_of p ≡ 5 - 2 * mod_z p.a 3 → Ranked p
  odd : (h : ℕ) → p.m.0 ≡ suc h → 0 < class_of p → rank_of p ≡ 2 * h + 3 → birth_of p ≡ 4 - 2 * class_of p → Ranked p

pub ranked : (p : Point) → T (is_normal p) → Ranked p
unfolding rank_of birth_of
ranked p t = go p.m.0 refl (ℕ_discrete (class_of p) 0) (ℕ_discrete (class_of p) 1)
  where
    c : class_of p < 3
    c = three-below (p.a -ℤ p.b)

    some : (m : ℕ) → p.m.0 ≡ suc m → class_of p ≡ 0 → 0 < mod_z p.a 3
    some m e z = above (mod_z p.a 3) (mod_z p.b 3) (three-below p.a) (three-below p.b) (λ a b. not_zeros p t (omega arith) a b) (sym (class-is p) ∙ z)
      where
        above : (x y : ℕ) → x < 3 → y < 3 → (x ≡ 0 → y ≡ 0 → ⊥) → (x + 2 * y) % 3 ≡ 0 → 0 < x
        above zero zero hx hy n e = absurd (n refl refl)
        above zero (suc zero) hx hy n e = absurd (omega arith)
        above zero (suc (suc zero)) hx hy n e = absurd (omega arith)
        above zero (suc (suc (suc y))) hx hy n e = absurd (omega arith)
        above (suc x) y hx hy n e = omega arith

    turn : (x : ℕ) → x < 3 → 0 < x → cond (eqb x 1) 3 1 ≡ 5 - 2 * x
    turn zero h l = absurd (omega arith)
    turn (suc zero) h l = refl
    turn (suc (suc zero)) h l = refl
    turn (suc (suc (suc x))) h l = absurd (omega arith)

    go : (m : ℕ) → p.m.0 ≡ m → Dec (class_of p ≡ 0) → Dec (class_of p ≡ 1) → Ranked p
    go zero e (yes z) (yes o) = absurd (omega arith)
    go zero e (yes z) (no o) = base e o (rw (e, z)) (rw (e, z))
    go zero e (no z) (yes o) = first e o (rw (e, o)) (rw (e, o))
    go zero e (no z) (no o) = let w : class_of p ≡ 2 = omega (arith, c) in base e o (rw (e, w)) (rw (e, w))
    go (suc m) e (yes z) (yes o) = absurd (omega arith)
    go (suc m) e (yes z) (no o) =
        even m e z (some m e z) (rw (ne_eqb p.m.0 0 (omega arith), z, e) (omega arith))
        (rw (ne_eqb p.m.0 0 (omega arith), z) (turn (mod_z p.a 3) (three-below p.a) (some m e z)))
    go (suc m) e (no z) (yes o) = odd m e (omega arith) (rw (ne_eqb p.m.0 0 (omega arith), o, e) (omega arith)) (rw (ne_eqb p.m.0 0 (omega arith), o))
    go (suc m) e (no z) (no o) =
        let w : class_of p ≡ 2 = omega (arith, c) in
        odd m e (omega arith) (rw (ne_eqb p.m.0 0 (omega arith), w, e) (omega arith)) (rw (ne_eqb p.m.0 0 (omega arith), w))

-- the rank lies between 2m and 2m + 1
pub rank_between : (p : Point) → T (is_normal p) → (2 * p.m.0 ≤ rank_of p) × (rank_of p ≤ 2 * p.m.0 + 1)
rank_between p t = go (ranked p t)
  where
    go : Ranked p → (2 * p.m.0 ≤ rank_of p) × (rank_of p ≤ 2 * p.m.0 + 1)
    go (first m c r b) = (omega arith, omega arith)
    go (base m c r b) = (omega arith, omega arith)
    go (even h m c a r b) = (omega arith, omega arith)
    go (odd h m c r b) = (omega arith, omega arith)

pub birth-below : (p : Point) → T (is_normal p) → birth_of p < 4
birth-below p t = go (ranked p t)
  where
    go : Ranked p → birth_of p < 4
    go (first m c r b) = omega arith
    go (base m c r b) = omega (arith, three-below (p.a -ℤ p.b))
    go (even h m c a r b) = omega arith
    go (odd h m c r b) = omega arith

-- even or odd as the level at which it is born
pub birth-parity : (p : Point) (i : ℕ) → T (is_normal p) → rank_of p ≡ suc i → birth_of p % 2 ≡ i % 2
birth-parity p i t f = go (ranked p t)
  where
    two : (c b : ℕ) → c < 3 → (c ≡ 1 → ⊥) → b ≡ c → b % 2 ≡ 0
    two zero b h n e = omega arith
    two (suc zero) b h n e = absurd (n refl)
    two (suc (suc zero)) b h n e = omega arith
    two (suc (suc (suc c))) b h n e = absurd (omega arith)

    five : (x b : ℕ) → x < 3 → b ≡ 5 - 2 * x → b % 2 ≡ 1
    five x b h e = omega arith

    four : (x b : ℕ) → x < 3 → b ≡ 4 - 2 * x → b % 2 ≡ 0
    four x b h e = omega arith

    go : Ranked p → birth_of p % 2 ≡ i % 2
    go (first m c r b) = absurd (omega arith)
    go (base m c r b) = two (class_of p) (birth_of p) (three-below (p.a -ℤ p.b)) c b ∙ (let z : i ≡ 0 = omega arith in omega arith)
    go (even h m c a r b) = five (mod_z p.a 3) (birth_of p) (three-below p.a) b ∙ (let z : i ≡ 2 * h + 1 = omega arith in omega arith)
    go (odd h m c r b) = four (class_of p) (birth_of p) (three-below (p.a -ℤ p.b)) b ∙ (let z : i ≡ 2 * h + 2 = omega arith in omega arith)

-- ---- a step: remainders add up
-- what the difference of the two numerators leaves of n, at depth D
abbrev pub rc : ℕ → ℕ → Point → ℕ
rc n D p = mod_z (wide D p -ℤ high D p) n

pub class-own : (p : Point) (D : ℕ) → p.m.0 ≡ D → rc 3 D p ≡ class_of p
class-own p D e =
    let z : D - p.m.0 ≡ 0 = omega arith in
    λ i. mod_z (times-one p.a (D - p.m.0) z i -ℤ times-one p.b (D - p.m.0) z i) 3

pub class-zero : (p : Point) (h : ℕ) → p.m.0 ≤ h → rc 3 (suc h) p ≡ 0
class-zero p h l = three-minus (wide (suc h) p) (high (suc h) p) ∙ (λ i. ((zeros p h l).0 i + 2 * (zeros p h l).1 i) % 3)

-- at depth (i + 1) / 2 a step of level i is whole
abbrev pub deep_of : ℕ → ℕ
deep_of i = suc i / 2

abbrev pub one : ℕ → Point
one e = orient e (pt (pos 1) (pos 0) 0)

step-deep : (e i : ℕ) → Dir e i → (vector e i).m.0 ≡ deep_of i
step-deep e i d = let o = orient-depth e (pt (pos 1) (pos 0) 0) in let p = d.1 in omega arith

vector-own : (e i : ℕ) → Dir e i → (wide (deep_of i) (vector e i) ≡ (one e).a) × (high (deep_of i) (vector e i) ≡ (one e).b)
vector-own e i d =
    let z : deep_of i - (vector e i).m.0 ≡ 0 = omega (arith, step-deep e i d) in
    (times-one (one e).a (deep_of i - (vector e i).m.0) z, times-one (one e).b (deep_of i - (vector e i).m.0) z)

module _ (q : Point) (e i : ℕ) (d : Dir e i) (h : q.m.0 ≤ deep_of i) where
  pub sum-a : wide (deep_of i) (move_of q e i) ≡ wide (deep_of i) q +ℤ (one e).a
  sum-a = sum-wide q (vector e i) (deep_of i) h (omega (arith, step-deep e i d)) ∙ ap (λ (z : ℤ). wide (deep_of i) q +ℤ z) (vector-own e i d).0

  pub sum-b : high (deep_of i) (move_of q e i) ≡ high (deep_of i) q +ℤ (one e).b
  sum-b = sum-high q (vector e i) (deep_of i) h (omega (arith, step-deep e i d)) ∙ ap (λ (z : ℤ). high (deep_of i) q +ℤ z) (vector-own e i d).1

  pub step-depth : (move_of q e i).m.0 ≤ deep_of i
  step-depth = omega (arith, sum-depth q (vector e i), step-deep e i d)

  pub step-a : ra (deep_of i) (move_of q e i) ≡ (ra (deep_of i) q + mod_z (one e).a 3) % 3
  step-a = ap (λ (z : ℤ). mod_z z 3) sum-a ∙ left3-plus (wide (deep_of i) q) (one e).a

  pub step-b : rb (deep_of i) (move_of q e i) ≡ (rb (deep_of i) q + mod_z (one e).b 3) % 3
  step-b = ap (λ (z : ℤ). mod_z z 3) sum-b ∙ left3-plus (high (deep_of i) q) (one e).b

  sum-c : wide (deep_of i) (move_of q e i) -ℤ high (deep_of i) (move_of q e i) ≡ (wide (deep_of i) q -ℤ high (deep_of i) q) +ℤ ((one e).a -ℤ (one e).b)
  sum-c =
      (λ t. sum-a t -ℤ sum-b t)
      ∙ same ((‵ (wide (deep_of i) q) ⊕ ‵ (one e).a) ⊝ (‵ (high (deep_of i) q) ⊕ ‵ (one e).b))
      ((‵ (wide (deep_of i) q) ⊝ ‵ (high (deep_of i) q)) ⊕ (‵ (one e).a ⊝ ‵ (one e).b)) (omega arith)

  pub step-c : rc 3 (deep_of i) (move_of q e i) ≡ (rc 3 (deep_of i) q + mod_z ((one e).a -ℤ (one e).b) 3) % 3
  step-c = ap (λ (z : ℤ). mod_z z 3) sum-c ∙ left3-plus (wide (deep_of i) q -ℤ high (deep_of i) q) ((one e).a -ℤ (one e).b)

  pub step-9 : rc 9 (deep_of i) (move_of q e i) ≡ (rc 9 (deep_of i) q + mod_z ((one e).a -ℤ (one e).b) 9) % 9
  step-9 = ap (λ (z : ℤ). mod_z z 9) sum-c ∙ nine-add (wide (deep_of i) q -ℤ high (deep_of i) q) ((one e).a -ℤ (one e).b)

-- ---- what the twelve directions leave: an even one a difference of 1 or 2, an odd one 1 and 1, or 2 and 2
even-table : (e : ℕ) → e < 12 → e % 2 ≡ 0 → 2 * mod_z ((one e).a -ℤ (one e).b) 3 ≡ e % 4 + 2
unfolding orient
even-table e h = rule 12 (λ e. (e % 2) ≡? 0 ⇒ (2 * mod_z ((one e).a -ℤ (one e).b) 3) ≡? (e % 4 + 2)) tt e h

odd-table : (e : ℕ) → e < 12 → e % 2 ≡ 1 → (2 * mod_z (one e).a 3 ≡ e % 4 + 1) × (2 * mod_z (one e).b 3 ≡ e % 4 + 1)
unfolding orient
odd-table e h = rule 12 (λ e. (e % 2) ≡? 1 ⇒ (2 * mod_z (one e).a 3) ≡? (e % 4 + 1) & (2 * mod_z (one e).b 3) ≡? (e % 4 + 1)) tt e h

pub even-row : (e : ℕ) → e < 12 → e % 2 ≡ 0 → ((e % 4 ≡ 0) × (mod_z ((one e).a -ℤ (one e).b) 3 ≡ 1)) ⊎ ((e % 4 ≡ 2) × (mod_z ((one e).a -ℤ (one e).b) 3 ≡ 2))
even-row e h p = go (ℕ_discrete (e % 4) 0) (even-table e h p)
  where
    go : Dec (e % 4 ≡ 0) → 2 * mod_z ((one e).a -ℤ (one e).b) 3 ≡ e % 4 + 2
        → ((e % 4 ≡ 0) × (mod_z ((one e).a -ℤ (one e).b) 3 ≡ 1)) ⊎ ((e % 4 ≡ 2) × (mod_z ((one e).a -ℤ (one e).b) 3 ≡ 2))
    go (yes z) r = inl (z, omega arith)
    go (no z) r = let w : e % 4 ≡ 2 = omega arith in inr (w, omega arith)

pub odd-row : (e : ℕ) → e < 12 → e % 2 ≡ 1 → ((e % 4 ≡ 1) × (mod_z (one e).a 3 ≡ 1) × (mod_z (one e).b 3 ≡ 1))
    ⊎ ((e % 4 ≡ 3) × (mod_z (one e).a 3 ≡ 2) × (mod_z (one e).b 3 ≡ 2))
odd-row e h p = go (ℕ_discrete (e % 4) 1) (odd-table e h p)
  where
    go : Dec (e % 4 ≡ 1) → (2 * mod_z (one e).a 3 ≡ e % 4 + 1) × (2 * mod_z (one e).b 3 ≡ e % 4 + 1)
        → ((e % 4 ≡ 1) × (mod_z (one e).a 3 ≡ 1) × (mod_z (one e).b 3 ≡ 1)) ⊎ ((e % 4 ≡ 3) × (mod_z (one e).a 3 ≡ 2) × (mod_z (one e).b 3 ≡ 2))
    go (yes z) (r, s) = inl (z, omega arith, omega arith)
    go (no z) (r, s) = let w : e % 4 ≡ 3 = omega arith in inr (w, omega arith, omega arith)

-- ---- the levels: 0, odd, even
pub data LevelKind (i : ℕ) : Type 0 where
  ground : i ≡ 0 → LevelKind i
  uneven : (h : ℕ) → i ≡ 2 * h + 1 → LevelKind i
  paired : (h : ℕ) → i ≡ 2 * h + 2 → LevelKind i

pub level-kind : (i : ℕ) → LevelKind i
level-kind zero = ground refl
level-kind (suc i) = go (ℕ_discrete (i % 2) 0)
  where
    go : Dec (i % 2 ≡ 0) → LevelKind (suc i)
    go (yes e) = uneven (i / 2) (omega arith)
    go (no e) = paired (i / 2) (omega arith)

-- ---- a point by what it leaves. Depth 0: by the difference c of its numerators
module _ (p : Point) (t : T (is_normal p)) where
  pub ground-in : p.m.0 ≡ 0 → class_of p ≡ 1 → rank_of p ≡ 0
  ground-in m c = go (ranked p t)
    where
      go : Ranked p → rank_of p ≡ 0
      go (first m' c' r b) = r
      go (base m' c' r b) = absurd (c' c)
      go (even h m' c' a r b) = absurd (omega arith)
      go (odd h m' c' r b) = absurd (omega arith)

  pub ground-out : p.m.0 ≡ 0 → (class_of p ≡ 1 → ⊥) → (rank_of p ≡ 1) × (birth_of p ≡ class_of p)
  ground-out m c = go (ranked p t)
    where
      go : Ranked p → (rank_of p ≡ 1) × (birth_of p ≡ class_of p)
      go (first m' c' r b) = absurd (c c')
      go (base m' c' r b) = (r, b)
      go (even h m' c' a r b) = absurd (omega arith)
      go (odd h m' c' r b) = absurd (omega arith)

  pub ground-first : rank_of p ≤ 0 → (p.m.0 ≡ 0) × (class_of p ≡ 1)
  ground-first l = go (ranked p t)
    where
      go : Ranked p → (p.m.0 ≡ 0) × (class_of p ≡ 1)
      go (first m c r b) = (m, c)
      go (base m c r b) = absurd (omega arith)
      go (even h m c a r b) = absurd (omega arith)
      go (odd h m c r b) = absurd (omega arith)

  pub ground-base : rank_of p ≡ 1 → (p.m.0 ≡ 0) × (class_of p ≡ 1 → ⊥) × (birth_of p ≡ class_of p)
  ground-base l = go (ranked p t)
    where
      go : Ranked p → (p.m.0 ≡ 0) × (class_of p ≡ 1 → ⊥) × (birth_of p ≡ class_of p)
      go (first m c r b) = absurd (omega arith)
      go (base m c r b) = (m, c, b)
      go (even h m c a r b) = absurd (omega arith)
      go (odd h m c r b) = absurd (omega arith)

  -- depth up to h + 1, at an odd level 2h + 1: by what each numerator leaves
  module _ (h : ℕ) where
    pub uneven-in : p.m.0 ≤ suc h → ra (suc h) p ≡ 0 → rb (suc h) p ≡ 0 → rank_of p ≤ 2 * h + 1
    uneven-in l a b = omega (arith, shallow p h t l a b, (rank_between p t).1)

    pub uneven-out : p.m.0 ≤ suc h → 0 < ra (suc h) p → rc 3 (suc h) p ≡ 0 → (rank_of p ≡ 2 * h + 2) × (birth_of p ≡ 5 - 2 * ra (suc h) p)
    uneven-out l a c =
        let (m, x, y) = deep p h l (λ z. omega (arith, z.0)) in
        go m x (sym (class-own p (suc h) m) ∙ c) (ranked p t)
      where
        go : p.m.0 ≡ suc h → mod_z p.a 3 ≡ ra (suc h) p → class_of p ≡ 0 → Ranked p → (rank_of p ≡ 2 * h + 2) × (birth_of p ≡ 5 - 2 * ra (suc h) p)
        go m x z (first m' c' r b) = absurd (omega arith)
        go m x z (base m' c' r b) = absurd (omega arith)
        go m x z (even k m' c' a' r b) = (omega arith, b ∙ ap (λ (n : ℕ). 5 - 2 * n) x)
        go m x z (odd k m' c' r b) = absurd (omega arith)

    pub uneven-low : rank_of p ≤ 2 * h + 1 → p.m.0 ≤ h
    uneven-low l = omega (arith, (rank_between p t).0)

    pub uneven-born : rank_of p ≡ 2 * h + 2 → (p.m.0 ≡ suc h) × (0 < ra (suc h) p) × (rb (suc h) p ≡ ra (suc h) p) × (birth_of p ≡ 5 - 2 * ra (suc h) p)
    uneven-born l = go (ranked p t)
      where
        alike : (x y : ℕ) → x < 3 → y < 3 → (x + 2 * y) % 3 ≡ 0 → y ≡ x
        alike x y hx hy e = omega arith

        go : Ranked p → (p.m.0 ≡ suc h) × (0 < ra (suc h) p) × (rb (suc h) p ≡ ra (suc h) p) × (birth_of p ≡ 5 - 2 * ra (suc h) p)
        go (first m c r b) = absurd (omega arith)
        go (base m c r b) = absurd (omega arith)
        go (odd k m c r b) = absurd (omega arith)
        go (even k m c a r b) =
            let e : p.m.0 ≡ suc h = omega arith in
            let x : ra (suc h) p ≡ mod_z p.a 3 = ap (λ (d : ℕ). ra d p) (sym e) ∙ (own p).0 in
            let y : rb (suc h) p ≡ mod_z p.b 3 = ap (λ (d : ℕ). rb d p) (sym e) ∙ (own p).1 in (
              e,
              omega arith,
              y ∙ alike (mod_z p.a 3) (mod_z p.b 3) (three-below p.a) (three-below p.b) (sym (class-is p) ∙ c) ∙ sym x,
              b
                  ∙ ap (λ (n : ℕ). 5 - 2 * n) (sym x),
            )

    pub uneven-class : rank_of p ≡ 2 * h + 2 → class_of p ≡ 0
    uneven-class l = go (ranked p t)
      where
        go : Ranked p → class_of p ≡ 0
        go (first m c r b) = absurd (omega arith)
        go (base m c r b) = absurd (omega arith)
        go (even k m c a r b) = c
        go (odd k m c r b) = absurd (omega arith)

    -- at an even level 2h + 2: by what their difference leaves
    pub paired-in : p.m.0 ≤ suc h → rc 3 (suc h) p ≡ 0 → rank_of p ≤ 2 * h + 2
    paired-in l c = go (ℕ_discrete p.m.0 (suc h))
      where
        by : class_of p ≡ 0 → Ranked p → rank_of p ≤ 2 * h + 2
        by z (first m c r b) = omega arith
        by z (base m c r b) = omega arith
        by z (even k m c a r b) = omega arith
        by z (odd k m c r b) = absurd (omega arith)

        go : Dec (p.m.0 ≡ suc h) → rank_of p ≤ 2 * h + 2
        go (no n) = omega (arith, (rank_between p t).1)
        go (yes m) = by (sym (class-own p (suc h) m) ∙ c) (ranked p t)

    pub paired-out : p.m.0 ≤ suc h → 0 < rc 3 (suc h) p → (rank_of p ≡ 2 * h + 3) × (birth_of p ≡ 4 - 2 * rc 3 (suc h) p)
    paired-out l left = go (ℕ_discrete p.m.0 (suc h))
      where
        by : p.m.0 ≡ suc h → rc 3 (suc h) p ≡ class_of p → Ranked p → (rank_of p ≡ 2 * h + 3) × (birth_of p ≡ 4 - 2 * rc 3 (suc h) p)
        by e x (first m c r b) = absurd (omega arith)
        by e x (base m c r b) = absurd (omega arith)
        by e x (even k m c a r b) = absurd (omega arith)
        by e x (odd k m c r b) = (omega arith, b ∙ ap (λ (n : ℕ). 4 - 2 * n) (sym x))

        go : Dec (p.m.0 ≡ suc h) → (rank_of p ≡ 2 * h + 3) × (birth_of p ≡ 4 - 2 * rc 3 (suc h) p)
        go (no n) = absurd (omega (arith, class-zero p h (omega arith)))
        go (yes m) = by m (class-own p (suc h) m) (ranked p t)

    pub paired-low : rank_of p ≤ 2 * h + 2 → (p.m.0 ≤ suc h) × (rc 3 (suc h) p ≡ 0)
    paired-low l = (omega (arith, (rank_between p t).0), go (ranked p t))
      where
        go : Ranked p → rc 3 (suc h) p ≡ 0
        go (first m c r b) = class-zero p h (omega arith)
        go (base m c r b) = class-zero p h (omega arith)
        go (even k m c a r b) = by (ℕ_discrete k h)
          where
            by : Dec (k ≡ h) → rc 3 (suc h) p ≡ 0
            by (yes z) = class-own p (suc h) (omega arith) ∙ c
            by (no z) = class-zero p h (omega arith)
        go (odd k m c r b) = class-zero p h (omega arith)

    pub paired-born : rank_of p ≡ 2 * h + 3 → (p.m.0 ≡ suc h) × (0 < rc 3 (suc h) p) × (birth_of p ≡ 4 - 2 * rc 3 (suc h) p)
    paired-born l = go (ranked p t)
      where
        go : Ranked p → (p.m.0 ≡ suc h) × (0 < rc 3 (suc h) p) × (birth_of p ≡ 4 - 2 * rc 3 (suc h) p)
        go (first m c r b) = absurd (omega arith)
        go (base m c r b) = absurd (omega arith)
        go (even k m c a r b) = absurd (omega arith)
        go (odd k m c r b) =
            let e : p.m.0 ≡ suc h = omega arith in
            let x = class-own p (suc h) e in
            (e, omega arith, b ∙ ap (λ (n : ℕ). 4 - 2 * n) (sym x))
