-- Centres and corners of the base's hexagons. A unit step from a point of depth 0 changes what a - b leaves by 1 or 2 (`unit-step`); so the three
-- hexagons round a corner are centres (`hexagon-centre`), each of which has that corner among its six (`hexagon-corner`), and each of the six corners of
-- a centre has it among its three (`corner-hexagon`).
-- `in-any`, `any-in`, `inside-all`, `all-inside` what `given_by` and `inside_base` say of a corner.
-- Assumes nothing.
use Rattle.std.specs.Prelude.{◌≡◌, ◌≢◌, ◌⊎◌, Bool, cond, ◌&&◌, ◌||◌, ℕ, zero, suc, ◌+◌, ◌*◌, ◌%◌, ◌/◌, ◌<◌, T, eqb, ◌-ℤ◌}
use Rattle.std.proofs.Common.{sym, ◌∙◌, ap, subst, inl, inr, arith, eqb→eq, eq-eqb}
use Rattle.std.proofs.Math.Decide.{ℕ_discrete}
use Rattle.laws.specs.Bools.{and_left, and_right, and_both}
use Rattle.laws.specs.Choices.{or_split, or_left, or_right, of-true, when_true_lem, when_false}
use Rattle.laws.specs.Rules.{◌≡?◌, ◌⇒◌, rule}
use Rattle.laws.specs.Residue.{mod_z}
use Rattle.laws.specs.Thirds.{three-below}
use Rattle.lattice.specs.Points.{is_normal}
use Rattle.lattice.specs.Points.{class_of}
use Rattle.lattice.specs.Ranks.{move_of}
use Rattle.geometry.specs.GeometryLaws.{move-back}
use Rattle.geometry.specs.SideLaws.{Dir}
use Rattle.geometry.specs.RankLaws.{class-own, step-c, step-depth, even-row, one}
use Rattle.lattice.specs.declared.points.Point.{Point}
use Rattle.growth.specs.Sheets.{hexagon_round, given_by, inside_base}

ground-normal : (p : Point) → p.m.0 ≡ 0 → T (is_normal p)
ground-normal p m = or_left (eqb p.m.0 0) _ (of-true (eq-eqb p.m.0 0 m))

pub unit-step : (p : Point) (e : ℕ) → p.m.0 ≡ 0 → Dir e 0 → ((move_of p e 0).m.0 ≡ 0) × (class_of (move_of p e 0) ≡ (class_of p + (e % 4 / 2 + 1)) % 3)
unit-step p e m d =
    let l = step-depth p e 0 d (omega arith) in
    let z : (move_of p e 0).m.0 ≡ 0 = omega arith in
    (z, sym (class-own (move_of p e 0) 0 z) ∙ step-c p e 0 d (omega arith) ∙ (λ i. (class-own p 0 m i + turn (even-row e d.0 d.1) i) % 3))
  where
    turn : ((e % 4 ≡ 0) × (mod_z ((one e).a -ℤ (one e).b) 3 ≡ 1)) ⊎ ((e % 4 ≡ 2) × (mod_z ((one e).a -ℤ (one e).b) 3 ≡ 2))
        → mod_z ((one e).a -ℤ (one e).b) 3 ≡ e % 4 / 2 + 1
    turn (inl (k, v)) = omega arith
    turn (inr (k, v)) = omega arith

-- the direction of hexagon t
abbrev way : Point → ℕ → ℕ
way p t = cond (eqb (class_of p) 1) 2 0 + 4 * t

class-two : (p : Point) → class_of p ≢ 0 → (class_of p ≡ 1) ⊎ (class_of p ≡ 2)
class-two p n = go (ℕ_discrete (class_of p) 1)
  where
    l : class_of p < 3
    l = three-below (p.a -ℤ p.b)

    go : Dec (class_of p ≡ 1) → (class_of p ≡ 1) ⊎ (class_of p ≡ 2)
    go (yes e) = inl e
    go (no e) = inr (omega (arith, l))

-- its direction is even, and turned back it leads to the corner; what class it leads to
way-is : (p : Point) (t : ℕ) → class_of p ≢ 0 → t < 3 → Dir (way p t) 0 × ((class_of p + (way p t % 4 / 2 + 1)) % 3 ≡ 0)
way-is p t n h = go (class-two p n)
  where
    go : (class_of p ≡ 1) ⊎ (class_of p ≡ 2) → Dir (way p t) 0 × ((class_of p + (way p t % 4 / 2 + 1)) % 3 ≡ 0)
    go (inl e) = rw e ((omega arith, even2 t), (let x : (2 + 4 * t) % 4 ≡ 2 = four2 t in rw x))
      where
        even2 : (t : ℕ) → (2 + 4 * t) % 2 ≡ 0
        even2 t = omega arith

        four2 : (t : ℕ) → (2 + 4 * t) % 4 ≡ 2
        four2 t = omega arith
    go (inr e) = rw e ((omega arith, even0 t), (let x : (0 + 4 * t) % 4 ≡ 0 = four0 t in rw x))
      where
        even0 : (t : ℕ) → (0 + 4 * t) % 2 ≡ 0
        even0 t = omega arith

        four0 : (t : ℕ) → (0 + 4 * t) % 4 ≡ 0
        four0 t = omega arith

module _ (p : Point) (m : p.m.0 ≡ 0) (n : class_of p ≢ 0) (t : ℕ) (h : t < 3) where
  pub hexagon-centre : ((hexagon_round p t).m.0 ≡ 0) × (class_of (hexagon_round p t) ≡ 0)
  hexagon-centre = let (d, c) = way-is p t n h in let (z, e) = unit-step p (way p t) m d in (z, e ∙ c)

  pub hexagon-corner : (j : ℕ) × (j < 6) × (move_of (hexagon_round p t) (2 * j) 0 ≡ p)
  hexagon-corner =
      let (d, c) = way-is p t n h in
      let e = way p t in
      let s : 2 * ((e + 6) % 12 / 2) ≡ (e + 6) % 12 = twice e d.1 in
      ((e + 6) % 12 / 2, omega arith, ap (λ (x : ℕ). move_of (hexagon_round p t) x 0) s ∙ move-back p e 0 (ground-normal p m) d.0)
    where
      twice : (e : ℕ) → e % 2 ≡ 0 % 2 → 2 * ((e + 6) % 12 / 2) ≡ (e + 6) % 12
      twice e h = omega arith

-- ---- the corners of a centre
module _ (c : Point) (m : c.m.0 ≡ 0) (z : class_of c ≡ 0) (j : ℕ) (h : j < 6) where
  corner-dir : Dir (2 * j) 0
  corner-dir = (omega arith, omega arith)

  pub corner-ground : (move_of c (2 * j) 0).m.0 ≡ 0
  corner-ground = (unit-step c (2 * j) m corner-dir).0

  corner-class : class_of (move_of c (2 * j) 0) ≡ 2 * j % 4 / 2 + 1
  corner-class = (unit-step c (2 * j) m corner-dir).1 ∙ ap (λ (x : ℕ). (x + (2 * j % 4 / 2 + 1)) % 3) z ∙ omega arith

  pub corner-not : class_of (move_of c (2 * j) 0) ≢ 0
  corner-not e = let x = corner-class in omega arith

  -- the way back is one of its three
  pub corner-hexagon : (t : ℕ) × (t < 3) × (hexagon_round (move_of c (2 * j) 0) t ≡ c)
  corner-hexagon = go (ℕ_discrete (2 * j % 4) 0)
    where
      s : Point
      s = move_of c (2 * j) 0

      b : ℕ
      b = (2 * j + 6) % 12

      home : move_of s b 0 ≡ c
      home = move-back c (2 * j) 0 (ground-normal c m) corner-dir.0

      go : Dec (2 * j % 4 ≡ 0) → (t : ℕ) × (t < 3) × (hexagon_round s t ≡ c)
      go (yes e) =
          let k : class_of s ≡ 1 = corner-class ∙ omega arith in
          let x : 2 + 4 * (b / 4) ≡ b = rule 6 (λ j. (2 * j % 4) ≡? 0 ⇒ (2 + 4 * ((2 * j + 6) % 12 / 4)) ≡? ((2 * j + 6) % 12)) tt j h e in
          (b / 4, omega arith, rw k (ap (λ (w : ℕ). move_of s w 0) x ∙ home))
      go (no e) =
          let k : class_of s ≡ 2 = corner-class ∙ omega arith in
          let x : 0 + 4 * (b / 4) ≡ b = rule 6 (λ j. (2 * j % 4) ≡? 2 ⇒ (0 + 4 * ((2 * j + 6) % 12 / 4)) ≡? ((2 * j + 6) % 12)) tt j h (omega arith) in
          (b / 4, omega arith, rw k (ap (λ (w : ℕ). move_of s w 0) x ∙ home))

-- ---- what the base says of a corner
module _ (H : Point → Bool) (p : Point) (n : class_of p ≢ 0) where
  abbrev near : ℕ → Bool
  near t = H (hexagon_round p t)

  not-centre : T (eqb (class_of p) 0) → ⊥
  not-centre t = n (eqb→eq (class_of p) 0 t)

  pub in-any : T (given_by H p) → (t : ℕ) × (t < 3) × T (H (hexagon_round p t))
  in-any h = go (or_split (near 0) (near 1 || near 2) (subst T (when_false (eqb (class_of p) 0) (H p) (near 0 || (near 1 || near 2)) not-centre) h))
    where
      go : T (near 0) ⊎ T (near 1 || near 2) → (t : ℕ) × (t < 3) × T (near t)
      go (inl x) = (0, omega arith, x)
      go (inr y) = by (or_split (near 1) (near 2) y)
        where
          by : T (near 1) ⊎ T (near 2) → (t : ℕ) × (t < 3) × T (near t)
          by (inl x) = (1, omega arith, x)
          by (inr x) = (2, omega arith, x)

  pub any-in : (t : ℕ) → t < 3 → T (H (hexagon_round p t)) → T (given_by H p)
  any-in t l h = subst T (sym (when_false (eqb (class_of p) 0) (H p) (near 0 || (near 1 || near 2)) not-centre)) (go t l h)
    where
      go : (t : ℕ) → t < 3 → T (near t) → T (near 0 || (near 1 || near 2))
      go zero l h = or_left (near 0) (near 1 || near 2) h
      go (suc zero) l h = or_right (near 0) (near 1 || near 2) (or_left (near 1) (near 2) h)
      go (suc (suc zero)) l h = or_right (near 0) (near 1 || near 2) (or_right (near 1) (near 2) h)
      go (suc (suc (suc t))) l h = absurd (omega arith)

  pub inside-all : T (inside_base H p) → (t : ℕ) → t < 3 → T (H (hexagon_round p t))
  inside-all h = λ t l. go t l (subst T (when_false (eqb (class_of p) 0) (H p) (near 0 && (near 1 && near 2)) not-centre) h)
    where
      go : (t : ℕ) → t < 3 → T (near 0 && (near 1 && near 2)) → T (near t)
      go zero l a = and_left (near 0) (near 1 && near 2) a
      go (suc zero) l a = and_left (near 1) (near 2) (and_right (near 0) (near 1 && near 2) a)
      go (suc (suc zero)) l a = and_right (near 1) (near 2) (and_right (near 0) (near 1 && near 2) a)
      go (suc (suc (suc t))) l a = absurd (omega arith)

  pub all-inside : ((t : ℕ) → t < 3 → T (H (hexagon_round p t))) → T (inside_base H p)
  all-inside h =
      subst T (sym (when_false (eqb (class_of p) 0) (H p) (near 0 && (near 1 && near 2)) not-centre))
      (and_both (near 0) (near 1 && near 2) (h 0 (omega arith)) (and_both (near 1) (near 2) (h 1 (omega arith)) (h 2 (omega arith))))

-- and of a centre
pub centre-in : (H : Point → Bool) (p : Point) → class_of p ≡ 0 → given_by H p ≡ H p
centre-in H p c = when_true_lem (eqb (class_of p) 0) (H p) _ (of-true (eq-eqb (class_of p) 0 c))

pub centre-inside : (H : Point → Bool) (p : Point) → class_of p ≡ 0 → inside_base H p ≡ H p
centre-inside H p c = when_true_lem (eqb (class_of p) 0) (H p) _ (of-true (eq-eqb (class_of p) 0 c))
