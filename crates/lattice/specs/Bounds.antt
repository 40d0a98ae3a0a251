-- How large a numerator gets: what the functions below the public calls ask for, and where it comes from.
-- `Small` numerators that a sum of two points can take · `Hex n` the hexagon of radius n round 0, kept by a turn ·
-- `small-range`, `small-near` a vertex, and a point near 0, are small.
-- Assumes nothing.
use Rattle.std.specs.Prelude.{◌≡◌, ℕ, ◌+◌, ◌*◌, ◌≤◌, ◌-◌, ◌^◌, ◌/◌, ℤ, pos, ◌+ℤ◌, nat_abs}
use Rattle.std.proofs.Common.{sym, ◌∙◌, ap, subst, arith, mul_assoc, mul-one, le_trans, lt_of_le_of_lt, mul-le-mul, mul-le-mul_right, mul-le-mul_left, SFits, lit≤, lit<, pow-add}
use Rattle.std.proofs.Math.Nat.{one-le-pow, pow-le-pow_right}
use Rattle.std.specs.Int.{w32}
use Rattle.laws.specs.Sizes.{abs-add, abs_neg, abs-sub, fits}
use Rattle.laws.specs.Linear.{same, ‵, ◌⊕◌, ◌⊝◌, ⊟, ◌⊗◌}
use Rattle.lattice.specs.Points.{turn60_of, turn30_of, pt}
use Rattle.lattice.specs.declared.points.Point.{Point}
use Rattle.lattice.specs.declared.records.Level.{Level}

-- two numbers of this size add up within 32 bits
abbrev pub summable : ℕ
summable = 1000000000

-- a point whose numerators, brought to depth 7, are small enough that a sum of two fits
pub record Small (p : Point) : Type 0 where
  pub depth : p.m.0 ≤ 7
  pub wide : nat_abs p.a * 3 ^ (7 - p.m.0) ≤ summable
  pub high : nat_abs p.b * 3 ^ (7 - p.m.0) ≤ summable

grow : (n k : ℕ) → n ≤ n * 3 ^ k
grow n k = subst (λ (m : ℕ). m ≤ n * 3 ^ k) (mul-one n) (mul-le-mul_left n (one-le-pow k 3 (lit< tt)))

pow-grows : {i j : ℕ} → i ≤ j → 3 ^ i ≤ 3 ^ j
pow-grows h = pow-le-pow_right (lit< tt) h

-- below depth 7 the numerators are smaller
lifted : (n m d : ℕ) → d ≤ 7 → n * 3 ^ (7 - m) ≤ summable → n * 3 ^ (d - m) ≤ summable
lifted n m d h b = le_trans (mul-le-mul_left n (pow-grows {i = d - m} {j = 7 - m} (omega arith))) b

pub small-wide : (p : Point) (d : ℕ) → d ≤ 7 → Small p → nat_abs p.a * 3 ^ (d - p.m.0) ≤ summable
small-wide p d h s = lifted (nat_abs p.a) p.m.0 d h s.wide

pub small-high : (p : Point) (d : ℕ) → d ≤ 7 → Small p → nat_abs p.b * 3 ^ (d - p.m.0) ≤ summable
small-high p d h s = lifted (nat_abs p.b) p.m.0 d h s.high

pub small-a : (p : Point) → Small p → SFits w32 p.a
small-a p s = let b = s.wide in fits w32 p.a (omega (arith, grow (nat_abs p.a) (7 - p.m.0)))

pub small_b : (p : Point) → Small p → SFits w32 p.b
small_b p s = let b = s.high in fits w32 p.b (omega (arith, grow (nat_abs p.b) (7 - p.m.0)))

pub pow-fits : (k : ℕ) → k ≤ 7 → SFits w32 (pos (3 ^ k))
pow-fits k h = fits w32 (pos (3 ^ k)) (lt_of_le_of_lt (pow-grows h) (lit< tt))

-- the hexagon of radius n round 0: a turn keeps it
pub record Hex (n : ℕ) (p : Point) : Type 0 where
  pub a : nat_abs p.a ≤ n
  pub b : nat_abs p.b ≤ n
  pub c : nat_abs (p.a +ℤ p.b) ≤ n

pub hex-turn60 : {n : ℕ} {p : Point} → Hex n p → Hex n (turn60_of p)
hex-turn60 {n} {p} h =
    record {
      a = subst (λ (k : ℕ). k ≤ n) (sym (abs_neg p.b)) h.b;
      b = h.c;
      c = subst (λ (z : ℤ). nat_abs z ≤ n) (same (‵ p.a) (⊟ (‵ p.b) ⊕ (‵ p.a ⊕ ‵ p.b)) (omega arith)) h.a;
    }

pub hex-turn30 : {p : Point} → Hex 4 p → Hex 10 (turn30_of p)
hex-turn30 {p} h =
    let x = p.a in
    let y = p.b in
    let a = ‵ x in
    let b = ‵ y in
    record {
      a = omega (arith, h.a, h.b, abs-sub x y);
      b = subst (λ (z : ℤ). nat_abs z ≤ 10) (same ((a ⊕ b) ⊕ b) (a ⊕ 2 ⊗ b) (omega arith)) (omega (arith, h.b, h.c, abs-add (x +ℤ y) y));
      c = subst (λ (z : ℤ). nat_abs z ≤ 10) (same (a ⊕ (a ⊕ b)) ((a ⊝ b) ⊕ (a ⊕ 2 ⊗ b)) (omega arith)) (omega (arith, h.a, h.c, abs-add x (x +ℤ y)));
    }

-- a point near 0, and one in a record's range
low_small : (n m : ℕ) → n ≤ 10 → n * 3 ^ (7 - m) ≤ summable
low_small n m h = le_trans (mul-le-mul h (pow-grows {i = 7 - m} {j = 7} (omega arith))) (lit≤ tt)

pub small-near : (p : Point) → Hex 10 p → p.m.0 ≤ 7 → Small p
small-near p h d = record { depth = d; wide = low_small (nat_abs p.a) p.m.0 h.a; high = low_small (nat_abs p.b) p.m.0 h.b }

range_small : (n m : ℕ) → m ≤ 6 → n ≤ 251 * 3 ^ m → n * 3 ^ (7 - m) ≤ summable
range_small n m d h =
    let f : m + (7 - m) ≡ 7 = omega arith in
    let e : 251 * 3 ^ m * 3 ^ (7 - m) ≡ 251 * 3 ^ 7 = mul_assoc 251 (3 ^ m) (3 ^ (7 - m))
    ∙ ap (λ (k : ℕ). 251 * k) (sym (pow-add 3 m (7 - m)) ∙ ap (λ (k : ℕ). 3 ^ k) f) in
    le_trans (mul-le-mul_right (3 ^ (7 - m)) h) (subst (λ (k : ℕ). k ≤ summable) (sym e) (lit≤ tt))

pub small-range : (p : Point) → p.m.0 ≤ 6 → nat_abs p.a ≤ 251 * 3 ^ p.m.0 → nat_abs p.b ≤ 251 * 3 ^ p.m.0 → Small p
small-range p d a b = record { depth = omega arith; wide = range_small (nat_abs p.a) p.m.0 d a; high = range_small (nat_abs p.b) p.m.0 d b }

-- a pattern point at a level, near enough to 0 that a step by it can be taken
pub record Near (n : Level) (p : Point) : Type 0 where
  pub hex : Hex 10 p
  pub depth : p.m.0 + n.0 / 2 ≤ 7

pub near-small : (n : Level) {p : Point} → Near n p → Small (pt p.a p.b (p.m.0 + n.0 / 2))
near-small n {p} h = small-near _ (record { a = h.hex.a; b = h.hex.b; c = h.hex.c }) h.depth
