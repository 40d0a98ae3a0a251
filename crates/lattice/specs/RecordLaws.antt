-- What a valid record has: `Inner` of degree 3 to 6, and `inner`, which reads it off validity; `inner-small` it can be stepped from ·
-- `valid-turn`, `valid-level` the most that orientation and level are, boundary vertices included.
-- Assumes nothing.
use Rattle.std.specs.Prelude.{◌≡◌, refl, ℕ, ◌*◌, ◌%◌, ◌≤◌, ◌<◌, ◌^◌, ◌&&◌, Bool, true, false, cond, ltb, leb, T, eqb, nat_abs}
use Rattle.std.proofs.Common.{sym, arith, ltb→lt, eqb→eq, leb→le, lit≤, ne_eqb, eq-eqb}
use Rattle.std.proofs.Math.Decide.{dec_le, ℕ_discrete}
use Rattle.laws.specs.Bools.{and_left, and_right}
use Rattle.laws.specs.Each.{never}
use Rattle.lattice.specs.Records.{within, orientations_of, same_parity, suits_of, valid_of}
use Rattle.lattice.specs.Points.{is_normal}
use Rattle.lattice.specs.declared.records.Record.{Record}
use Rattle.lattice.specs.Bounds.{Small, small-range}

-- two tests that are asked together, and a third after them
pub and-fails : (x y z : Bool) → x && y ≡ false → false ≡ x && (y && z)
and-fails true true z e = absurd (never (sym e))
and-fails true false z e = refl
and-fails false y z e = refl

pub and-passes : (x y z : Bool) → x && y ≡ true → z ≡ x && (y && z)
and-passes true true z e = refl
and-passes true false z e = absurd (never e)
and-passes false y z e = absurd (never e)

-- what a valid record of degree 3 to 6 has
pub record Inner (r : Record) : Type 0 where
  pub normal : T (is_normal r.at)
  pub depth : r.at.m.0 ≤ 6
  pub wide : nat_abs r.at.a ≤ 251 * 3 ^ r.at.m.0
  pub high : nat_abs r.at.b ≤ 251 * 3 ^ r.at.m.0
  pub low : 3 ≤ r.d
  pub top : r.d ≤ 6
  pub turn : r.k < orientations_of r.d
  pub level : r.n.0 ≤ 12
  pub parity : r.k % 2 ≡ r.n.0 % 2

degree : (d k : ℕ) → k < orientations_of d → (3 ≤ d) × (d ≤ 6)
degree d k h = go (dec_le 3 d) (dec_le d 6)
  where
    none_left : (d ≡ 3 → ⊥) → (d ≡ 4 → ⊥) → (d ≡ 5 → ⊥) → (d ≡ 6 → ⊥) → ⊥
    none_left a b c e = let z : k < 0 = simp (ne_eqb d 3 a, ne_eqb d 4 b, ne_eqb d 5 c, ne_eqb d 6 e) at h in omega arith

    go : Dec (3 ≤ d) → Dec (d ≤ 6) → (3 ≤ d) × (d ≤ 6)
    go (yes p) (yes q) = (p, q)
    go (yes p) (no q) = absurd (none_left (λ e. omega arith) (λ e. omega arith) (λ e. omega arith) (λ e. omega arith))
    go (no p) (yes q) = absurd (none_left (λ e. omega arith) (λ e. omega arith) (λ e. omega arith) (λ e. omega arith))
    go (no p) (no q) = absurd (none_left (λ e. omega arith) (λ e. omega arith) (λ e. omega arith) (λ e. omega arith))

pub inner : (r : Record) → T (valid_of r) → (r.d ≡ 0 → ⊥) → Inner r
inner r t n =
    let m = r.at.m.0 in
    let k = r.k in
    let l = r.n.0 in
    let s = suits_of r.d k l in
    let t₁ = and_right (is_normal r.at) (leb m 6 && (within r.at.a m && (within r.at.b m && s))) t in
    let t₂ = and_right (leb m 6) (within r.at.a m && (within r.at.b m && s)) t₁ in
    let t₃ = and_right (within r.at.a m) (within r.at.b m && s) t₂ in
    let u : T (ltb k (orientations_of r.d) && (leb l 12 && same_parity k l)) = simp (ne_eqb r.d 0 n) at (and_right (within r.at.b m) s t₃) in
    let v = and_right (ltb k (orientations_of r.d)) (leb l 12 && same_parity k l) u in
    let o = ltb→lt k (orientations_of r.d) (and_left (ltb k (orientations_of r.d)) (leb l 12 && same_parity k l) u) in
    let g = degree r.d k o in
    record {
      normal = and_left (is_normal r.at) (leb m 6 && (within r.at.a m && (within r.at.b m && s))) t;
      depth = leb→le m 6 (and_left (leb m 6) (within r.at.a m && (within r.at.b m && s)) t₁);
      wide = leb→le (nat_abs r.at.a) (251 * 3 ^ m) (and_left (within r.at.a m) (within r.at.b m && s) t₂);
      high = leb→le (nat_abs r.at.b) (251 * 3 ^ m) (and_left (within r.at.b m) s t₃);
      low = g.0;
      top = g.1;
      turn = o;
      level = leb→le l 12 (and_left (leb l 12) (same_parity k l) v);
      parity = eqb→eq (k % 2) (l % 2) (and_right (leb l 12) (same_parity k l) v);
    }

pub inner-small : {r : Record} → Inner r → Small r.at
inner-small {r} i = small-range r.at i.depth i.wide i.high

orientations-most : (d : ℕ) → orientations_of d ≤ 12
orientations-most d = go (eqb d 3) (eqb d 4) (eqb d 5) (eqb d 6)
  where
    go : (a b c e : Bool) → cond a 4 (cond b 12 (cond c 12 (cond e 2 0))) ≤ 12
    go true b c e = lit≤ tt
    go false true c e = lit≤ tt
    go false false true e = lit≤ tt
    go false false false true = lit≤ tt
    go false false false false = lit≤ tt

-- a valid boundary vertex has orientation and level 0
pub boundary-zero : (r : Record) → T (valid_of r) → r.d ≡ 0 → (r.k ≡ 0) × (r.n.0 ≡ 0)
boundary-zero r t e =
    let m = r.at.m.0 in
    let s = suits_of r.d r.k r.n.0 in
    let t₁ = and_right (is_normal r.at) (leb m 6 && (within r.at.a m && (within r.at.b m && s))) t in
    let t₂ = and_right (leb m 6) (within r.at.a m && (within r.at.b m && s)) t₁ in
    let t₃ = and_right (within r.at.a m) (within r.at.b m && s) t₂ in
    let u : T (eqb r.k 0 && eqb r.n.0 0) = rw (eq-eqb r.d 0 e) at (and_right (within r.at.b m) s t₃) in
    (eqb→eq r.k 0 (and_left (eqb r.k 0) (eqb r.n.0 0) u), eqb→eq r.n.0 0 (and_right (eqb r.k 0) (eqb r.n.0 0) u))

-- no valid record has a greater orientation than 11
pub valid-turn : (r : Record) → T (valid_of r) → r.k < 12
valid-turn r t = go (ℕ_discrete r.d 0)
  where
    go : Dec (r.d ≡ 0) → r.k < 12
    go (yes e) = omega (arith, (boundary-zero r t e).0)
    go (no e) = let i = inner r t e in omega (arith, i.turn, orientations-most r.d)

pub valid-level : (r : Record) → T (valid_of r) → r.n.0 ≤ 12
valid-level r t = go (ℕ_discrete r.d 0)
  where
    go : Dec (r.d ≡ 0) → r.n.0 ≤ 12
    go (yes e) = omega (arith, (boundary-zero r t e).1)
    go (no e) = (inner r t e).level
