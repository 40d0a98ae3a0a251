-- How large a valid record's fields are: what bounds the length of its line, and shows that a parser takes each field.
-- `widest` the bound of a numerator, `Near` those of six fields · `valid-near` a valid record has them.
-- Assumes nothing.
use Rattle.std.specs.Prelude.{◌≡◌, refl, Bool, true, false, cond, ◌&&◌, ℕ, ◌*◌, ◌≤◌, ◌^◌, eqb, ltb, leb, ℤ, nat_abs}
use Rattle.std.proofs.Common.{arith, le_trans, mul-le-mul_left, leb-true, ltb-true, eqb-true, lit<, lit≤}
use Rattle.std.proofs.Math.Nat.{pow-le-pow_right}
use Rattle.laws.specs.Each.{both_left, both_right}
use Rattle.lattice.specs.Points.{normal_at}
use Rattle.lattice.specs.Records.{within, orientations_of, same_parity, suits_of, valid_of}
use Rattle.lattice.specs.declared.records.Record.{Record}

-- the most that a numerator of a valid record is
abbrev pub widest : ℕ
widest = 251 * 3 ^ 6

-- the most that each field of a valid record is
pub record Near (r : Record) : Type 0 where
  pub a : nat_abs r.at.a ≤ widest
  pub b : nat_abs r.at.b ≤ widest
  pub m : r.at.m.0 ≤ 6
  pub d : r.d ≤ 6
  pub k : r.k ≤ 11
  pub n : r.n.0 ≤ 12

within-near : (z : ℤ) (m : ℕ) → m ≤ 6 → within z m ≡ true → nat_abs z ≤ widest
within-near z m h e = le_trans (leb-true (nat_abs z) (251 * 3 ^ m) e) (le_trans (mul-le-mul_left 251 (pow-le-pow_right {n = 3} (lit< tt) h)) (lit≤ tt))

turns_near : (d k : ℕ) → ltb k (orientations_of d) ≡ true → (d ≤ 6) × (k ≤ 11)
turns_near d k = go (eqb d 3) (eqb d 4) (eqb d 5) (eqb d 6) refl refl refl refl
  where
    go : (s t u v : Bool) → eqb d 3 ≡ s → eqb d 4 ≡ t → eqb d 5 ≡ u → eqb d 6 ≡ v → ltb k (cond s 4 (cond t 12 (cond u 12 (cond v 2 0)))) ≡ true
        → (d ≤ 6) × (k ≤ 11)
    go true t u v e e₁ e₂ e₃ h = (omega (arith, eqb-true d 3 e), omega (arith, ltb-true k 4 h))
    go false true u v e e₁ e₂ e₃ h = (omega (arith, eqb-true d 4 e₁), omega (arith, ltb-true k 12 h))
    go false false true v e e₁ e₂ e₃ h = (omega (arith, eqb-true d 5 e₂), omega (arith, ltb-true k 12 h))
    go false false false true e e₁ e₂ e₃ h = (omega (arith, eqb-true d 6 e₃), omega (arith, ltb-true k 2 h))
    go false false false false e e₁ e₂ e₃ h = absurd (omega (arith, ltb-true k 0 h))

suits-near : (d k n : ℕ) → suits_of d k n ≡ true → (d ≤ 6) × (k ≤ 11) × (n ≤ 12)
suits-near d k n = go (eqb d 0) refl
  where
    go : (z : Bool) → eqb d 0 ≡ z → cond z (eqb k 0 && eqb n 0) (ltb k (orientations_of d) && (leb n 12 && same_parity k n)) ≡ true
        → (d ≤ 6) × (k ≤ 11) × (n ≤ 12)
    go true e h = (
      omega (arith, eqb-true d 0 e),
      omega (arith, eqb-true k 0 (both_left (eqb k 0) (eqb n 0) h)),
      omega (arith, eqb-true n 0 (both_right (eqb k 0) (eqb n 0) h)),
    )
    go false e h =
        let t = turns_near d k (both_left (ltb k (orientations_of d)) (leb n 12 && same_parity k n) h) in
        (t.0, t.1, leb-true n 12 (both_left (leb n 12) (same_parity k n) (both_right (ltb k (orientations_of d)) (leb n 12 && same_parity k n) h)))

pub valid-near : (r : Record) → valid_of r ≡ true → Near r
valid-near r e =
    let a = r.at.a in
    let b = r.at.b in
    let m = r.at.m.0 in
    let s = suits_of r.d r.k r.n.0 in
    let e₁ = both_right (normal_at a b m) (leb m 6 && (within a m && (within b m && s))) e in
    let low = leb-true m 6 (both_left (leb m 6) (within a m && (within b m && s)) e₁) in
    let e₂ = both_right (leb m 6) (within a m && (within b m && s)) e₁ in
    let e₃ = both_right (within a m) (within b m && s) e₂ in
    let t = suits-near r.d r.k r.n.0 (both_right (within b m) s e₃) in
    record {
      a = within-near a m low (both_left (within a m) (within b m && s) e₂);
      b = within-near b m low (both_left (within b m) s e₃);
      m = low;
      d = t.0;
      k = t.1;
      n = t.2;
    }
