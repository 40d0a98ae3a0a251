-- Document 01, "Records". What the promises cite: `valid_of`; `nobody` the record of no vertex.
-- Assumes nothing.
use Rattle.std.specs.Prelude.{Bool, cond, ◌&&◌, ℕ, ◌*◌, ◌%◌, ◌^◌, eqb, ltb, leb, ℤ, pos, nat_abs}
use Rattle.lattice.specs.Points.{pt, normal_at}
use Rattle.lattice.specs.declared.records.Record.{Record}

-- "|a| and |b| are at most 251 × 3^m"
abbrev pub within : ℤ → ℕ → Bool
within z m = leb (nat_abs z) (251 * 3 ^ m)

-- "k is 0..3 for d = 3, 0..11 for d = 4 or 5, 0..1 for d = 6": how many there are, and none where d is no degree of a star
abbrev pub orientations_of : ℕ → ℕ
orientations_of d = cond (eqb d 3) 4 (cond (eqb d 4) 12 (cond (eqb d 5) 12 (cond (eqb d 6) 2 0)))

-- "k and n both even or both odd"
abbrev pub same_parity : ℕ → ℕ → Bool
same_parity k n = eqb (k % 2) (n % 2)

-- "Degree 0 marks a boundary vertex; there k = n = 0."
abbrev pub suits_of : ℕ → ℕ → ℕ → Bool
suits_of d k n = cond (eqb d 0) (eqb k 0 && eqb n 0) (ltb k (orientations_of d) && (leb n 12 && same_parity k n))

-- "A record is valid when the point is normalised, m is 0..6, |a| and |b| are at most 251 × 3^m", and degree, orientation and level suit
abbrev pub valid_at : ℤ → ℤ → ℕ → ℕ → ℕ → ℕ → Bool
valid_at a b m d k n = normal_at a b m && (leb m 6 && (within a m && (within b m && suits_of d k n)))

abbrev pub valid_of : Record → Bool
valid_of r = valid_at r.at.a r.at.b r.at.m.0 r.d r.k r.n.0

-- what stands for a record where there is none: all zeros
abbrev pub nobody : Record
nobody = record { at = pt (pos 0) (pos 0) 0; d = 0; k = 0; n = record { 0 = 0 } }
