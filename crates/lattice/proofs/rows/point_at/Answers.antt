-- `lattice::rows::point_at` meets its promise: the three numbers are the point's. Assumes nothing.
use Rattle.std.proofs.Common.{◌≡◌, sym, ap, subst, ◌∙◌, arith, ℕ, ℤ, List, pos, nat_abs, to_z, of_z, w8, w32, SFits, Fits, to_z-of_z, get_or, T, ◌+◌, ◌*◌, ◌<◌}
use Rattle.std.specs.Int.Signed.{non_neg}
use Rattle.lattice.specs.Points.{pt}
use Rattle.lattice.specs.Stars.{adjacent_at}
use Rattle.lattice.specs.RecordLaws.{Inner}
use Rattle.lattice.specs.declared.records.Record.{Record}
use Rattle.lattice.specs.AnswerRows.{answer_numbers}
use Rattle.lattice.specs.Stars.{given}
use Rattle.lattice.specs.AnswerRowLaws.{ring-point, adjacent-byte}
use Rattle.lattice.proofs.rows.point_at.Goals as goal

module _ (row : List ℤ) (v : Record) (j : ℕ) (e : row ≡ answer_numbers (given v)) (i : Inner v) (h : j < v.d) where
  abbrev number : ℕ → ℤ
  number n = get_or row n (pos 0)

  number-is : (n : ℕ) → number n ≡ get_or (answer_numbers (given v)) n (pos 0)
  number-is n = ap (λ (l : List ℤ). get_or l n (pos 0)) e

  read : (n : ℕ) (z : ℤ) → SFits w32 (number n) → get_or (answer_numbers (given v)) n (pos 0) ≡ z → to_z w32 (of_z w32 (number n)) ≡ z
  read n z f is = to_z-of_z f ∙ number-is n ∙ is

  a-is : SFits w32 (number (3 * j + 1)) → to_z w32 (of_z w32 (number (3 * j + 1))) ≡ (adjacent_at v j).a
  a-is f = read (3 * j + 1) _ f (ring-point v i j h).0

  b-is : SFits w32 (number (3 * j + 1 + 1)) → to_z w32 (of_z w32 (number (3 * j + 1 + 1))) ≡ (adjacent_at v j).b
  b-is f = read (3 * j + 1 + 1) _ f (ring-point v i j h).1

  m-is : SFits w32 (number (3 * j + 1 + 2)) → to_z w32 (of_z w32 (number (3 * j + 1 + 2))) ≡ pos (adjacent_at v j).m.0
  m-is f = read (3 * j + 1 + 2) _ f (ring-point v i j h).2

pub overflow_cast-result : goal.overflow_cast-result
overflow_cast-result c =
    let r = c.requires in
    let m = m-is c.args.row.now c.args.v c.args.j r.row_value r.inner.0 r.inner.1 (record { sfits = omega arith }) in
    let byte = adjacent-byte c.args.v r.inner.0 c.args.j r.inner.1 in
    subst (λ (z : ℤ). T (non_neg z) × Fits w8 (nat_abs z)) (sym m) (tt, record { fits = byte })

pub returns : goal.returns
returns c =
    let r = c.requires in
    let a = a-is c.args.row.now c.args.v c.args.j r.row_value r.inner.0 r.inner.1 (record { sfits = omega arith }) in
    let b = b-is c.args.row.now c.args.v c.args.j r.row_value r.inner.0 r.inner.1 (record { sfits = omega arith }) in
    let m = m-is c.args.row.now c.args.v c.args.j r.row_value r.inner.0 r.inner.1 (record { sfits = omega arith }) in
    λ i. pt (a i) (b i) (nat_abs (m i))
