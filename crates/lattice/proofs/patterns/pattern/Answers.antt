-- `lattice::patterns::pattern` meets its promise: row 2j + k % 2 of the table is place j. Assumes nothing.
use Rattle.std.proofs.Common.{◌≡◌, sym, ap, subst, ◌∙◌, arith, ℤ, List, T, Fits, w8, nat_abs, ◌+◌, ◌*◌, ◌%◌, ◌/◌, ◌<◌, length}
use Rattle.std.specs.Int.Signed.{non_neg}
use Rattle.lattice.specs.Patterns.{pattern_of}
use Rattle.lattice.specs.Rows.{part_of, orient_row, number_in, point_in}
use Rattle.lattice.specs.RowLaws.{table-rules, table-long}
use Rattle.lattice.proofs.patterns.pattern.Goals as goal

pub bounds-table-i : goal.bounds-table-i
bounds-table-i c =
    let r = c.requires.le_d in
    omega (arith, ap length c.table.ensures, table-long c.args.d r.0 r.1.0)

pub overflow_cast-result : goal.overflow_cast-result
overflow_cast-result c =
    let r = c.requires.le_d in
    let i = 2 * c.args.j + c.args.k % 2 in
    let n = 3 * c.args.c + 2 in
    let h : i < 2 * c.args.d = omega arith in
    subst (λ (rows : List (List ℤ)). T (non_neg (number_in rows i n)) × Fits w8 (nat_abs (number_in rows i n))) (sym c.table.ensures)
    ((table-rules c.args.d r.0 r.1.0).depth i c.args.c h c.requires.c_bound)

pub returns : goal.returns
returns c =
    let r = c.requires.le_d in
    let i = 2 * c.args.j + c.args.k % 2 in
    let h : i < 2 * c.args.d = omega arith in
    let odd : i % 2 ≡ c.args.k % 2 = omega arith in
    let place : i / 2 ≡ c.args.j = omega arith in
    ap (λ (rows : List (List ℤ)). point_in rows i c.args.c) c.table.ensures
    ∙ (table-rules c.args.d r.0 r.1.0).part i c.args.c h c.requires.c_bound
    ∙ (λ t. part_of c.args.c (orient_row (odd t) (pattern_of c.args.d (place t))))
