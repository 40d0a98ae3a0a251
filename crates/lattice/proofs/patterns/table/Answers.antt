-- `lattice::patterns::table` meets its promise: the constants are the tables. Assumes nothing.
use Rattle.std.proofs.Common.{◌≡◌, sym, ap, arith}
use Rattle.lattice.specs.Patterns.{three, four, five, six, rows_of, orient}
use Rattle.lattice.specs.Rows.{table_of}
use Rattle.lattice.proofs.patterns.table.Goals as goal

pub returns-in-3 : goal.returns-in-3
unfolding orient rows_of three
returns-in-3 c = ap table_of (sym c.in-3.is)

pub returns-in-4 : goal.returns-in-4
unfolding orient rows_of four
returns-in-4 c = ap table_of (sym c.in-4.is)

pub returns-in-5 : goal.returns-in-5
unfolding orient rows_of five
returns-in-5 c = ap table_of (sym c.in-5.is)

pub returns-in_default : goal.returns-in_default
unfolding orient rows_of six
returns-in_default c = let e : 6 ≡ c.args.d = omega arith in ap table_of e
