-- `marks::mark` meets its promise: the byte with its bit set. Assumes nothing.
use Rattle.std.proofs.Common.{sym, subst, ℕ, ◌/◌}
use Rattle.std.specs.Prelude.{eqb, set}
use Rattle.marks.specs.Marks.{Marks, marks-with}
use Rattle.marks.proofs.mark.Goals as goal

pub returns : goal.returns
returns c =
    let m = c.args.marks.now in
    let i = c.args.i in
    subst (λ (x : ℕ). Marks m (eqb i) (set m (i / 8) x)) (sym c.with_bit.ensures.0) (marks-with m i c.requires c.with_bit.ensures.1)
