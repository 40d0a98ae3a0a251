-- `local::six_passes` meets its promise. Assumes nothing.
use Rattle.std.proofs.Common.{◌∙◌, arith}
use Rattle.laws.specs.Choices.{of-true}
use Rattle.lattice.specs.RecordLaws.{inner}
use Rattle.local.specs.Sheet.{sheet_of}
use Rattle.local.specs.BornLaws.{valid-depth}
use Rattle.local.specs.PlaceLaws.{six-other, six_low, six_high}
use Rattle.local.proofs.checks.six_passes.Goals as goal

pub returns-then-r-ne6 : goal.returns-then-r-ne6
returns-then-r-ne6 c = six-other (sheet_of c.args.t.now) c.args.r c.if-r-ne6.true

pub rank-requires : goal.rank-requires
rank-requires c = omega (arith, valid-depth c.args.r c.requires.table.1)

pub returns-then-r-rank : goal.returns-then-r-rank
returns-then-r-rank c =
    six_low (sheet_of c.args.t.now) c.args.r c.if-r-ne6.false (omega (arith, c.rank.ensures, c.if-r-rank.true))

pub adjacents_there-requires-clause-inner : goal.adjacents_there-requires-clause-inner
adjacents_there-requires-clause-inner c =
    (inner c.args.r (of-true c.requires.table.1) (λ e. omega (arith, c.if-r-ne6.false)), c.if-r-ne6.false)

pub returns : goal.returns
returns c =
    c.adjacents_there.ensures
    ∙ six_high (sheet_of c.args.t.now) c.args.r c.if-r-ne6.false (omega (arith, c.rank.ensures, c.if-r-rank.false))
