-- `local::adjacents_there` meets its promise: each adjacent is looked up. Assumes nothing.
use Rattle.std.proofs.Common.{sym, ◌∙◌, arith, w32}
use mir.Val.{SFits}
use Rattle.laws.specs.Machine.{asked₂}
use Rattle.laws.specs.Each.{upto-more, upto-fails}
use Rattle.lattice.specs.Points.{pt}
use Rattle.lattice.specs.Stars.{adjacent_at}
use Rattle.table.specs.Entries.{holds}
use Rattle.growth.specs.Local.{there}
use Rattle.local.specs.Sheet.{sheet_of, held-there}
use Rattle.local.proofs.lookups.adjacents_there.Goals as goal

pub returns-then-not-stands : goal.returns-then-not-stands
returns-then-not-stands c =
    let t = c.args.t.now in
    let q = c.point_at-q.result in
    let fa : SFits w32 q.a = record { sfits = omega arith } in
    let fb : SFits w32 q.b = record { sfits = omega arith } in
    let here = sym (asked₂ (λ x y. holds t (pt x y q.m.0)) fa fb c.stands.ensures) ∙ held-there t c.point_at-q.ensures in
    sym (upto-fails (λ j. there (sheet_of t) (adjacent_at c.args.r j)) c.loop-j.j 6 c.loop-j-test.true (sym here ∙ c.if-not-stands.true))

pub loop-j-preserved : goal.loop-j-preserved
loop-j-preserved c =
    let t = c.args.t.now in
    let q = c.point_at-q.result in
    let fa : SFits w32 q.a = record { sfits = omega arith } in
    let fb : SFits w32 q.b = record { sfits = omega arith } in
    let here = sym (asked₂ (λ x y. holds t (pt x y q.m.0)) fa fb c.stands.ensures) ∙ held-there t c.point_at-q.ensures in
    upto-more (λ j. there (sheet_of t) (adjacent_at c.args.r j)) c.loop-j.j c.loop-j.invariant (sym here ∙ c.if-not-stands.false)
