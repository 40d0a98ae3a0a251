-- `queries::adjacents_there` meets its promise. Assumes nothing.
use Rattle.std.proofs.Common.{◌≡◌, ℕ, ap, sym, ◌∙◌, arith}
use Rattle.laws.specs.Rules.{upto}
use Rattle.laws.specs.Each.{upto-more, upto-fails}
use Rattle.lattice.specs.Stars.{adjacent_at}
use Rattle.table.specs.Entries.{holds}
use Rattle.queries.specs.Queries.{adjacents_there}
use Rattle.queries.proofs.opposites.adjacents_there.Goals as goal

pub loop-j-preserved : goal.loop-j-preserved
loop-j-preserved c =
    let t = c.args.t.now in
    upto-more (λ j. holds t (adjacent_at c.args.v j)) c.loop-j.j c.loop-j.invariant
    (ap (holds t) (sym c.point_at.ensures) ∙ sym c.is_there.ensures ∙ c.if-not-is_there.false)

pub returns-then-not-is_there : goal.returns-then-not-is_there
unfolding adjacents_there
returns-then-not-is_there c =
    let t = c.args.t.now in
    sym (upto-fails (λ j. holds t (adjacent_at c.args.v j)) c.loop-j.j c.args.v.d (omega arith)
    (ap (holds t) (sym c.point_at.ensures) ∙ sym c.is_there.ensures ∙ c.if-not-is_there.true))

pub returns : goal.returns
unfolding adjacents_there
returns c =
    let e : c.loop-j.j ≡ c.args.v.d = omega arith in
    sym c.loop-j.invariant ∙ ap (λ (k : ℕ). upto k (λ j. holds c.args.t.now (adjacent_at c.args.v j))) e
