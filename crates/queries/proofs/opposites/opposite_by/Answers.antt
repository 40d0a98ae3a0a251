-- `queries::opposite_by` meets its promise: the first point where it is there, else the second if that is. Assumes nothing.
use Rattle.std.specs.Prelude.{Some}
use Rattle.std.proofs.Common.{true, false, ap, sym, ◌∙◌}
use Rattle.lattice.specs.declared.points.Point.{Point}
use Rattle.table.specs.Entries.{holds}
use Rattle.queries.specs.Queries.{there}
use Rattle.queries.specs.OppositeLaws.{by-arms}
use Rattle.queries.proofs.opposites.opposite_by.Goals as goal

pub returns-then-is_there : goal.returns-then-is_there
returns-then-is_there c =
    let t = c.args.t.now in
    ap Some c.added-p.ensures ∙ by-arms t c.args.near c.args.far true (ap (holds t) (sym c.added-p.ensures) ∙ sym c.is_there.ensures ∙ c.if-is_there.true)

pub returns : goal.returns
returns c =
    let t = c.args.t.now in
    c.kept.ensures ∙ ap (λ (p : Point). there t (Some p)) c.added.ensures
    ∙ by-arms t c.args.near c.args.far false (ap (holds t) (sym c.added-p.ensures) ∙ sym c.is_there.ensures ∙ c.if-is_there.false)
