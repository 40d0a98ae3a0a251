-- `queries::kept` meets its promise: by whether there is a point, and whether the table holds it. Assumes nothing.
use Rattle.std.specs.Prelude.{Some, None}
use Rattle.std.proofs.Common.{Bool, cond, ap, sym, ◌∙◌}
use Rattle.queries.specs.Queries.{there}
use Rattle.queries.proofs.opposites.kept.Goals as goal

pub returns-then-is_there : goal.returns-then-is_there
returns-then-is_there c =
    ap (λ (x : Bool). cond x (Some c.in-Some.p) None) (sym c.if-is_there.true ∙ c.is_there.ensures) ∙ ap (there c.args.t.now) (sym c.in-Some.is)

pub returns-else-is_there : goal.returns-else-is_there
returns-else-is_there c =
    ap (λ (x : Bool). cond x (Some c.in-Some.p) None) (sym c.if-is_there.false ∙ c.is_there.ensures) ∙ ap (there c.args.t.now) (sym c.in-Some.is)
