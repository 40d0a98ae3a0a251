-- `mesh_faces::is_whole` meets its promise: by its adjacent point, then by the opposite that is chosen. Assumes nothing.
use Rattle.std.proofs.Common.{Bool, ◌&&◌, ap, sym, ◌∙◌}
use Rattle.table.specs.Entries.{holds}
use Rattle.queries.specs.Queries.{is_point, chosen_at}
use Rattle.mesh_faces.proofs.torn.is_whole.Goals as goal

pub returns-then-not-is_there : goal.returns-then-not-is_there
returns-then-not-is_there c =
    let a = c.args in
    let there = ap (holds a.t.now) (sym c.adjacent_of.ensures) ∙ sym c.is_there.ensures ∙ c.if-not-is_there.true in
    sym (ap (λ (b : Bool). b && is_point (chosen_at a.t.now a.v a.j)) there)

pub returns-in-Some : goal.returns-in-Some
returns-in-Some c =
    let there = ap (holds c.args.t.now) (sym c.adjacent_of.ensures) ∙ sym c.is_there.ensures ∙ c.if-not-is_there.false in
    sym (λ i. there i && is_point (sym c.in-Some.ensures i))

pub returns-in-None : goal.returns-in-None
returns-in-None c =
    let there = ap (holds c.args.t.now) (sym c.adjacent_of.ensures) ∙ sym c.is_there.ensures ∙ c.if-not-is_there.false in
    sym (λ i. there i && is_point (sym c.in-None.ensures i))
