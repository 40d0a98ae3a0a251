-- `counts::is_faced` meets its promise: by the corner after the place, and the one before. Assumes nothing.
use Rattle.std.proofs.Common.{ℕ, ap, sym, ◌∙◌}
use Rattle.queries.specs.Queries.{is_point, chosen_at}
use Rattle.counts.specs.CaseLaws.{faced-first, faced-second}
use Rattle.counts.proofs.sides.is_faced.Goals as goal

pub returns-then-has_face : goal.returns-then-has_face
returns-then-has_face c = faced-first c.args.t.now c.args.u c.args.i (sym c.has_face.ensures ∙ c.if-has_face.true)

pub returns : goal.returns
returns c =
    let a = c.args in
    c.has_face-2.ensures ∙ ap (λ (j : ℕ). is_point (chosen_at a.t.now a.u j)) c.prev_place.ensures.0
    ∙ faced-second a.t.now a.u a.i (sym c.has_face.ensures ∙ c.if-has_face.false)
