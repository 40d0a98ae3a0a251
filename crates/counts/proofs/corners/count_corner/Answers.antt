-- `counts::count_corner` meets its promise: by the opposite that is chosen. Assumes nothing.
use Rattle.std.proofs.Common.{◌≡◌, ℕ, ◌+◌, ap, ◌∙◌, sym, arith}
use Rattle.queries.specs.Queries.{is_point, chosen_at}
use Rattle.firsts.specs.Choices.{choice-is, choice-neither}
use Rattle.firsts.specs.CaseLaws.{plain-none}
use Rattle.counts.specs.Counted.{faces_and_sides}
use Rattle.counts.specs.CaseLaws.{faced-second, corner-none, far_none}
use Rattle.counts.proofs.corners.count_corner.Goals as goal

pub count_face-requires-clause-round : goal.count_face-requires-clause-round
count_face-requires-clause-round c =
    let a = c.args in
    let x = choice-is a.t.now a.v a.j c.in-Some.o (sym c.in-Some.ensures) in
    record { adjacent = c.requires.a_value.0; chosen = x.chosen; opposite = x.slot; next = c.requires.a_value.1 }

pub count_face-requires-clause-second_value : goal.count_face-requires-clause-second_value
count_face-requires-clause-second_value c = (choice-is c.args.t.now c.args.v c.args.j c.in-Some.o (sym c.in-Some.ensures)).spot

pub near_count-sides-requires-clause-has_value : goal.near_count-sides-requires-clause-has_value
near_count-sides-requires-clause-has_value c =
    let a = c.args in
    c.has_face-has.ensures ∙ ap (λ (j : ℕ). is_point (chosen_at a.t.now a.v j)) c.prev_place.ensures.0
    ∙ faced-second a.t.now a.v a.j (ap is_point (choice-neither a.t.now a.v a.j (sym c.in-None.ensures)))

-- nothing is counted but the side to the adjacent point
both : (x y z : ℕ) → x ≡ y → 0 ≡ z → x ≡ y + z
both x y z e f = omega arith

pub returns-in-None-clause-value : goal.returns-in-None-clause-value
returns-in-None-clause-value c =
    let a = c.args in
    let none = choice-neither a.t.now a.v a.j (sym c.in-None.ensures) in
    let e = c.near_count-sides.ensures in
    let f = far_none a.t.now a.k a.v a.j none in
    let p = plain-none a.t.now a.k a.v a.j none in
    λ i. faces_and_sides (corner-none a.t.now a.k a.v a.j none i) (both c.near_count-sides.result _ _ e.0 f i) (p i)
