-- `queries::answer_at` meets its promise: by what is there, and by what is asked. Assumes nothing.
use Rattle.std.proofs.Common.{◌≡◌, Bool, true, false, sym, ap, ◌∙◌}
use Rattle.lattice.specs.Refusals.{number_told}
use Rattle.lattice.specs.AnswerRowLaws.{answer-parts}
use Rattle.queries.specs.Asked.{answer_at, when_true}
use Rattle.queries.specs.QueryLaws.{answer-torn, neighbours-whole, faces-cornered}
use Rattle.queries.specs.declared.answers.Query.{Query}
use Rattle.queries.proofs.answers.answer_at.Goals as goal

-- the row of a function that gave true
put : (b : Bool) {A : Type 0} → b ≡ true → when_true b A → A
put true e a = a
put false e a = absurd (cc)

pub returns-then-not-star_there : goal.returns-then-not-star_there
returns-then-not-star_there c =
    let p = answer-parts (answer-torn c.args.q c.args.t.now c.args.v (sym c.star_there.ensures.value ∙ c.if-not-star_there.true)) in
    record { value = ap number_told c.refuse_answer.ensures.value ∙ p.0; out_after = c.refuse_answer.ensures.out_after ∙ p.1 }

pub put_opposites-requires : goal.put_opposites-requires
put_opposites-requires c = record { asked = c.requires; out_value = put c.star_there.result c.if-not-star_there.false c.star_there.ensures.when_true }

pub returns-in-Neighbours : goal.returns-in-Neighbours
returns-in-Neighbours c =
    let t = c.args.t.now in
    let v = c.args.v in
    let yes = c.if-not-star_there.false in
    let p = answer-parts (neighbours-whole t v (sym c.star_there.ensures.value ∙ yes) ∙ ap (λ (q : Query). answer_at q t v) (sym c.in-Neighbours.is)) in
    record { value = p.0; out_after = put c.star_there.result yes c.star_there.ensures.when_true ∙ p.1 }

pub returns-then-put_opposites : goal.returns-then-put_opposites
returns-then-put_opposites c =
    let t = c.args.t.now in
    let v = c.args.v in
    let here = sym c.star_there.ensures.value ∙ c.if-not-star_there.false in
    let e = faces-cornered t v here true (sym c.if-put_opposites.true ∙ c.put_opposites.ensures.value) in
    let p = answer-parts (e ∙ ap (λ (q : Query). answer_at q t v) (sym c.in-Faces.is)) in
    record { value = p.0; out_after = put c.put_opposites.result c.if-put_opposites.true c.put_opposites.ensures.when_true ∙ p.1 }

pub returns-else-put_opposites : goal.returns-else-put_opposites
returns-else-put_opposites c =
    let t = c.args.t.now in
    let v = c.args.v in
    let here = sym c.star_there.ensures.value ∙ c.if-not-star_there.false in
    let e = faces-cornered t v here false (sym c.if-put_opposites.false ∙ c.put_opposites.ensures.value) in
    let p = answer-parts (e ∙ ap (λ (q : Query). answer_at q t v) (sym c.in-Faces.is)) in
    record { value = ap number_told c.refuse_answer-in-Faces.ensures.value ∙ p.0; out_after = c.refuse_answer-in-Faces.ensures.out_after ∙ p.1 }
