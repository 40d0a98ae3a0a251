-- `lattice::stars::star` meets its promise. Assumes nothing.
use Rattle.std.proofs.Common.{ap, ◌≡◌, sym, subst, ◌∙◌, true, T}
use Rattle.lattice.specs.AnswerRowLaws.{answer-parts}
use Rattle.lattice.specs.Refusals.{number_told}
use Rattle.lattice.specs.RecordLaws.{inner}
use Rattle.lattice.specs.StarLaws.{star-invalid, star-boundary, star-inner}
use Rattle.lattice.specs.Records.{valid_of}
use Rattle.lattice.proofs.stars.star.Goals as goal

pub returns-then-not-valid-clause-value : goal.returns-then-not-valid-clause-value
returns-then-not-valid-clause-value c =
    ap number_told c.refuse_answer.ensures.value ∙ (answer-parts (star-invalid c.args.r (sym c.valid.ensures ∙ c.if-not-valid.true))).0

pub returns-then-not-valid-clause-out_after : goal.returns-then-not-valid-clause-out_after
returns-then-not-valid-clause-out_after c =
    c.refuse_answer.ensures.out_after ∙ (answer-parts (star-invalid c.args.r (sym c.valid.ensures ∙ c.if-not-valid.true))).1

pub returns-then-d-eq0-clause-value : goal.returns-then-d-eq0-clause-value
returns-then-d-eq0-clause-value c =
    ap number_told c.refuse_answer-then-d-eq0.ensures.value
    ∙ (answer-parts (star-boundary c.args.r (sym c.valid.ensures ∙ c.if-not-valid.false) c.if-d-eq0.true)).0

pub returns-then-d-eq0-clause-out_after : goal.returns-then-d-eq0-clause-out_after
returns-then-d-eq0-clause-out_after c =
    c.refuse_answer-then-d-eq0.ensures.out_after
    ∙ (answer-parts (star-boundary c.args.r (sym c.valid.ensures ∙ c.if-not-valid.false) c.if-d-eq0.true)).1

-- past both tests the record is valid, and inside
pub ring-requires : goal.ring-requires
ring-requires c =
    let valid : valid_of c.args.r ≡ true = sym c.valid.ensures ∙ c.if-not-valid.false in
    inner c.args.r (subst T (sym valid) tt) c.if-d-eq0.false

pub returns-clause-value : goal.returns-clause-value
returns-clause-value c = (answer-parts (star-inner c.args.r (sym c.valid.ensures ∙ c.if-not-valid.false) c.if-d-eq0.false)).0

pub returns-clause-out_after : goal.returns-clause-out_after
returns-clause-out_after c =
    c.ring.ensures ∙ (answer-parts (star-inner c.args.r (sym c.valid.ensures ∙ c.if-not-valid.false) c.if-d-eq0.false)).1
