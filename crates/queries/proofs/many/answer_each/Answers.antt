-- `queries::answer_each` meets its promise. Assumes nothing.
use Rattle.std.proofs.Common.{◌≡◌, List, ℕ, ◌*◌, ap, ◌∙◌, arith, length, ℤ, pos, ◌∷◌}
use Rattle.std.proofs.lemmas.List.Edits.{sets}
use Rattle.lattice.specs.AnswerRowLaws.{answer-parts}
use Rattle.lattice.specs.declared.stars.Answer.{Answer}
use Rattle.queries.specs.Queries.{query_of}
use Rattle.queries.specs.Asked.{answer_at, slot_answer}
use Rattle.queries.specs.Many.{answer_width, answer_row, triple_of}
use Rattle.queries.specs.ManyLaws.{query-twenty, triple-twenty, triple-slot-most, triple-answer, answers_in, answers-start, answers-more}
use Rattle.queries.specs.declared.answers.Query.{Query}
use Rattle.queries.proofs.many.answer_each.Goals as goal

-- the answer to a triple
abbrev one : Query → List ℕ → List ℤ → ℕ → Answer
one q t ps = triple_of (query_of (answer_at q t) t) ps

long : (q : Query) (t : List ℕ) (ps : List ℤ) (i : ℕ) → length (answer_row (one q t ps i)) ≡ answer_width
long q t ps = triple-twenty (query_of (answer_at q t) t) (query-twenty q t) ps

pub loop-i-init : goal.loop-i-init
loop-i-init c = answers-start (one c.args.q c.args.t.now c.args.points.now) c.args.answers.now

pub put_answer-requires : goal.put_answer-requires
put_answer-requires c =
    let a = c.args in
    let i = c.loop-i.i in
    let e = ap (slot_answer a.q a.t.now a.n) c.triple_slot-slot.ensures
    ∙ triple-answer a.t.now a.n c.requires.table c.requires.t_value a.points.now i a.q in
    let z = long a.q a.t.now a.points.now i in
    record {
      answer_width_in_bounds = omega (arith, c.requires.count_in_bounds_2, c.loop-i.auto.answers);
      row_len = ap length (c.answer_in_slot.ensures.out_after ∙ (answer-parts e).1) ∙ omega (arith, z);
    }

pub overflow_add-guess : goal.overflow_add-guess
overflow_add-guess c =
    let h = triple-slot-most c.args.t.now c.args.n c.requires.table c.requires.t_value c.args.points.now c.loop-i.i in
    record { fits = omega (arith, c.triple_slot-slot.ensures, h, c.requires.table.most) }

pub loop-i-preserved : goal.loop-i-preserved
loop-i-preserved c =
    let a = c.args in
    let f = one a.q a.t.now a.points.now in
    let i = c.loop-i.i in
    let e = ap (slot_answer a.q a.t.now a.n) c.triple_slot-slot.ensures
    ∙ triple-answer a.t.now a.n c.requires.table c.requires.t_value a.points.now i a.q in
    let p = answer-parts e in
    let number = c.number_told-number.ensures ∙ c.answer_in_slot.ensures.value ∙ p.0 in
    let row = c.answer_in_slot.ensures.out_after ∙ p.1 in
    c.put_answer.ensures ∙ (λ k. sets (c.loop-i.invariant k) (answer_width * i) (pos (number k) ∷ row k))
    ∙ answers-more f (long a.q a.t.now a.points.now) a.answers.now i (omega (arith, c.requires.count_in_bounds_2))

pub returns : goal.returns
returns c =
    let a = c.args in
    let e : c.loop-i.i ≡ a.count = omega arith in
    c.loop-i.invariant ∙ ap (answers_in (one a.q a.t.now a.points.now) a.answers.now) e
