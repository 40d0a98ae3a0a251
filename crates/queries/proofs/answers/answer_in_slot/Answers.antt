-- `queries::answer_in_slot` meets its promise: by what the slot holds. Assumes nothing.
use Rattle.std.specs.Prelude.{Option, Some, None}
use Rattle.std.proofs.Common.{◌≡◌, List, ℕ, ◌<◌, Bool, sym, ap, ◌∙◌, arith, eqb, eq-eqb, ne_eqb, le-ltb, lt-ltb}
use Rattle.laws.specs.Choices.{unless}
use Rattle.lattice.specs.Refusals.{number_told}
use Rattle.lattice.specs.AnswerRowLaws.{answer-parts}
use Rattle.lattice.specs.Stars.{refused}
use Rattle.lattice.specs.declared.records.Record.{Record}
use Rattle.lattice.specs.declared.stars.Answer.{Answer}
use Rattle.table.specs.Entries.{held_in}
use Rattle.table.specs.Slots.{slot_at}
use Rattle.queries.specs.Asked.{answer_at, slot_answer}
use Rattle.queries.specs.Queries.{query_looked}
use Rattle.queries.specs.QueryLaws.{vertex-asked}
use Rattle.queries.specs.declared.answers.Query.{Query}
use Rattle.queries.proofs.answers.answer_in_slot.Goals as goal

module _ (q : Query) (t : List ℕ) (n i : ℕ) where
  by : Bool → Answer
  by b = unless b (refused 3) (query_looked (answer_at q t) (held_in (slot_at t i)))

  -- by what the slot holds
  looked : i < n → (l : Option Record) → l ≡ held_in (slot_at t i) → query_looked (answer_at q t) l ≡ slot_answer q t n i
  unfolding by
  looked h l e = ap (query_looked (answer_at q t)) e ∙ ap by (sym (lt-ltb i n h))

  -- a record is there: by its degree
  at-degree : i < n → (v : Record) → Some v ≡ held_in (slot_at t i) → (b : Bool) → eqb v.d 0 ≡ b
      → unless b (answer_at q t v) (refused 14) ≡ slot_answer q t n i
  at-degree h v e b z = ap (λ (x : Bool). unless x (answer_at q t v) (refused 14)) (sym z) ∙ looked h (Some v) e

pub returns-then-n-i : goal.returns-then-n-i
unfolding by
returns-then-n-i c =
    let p = answer-parts (ap (by c.args.q c.args.t.now c.args.n c.args.i) (sym (le-ltb c.args.i c.args.n (omega arith)))) in
    record { value = ap number_told c.refuse_answer.ensures.value ∙ p.0; out_after = c.refuse_answer.ensures.out_after ∙ p.1 }

pub returns-in-None : goal.returns-in-None
returns-in-None c =
    let p = answer-parts (looked c.args.q c.args.t.now c.args.n c.args.i (omega arith) None (sym c.in-None.is ∙ c.held_in.ensures)) in
    record { value = ap number_told c.refuse_answer-in-None.ensures.value ∙ p.0; out_after = c.refuse_answer-in-None.ensures.out_after ∙ p.1 }

pub returns-then-v-eq0 : goal.returns-then-v-eq0
returns-then-v-eq0 c =
    let here = sym c.in-Some.is ∙ c.held_in.ensures in
    let e = at-degree c.args.q c.args.t.now c.args.n c.args.i (omega arith) c.in-Some.v here _ (eq-eqb _ _ c.if-v-eq0.true) in
    let p = answer-parts e in
    record { value = ap number_told c.refuse_answer-then-v-eq0.ensures.value ∙ p.0; out_after = c.refuse_answer-then-v-eq0.ensures.out_after ∙ p.1 }

pub answer_at-requires : goal.answer_at-requires
answer_at-requires c =
    vertex-asked c.args.t.now c.args.n c.requires.table c.requires.t_value c.args.i c.in-Some.v (omega arith) (sym (sym c.in-Some.is ∙ c.held_in.ensures))
    c.if-v-eq0.false

pub returns-else-v-eq0 : goal.returns-else-v-eq0
returns-else-v-eq0 c =
    let here = sym c.in-Some.is ∙ c.held_in.ensures in
    let e = at-degree c.args.q c.args.t.now c.args.n c.args.i (omega arith) c.in-Some.v here _ (ne_eqb _ _ c.if-v-eq0.false) in
    let p = answer-parts e in
    record { value = c.answer_at.ensures.value ∙ p.0; out_after = c.answer_at.ensures.out_after ∙ p.1 }
