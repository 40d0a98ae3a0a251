-- Many queries at once, which are ours: each answer is the single call's, and a refusal writes nothing.
-- `neighbours-each`, `faces-each` · `neighbours-as-lent`, `faces-as-lent`.
-- Assumes nothing.
use Rattle.std.specs.Prelude.{◌≡◌, refl, true, false, List, ◌++◌, ℕ, ◌*◌, ◌<◌, leb, ℤ, length, take}
use Rattle.std.proofs.Math.Bool.{Bool}
use Rattle.std.proofs.Math.ListN.{drop}
use Rattle.laws.specs.Choices.{unless}
use Rattle.lattice.specs.declared.stars.Answer.{Answer}
use Rattle.table.specs.Order.{in_order_of}
use Rattle.queries.specs.Queries.{neighbours_of, faces_of}
use Rattle.laws.specs.Triples.{triples_in}
use Rattle.queries.specs.Many.{triple_of, answer_width, answer_row, answers_to, answers_after, AnswersAfter, all_of, neighbours_all_of, faces_all_of}
use Rattle.queries.specs.ManyLaws.{query-twenty, all-answer}
use Rattle.queries.specs.declared.answers.Query.TheVariants.{Neighbours, Faces}

module _ (t : List ℕ) (ps out : List ℤ) where
  -- where the call is done, the twenty numbers at place i are the number, the count and the six points that the single call gives for triple i
  pub neighbours-each :
      (neighbours_all_of t ps out).number ≡ 0 → (i : ℕ) → i < triples_in ps
      → take answer_width (drop (answer_width * i) (neighbours_all_of t ps out).answers) ≡ answer_row (triple_of (neighbours_of t) ps i)
  unfolding neighbours_of
  neighbours-each = all-answer (neighbours_of t) t ps out (query-twenty Neighbours t)

  pub faces-each :
      (faces_all_of t ps out).number ≡ 0 → (i : ℕ) → i < triples_in ps
      → take answer_width (drop (answer_width * i) (faces_all_of t ps out).answers) ≡ answer_row (triple_of (faces_of t) ps i)
  unfolding faces_of
  faces-each = all-answer (faces_of t) t ps out (query-twenty Faces t)

  -- where it is not, the numbers are as they were lent
  as_lent : (query : ℤ → ℤ → ℕ → Answer) → ((all_of query t ps out).number ≡ 0 → ⊥) → (all_of query t ps out).answers ≡ out
  unfolding all_of
  as_lent query h = go (in_order_of t) (leb (answer_width * triples_in ps) (length out)) h
    where
      all : Bool → Bool → AnswersAfter
      all ordered room =
          unless ordered (answers_after 1 out)
          (unless room (answers_after 13 out)
          (answers_after 0 (answers_to (triple_of query ps) (triples_in ps) ++ drop (answer_width * triples_in ps) out)))

      go : (o r : Bool) → ((all o r).number ≡ 0 → ⊥) → (all o r).answers ≡ out
      go false r h = refl
      go true false h = refl
      go true true h = absurd (h refl)

  pub neighbours-as-lent : ((neighbours_all_of t ps out).number ≡ 0 → ⊥) → (neighbours_all_of t ps out).answers ≡ out
  neighbours-as-lent = as_lent (neighbours_of t)

  pub faces-as-lent : ((faces_all_of t ps out).number ≡ 0 → ⊥) → (faces_all_of t ps out).answers ≡ out
  faces-as-lent = as_lent (faces_of t)
