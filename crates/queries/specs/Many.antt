-- Many queries at once, ours: one in-order test, then each point answered as the single call would. What the promises cite: `neighbours_all_of`,
-- `faces_all_of`. `triple_of` the answer to one point · `answers_to` the answers one after the other, twenty numbers each.
-- Assumes nothing.
use Rattle.std.specs.Prelude.{List, [], ◌∷◌, ◌++◌, ℕ, zero, suc, ◌+◌, ◌*◌, leb, ℤ, pos, nat_abs, length, get_or, drop}
use Rattle.laws.specs.Choices.{unless}
use Rattle.lattice.specs.Stars.{refused}
use Rattle.lattice.specs.declared.stars.Answer.{Answer}
use Rattle.table.specs.Order.{in_order_of}
use Rattle.queries.specs.Queries.{neighbours_of, faces_of}
use Rattle.lattice.specs.AnswerRows.{answer_numbers}
use Rattle.laws.specs.Triples.{triples_in, is_byte}

-- triple i of a list a, b, m, a, b, m, .., as the single call answers it; 3 where its m is not in 0..255
unfoldable pub triple_of : (ℤ → ℤ → ℕ → Answer) → List ℤ → ℕ → Answer
triple_of query ps i =
    unless (is_byte (get_or ps (3 * i + 2) (pos 0))) (refused 3)
    (query (get_or ps (3 * i) (pos 0)) (get_or ps (3 * i + 1) (pos 0)) (nat_abs (get_or ps (3 * i + 2) (pos 0))))

-- twenty numbers: the answer's number, its count, its six points
abbrev pub answer_width : ℕ
answer_width = 20

abbrev pub answer_row : Answer → List ℤ
answer_row r = pos r.number ∷ answer_numbers r

-- the first k answers, one after the other
unfoldable pub answers_to : (ℕ → Answer) → ℕ → List ℤ
answers_to f zero = []
answers_to f (suc k) = answers_to f k ++ answer_row (f k)

pub record AnswersAfter : Type 0 where
  pub number : ℕ
  pub answers : List ℤ

abbrev pub answers_after : ℕ → List ℤ → AnswersAfter
answers_after n l = record { number = n; answers = l }

-- 1: the table is not in order; 13: too little room; nothing is written then. Numbers past the answers stay
unfoldable pub all_of : (ℤ → ℤ → ℕ → Answer) → List ℕ → List ℤ → List ℤ → AnswersAfter
all_of query t ps out =
    unless (in_order_of t) (answers_after 1 out)
    (unless (leb (answer_width * triples_in ps) (length out)) (answers_after 13 out)
    (answers_after 0 (answers_to (triple_of query ps) (triples_in ps) ++ drop (answer_width * triples_in ps) out)))

abbrev pub neighbours_all_of : List ℕ → List ℤ → List ℤ → AnswersAfter
neighbours_all_of t ps out = all_of (neighbours_of t) t ps out

abbrev pub faces_all_of : List ℕ → List ℤ → List ℤ → AnswersAfter
faces_all_of t ps out = all_of (faces_of t) t ps out
