-- Many answers as the code writes them: `triple_slot` where a point stands, `triple-slot-most`, `triple-answer` what it is answered by that ·
-- `answer-put` an answer's numbers, its row copied ·
-- `query-twenty`, `triple-twenty` an answer has twenty numbers, `answers_in`, `answers-start`, `answers-room`, `answers-more`, `answers_at` the answers
-- so far · `all-1`, `all-13`, `all-0` the ways to an outcome, `after-parts` what equal ones share · `all-answer` each answer stands at its place.
-- Assumes nothing.
use Rattle.std.specs.Prelude.{◌≡◌, Bool, cond, ◌&&◌, eqb, leb, pos, nat_abs, get_or, set, Option, Some, None}
use Rattle.std.proofs.Math.Path.{refl, ap}
use Rattle.std.proofs.Common.{sym, ◌∙◌, le-leb, le-ltb, length-drop, drop_at, take_all, take-suc-set, drop-set-lt}
use Rattle.std.proofs.Math.Bool.{true, false}
use mathlib.Core.List.{List, ◌∷◌, ◌++◌, append_assoc}
use Prim.Native.Nat.{ℕ, zero, suc, ◌+◌, ◌*◌, ◌≤◌, ◌<◌}
use native.Mathlib.Omega.{arith}
use Rattle.std.proofs.Math.Decide.{ℕ_discrete}
use Rattle.std.proofs.lemmas.Bool.{lt-leb}
use Rattle.std.proofs.Math.IntN.{ℤ}
use Rattle.std.proofs.Math.ListN.{length, take, drop, length-append}
use Rattle.std.proofs.lemmas.List.Edits.{sets}
use Rattle.std.proofs.Math.Seq.{sets-eq, paste, take_at, drop-append-add, drop-drop, append_snoc}
use Rattle.laws.specs.Choices.{unless}
use Rattle.lattice.specs.Points.{normal_of}
use Rattle.lattice.specs.Stars.{refused, given}
use Rattle.lattice.specs.declared.points.Point.{Point}
use Rattle.lattice.specs.declared.records.Record.{Record}
use Rattle.lattice.specs.declared.stars.Answer.{Answer}
use Rattle.table.specs.Slots.{Table, slot_at}
use Rattle.table.specs.Search.{find_of}
use Rattle.table.specs.Order.{in_order_of}
use Rattle.table.specs.Entries.{held_in, look_up, slot_found}
use Rattle.table.specs.MapLaws.{order-table, slot-in-most, test-order}
use Rattle.queries.specs.Queries.{adjacents_there, corners_there, faces_given, query_looked, query_of}
use Rattle.queries.specs.Asked.{answer_at, slot_answer}
use Rattle.queries.specs.QueryLaws.{query-looked, slot-answer}
use Rattle.lattice.specs.AnswerRows.{points_numbers, answer_numbers}
use Rattle.queries.specs.declared.answers.Query.{Query}
use Rattle.queries.specs.declared.answers.Query.TheVariants.{Neighbours, Faces}
use Rattle.laws.specs.Triples.{triples_in, is_byte}
use Rattle.queries.specs.Many.{triple_of, answer_width, answer_row, answers_to, AnswersAfter, answers_after, all_of}

-- ---- where a point stands
-- the slot of the record at triple i, n where there is none
abbrev pub triple_slot : List ℕ → ℕ → List ℤ → ℕ → ℕ
triple_slot t n ps i =
    unless (is_byte (get_or ps (3 * i + 2) (pos 0))) n
    (slot_found n (find_of t (normal_of (get_or ps (3 * i) (pos 0)) (get_or ps (3 * i + 1) (pos 0)) (nat_abs (get_or ps (3 * i + 2) (pos 0))))))

module _ (t : List ℕ) (n : ℕ) (k : Table t n) (h : in_order_of t ≡ true) (ps : List ℤ) (i : ℕ) where
  abbrev asked : Point
  asked = normal_of (get_or ps (3 * i) (pos 0)) (get_or ps (3 * i + 1) (pos 0)) (nat_abs (get_or ps (3 * i + 2) (pos 0)))

  pub triple-slot-most : triple_slot t n ps i ≤ n
  triple-slot-most = go (is_byte (get_or ps (3 * i + 2) (pos 0)))
    where
      go : (b : Bool) → unless b n (slot_found n (find_of t asked)) ≤ n
      go true = slot-in-most t (order-table t (test-order t h)) asked n _ k refl
      go false = omega arith

  pub triple-answer : (q : Query) → slot_answer q t n (triple_slot t n ps i) ≡ triple_of (query_of (answer_at q t) t) ps i
  unfolding triple_of
  triple-answer q = go (is_byte (get_or ps (3 * i + 2) (pos 0)))
    where
      f : Record → Answer
      f = answer_at q t

      go : (b : Bool)
          → slot_answer q t n (unless b n (slot_found n (find_of t asked)))
          ≡ unless b (refused 3) (query_of f t (get_or ps (3 * i) (pos 0)) (get_or ps (3 * i + 1) (pos 0)) (nat_abs (get_or ps (3 * i + 2) (pos 0))))
      go true =
          slot-answer q t n k h asked _ refl
          ∙ query-looked f t (get_or ps (3 * i) (pos 0)) (get_or ps (3 * i + 1) (pos 0)) (nat_abs (get_or ps (3 * i + 2) (pos 0))) h _ refl
      go false = ap (λ (b : Bool). unless b (refused 3) (query_looked f (held_in (slot_at t n)))) (le-ltb n n (omega arith))

-- ---- one answer put
-- its number at a place, and its row of so many numbers copied behind
pub answer-put :
    (o : List ℤ) (at : ℕ) (x : ℤ) (row : List ℤ) → at + 1 + length row ≤ length o
    → paste (set o at x) (at + 1) row (length row) ≡ sets o at (x ∷ row)
answer-put o at x row h =
    let e : suc at ≡ at + 1 = omega arith in
    let n = length row in
    let k : at + length (x ∷ row) ≡ at + 1 + n = omega arith in
    (λ i. take (sym e i) (set o at x) ++ take n row ++ drop (at + 1 + n) (set o at x))
    ∙ (λ i. take-suc-set o at x (omega arith) i ++ take_all n row (omega arith) i ++ drop-set-lt (at + 1 + n) o at x (omega arith) i)
    ∙ ap (λ (l : List ℤ). l ++ drop (at + 1 + n) o) (append_snoc (take at o) x row)
    ∙ ap (λ (m : ℕ). take at o ++ (x ∷ row) ++ drop m o) (sym k)
    ∙ sym (sets-eq (x ∷ row) o at (omega arith))

-- ---- the answers so far

-- an answer has twenty numbers
abbrev Twenty : Answer → Type 0
Twenty r = length (answer_row r) ≡ answer_width

-- every query's has
pub query-twenty : (q : Query) (t : List ℕ) (a b : ℤ) (m : ℕ) → length (answer_row (query_of (answer_at q t) t a b m)) ≡ answer_width
unfolding answer_numbers points_numbers
query-twenty q t a b m = ordered (in_order_of t) (look_up t (normal_of a b m))
  where
    whole : (b : Bool) (x y : Answer) → Twenty x → Twenty y → Twenty (cond b x y)
    whole true x y h k = h
    whole false x y h k = k

    at : (q : Query) (v : Record) → Twenty (answer_at q t v)
    at Neighbours v = whole (adjacents_there t v) (given v) (refused 7) refl refl
    at Faces v = whole (adjacents_there t v && corners_there t v) (faces_given t v) (refused 7) refl refl

    ordered : (o : Bool) (l : Option Record) → Twenty (unless o (refused 1) (query_looked (answer_at q t) l))
    ordered false l = refl
    ordered true None = refl
    ordered true (Some v) = whole (eqb v.d 0) (refused 14) (answer_at q t v) refl (at q v)

pub triple-twenty :
    (query : ℤ → ℤ → ℕ → Answer) → ((a b : ℤ) (m : ℕ) → length (answer_row (query a b m)) ≡ answer_width) → (ps : List ℤ) (i : ℕ)
    → length (answer_row (triple_of query ps i)) ≡ answer_width
unfolding triple_of answer_numbers points_numbers
triple-twenty query h ps i = go (is_byte (get_or ps (3 * i + 2) (pos 0)))
  where
    go : (b : Bool)
        → Twenty (unless b (refused 3) (query (get_or ps (3 * i) (pos 0)) (get_or ps (3 * i + 1) (pos 0)) (nat_abs (get_or ps (3 * i + 2) (pos 0)))))
    go true = h (get_or ps (3 * i) (pos 0)) (get_or ps (3 * i + 1) (pos 0)) (nat_abs (get_or ps (3 * i + 2) (pos 0)))
    go false = refl

-- the answers so far, and what was lent from there on
abbrev pub answers_in : (ℕ → Answer) → List ℤ → ℕ → List ℤ
answers_in f out i = answers_to f i ++ drop (answer_width * i) out

pub answers-start : (f : ℕ → Answer) (out : List ℤ) → out ≡ answers_in f out 0
unfolding answers_to
answers-start f out = refl

module _ (f : ℕ → Answer) (long : (i : ℕ) → length (answer_row (f i)) ≡ answer_width) where
  answers-length : (i : ℕ) → length (answers_to f i) ≡ answer_width * i
  unfolding answers_to
  answers-length zero = refl
  answers-length (suc i) = let l = length-append (answers_to f i) (answer_row (f i)) in omega (arith, answers-length i, long i)

  pub answers-room : (out : List ℤ) (i : ℕ) → answer_width * i ≤ length out → length (answers_in f out i) ≡ length out
  answers-room out i h =
      let a = length-append (answers_to f i) (drop (answer_width * i) out) in
      let d = length-drop (answer_width * i) out in
      omega (arith, answers-length i)

  pub answers-more :
      (out : List ℤ) (i : ℕ) → answer_width * i + answer_width ≤ length out
      → sets (answers_in f out i) (answer_width * i) (answer_row (f i)) ≡ answers_in f out (i + 1)
  unfolding answers_to
  answers-more out i h =
      let k = answer_width * i in
      let a = answers_to f i in
      let d = drop k out in
      let r = answer_row (f i) in
      let z : suc i ≡ i + 1 = omega arith in
      let w : k + answer_width ≡ answer_width * (i + 1) = omega arith in
      let m : k + length r ≡ k + answer_width = omega (arith, long i) in
      let la : length a + answer_width ≡ k + answer_width = omega (arith, answers-length i) in
      sets-eq r (a ++ d) k (omega (arith, answers-room out i (omega arith), long i))
      ∙ (λ j. take_at a d k (answers-length i) j ++ r ++ drop (m j) (a ++ d))
      ∙ ap (λ (l : List ℤ). a ++ r ++ l)
      (ap (λ (n : ℕ). drop n (a ++ d)) (sym la) ∙ drop-append-add a d answer_width ∙ drop-drop answer_width k out ∙ ap (λ (n : ℕ). drop n out) w)
      ∙ ap (λ (n : ℕ). answers_to f n ++ drop (answer_width * (i + 1)) out) z

  -- answer i stands at its place
  pub answers_at : (k i : ℕ) → i < k → (rest : List ℤ) → take answer_width (drop (answer_width * i) (answers_to f k ++ rest)) ≡ answer_row (f i)
  unfolding answers_to
  answers_at zero i h rest = absurd (omega arith)
  answers_at (suc k) i h rest =
      ap (λ (l : List ℤ). take answer_width (drop (answer_width * i) l)) (append_assoc (answers_to f k) (answer_row (f k)) rest)
      ∙ last (ℕ_discrete i k) (λ l. answers_at k i l (answer_row (f k) ++ rest))
    where
      place : ℕ → List ℤ
      place n = take answer_width (drop (answer_width * n) (answers_to f k ++ (answer_row (f k) ++ rest)))

      last : Dec (i ≡ k) → (i < k → place i ≡ answer_row (f i)) → place i ≡ answer_row (f i)
      last (yes e) r =
          ap place e
          ∙ ap (take answer_width) (drop_at (answers_to f k) (answer_row (f k) ++ rest) (answer_width * k) (answers-length k))
          ∙ take_at (answer_row (f k)) rest answer_width (long k)
          ∙ ap (λ (n : ℕ). answer_row (f n)) (sym e)
      last (no n) r = r (omega arith)

-- ---- the outcome
module _ (query : ℤ → ℤ → ℕ → Answer) (t : List ℕ) (ps out : List ℤ) where
  abbrev all : Bool → Bool → AnswersAfter
  all ordered room =
      unless ordered (answers_after 1 out)
      (unless room (answers_after 13 out)
      (answers_after 0 (answers_in (triple_of query ps) out (triples_in ps))))

  pub all-1 : in_order_of t ≡ false → answers_after 1 out ≡ all_of query t ps out
  unfolding all_of
  all-1 h = ap (λ (o : Bool). all o (leb (answer_width * triples_in ps) (length out))) (sym h)

  pub all-13 : in_order_of t ≡ true → length out < answer_width * triples_in ps → answers_after 13 out ≡ all_of query t ps out
  unfolding all_of
  all-13 h l = (λ k. all (sym h k) (sym (lt-leb (answer_width * triples_in ps) (length out) l) k))

  pub all-0 :
      in_order_of t ≡ true → answer_width * triples_in ps ≤ length out
      → answers_after 0 (answers_in (triple_of query ps) out (triples_in ps)) ≡ all_of query t ps out
  unfolding all_of
  all-0 h l = (λ k. all (sym h k) (sym (le-leb (answer_width * triples_in ps) (length out) l) k))

  -- where it is done, each answer is the single call's: its twenty numbers from its place on
  pub all-answer :
      ((a b : ℤ) (m : ℕ) → length (answer_row (query a b m)) ≡ answer_width) → (all_of query t ps out).number ≡ 0 → (i : ℕ) → i < triples_in ps
      → take answer_width (drop (answer_width * i) (all_of query t ps out).answers) ≡ answer_row (triple_of query ps i)
  unfolding all_of
  all-answer long e i h = go (in_order_of t) (leb (answer_width * triples_in ps) (length out)) e
    where
      go : (o r : Bool) → (all o r).number ≡ 0 → take answer_width (drop (answer_width * i) (all o r).answers) ≡ answer_row (triple_of query ps i)
      go false r z = absurd (omega (arith, z))
      go true false z = absurd (omega (arith, z))
      go true true z = answers_at (triple_of query ps) (triple-twenty query long ps) (triples_in ps) i h (drop (answer_width * triples_in ps) out)

pub after-parts : {x y : AnswersAfter} → x ≡ y → (x.number ≡ y.number) × (x.answers ≡ y.answers)
after-parts e = (ap (λ (r : AnswersAfter). r.number) e, ap (λ (r : AnswersAfter). r.answers) e)
