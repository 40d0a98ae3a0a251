-- The laws of the queries. For the reader: `neighbours-spelling`, `faces-spelling` two spellings of one point get the same answer.
-- For the code and the floors above: `query-refused`, `query-looked`, `neighbours-looked` a query is what follows the search for its vertex ·
-- `vertex-asked`, `asked-inner` what is known of a vertex that it finds, `slot-answer` the answer by its slot · `neighbours-whole`, `neighbours-torn` ·
-- `chosen-first`, `chosen-second` the opposite of a corner · `faces-torn`, `faces-cornered` the ways to an answer, `answer-torn` whichever was asked ·
-- `when_true_lem`. The row of the faces: OppositeLaws.
-- Assumes nothing.
use Rattle.std.specs.Prelude.{◌≡◌, Bool, true, false, ◌&&◌, List, ℕ, ◌<◌, ℤ, Option, Some, None}
use Rattle.std.proofs.Common.{sym, ◌∙◌, arith, le-ltb, lt-ltb}
use Rattle.std.proofs.Math.Path.{ap}
use Rattle.std.proofs.Math.Bool.{cond}
use Rattle.std.proofs.Math.Decide.{dec_lt}
use Rattle.laws.specs.Choices.{unless, of-true}
use Rattle.lattice.specs.Points.{normal_of}
use Rattle.lattice.specs.RecordLaws.{Inner, inner}
use Rattle.lattice.specs.Stars.{first_at, second_at, refused, given}
use Rattle.lattice.specs.declared.points.Point.{Point}
use Rattle.lattice.specs.declared.records.Record.{Record}
use Rattle.lattice.specs.declared.stars.Answer.{Answer}
use Rattle.table.specs.Slots.{Table, slots_of, slot_at}
use Rattle.table.specs.Search.{find_of}
use Rattle.table.specs.Entries.{held_in, look_up, holds, slot_found}
use Rattle.table.specs.Order.{in_order_of}
use Rattle.table.specs.LookLaws.{held-eq}
use Rattle.table.specs.MapLaws.{order-table, slot-in-held, slot-in-absent, test-order}
use Rattle.table.specs.SlotLaws.{table-slots}
use Rattle.queries.specs.Queries.{adjacents_there, there, chosen_at, corners_there, faces_given, neighbours_at, faces_at}
use Rattle.queries.specs.Queries.{query_looked, query_of, neighbours_of, faces_of}
use Rattle.queries.specs.Asked.{Asked, answer_at, slot_answer, when_true}
use Rattle.queries.specs.declared.answers.Query.{Query}
use Rattle.queries.specs.declared.answers.Query.TheVariants.{Neighbours, Faces}

-- "Every point in a request is normalised before it is looked up": two spellings of one point get the same answer
module _ (t : List ℕ) (a b a' b' : ℤ) (m m' : ℕ) (same : normal_of a b m ≡ normal_of a' b' m') where
  pub neighbours-spelling : neighbours_of t a b m ≡ neighbours_of t a' b' m'
  unfolding neighbours_of
  neighbours-spelling = ap (λ (p : Point). unless (in_order_of t) (refused 1) (query_looked (neighbours_at t) (look_up t p))) same

  pub faces-spelling : faces_of t a b m ≡ faces_of t a' b' m'
  unfolding faces_of
  faces-spelling = ap (λ (p : Point). unless (in_order_of t) (refused 1) (query_looked (faces_at t) (look_up t p))) same

-- ---- the vertex

module _ (f : Record → Answer) (t : List ℕ) (a b : ℤ) (m : ℕ) where
  pub query-refused : in_order_of t ≡ false → refused 1 ≡ query_of f t a b m
  query-refused h = ap (λ (o : Bool). unless o (refused 1) (query_looked f (look_up t (normal_of a b m)))) (sym h)

  pub query-looked : in_order_of t ≡ true → (l : Option Record) → look_up t (normal_of a b m) ≡ l → query_looked f l ≡ query_of f t a b m
  query-looked h l e =
      ap (query_looked f) (sym e) ∙ ap (λ (o : Bool). unless o (refused 1) (query_looked f (look_up t (normal_of a b m)))) (sym h)

module _ (t : List ℕ) (a b : ℤ) (m : ℕ) where
  pub neighbours-looked :
      in_order_of t ≡ true → (l : Option Record) → look_up t (normal_of a b m) ≡ l → query_looked (neighbours_at t) l ≡ neighbours_of t a b m
  unfolding neighbours_of
  neighbours-looked = query-looked (neighbours_at t) t a b m

-- what is known of a vertex that has a star, in slot i
pub vertex-asked :
    (t : List ℕ) (n : ℕ) → Table t n → in_order_of t ≡ true → (i : ℕ) (v : Record) → i < n → held_in (slot_at t i) ≡ Some v → (v.d ≡ 0 → ⊥) → Asked t n v
vertex-asked t n k h i v l e d =
    let o = test-order t h in
    let b : i < slots_of t = omega (arith, table-slots t n k) in
    record { table = k; order = h; valid = o.valid i v b (held-slot (slot_at t i) e); inside = d }
  where
    held-slot : (c : Option Record) → held_in c ≡ Some v → c ≡ Some v
    held-slot None z = absurd (let x : ◌≡◌ {A = ℕ} 0 1 = cc in omega (arith, x))
    held-slot (Some r) z = ap Some (held-eq r v z)

-- the answer by the slot where a search has found its point
module _ (q : Query) (t : List ℕ) (n : ℕ) (k : Table t n) (h : in_order_of t ≡ true) (p : Point) (s : ℕ) (e : s ≡ slot_found n (find_of t p)) where
  pub slot-answer : slot_answer q t n s ≡ query_looked (answer_at q t) (look_up t p)
  slot-answer = go (dec_lt s n)
    where
      w : Table t (slots_of t)
      w = order-table t (test-order t h)

      go : Dec (s < n) → slot_answer q t n s ≡ query_looked (answer_at q t) (look_up t p)
      go (yes l) =
          ap (λ (b : Bool). unless b (refused 3) (query_looked (answer_at q t) (held_in (slot_at t s)))) (lt-ltb s n l)
          ∙ ap (query_looked (answer_at q t)) (slot-in-held t w p n s k e l)
      go (no l) =
          ap (λ (b : Bool). unless b (refused 3) (query_looked (answer_at q t) (held_in (slot_at t s)))) (le-ltb s n (omega arith))
          ∙ ap (query_looked (answer_at q t)) (sym (slot-in-absent t w p n s k e l))

pub asked-inner : {t : List ℕ} {n : ℕ} {v : Record} → Asked t n v → Inner v
asked-inner {v = v} k = inner v (of-true k.valid) k.inside

-- ---- the neighbours

pub neighbours-whole : (t : List ℕ) (v : Record) → adjacents_there t v ≡ true → given v ≡ neighbours_at t v
neighbours-whole t v h = ap (λ (b : Bool). unless b (refused 7) (given v)) (sym h)

neighbours-torn : (t : List ℕ) (v : Record) → adjacents_there t v ≡ false → refused 7 ≡ neighbours_at t v
neighbours-torn t v h = ap (λ (b : Bool). unless b (refused 7) (given v)) (sym h)

-- ---- the opposite of a corner

module _ (t : List ℕ) (v : Record) (j : ℕ) where
  pub chosen-first : holds t (first_at v j) ≡ true → Some (first_at v j) ≡ chosen_at t v j
  unfolding chosen_at
  chosen-first h = ap (λ (b : Bool). cond b (Some (first_at v j)) (there t (second_at v j))) (sym h)

  pub chosen-second : holds t (first_at v j) ≡ false → there t (second_at v j) ≡ chosen_at t v j
  unfolding chosen_at
  chosen-second h = ap (λ (b : Bool). cond b (Some (first_at v j)) (there t (second_at v j))) (sym h)

-- ---- the faces

module _ (t : List ℕ) (v : Record) where
  pub faces-torn : adjacents_there t v ≡ false → refused 7 ≡ faces_at t v
  faces-torn h = ap (λ (b : Bool). unless (b && corners_there t v) (refused 7) (faces_given t v)) (sym h)

  pub faces-cornered : adjacents_there t v ≡ true → (b : Bool) → b ≡ corners_there t v → unless b (refused 7) (faces_given t v) ≡ faces_at t v
  faces-cornered h b e =
      ap (λ (c : Bool). unless c (refused 7) (faces_given t v)) e ∙ ap (λ (c : Bool). unless (c && corners_there t v) (refused 7) (faces_given t v)) (sym h)

-- ---- either question
pub answer-torn : (q : Query) (t : List ℕ) (v : Record) → adjacents_there t v ≡ false → refused 7 ≡ answer_at q t v
answer-torn Neighbours t v h = neighbours-torn t v h
answer-torn Faces t v h = faces-torn t v h

pub when_true_lem : (b : Bool) {A : Type 0} → A → when_true b A
when_true_lem true a = a
when_true_lem false a = tt
