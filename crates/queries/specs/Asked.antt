-- What the functions below the queries promise: `answer_at` what a vertex that has a star is answered, by what is asked, `slot_answer` the record in a slot ·
-- `chosen_by` the opposite of a corner, by its two arms · `Asked` what is known of the vertex and its table · `when_true` what holds where a function gave true.
-- Assumes nothing.
use Rattle.lattice.specs.declared.points.Point.{Point}
use Rattle.std.specs.Prelude.{◌≡◌, Bool, true, false, cond, List, ℕ, ltb, Option, Some}
use Prim.{Unit}
use Rattle.laws.specs.Choices.{unless}
use Rattle.lattice.specs.Records.{valid_of}
use Rattle.lattice.specs.Stars.{refused}
use Rattle.lattice.specs.Terms.{added_of}
use Rattle.lattice.specs.declared.points.Terms.{Terms}
use Rattle.lattice.specs.declared.records.Record.{Record}
use Rattle.lattice.specs.declared.stars.Answer.{Answer}
use Rattle.table.specs.Entries.{held_in, holds}
use Rattle.table.specs.Order.{in_order_of}
use Rattle.table.specs.Slots.{Table, slot_at}
use Rattle.queries.specs.Queries.{there, neighbours_at, faces_at, query_looked}
use Rattle.queries.specs.declared.answers.Query.{Query}
use Rattle.queries.specs.declared.answers.Query.TheVariants.{Neighbours, Faces}

abbrev pub answer_at : Query → List ℕ → Record → Answer
answer_at Neighbours t v = neighbours_at t v
answer_at Faces t v = faces_at t v

-- what the record in slot i is answered, of n slots; from n on there is none
abbrev pub slot_answer : Query → List ℕ → ℕ → ℕ → Answer
slot_answer q t n i = unless (ltb i n) (refused 3) (query_looked (answer_at q t) (held_in (slot_at t i)))

-- `chosen_at`, of the corner whose opposites these arms lead to
abbrev pub chosen_by : List ℕ → Terms → Terms → Option Point
chosen_by t near far = cond (holds t (added_of near)) (Some (added_of near)) (there t (Some (added_of far)))

-- v has a star, and t is a table of n slots, in order
pub record Asked (t : List ℕ) (n : ℕ) (v : Record) : Type 0 where
  pub table : Table t n
  pub order : in_order_of t ≡ true
  pub valid : valid_of v ≡ true
  pub inside : v.d ≡ 0 → ⊥

abbrev pub when_true : Bool → Type 0 → Type 0
when_true true A = A
when_true false A = Unit {0}
