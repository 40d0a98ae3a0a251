-- Ours: the census's numbers of a table in memory. What the promises cite: `count_of`; `hexagon_at`, `ground_at`, `pairs_at` what a slot adds.
-- `row_of` the numbers in the census's order.
-- Assumes nothing.
use Rattle.std.specs.Prelude.{cond, List, [], ◌∷◌, ℕ, replicate, Result, Ok, Err}
use Rattle.laws.specs.Choices.{unless}
use Rattle.table.specs.Slots.{slot_at}
use Rattle.table.specs.Order.{in_order_of}
use Rattle.firsts.specs.Faces.{bit}
use Rattle.firsts.specs.Earlier.{slot_sum}
use Rattle.lattice.specs.declared.refusals.Refusal.{Refusal}
use Rattle.counts.specs.Counts.{counts_of}
use Rattle.counts.specs.declared.Counts.{Counts}
use Rattle.together.specs.Tally.{is_centre, on_ground, besides_at}

-- ---- what slot k adds to a tally: hexagons by their centres, vertices of depth 0, pairs of hexagons side by side
abbrev pub hexagon_at : List ℕ → ℕ → ℕ
hexagon_at t k = slot_sum (λ v. bit (is_centre v.at)) (slot_at t k)

abbrev pub ground_at : List ℕ → ℕ → ℕ
ground_at t k = slot_sum (λ v. bit (on_ground v.at)) (slot_at t k)

abbrev pub pairs_at : List ℕ → ℕ → ℕ
pairs_at t k = slot_sum (λ v. cond (is_centre v.at) (besides_at t v.at) 0) (slot_at t k)

-- ---- the numbers of a table
-- "V E F d0 d3 d4 d5 d6"
abbrev pub row_of : Counts → List ℕ
row_of c = c.vertices ∷ c.edges ∷ c.faces ∷ c.d0 ∷ c.d3 ∷ c.d4 ∷ c.d5 ∷ c.d6 ∷ []

-- the same of what is counted, all zeros where it is refused
abbrev pub row_told : Result Counts Refusal → List ℕ
row_told (Ok c) = row_of c
row_told (Err _) = replicate 8 0

pub record CountsAfter : Type 0 where
  pub number : ℕ
  pub counted : List ℕ

abbrev pub counts_after : ℕ → List ℕ → CountsAfter
counts_after n c = record { number = n; counted = c }

-- 1, as of any call on a table that is not in order
unfoldable pub count_of : List ℕ → CountsAfter
count_of t = unless (in_order_of t) (counts_after 1 (replicate 8 0)) (counts_after 0 (row_of (counts_of t)))
