-- The parents of a point as the code has them: each looked up once, for all the tests that ask them.
-- `Born` a point that has parents · `stand_of` what the table holds at one, as a number, `parents_of` at all three · `all_there`, `creator_over`, `told_in`
-- what the tests ask of them, which are growth's own (specs/ParentLaws) · `splits_in` which of them were subdivided, as a number, `degrees`, `turns`
-- what follows from it · `same_star`.
-- Assumes nothing.
use Rattle.std.specs.Prelude.{Bool, cond, ◌&&◌, List, [], ◌∷◌, ℕ, ◌+◌, ◌*◌, ◌-◌, ◌≤◌, ◌<◌, eqb, ltb, Option, Some, None}
use Rattle.lattice.specs.Bounds.{Small}
use Rattle.lattice.specs.Ranks.{rank_of, birth_of, parent_of}
use Rattle.lattice.specs.declared.points.Point.{Point}
use Rattle.lattice.specs.declared.records.Record.{Record}
use Rattle.growth.specs.Model.{by_splits}
use Rattle.table.specs.Entries.{look_up}
use Rattle.std.specs.Int.{from_bool}
use Rattle.local.specs.declared.parents.Parents.{Parents}

-- a point that has parents
pub record Born (p : Point) : Type 0 where
  pub small : Small p
  pub depth : p.m.0 ≤ 6
  pub rank : 0 < rank_of p

-- what was looked up, as a number: 0 nothing, n + 2 a record of degree 6 and level n, else 1
abbrev pub stand_of : Option Record → ℕ
stand_of None = 0
stand_of (Some u) = cond (eqb u.d 6) (u.n.0 + 2) 1

abbrev pub stand_at : List ℕ → Point → ℕ
stand_at t p = stand_of (look_up t p)

abbrev pub parent_at : List ℕ → Point → ℕ → ℕ
parent_at t p j = stand_at t (parent_of p j)

abbrev pub parents_of : List ℕ → Point → Parents
parents_of t p = record { first = parent_at t p 0; second = parent_at t p 1; third = parent_at t p 2 }

-- it is there
abbrev pub seen : ℕ → Bool
seen s = ltb 0 s

-- it was subdivided at level b
abbrev pub split : ℕ → ℕ → Bool
split b s = ltb (b + 2) s

abbrev pub all_there : Parents → Bool
all_there s = (seen s.first && seen s.second) && seen s.third

abbrev pub all_split : Parents → ℕ → Bool
all_split s b = (split b s.first && split b s.second) && split b s.third

-- the creator: the first parent that could be subdivided a level earlier still
unfoldable pub creator_in : Point → Parents → ℕ
creator_in p s =
    cond (ltb (rank_of (parent_of p 0)) (rank_of p - 1)) s.first
    (cond (ltb (rank_of (parent_of p 1)) (rank_of p - 1)) s.second
    s.third)

abbrev pub creator_over : Point → Parents → Bool
creator_over p s = split (rank_of p - 2) (creator_in p s)

-- which of them were subdivided at level b: the first counts 1, the second 2, the third 4
abbrev pub splits_in : Parents → ℕ → ℕ
splits_in s b = from_bool (split b s.first) + 2 * from_bool (split b s.second) + 4 * from_bool (split b s.third)

-- by that number, where not all were: the degree, and the turn since birth
abbrev pub degrees : List ℕ
degrees = 3 ∷ 4 ∷ 4 ∷ 5 ∷ 4 ∷ 5 ∷ 5 ∷ 6 ∷ []

abbrev pub turns : List ℕ
turns = 0 ∷ 4 ∷ 8 ∷ 8 ∷ 0 ∷ 4 ∷ 0 ∷ 0 ∷ []

-- the record has this degree, orientation and level
abbrev pub same_star : Record → ℕ → ℕ → ℕ → Bool
same_star r d k n = eqb r.d d && (eqb r.k k && eqb r.n.0 n)

abbrev pub like_star : Record → Record → Bool
like_star r q = same_star r q.d q.k q.n.0

-- degree, orientation and level are what the parents say
unfoldable pub told_in : Record → Parents → Bool
unfolding by_splits
told_in r s =
    like_star r
    (by_splits r.at (split (rank_of r.at - 1) s.first)
    (split (rank_of r.at - 1) s.second) (split (rank_of r.at - 1) s.third) (birth_of r.at) (rank_of r.at - 1)
    r.n.0)
