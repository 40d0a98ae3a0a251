-- Document 02, ticket 13, "A plain second engine": "From a base and a list of pairs (point, level at which it was subdivided), in the order made, work out
-- any one vertex's record by counting which of its neighbours were subdivided at which level, without stepping through the mesh." What the promises
-- cite: `vertex_of`.
-- `pair_point`, `pair_level` the pairs of a list · `made_at`, `times_of` which of the first n were made, how often · `record_by` the record at a point, by
-- these · `fits_at`, `judged_to`, `left_by` the list judged · `VertexAfter`, `vertex_of` what the call answers.
-- That 21 comes exactly where it should is Ends, that it is the tables' record crate agreed. Assumes nothing.
use Rattle.std.specs.Prelude.{Bool, true, false, cond, ◌&&◌, List, ℕ, zero, suc, ◌+◌, ◌*◌, ◌-◌, ◌/◌, ◌%◌, eqb, ltb, ℤ, pos, nat_abs, length, get_or, Option, Some, None}
use Rattle.laws.specs.Rules.{upto, among, eq_z}
use Rattle.laws.specs.Choices.{unless}
use Rattle.laws.specs.Triples.{is_byte}
use Rattle.lattice.specs.Points.{same_point, normal_of}
use Rattle.lattice.specs.Ranks.{rank_of, birth_of, parent_of, creator_of}
use Rattle.lattice.specs.Records.{nobody}
use Rattle.lattice.specs.declared.points.Point.{Point}
use Rattle.lattice.specs.declared.records.Record.{Record}
use Rattle.growth.specs.Sheets.{vertex, given_by}
use Rattle.growth.specs.Model.{internal_of, by_splits}
use Rattle.centres.specs.Centres.{centres_in, is_listed, bad_place, unpaired}

-- ---- "a list of pairs (point, level at which it was subdivided), in the order made", lent as a, b, m, level, a, b, m, level, ..
abbrev pub pairs_in : List ℤ → ℕ
pairs_in ps = length ps / 4

-- the m of pair j as written, which may be no byte
abbrev pub pair_depth : List ℤ → ℕ → ℤ
pair_depth ps j = get_or ps (4 * j + 2) (pos 0)

-- "Every point in a request is normalised"
unfoldable pub pair_point : List ℤ → ℕ → Point
pair_point ps j = normal_of (get_or ps (4 * j) (pos 0)) (get_or ps (4 * j + 1) (pos 0)) (nat_abs (pair_depth ps j))

abbrev pub pair_level : List ℤ → ℕ → ℤ
pair_level ps j = get_or ps (4 * j + 3) (pos 0)

-- ---- "counting which of its neighbours were subdivided at which level"
-- pair j is (q, i)
abbrev pub is_pair : List ℤ → Point → ℕ → ℕ → Bool
is_pair ps q i j = same_point q (pair_point ps j) && eq_z (pair_level ps j) (pos i)

-- q was subdivided at level i: (q, i) is one of the first n pairs
unfoldable pub made_at : List ℤ → ℕ → Point → ℕ → Bool
made_at ps n q i = among n (is_pair ps q i)

-- how often q was subdivided: how many of the first n pairs have its point
unfoldable pub times_of : List ℤ → ℕ → Point → ℕ
times_of ps zero q = 0
times_of ps (suc n) q = times_of ps n q + cond (same_point q (pair_point ps n)) 1 0

-- ---- the record at a normalised point, after the first n pairs. H says which hexagons are listed.
-- It is there: at depth 0 by the base, deeper where its creator was subdivided at the level that enters it
unfoldable pub present_by : (Point → Bool) → List ℤ → ℕ → Point → Bool
present_by H ps n p = cond (eqb p.m.0 0) (given_by H p) (made_at ps n (creator_of p) (rank_of p - 2))

-- its star: of degree 6 from the start where its rank is 0; else by which of its three parents were subdivided one level below its rank
abbrev pub star_by : List ℤ → ℕ → Point → ℕ → Record
star_by ps n p l =
    cond (eqb (rank_of p) 0) (vertex p 6 (l % 2) l)
    (by_splits p (made_at ps n (parent_of p 0) (rank_of p - 1)) (made_at ps n (parent_of p 1) (rank_of p - 1)) (made_at ps n (parent_of p 2) (rank_of p - 1))
    (birth_of p) (rank_of p - 1) l)

-- a boundary vertex has degree 0; the level of degree 6 is the rank and one more for each own subdivision
unfoldable pub record_by : (Point → Bool) → List ℤ → ℕ → Point → Option Record
record_by H ps n p =
    cond (present_by H ps n p) (Some (cond (internal_of H p) (star_by ps n p (rank_of p + times_of ps n p)) (vertex p 0 0 0))) None

-- ---- "21 for a list that no sequence of accepted subdivisions from that base leaves"
-- of degree 6, at this level, and below level 12
abbrev pub six_at : ℤ → Option Record → Bool
six_at z None = false
six_at z (Some r) = eqb r.d 6 && (ltb r.n.0 12 && eq_z z (pos r.n.0))

-- pair j, when its turn comes: its vertex, worked out by the pairs before it, can be subdivided, and stands at its level
unfoldable pub fits_at : (Point → Bool) → List ℤ → ℕ → Bool
fits_at H ps j = is_byte (pair_depth ps j) && six_at (pair_level ps j) (record_by H ps j (pair_point ps j))

unfoldable pub judged_to : (Point → Bool) → List ℤ → ℕ → Bool
judged_to H ps n = upto n (fits_at H ps)

-- whole pairs, each of which fits
abbrev pub left_by : (Point → Bool) → List ℤ → Bool
left_by H ps = eqb (length ps % 4) 0 && judged_to H ps (pairs_in ps)

-- ---- the call
pub record VertexAfter : Type 0 where
  pub number : ℕ
  pub vertex : Record

abbrev pub vertex_after : ℕ → Record → VertexAfter
vertex_after n r = record { number = n; vertex = r }

-- "the record is then all zeros"
abbrev pub refusal : ℕ → VertexAfter
refusal n = vertex_after n nobody

-- "3 for an absent vertex"
abbrev pub tell_at : Option Record → VertexAfter
tell_at None = refusal 3
tell_at (Some r) = vertex_after 0 r

-- "2": as `base_of` judges the list
abbrev pub bad_base : List ℤ → Bool
bad_base cs = cond (unpaired cs) true (ltb (bad_place cs) (centres_in cs))

-- the record at a point, where both lists are good
abbrev pub tell_of : List ℤ → List ℤ → Point → VertexAfter
tell_of cs ps p = tell_at (record_by (is_listed cs) ps (pairs_in ps) p)

-- "Refusals: 2; 21 ..; 3 for an absent vertex"
unfoldable pub vertex_of : List ℤ → List ℤ → ℤ → ℤ → ℕ → VertexAfter
vertex_of cs ps a b m =
    cond (bad_base cs) (refusal 2)
    (unless (left_by (is_listed cs) ps) (refusal 21)
    (tell_of cs ps (normal_of a b m)))
