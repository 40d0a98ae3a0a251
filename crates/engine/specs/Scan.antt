-- What one scan of the pairs sees, and the record by it: what the promises of the functions below the calls cite.
-- `Depths` the pairs' depths are bytes · `unseen`, `see_of`, `seen_of` the scan · `wanted_of` what is looked for · `star_seen`, `tell_by` the record by what was
-- seen.
-- Assumes nothing.
use Rattle.std.specs.Prelude.{◌≡◌, Bool, true, false, cond, ◌&&◌, ◌||◌, List, ℕ, ◌+◌, ◌-◌, ◌%◌, ◌<◌, eqb, ℤ, pos, Some, None, Result, Ok, Err, Option}
use Rattle.laws.specs.Rules.{eq_z}
use Rattle.laws.specs.Triples.{is_byte}
use Rattle.lattice.specs.Points.{same_point}
use Rattle.lattice.specs.Refusals.{number_of}
use Rattle.lattice.specs.declared.refusals.Refusal.{Refusal}
use Rattle.lattice.specs.Ranks.{level, rank_of, birth_of, parent_of, creator_of}
use Rattle.lattice.specs.declared.points.Point.{Point}
use Rattle.lattice.specs.declared.records.Record.{Record}
use Rattle.growth.specs.Sheets.{vertex, given_by, CentreSet}
use Rattle.growth.specs.Model.{internal_of, by_splits}
use Rattle.centres.specs.Centres.{is_listed}
use Rattle.centres.specs.Marks.{in_marks}
use Rattle.engine.specs.Engine.{pairs_in, pair_depth, made_at, times_of, six_at, judged_to, left_by, VertexAfter, vertex_after, refusal, bad_base}
use Rattle.engine.specs.declared.pairs.Wanted.{Wanted}
use Rattle.engine.specs.declared.pairs.Seen.{Seen}

-- the first n pairs have depths that are bytes
abbrev pub Depths : List ℤ → ℕ → Type 0
Depths ps n = (j : ℕ) → j < n → is_byte (pair_depth ps j) ≡ true

-- ---- the scan
abbrev pub seen_by : Bool → Bool → Bool → Bool → ℕ → Seen
seen_by x y z m k = record { first = x; second = y; third = z; maker = m; times = k }

abbrev pub unseen : Seen
unseen = seen_by false false false false 0

-- the pair of p and z is (q, i)
abbrev pub is_made : Point → ℕ → Point → ℤ → Bool
is_made q i p z = same_point q p && eq_z z (pos i)

-- one pair more
unfoldable pub see_of : Seen → Wanted → Point → ℤ → Seen
see_of s w p z =
    seen_by (is_made w.first w.level.0 p z || s.first) (is_made w.second w.level.0 p z || s.second)
    (is_made w.third w.level.0 p z || s.third)
    (is_made w.maker w.entry.0 p z || s.maker) (s.times + cond (same_point w.at p) 1 0)

unfoldable pub seen_of : List ℤ → ℕ → Wanted → Seen
seen_of ps n w =
    seen_by (made_at ps n w.first w.level.0) (made_at ps n w.second w.level.0) (made_at ps n w.third w.level.0)
    (made_at ps n w.maker w.entry.0)
    (times_of ps n w.at)

-- ---- what a record turns on: its point alone where its rank is 0
abbrev pub wants : Point → Point → Point → Point → Point → ℕ → ℕ → Wanted
wants p x y z c i e = record { at = p; first = x; second = y; third = z; maker = c; level = level i; entry = level e }

unfoldable pub wanted_of : Point → Wanted
wanted_of p =
    cond (eqb (rank_of p) 0) (wants p p p p p 0 0) (wants p (parent_of p 0) (parent_of p 1) (parent_of p 2) (creator_of p) (rank_of p - 1) (rank_of p - 2))

-- ---- the record by what was seen
abbrev pub star_level : Point → Seen → ℕ → Record
star_level p s l = cond (eqb (rank_of p) 0) (vertex p 6 (l % 2) l) (by_splits p s.first s.second s.third (birth_of p) (rank_of p - 1) l)

unfoldable pub star_seen : Point → Seen → Record
star_seen p s = star_level p s (rank_of p + s.times)

unfoldable pub tell_by : (Point → Bool) → Point → Seen → Option Record
tell_by H p s = cond (cond (eqb p.m.0 0) (given_by H p) s.maker) (Some (cond (internal_of H p) (star_seen p s) (vertex p 0 0 0))) None

-- ---- the lists judged
abbrev pub six_by : ℤ → Option Record → Bool
six_by z v = six_at z v

-- 2, 21, or 0
unfoldable pub judge_of : List ℤ → List ℤ → ℕ
judge_of cs ps = cond (bad_base cs) 2 (cond (left_by (is_listed cs) ps) 0 21)

-- the marks are the listed centres, which are a base's, and all pairs are good
pub record Ready (cs ps : List ℤ) (m : List ℕ) : Type 0 where
  pub marked : in_marks m ≡ is_listed cs
  pub base : CentreSet (in_marks m)
  pub judged : judged_to (in_marks m) ps (pairs_in ps) ≡ true

-- ---- the answer
abbrev pub vertex_told : Result Record Refusal → VertexAfter
vertex_told (Ok r) = vertex_after 0 r
vertex_told (Err why) = refusal (number_of why)
