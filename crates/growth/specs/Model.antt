-- The model: a grown mesh in closed form. A set H of hexagons, by their centres, and c, how often each point has been subdivided, tell every record.
-- `subdivided` whether q was subdivided at level i · `present_of`, `internal_of`, `star_record`, `mesh_of` the record at a point · `full_of` degree 6 ·
-- `more` one more subdivision · `Good`, `Low`, `Finite` which c there are.
-- Ranks, birth orientations, parents and creators are the lattice's (its specs/Ranks).
-- Assumes nothing.
use Rattle.std.specs.Prelude.{Bool, true, false, cond, ◌&&◌, ℕ, ◌+◌, ◌-◌, ◌%◌, ◌≤◌, ◌<◌, T, eqb, ltb, Some, None}
use mathlib.Core.List.{List, Memᴰ}
use Rattle.laws.specs.Rules.{run}
use Rattle.lattice.specs.PointLaws.{alike}
use Rattle.lattice.specs.Points.{is_normal}
use Rattle.lattice.specs.Ranks.{rank_of, birth_of, parent_of, creator_of}
use Rattle.lattice.specs.declared.points.Point.{Point}
use Rattle.lattice.specs.declared.records.Record.{Record}
use Rattle.growth.specs.Sheets.{Sheet, vertex, given_by, inside_base}

-- how often each point has been subdivided
abbrev pub Counts : Type 0
Counts = Point → ℕ

-- "q was subdivided at level i": rank q <= i < rank q + c q: the lower half always holds where it is asked (`par-rank`, `creator-rank` in Parents)
unfoldable pub subdivided : Counts → Point → ℕ → Bool
subdivided c q i = ltb i (rank_of q + c q)

-- "A point of depth 0 is present if it is a listed centre or a corner of one; .. depth > 0: its creator was subdivided at level rank p - 2."
unfoldable pub present_of : (Point → Bool) → Counts → Point → Bool
unfolding subdivided
present_of H c p = cond (eqb p.m.0 0) (given_by H p) (is_normal p && subdivided c (creator_of p) (rank_of p - 2))

-- "internal if it is a centre or all three hexagons round it are listed"; of depth above 0 every point is
unfoldable pub internal_of : (Point → Bool) → Point → Bool
internal_of H p = cond (eqb p.m.0 0) (inside_base H p) true

-- "by which parents t were subdivided at level b: none: d 3, k, level b; one, t: d 4, k + 4t + 4; two, all but t: d 5, k + 4t; all three: d 6, level n,
-- n mod 2 (orientations mod 12)"
unfoldable pub by_splits : Point → Bool → Bool → Bool → ℕ → ℕ → ℕ → Record
by_splits p false false false k b n = vertex p 3 k b
by_splits p true false false k b n = vertex p 4 (k + 4) b
by_splits p false true false k b n = vertex p 4 (k + 8) b
by_splits p false false true k b n = vertex p 4 k b
by_splits p true true false k b n = vertex p 5 (k + 8) b
by_splits p true false true k b n = vertex p 5 (k + 4) b
by_splits p false true true k b n = vertex p 5 k b
by_splits p true true true k b n = vertex p 6 (n % 2) n

-- rank 0: d 6; else by the parents. n is the level once it has degree 6
abbrev pub star_record : Counts → Point → ℕ → ℕ → Record
star_record c p b n =
    cond (eqb (rank_of p) 0) (vertex p 6 (n % 2) n)
    (by_splits p (subdivided c (parent_of p 0) b) (subdivided c (parent_of p 1) b) (subdivided c (parent_of p 2) b) (birth_of p) b n)

-- "The records."
unfoldable pub mesh_of : (Point → Bool) → Counts → Sheet
unfolding present_of internal_of by_splits subdivided
mesh_of H c p = cond (present_of H c p) (Some (cond (internal_of H p) (star_record c p (rank_of p - 1) (rank_of p + c p)) (vertex p 0 0 0))) None

-- ---- which c there are
-- one more subdivision of q
unfoldable pub more : Point → Counts → Counts
more q c p = c p + cond (run (alike p q)) 1 0

-- q has degree 6: it is internal and all its parents were subdivided at level rank q - 1
unfoldable pub full_of : (Point → Bool) → Counts → Point → Bool
unfolding internal_of subdivided
full_of H c q =
    is_normal q && (internal_of H q && cond (eqb (rank_of q) 0) true
    (subdivided c (parent_of q 0) (rank_of q - 1) && (subdivided c (parent_of q 1) (rank_of q - 1) && subdivided c (parent_of q 2) (rank_of q - 1))))

-- "c is good when whatever has been subdivided had degree 6"
abbrev pub Good : (Point → Bool) → Counts → Type 0
Good H c = (q : Point) → 0 < c q → T (full_of H c q)

-- no level above 12
abbrev pub Low : Counts → Type 0
Low c = (q : Point) → 0 < c q → rank_of q + c q ≤ 12

-- a list holds all that has been subdivided
abbrev pub Finite : Counts → Type 0
Finite c = (l : List Point) × ((q : Point) → 0 < c q → Memᴰ q l)
