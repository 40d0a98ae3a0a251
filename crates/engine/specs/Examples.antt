-- Document 01's worked mesh "Three" by the second engine, computed from the definition, and what each refusal says.
-- Assumes nothing.
use Rattle.std.specs.Prelude.{◌≡◌, refl, List, [], ◌∷◌, ◌++◌, ℕ, zero, suc, ℤ, pos, negsuc, replicate}
use Rattle.lattice.specs.Points.{same_point, pt, normal_of}
use Rattle.lattice.specs.Patterns.{orient}
use Rattle.lattice.specs.Ranks.{rank_of, birth_of, parent_of, creator_of}
use Rattle.growth.specs.Sheets.{vertex}
use Rattle.growth.specs.Model.{internal_of, by_splits}
use Rattle.centres.specs.Centres.{listed_in, first_bad}
use Rattle.engine.specs.Engine.{pair_point, made_at, times_of, present_by, record_by, fits_at, judged_to, vertex_after, refusal, vertex_of}
use Rattle.engine.specs.Many.{triple_record, rows_in, rows_after, vertices_of}

abbrev three : List ℤ
three = pos 0 ∷ pos 0 ∷ pos 1 ∷ pos 1 ∷ pos 2 ∷ negsuc 0 ∷ []

-- [1, 0, 0] at a level, spelled so, and as [3, 0, 1]
abbrev at : ℕ → List ℤ → List ℤ
at i ps = pos 1 ∷ pos 0 ∷ pos 0 ∷ pos i ∷ ps

abbrev spelled : ℕ → List ℤ → List ℤ
spelled i ps = pos 3 ∷ pos 0 ∷ pos 1 ∷ pos i ∷ ps

-- "A second time enters [4,0,1] first, k 2, level 2; [4,1,1] becomes d 4, k 11, level 1."
second :
    (vertex_of three (at 0 (spelled 1 [])) (pos 4) (pos 0) 1 ≡ vertex_after 0 (vertex (pt (pos 4) (pos 0) 1) 3 2 2))
    × (vertex_of three (at 0 (spelled 1 [])) (pos 12) (pos 3) 2 ≡ vertex_after 0 (vertex (pt (pos 4) (pos 1) 1) 4 11 1))
    × (vertex_of three (at 0 []) (pos 1) (pos 1) 0 ≡ vertex_after 0 (vertex (pt (pos 1) (pos 1) 0) 4 0 0))
    × (vertex_of three [] (pos 2) (pos 0) 0 ≡ vertex_after 0 (vertex (pt (pos 2) (pos 0) 0) 0 0 0))
unfolding vertex_of judged_to fits_at record_by present_by made_at times_of pair_point internal_of by_splits rank_of birth_of parent_of creator_of normal_of orient listed_in
    first_bad same_point
second = (refl, refl, refl, refl)

-- 2, then 21, then 3: a list that begins at level 1, one in the wrong order, one twice, one with numbers left over, a depth that is no byte, a level that is
-- below 0 (each of these two would do by its size), a vertex of degree 3
refusals :
    (vertex_of [] (at 1 []) (pos 5) (pos 5) 0 ≡ refusal 2)
    × (vertex_of three (at 1 []) (pos 5) (pos 5) 0 ≡ refusal 21)
    × (vertex_of three (at 1 (at 0 [])) (pos 1) (pos 0) 0 ≡ refusal 21)
    × (vertex_of three (at 0 (at 0 [])) (pos 1) (pos 0) 0 ≡ refusal 21)
    × (vertex_of three (at 0 (pos 1 ∷ [])) (pos 1) (pos 0) 0 ≡ refusal 21)
    × (vertex_of three (pos 3 ∷ pos 0 ∷ negsuc 0 ∷ pos 0 ∷ []) (pos 1) (pos 0) 0 ≡ refusal 21)
    × (vertex_of three (at 0 (pos 1 ∷ pos 0 ∷ pos 0 ∷ negsuc 0 ∷ [])) (pos 1) (pos 0) 0 ≡ refusal 21)
    × (vertex_of three (pos 0 ∷ pos 0 ∷ pos 0 ∷ pos 0 ∷ []) (pos 1) (pos 0) 0 ≡ refusal 21)
    × (vertex_of three (at 0 []) (pos 5) (pos 5) 0 ≡ refusal 3)
unfolding vertex_of judged_to fits_at record_by present_by made_at times_of pair_point internal_of by_splits rank_of birth_of parent_of creator_of normal_of orient listed_in
    first_bad same_point
refusals = (refl, refl, refl, refl, refl, refl, refl, refl, refl)

-- as often as there are levels; once more is 21
often : ℕ → List ℤ
often zero = []
often (suc n) = often n ++ at n []

levels :
    (vertex_of three (often 12) (pos 1) (pos 0) 0 ≡ vertex_after 0 (vertex (pt (pos 1) (pos 0) 0) 6 0 12))
    × (vertex_of three (often 13) (pos 1) (pos 0) 0 ≡ refusal 21)
unfolding often vertex_of judged_to fits_at record_by present_by made_at times_of pair_point internal_of by_splits rank_of birth_of parent_of creator_of normal_of orient
    listed_in first_bad same_point
levels = (refl, refl)

-- many: a row is a, b, m, d, k, n; an absent vertex and a depth that is no byte have all zeros; a number past the last triple is not read, one past the
-- rows stays. Six numbers are room for a row; 13 where one is missing, after 2 and 21
many :
    (vertices_of three (at 0 (spelled 1 [])) (pos 12 ∷ pos 3 ∷ pos 2 ∷ pos 5 ∷ pos 5 ∷ pos 0 ∷ pos 1 ∷ pos 0 ∷ pos 256 ∷ pos 9 ∷ []) (replicate 19 (pos 7))
    ≡ rows_after 0 (pos 4 ∷ pos 1 ∷ pos 1 ∷ pos 4 ∷ pos 11 ∷ pos 1 ∷ (replicate 12 (pos 0) ++ pos 7 ∷ [])))
    × (vertices_of three (at 0 []) (pos 1 ∷ pos 0 ∷ pos 0 ∷ []) (replicate 5 (pos 7)) ≡ rows_after 13 (replicate 5 (pos 7)))
    × (vertices_of three (at 0 []) (pos 1 ∷ pos 0 ∷ pos 0 ∷ []) (replicate 6 (pos 7))
    ≡ rows_after 0 (pos 1 ∷ pos 0 ∷ pos 0 ∷ pos 6 ∷ pos 1 ∷ pos 1 ∷ []))
    × (vertices_of three (at 1 []) (pos 1 ∷ pos 0 ∷ pos 0 ∷ []) (replicate 5 (pos 7)) ≡ rows_after 21 (replicate 5 (pos 7)))
    × (vertices_of [] (at 1 []) (pos 1 ∷ pos 0 ∷ pos 0 ∷ []) (replicate 5 (pos 7)) ≡ rows_after 2 (replicate 5 (pos 7)))
unfolding vertices_of triple_record rows_in vertex_of judged_to fits_at record_by present_by made_at times_of pair_point internal_of by_splits rank_of birth_of parent_of
    creator_of normal_of orient listed_in first_bad same_point
many = (refl, refl, refl, refl, refl)
