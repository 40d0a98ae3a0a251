-- The request, computed from the definition: on document 01's "Three" and on seven hexagons, `of_three`, `of-seven`; on tables that are not grown,
-- `of-torn` the seven with a neighbour's record left out, `of-few` each cause of 7 by itself, 16, and the first met of two.
-- Assumes nothing.
use Rattle.std.specs.Prelude.{◌≡◌, refl, cond, List, [], ◌∷◌, ℕ, ◌*◌, ℤ, pos, negsuc, length, replicate, Some}
use Rattle.laws.specs.Words.{word_at}
use Rattle.base.specs.Base.{listed_in, first_bad, internal, corner_record, hexagon_of, lay_hexagon, lay_all, laid_of, base_of}
use Rattle.lattice.specs.Patterns.{rows_of, pattern_of, orient}
use Rattle.lattice.specs.Subdivision.{update_of, accepts_of}
use Rattle.lattice.specs.Points.{pt, normal_of, turns}
use Rattle.lattice.specs.declared.points.Point.{Point}
use Rattle.lattice.specs.declared.records.Record.{Record}
use Rattle.table.specs.Search.{home_of, same_point, search_from, find_of}
use Rattle.table.specs.Entries.{look_up, enter_of, replace_of, records_below, records_of}
use Rattle.table.specs.Order.{placed_at, all_placed, in_order_of}
use Rattle.table.specs.Slots.{slot_width, slots_in, free_at, record_at, slot_at, record_bytes, put_slot, free_below}
use Rattle.mesh.specs.Subdivide.{torn, renewed_to, entered_to, subdivided, subdivide_of, onwards}
use Rattle.bring.specs.Bring.{sixty_at, no_sixty, places_below, places_of, each_of, near_vertex, bring_of, lower_of, bring_vertex, request_of}

three : ℕ → List ℕ
three n = (base_of (replicate (slot_width * n) 255) (pos 0 ∷ pos 0 ∷ pos 1 ∷ pos 1 ∷ pos 2 ∷ negsuc 0 ∷ [])).bytes

-- one hexagon and the six round it
seven : ℕ → List ℕ
seven n =
    (base_of (replicate (slot_width * n) 255)
    (pos 0 ∷ pos 0 ∷ pos 1 ∷ pos 1 ∷ negsuc 0 ∷ pos 2 ∷ negsuc 1 ∷ pos 1 ∷ negsuc 0 ∷ negsuc 0 ∷ pos 1 ∷ negsuc 1 ∷ pos 2 ∷ negsuc 0 ∷ [])).bytes

-- Three: [0,0,0] has a neighbour on the rim, 16; in a full table 8 comes first; [2,0,0] is on the rim itself; [1,0,0], in another spelling, has degree
-- 6 already; [5,5,0] is absent
of_three :
    ((request_of (three 22) (pos 0) (pos 0) 0).number ≡ 16)
    × ((request_of (three 16) (pos 0) (pos 0) 0).number ≡ 8)
    × ((request_of (three 22) (pos 2) (pos 0) 0).number ≡ 14)
    × ((request_of (three 22) (pos 3) (pos 0) 1).number ≡ 0)
    × ((request_of (three 22) (pos 5) (pos 5) 0).number ≡ 3)
unfolding three request_of bring_vertex lower_of bring_of near_vertex each_of onwards places_of places_below no_sixty sixty_at subdivide_of subdivided torn
    renewed_to entered_to update_of accepts_of base_of first_bad laid_of lay_all lay_hexagon hexagon_of corner_record internal listed_in normal_of turns orient
    pattern_of rows_of in_order_of all_placed placed_at look_up enter_of replace_of records_below find_of search_from slot_at free_at record_at put_slot record_bytes
    slots_in home_of same_point word_at free_below
of_three = (refl, refl, refl, refl, refl)

abbrev made : List ℕ
made = (request_of (seven 49) (pos 0) (pos 0) 0).bytes

-- Seven: the centre has degree 3, its three parents degree 6 at level 0: three subdivisions, 18 records more, and the centre has degree 6 at level 1
of-seven :
    ((request_of (seven 49) (pos 0) (pos 0) 0).number ≡ 0)
    × (look_up made (pt (pos 0) (pos 0) 0) ≡ Some (record { at = pt (pos 0) (pos 0) 0; d = 6; k = 1; n = record { 0 = 1 } }))
    × (length (records_of (seven 49)) ≡ 31)
    × (length (records_of made) ≡ 49)
unfolding seven request_of bring_vertex lower_of bring_of near_vertex each_of onwards places_of places_below no_sixty sixty_at subdivide_of subdivided torn
    renewed_to entered_to update_of accepts_of base_of first_bad laid_of lay_all lay_hexagon hexagon_of corner_record internal listed_in normal_of turns orient
    pattern_of rows_of in_order_of all_placed placed_at look_up enter_of replace_of records_below find_of search_from slot_at free_at record_at put_slot record_bytes
    slots_in home_of same_point word_at free_below
of-seven = (refl, refl, refl, refl)

-- ---- tables that are not grown
abbrev vertex_at : ℤ → ℤ → ℕ → ℕ → ℕ → ℕ → Record
vertex_at a b m d k n = record { at = pt a b m; d = d; k = k; n = record { 0 = n } }

-- the records entered into n free slots, in turn
entered : List ℕ → List Record → List ℕ
entered t [] = t
entered t (r ∷ rs) = entered (enter_of t r) rs

holding : ℕ → List Record → List ℕ
holding n rs = entered (replicate (slot_width * n) 255) rs

-- the records but that at p
without : Point → List Record → List Record
without p [] = []
without p (r ∷ rs) = cond (same_point r.at p) (without p rs) (r ∷ without p rs)

-- the seven hexagons, but for the record at p
seven_but : ℕ → Point → List ℕ
seven_but n p = holding n (without p (records_of (seven 31)))

-- the centre asked
abbrev answer : List ℕ → ℕ
answer t = (request_of t (pos 0) (pos 0) 0).number

-- Seven without [1,0,0], the centre's first neighbour
of-torn : answer (seven_but 31 (pt (pos 1) (pos 0) 0)) ≡ 7
unfolding entered holding without seven_but seven request_of bring_vertex lower_of bring_of near_vertex each_of onwards places_of places_below no_sixty sixty_at
    subdivide_of subdivided torn renewed_to entered_to update_of accepts_of base_of first_bad laid_of lay_all lay_hexagon hexagon_of corner_record internal listed_in
    normal_of turns orient pattern_of rows_of in_order_of all_placed placed_at look_up enter_of replace_of records_below find_of search_from slot_at free_at record_at
    put_slot record_bytes slots_in home_of same_point word_at free_below
of-torn = refl

-- [0,0,0] of degree 3 at level 0, whose places lead to [1,0,0], [-1,1,0], [0,-1,0]; and these records
abbrev few : List Record → List ℕ
few rs = holding 16 (vertex_at (pos 0) (pos 0) 0 3 0 0 ∷ rs)

-- [0,0,0] of degree 3 at level 2, whose first place leads to [1,0,1]; and these records
abbrev few_above : List Record → List ℕ
few_above rs = holding 16 (vertex_at (pos 0) (pos 0) 0 3 0 2 ∷ rs)

of-few :
    -- "absent"
    (answer (few []) ≡ 7)
    -- "has degree 6 at another level than wanted"
    × (answer (few (vertex_at (pos 1) (pos 0) 0 6 1 1 ∷ [])) ≡ 7)
    -- "or a lower degree and isn't exactly one level lower": at the level wanted, or two lower
    × (answer (few (vertex_at (pos 1) (pos 0) 0 5 0 0 ∷ [])) ≡ 7)
    × (answer (few_above (vertex_at (pos 1) (pos 0) 1 3 0 0 ∷ [])) ≡ 7)
    -- "where a subdivision answers 7": it has degree 6 and level 0, and no neighbour but this one
    × (answer (few (vertex_at (pos 1) (pos 0) 0 6 0 0 ∷ [])) ≡ 7)
    -- "16 for a boundary neighbour"
    × (answer (few (vertex_at (pos 1) (pos 0) 0 0 0 0 ∷ [])) ≡ 16)
    -- "the first met": an absent neighbour before a boundary one
    × (answer (few (vertex_at (negsuc 0) (pos 1) 0 0 0 0 ∷ [])) ≡ 7)
    -- one level lower it is brought first: its own first neighbour is absent, or on the boundary
    × (answer (few_above (vertex_at (pos 1) (pos 0) 1 3 1 1 ∷ [])) ≡ 7)
    × (answer (few_above (vertex_at (pos 1) (pos 0) 1 3 1 1 ∷ vertex_at (pos 2) (pos 1) 1 0 0 0 ∷ [])) ≡ 16)
unfolding entered holding request_of bring_vertex lower_of bring_of near_vertex each_of onwards places_of places_below no_sixty sixty_at subdivide_of subdivided torn
    renewed_to entered_to update_of accepts_of normal_of turns orient pattern_of rows_of in_order_of all_placed placed_at look_up enter_of replace_of records_below find_of
    search_from slot_at free_at record_at put_slot record_bytes slots_in home_of same_point word_at free_below
of-few = (refl, refl, refl, refl, refl, refl, refl, refl, refl)
