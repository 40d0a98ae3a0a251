-- Queries of "Three", a face at each degree, and each refusal, computed from the bytes of tables of 16 slots.
-- `mesh_three` is "Three" · `four_once`, `four_twice`, `five_once`, `five_twice` what stands round [0, 0, 0] in grown meshes where it has degree 4 and 5
-- · `two_spokes`, `spokes` torn.
-- Assumes nothing.
use Rattle.std.specs.Prelude.{◌≡◌, refl, List, [], ◌∷◌, ℕ, ◌*◌, ℤ, pos, negsuc, replicate}
use Rattle.laws.specs.Words.{word_at}
use Rattle.lattice.specs.Points.{pt, normal_of}
use Rattle.lattice.specs.Patterns.{three, four, five, six, rows_of, pattern_of, orient}
use Rattle.lattice.specs.Stars.{nowhere, answer, refused}
use Rattle.lattice.specs.declared.points.Point.{Point}
use Rattle.lattice.specs.declared.records.Record.{Record}
use Rattle.lattice.specs.declared.stars.Answer.{Answer}
use Rattle.table.specs.Slots.{slot_width, slots_in, free_at, record_at, slot_at, record_bytes, put_slot}
use Rattle.table.specs.Search.{home_of, search_from, find_of}
use Rattle.lattice.specs.Points.{same_point}
use Rattle.table.specs.Order.{placed_at, all_placed, in_order_of}
use Rattle.table.specs.Entries.{look_up, enter_of}
use Rattle.queries.specs.Queries.{adjacents_there, chosen_at, corners_there, neighbours_of, faces_of}

entered : List ℕ → List Record → List ℕ
entered t [] = t
entered t (r ∷ rs) = entered (enter_of t r) rs

-- a table of 16 slots that holds these records
table_of : List Record → List ℕ
unfolding entered
table_of rs = entered (replicate (slot_width * 16) 255) rs

-- what the queries answer in such a table, computed from its bytes
neighbours_in : List Record → ℤ → ℤ → ℕ → Answer
unfolding table_of neighbours_of adjacents_there in_order_of all_placed placed_at normal_of pattern_of rows_of three four five six orient
    look_up enter_of find_of search_from slot_at free_at record_at put_slot record_bytes slots_in home_of same_point word_at
neighbours_in rs a b m = neighbours_of (table_of rs) a b m

faces_in : List Record → ℤ → ℤ → ℕ → Answer
unfolding neighbours_in faces_of corners_there chosen_at
faces_in rs a b m = faces_of (table_of rs) a b m

abbrev vertex : ℤ → ℤ → ℕ → ℕ → ℕ → ℕ → Record
vertex a b m d k n = record { at = pt a b m; d = d; k = k; n = record { 0 = n } }

-- [a, b, 0] of degree d, k = n = 0
abbrev laid : ℤ → ℤ → ℕ → Record
laid a b d = vertex a b 0 d 0 0

abbrev p0 : ℤ → ℤ → Point
p0 a b = pt a b 0

-- "Three" is the base [0,0], [1,1], [2,-1]; in the order in which its records enter
mesh_three : List Record
mesh_three =
    laid (pos 0) (pos 0) 3 ∷ laid (pos 1) (pos 0) 6 ∷ laid (pos 0) (pos 1) 0 ∷ laid (negsuc 0) (pos 1) 0 ∷
    laid (negsuc 0) (pos 0) 0 ∷ laid (pos 0) (negsuc 0) 0 ∷ laid (pos 1) (negsuc 0) 0 ∷ laid (pos 1) (pos 1) 3 ∷
    laid (pos 2) (pos 1) 0 ∷ laid (pos 1) (pos 2) 0 ∷ laid (pos 0) (pos 2) 0 ∷ laid (pos 2) (pos 0) 0 ∷
    laid (pos 2) (negsuc 0) 3 ∷ laid (pos 3) (negsuc 0) 0 ∷ laid (pos 2) (negsuc 1) 0 ∷ laid (pos 3) (negsuc 1) 0 ∷ []

-- [3, 0, 1] is [1, 0, 0], of degree 6
neighbours-three :
    (neighbours_in mesh_three (pos 5) (pos 5) 0 ≡ refused 3)
    × (neighbours_in mesh_three (pos 3) (pos 0) 1
    ≡ answer 0 6 (p0 (pos 2) (pos 0)) (p0 (pos 1) (pos 1)) (p0 (pos 0) (pos 1)) (p0 (pos 0) (pos 0)) (p0 (pos 1) (negsuc 0)) (p0 (pos 2) (negsuc 0)))
    × (neighbours_in mesh_three (pos 0) (pos 0) 6
    ≡ answer 0 3 (p0 (pos 1) (pos 0)) (p0 (negsuc 0) (pos 1)) (p0 (pos 0) (negsuc 0)) nowhere nowhere nowhere)
unfolding neighbours_in mesh_three
neighbours-three = (refl, refl, refl)

-- at [1, 0, 0] the first opposites, of depth 1, are absent and the second are taken; at [0, 0, 0] the first are taken, though [0, 2, 0] and
-- [2, -2, 0] are there too
faces-three :
    (faces_in mesh_three (pos 2) (pos 0) 0 ≡ refused 14)
    × (faces_in mesh_three (pos 5) (pos 5) 0 ≡ refused 3)
    × (faces_in mesh_three (pos 3) (pos 0) 1
    ≡ answer 0 6 (p0 (pos 2) (pos 1)) (p0 (pos 0) (pos 2)) (p0 (negsuc 0) (pos 1)) (p0 (pos 0) (negsuc 0)) (p0 (pos 2) (negsuc 1)) (p0 (pos 3) (negsuc 0)))
    × (faces_in mesh_three (pos 0) (pos 0) 6
    ≡ answer 0 3 (p0 (pos 0) (pos 1)) (p0 (negsuc 0) (pos 0)) (p0 (pos 1) (negsuc 0)) nowhere nowhere nowhere)
unfolding faces_in mesh_three
faces-three = (refl, refl, refl, refl)

-- The base [0,0], [1,1], [2,-1], [-1,2], [-2,1], [0,3], grown: what of it stands round [0, 0, 0]. [1, 0, 0] subdivided once, and twice
four_once : List Record
four_once =
    vertex (pos 0) (pos 0) 0 4 4 0 ∷ laid (negsuc 0) (pos 1) 6 ∷ laid (pos 0) (negsuc 0) 0 ∷ vertex (pos 2) (negsuc 0) 1 3 1 1 ∷
    vertex (pos 1) (pos 1) 1 3 3 1 ∷ laid (negsuc 0) (pos 0) 0 ∷ laid (negsuc 1) (pos 0) 0 ∷ laid (pos 1) (negsuc 0) 0 ∷
    vertex (pos 1) (pos 0) 0 6 1 1 ∷ vertex (pos 0) (pos 1) 0 4 2 0 ∷ []

four_twice : List Record
four_twice =
    vertex (pos 0) (pos 0) 0 4 4 0 ∷ laid (negsuc 0) (pos 1) 6 ∷ laid (pos 0) (negsuc 0) 0 ∷ vertex (pos 2) (negsuc 0) 1 4 5 1 ∷
    vertex (pos 1) (pos 1) 1 4 3 1 ∷ laid (negsuc 0) (pos 0) 0 ∷ laid (negsuc 1) (pos 0) 0 ∷ laid (pos 1) (negsuc 0) 0 ∷
    vertex (pos 2) (pos 0) 1 3 0 2 ∷ vertex (pos 1) (pos 0) 0 6 0 2 ∷ vertex (pos 0) (pos 1) 0 4 2 0 ∷ []

-- degree 4: the second opposite of corner 2, [1, 0, 0], is taken until the first, [2, 0, 1], is there; at corner 0 both are there
faces-four :
    (faces_in four_once (pos 0) (pos 0) 0
    ≡ answer 0 4 (p0 (negsuc 0) (pos 0)) (p0 (pos 1) (negsuc 0)) (p0 (pos 1) (pos 0)) (p0 (pos 0) (pos 1)) nowhere nowhere)
    × (faces_in four_twice (pos 0) (pos 0) 0
    ≡ answer 0 4 (p0 (negsuc 0) (pos 0)) (p0 (pos 1) (negsuc 0)) (pt (pos 2) (pos 0) 1) (p0 (pos 0) (pos 1)) nowhere nowhere)
unfolding faces_in four_once four_twice
faces-four = (refl, refl)

-- the same base, [1, 0, 0] and [-1, 1, 0] subdivided once; and both twice, then [0, 2, 0] and [0, 1, 0]
five_once : List Record
five_once =
    vertex (pos 0) (pos 0) 0 5 8 0 ∷ laid (pos 0) (negsuc 0) 0 ∷ vertex (pos 2) (negsuc 0) 1 3 1 1 ∷ vertex (pos 1) (pos 1) 1 3 3 1 ∷
    vertex (negsuc 0) (pos 2) 1 3 1 1 ∷ vertex (negsuc 1) (pos 1) 1 3 3 1 ∷ laid (pos 1) (negsuc 0) 0 ∷ vertex (pos 1) (pos 0) 0 6 1 1 ∷
    vertex (pos 0) (pos 1) 0 5 2 0 ∷ vertex (negsuc 0) (pos 1) 0 6 1 1 ∷ laid (negsuc 0) (pos 0) 0 ∷ []

five_twice : List Record
five_twice =
    vertex (pos 0) (pos 0) 0 5 8 0 ∷ laid (pos 0) (negsuc 0) 0 ∷ vertex (pos 2) (negsuc 0) 1 4 5 1 ∷ vertex (pos 1) (pos 1) 1 5 7 1 ∷
    vertex (negsuc 0) (pos 2) 1 5 9 1 ∷ vertex (negsuc 1) (pos 1) 1 4 7 1 ∷ laid (pos 1) (negsuc 0) 0 ∷ vertex (pos 2) (pos 0) 1 3 0 2 ∷
    vertex (pos 1) (pos 0) 0 6 0 2 ∷ vertex (pos 0) (pos 2) 1 3 2 2 ∷ vertex (pos 0) (pos 1) 0 6 0 2 ∷ vertex (negsuc 1) (pos 2) 1 3 0 2 ∷
    vertex (negsuc 0) (pos 1) 0 6 0 2 ∷ laid (negsuc 0) (pos 0) 0 ∷ []

-- degree 5: the second opposites of corners 1, 2 and 3 are taken until the first are there; then both are
faces-five :
    (faces_in five_once (pos 0) (pos 0) 0
    ≡ answer 0 5 (p0 (pos 1) (negsuc 0)) (p0 (pos 1) (pos 0)) (p0 (pos 0) (pos 1)) (p0 (negsuc 0) (pos 1)) (p0 (negsuc 0) (pos 0)) nowhere)
    × (faces_in five_twice (pos 0) (pos 0) 0
    ≡ answer 0 5 (p0 (pos 1) (negsuc 0)) (pt (pos 2) (pos 0) 1) (pt (pos 0) (pos 2) 1) (pt (negsuc 1) (pos 2) 1) (p0 (negsuc 0) (pos 0)) nowhere)
unfolding faces_in five_once five_twice
faces-five = (refl, refl)

-- the centre [0, 0] with two of its three adjacent points, and with all three but no opposite
two_spokes : List Record
two_spokes = laid (pos 0) (pos 0) 3 ∷ laid (pos 1) (pos 0) 0 ∷ laid (negsuc 0) (pos 1) 0 ∷ []

spokes : List Record
unfolding two_spokes
spokes = laid (pos 0) (negsuc 0) 0 ∷ two_spokes

-- "Torn, neighbours: an adjacent is absent. Torn, faces: that, or a corner with no opposite in the table."
torn :
    (neighbours_in two_spokes (pos 0) (pos 0) 0 ≡ refused 7)
    × (faces_in two_spokes (pos 0) (pos 0) 0 ≡ refused 7)
    × (neighbours_in spokes (pos 0) (pos 0) 0 ≡ answer 0 3 (p0 (pos 1) (pos 0)) (p0 (negsuc 0) (pos 1)) (p0 (pos 0) (negsuc 0)) nowhere nowhere nowhere)
    × (faces_in spokes (pos 0) (pos 0) 0 ≡ refused 7)
unfolding faces_in spokes
torn = (refl, refl, refl, refl)

-- "1: table not in order": a length that doesn't fit, before all else
not-in-order : (neighbours_of (255 ∷ table_of spokes) (pos 0) (pos 0) 0 ≡ refused 1) × (faces_of [] (pos 2) (pos 0) 0 ≡ refused 1)
unfolding faces_in spokes
not-in-order = (refl, refl)
