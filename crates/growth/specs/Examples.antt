-- Document 01's worked mesh "Three", computed by the closed form: before, after one and after two subdivisions of [1, 0, 0].
-- Assumes nothing.
use Rattle.std.specs.Prelude.{◌≡◌, refl, Bool, [], ◌∷◌, pos, negsuc, Some, None}
use Rattle.lattice.specs.Points.{pt, normal_of}
use Rattle.lattice.specs.Patterns.{orient}
use Rattle.lattice.specs.Ranks.{rank_of, birth_of, parent_of, creator_of}
use Rattle.lattice.specs.declared.points.Point.{Point}
use Rattle.growth.specs.Sheets.{vertex, in_list}
use Rattle.growth.specs.Model.{Counts, subdivided, present_of, internal_of, by_splits, mesh_of, more}

-- "Three" is the base [0,0], [1,1], [2,-1]
abbrev three : Point → Bool
three = in_list (pt (pos 0) (pos 0) 0 ∷ pt (pos 1) (pos 1) 0 ∷ pt (pos 2) (negsuc 0) 0 ∷ [])

abbrev six : Point
six = pt (pos 1) (pos 0) 0

-- none, one and two subdivisions of [1, 0, 0]
abbrev before : Counts
before p = 0

abbrev once : Counts
once = more six before

abbrev twice : Counts
twice = more six once

-- "[1,0,0] is its only degree 6"; [0,0] is a centre, [2,0] on the boundary, [5,5] not there
base :
    (mesh_of three before six ≡ Some (vertex six 6 0 0))
    × (mesh_of three before (pt (pos 0) (pos 0) 0) ≡ Some (vertex (pt (pos 0) (pos 0) 0) 3 0 0))
    × (mesh_of three before (pt (pos 2) (pos 0) 0) ≡ Some (vertex (pt (pos 2) (pos 0) 0) 0 0 0))
    × (mesh_of three before (pt (pos 5) (pos 5) 0) ≡ None)
unfolding mesh_of present_of internal_of by_splits subdivided more rank_of birth_of parent_of creator_of normal_of orient
base = (refl, refl, refl, refl)

-- "Subdividing [3,0,1] in Three enters [4,1,1], [2,2,1], .. with k 3, 1, .." "After it [1,1], [0,0], [2,-1] are d 4 with k 0, 4, 8"
first :
    (mesh_of three once six ≡ Some (vertex six 6 1 1))
    × (mesh_of three once (pt (pos 4) (pos 1) 1) ≡ Some (vertex (pt (pos 4) (pos 1) 1) 3 3 1))
    × (mesh_of three once (pt (pos 2) (pos 2) 1) ≡ Some (vertex (pt (pos 2) (pos 2) 1) 3 1 1))
    × (mesh_of three once (pt (pos 1) (pos 1) 0) ≡ Some (vertex (pt (pos 1) (pos 1) 0) 4 0 0))
    × (mesh_of three once (pt (pos 0) (pos 0) 0) ≡ Some (vertex (pt (pos 0) (pos 0) 0) 4 4 0))
    × (mesh_of three once (pt (pos 2) (negsuc 0) 0) ≡ Some (vertex (pt (pos 2) (negsuc 0) 0) 4 8 0))
unfolding mesh_of present_of internal_of by_splits subdivided more rank_of birth_of parent_of creator_of normal_of orient
first = (refl, refl, refl, refl, refl, refl)

-- "A second time enters [4,0,1] first, k 2, level 2; [4,1,1] becomes d 4, k 11, level 1."
second :
    (mesh_of three twice (pt (pos 4) (pos 0) 1) ≡ Some (vertex (pt (pos 4) (pos 0) 1) 3 2 2))
    × (mesh_of three twice (pt (pos 4) (pos 1) 1) ≡ Some (vertex (pt (pos 4) (pos 1) 1) 4 11 1))
unfolding mesh_of present_of internal_of by_splits subdivided more rank_of birth_of parent_of creator_of normal_of orient
second = (refl, refl)
