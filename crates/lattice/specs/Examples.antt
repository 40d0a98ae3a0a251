-- A point with its rank and creator, computed from the definitions. Document 01's starred examples are in `demands`, in one table.
-- Assumes nothing.
use Rattle.std.specs.Prelude.{◌≡◌, refl, pos}
use Rattle.lattice.specs.Ranks.{rank_of, birth_of, parent_of, creator_of}
use Rattle.lattice.specs.Patterns.{orient}
use Rattle.lattice.specs.Points.{pt, normal_of}

-- [4,1,1], which the subdivision of [1,0,0] enters, has rank 2 and birth orientation 3, and [1,0,0] is its creator
ranked : (rank_of (pt (pos 4) (pos 1) 1) ≡ 2) × (birth_of (pt (pos 4) (pos 1) 1) ≡ 3) × (creator_of (pt (pos 4) (pos 1) 1) ≡ pt (pos 1) (pos 0) 0)
unfolding rank_of birth_of creator_of parent_of normal_of orient
ranked = (refl, refl, refl)
