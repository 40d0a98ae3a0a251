-- Coordinates, computed: document 02's form, with zero, a sign, four decimals that are told apart, the nearest ten-thousandth either way, and the greatest.
-- Assumes nothing.
use Rattle.std.specs.Prelude.{◌≡◌, refl, [], ◌∷◌, pos, negsuc}
use Rattle.lattice.specs.Points.{pt}
use Rattle.text.specs.Decimal.{digits_by, digits}
use Rattle.coordinates.specs.Coordinates.{root_from, root_of, near_x, near_y, four, decimals, coordinate, position_text}

-- "0.0000 0.0000 0.0000", "1.5000 0.8660 0.0000", "-0.5000 0.8660 0.0000"
texts : (position_text (pt (pos 0) (pos 0) 0)
    ≡ 48 ∷ 46 ∷ 48 ∷ 48 ∷ 48 ∷ 48 ∷ 32 ∷ 48 ∷ 46 ∷ 48 ∷ 48 ∷ 48 ∷ 48 ∷ 32 ∷ 48 ∷ 46 ∷ 48 ∷ 48 ∷ 48 ∷ 48 ∷ 10 ∷ []) ×
    (position_text (pt (pos 1) (pos 1) 0)
    ≡ 49 ∷ 46 ∷ 53 ∷ 48 ∷ 48 ∷ 48 ∷ 32 ∷ 48 ∷ 46 ∷ 56 ∷ 54 ∷ 54 ∷ 48 ∷ 32 ∷ 48 ∷ 46 ∷ 48 ∷ 48 ∷ 48 ∷ 48 ∷ 10 ∷ []) ×
    (position_text (pt (negsuc 0) (pos 1) 0)
    ≡ 45 ∷ 48 ∷ 46 ∷ 53 ∷ 48 ∷ 48 ∷ 48 ∷ 32 ∷ 48 ∷ 46 ∷ 56 ∷ 54 ∷ 54 ∷ 48 ∷ 32 ∷ 48 ∷ 46 ∷ 48 ∷ 48 ∷ 48 ∷ 48 ∷ 10 ∷ [])
unfolding root_from root_of near_x near_y digits_by digits four decimals coordinate position_text
texts = (refl, refl, refl)

-- "1.9753 -15.8237 0.0000": [900, -1480, 4], its decimals all different and none of them zero
apart : position_text (pt (pos 900) (negsuc 1479) 4)
    ≡ 49 ∷ 46 ∷ 57 ∷ 55 ∷ 53 ∷ 51 ∷ 32 ∷ 45 ∷ 49 ∷ 53 ∷ 46 ∷ 56 ∷ 50 ∷ 51 ∷ 55 ∷ 32 ∷ 48 ∷ 46 ∷ 48 ∷ 48 ∷ 48 ∷ 48 ∷ 10 ∷ []
unfolding root_from root_of near_x near_y digits_by digits four decimals coordinate position_text
apart = refl

-- the least that is not zero, and the one nearest to a tie: up, and not down; the greatest
nearest : (near_x 1 6 ≡ 7) × (near_y 1 6 ≡ 12) × (near_y 48479 5 ≡ 1727739) × (near_x 753 0 ≡ 3765000) × (near_y 182979 6 ≡ 2173724)
unfolding root_from root_of near_x near_y
nearest = (refl, refl, refl, refl, refl)
