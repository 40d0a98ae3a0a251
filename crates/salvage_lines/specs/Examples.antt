-- Lines of old files salvaged or dropped, and clashes: each by computing.
-- Assumes nothing.
use Rattle.std.specs.Prelude.{◌≡◌, refl, true, false, List, [], ◌∷◌, ◌++◌, ℕ, ℤ, pos}
use Rattle.lattice.specs.Points.{pt, normal_of}
use Rattle.lattice.specs.declared.records.Record.{Record}
use Rattle.table.specs.Search.{same_point}
use Rattle.text.specs.Reading.{run, value, number_at, signed_at}
use Rattle.text.specs.Line.{rec, place_at, star_at, spelled_at}
use Rattle.salvage_lines.specs.OldLines.{may_normalise, orientation_of, tidied, same_record, line_span, past_line, piece_at}
use Rattle.salvage_lines.specs.OldLines.{Dropped, Kept, salvaged_from, salvaged, clashes}

-- the record of six numbers
abbrev of : ℤ → ℤ → ℕ → ℕ → ℕ → ℕ → Record
of a b m d k n = rec (pt a b m) d k n

-- `1 0 0 6 8 0`: orientation 8 of degree 6 is 0, and listed as normalised; 11 becomes 1, which does not go with level 0; 12 is past the limits; a rim
-- vertex has no orientation to normalise
turned : (salvaged (49 ∷ 9 ∷ 48 ∷ 9 ∷ 48 ∷ 9 ∷ 54 ∷ 9 ∷ 56 ∷ 9 ∷ 48 ∷ 10 ∷ []) ≡ Kept (of (pos 1) (pos 0) 0 6 0 0) true ∷ []) ×
    (salvaged (49 ∷ 9 ∷ 48 ∷ 9 ∷ 48 ∷ 9 ∷ 54 ∷ 9 ∷ 49 ∷ 49 ∷ 9 ∷ 48 ∷ 10 ∷ []) ≡ Dropped ∷ []) ×
    (salvaged (49 ∷ 9 ∷ 48 ∷ 9 ∷ 48 ∷ 9 ∷ 54 ∷ 9 ∷ 49 ∷ 50 ∷ 9 ∷ 48 ∷ 10 ∷ []) ≡ Dropped ∷ []) ×
    (salvaged (45 ∷ 49 ∷ 9 ∷ 48 ∷ 9 ∷ 48 ∷ 9 ∷ 48 ∷ 9 ∷ 52 ∷ 9 ∷ 48 ∷ 10 ∷ []) ≡ Dropped ∷ [])
unfolding salvaged_from piece_at past_line line_span tidied orientation_of same_record same_point normal_of spelled_at place_at star_at number_at signed_at run value
turned = (refl, refl, refl, refl)

-- `12 3 2 3 7 1`: point and orientation are normalised, degree and level stay
risen : salvaged (49 ∷ 50 ∷ 9 ∷ 51 ∷ 9 ∷ 50 ∷ 9 ∷ 51 ∷ 9 ∷ 55 ∷ 9 ∷ 49 ∷ 10 ∷ []) ≡ Kept (of (pos 4) (pos 1) 1 3 3 1) true ∷ []
unfolding salvaged_from piece_at past_line line_span tidied orientation_of same_record same_point normal_of spelled_at place_at star_at number_at signed_at run value
risen = refl

-- by degree: 3 modulo 4, 6 modulo 2; 4, 5 and 0 keep theirs; and k up to 11 may be normalised
orientations : (orientation_of 3 11 ≡ 3) × (orientation_of 3 6 ≡ 2) × (orientation_of 6 11 ≡ 1) × (orientation_of 6 6 ≡ 0) × (orientation_of 4 11 ≡ 11)
    × (orientation_of 5 11 ≡ 11) × (orientation_of 0 4 ≡ 4) × (may_normalise (of (pos 0) (pos 0) 0 4 11 1) ≡ true)
    × (may_normalise (of (pos 0) (pos 0) 0 3 12 0) ≡ false)
unfolding orientation_of
orientations = (refl, refl, refl, refl, refl, refl, refl, refl, refl)

-- `531441 0 12 0 0 0` is [1, 0, 0]; `1062882 0 12 0 0 0` is past the limits though it spells [2, 0, 0]; `1000000 0 0 0 0 0` is within them, but no record is
-- that far out
spelt : (salvaged (53 ∷ 51 ∷ 49 ∷ 52 ∷ 52 ∷ 49 ∷ 9 ∷ 48 ∷ 9 ∷ 49 ∷ 50 ∷ 9 ∷ 48 ∷ 9 ∷ 48 ∷ 9 ∷ 48 ∷ 10 ∷ []) ≡ Kept (of (pos 1) (pos 0) 0 0 0 0) true ∷ []) ×
    (salvaged (49 ∷ 48 ∷ 54 ∷ 50 ∷ 56 ∷ 56 ∷ 50 ∷ 9 ∷ 48 ∷ 9 ∷ 49 ∷ 50 ∷ 9 ∷ 48 ∷ 9 ∷ 48 ∷ 9 ∷ 48 ∷ 10 ∷ []) ≡ Dropped ∷ []) ×
    (salvaged (49 ∷ 48 ∷ 48 ∷ 48 ∷ 48 ∷ 48 ∷ 48 ∷ 9 ∷ 48 ∷ 9 ∷ 48 ∷ 9 ∷ 48 ∷ 9 ∷ 48 ∷ 9 ∷ 48 ∷ 10 ∷ []) ≡ Dropped ∷ [])
unfolding salvaged_from piece_at past_line line_span tidied orientation_of same_record same_point normal_of spelled_at place_at star_at number_at signed_at run value
spelt = (refl, refl, refl)

-- the line `a b 0 d 0 0`, a and b digits
plain : ℕ → ℕ → ℕ → List ℕ
plain a b d = a ∷ 9 ∷ b ∷ 9 ∷ 48 ∷ 9 ∷ d ∷ 9 ∷ 48 ∷ 9 ∷ 48 ∷ 10 ∷ []

-- an empty line is dropped, and so is one with a CR, one that begins with a tab, and a last piece without its line feed; lines after them stand
pieces : (salvaged [] ≡ []) ×
    (salvaged (10 ∷ plain 49 48 48) ≡ Dropped ∷ Kept (of (pos 1) (pos 0) 0 0 0 0) false ∷ []) ×
    (salvaged (49 ∷ 9 ∷ 48 ∷ 9 ∷ 48 ∷ 9 ∷ 48 ∷ 9 ∷ 48 ∷ 9 ∷ 48 ∷ 13 ∷ 10 ∷ plain 49 48 48) ≡ Dropped ∷ Kept (of (pos 1) (pos 0) 0 0 0 0) false ∷ []) ×
    (salvaged (9 ∷ plain 49 48 48) ≡ Dropped ∷ []) ×
    (salvaged (plain 49 48 48 ++ (49 ∷ 9 ∷ 48 ∷ [])) ≡ Kept (of (pos 1) (pos 0) 0 0 0 0) false ∷ Dropped ∷ [])
unfolding plain salvaged_from piece_at past_line line_span tidied orientation_of same_record same_point normal_of spelled_at place_at star_at number_at signed_at run value
pieces = (refl, refl, refl, refl, refl)

-- 20: one point of two degrees, of two orientations, of two levels; not where a record stands twice, nor where two points have different records
clashing : (clashes (of (pos 1) (pos 0) 0 0 0 0 ∷ of (pos 2) (pos 0) 0 0 0 0 ∷ of (pos 1) (pos 0) 0 6 0 0 ∷ []) ≡ true) ×
    (clashes (of (pos 1) (pos 0) 0 4 2 2 ∷ of (pos 1) (pos 0) 0 4 4 2 ∷ []) ≡ true) ×
    (clashes (of (pos 1) (pos 0) 0 4 2 2 ∷ of (pos 1) (pos 0) 0 4 2 4 ∷ []) ≡ true) ×
    (clashes (of (pos 1) (pos 0) 0 0 0 0 ∷ of (pos 2) (pos 0) 0 0 0 0 ∷ of (pos 1) (pos 0) 0 0 0 0 ∷ []) ≡ false) ×
    (clashes (of (pos 1) (pos 0) 0 4 2 2 ∷ of (pos 0) (pos 1) 0 4 2 4 ∷ of (pos 1) (pos 0) 1 6 0 2 ∷ []) ≡ false)
unfolding clashes same_record same_point
clashing = (refl, refl, refl, refl, refl)
