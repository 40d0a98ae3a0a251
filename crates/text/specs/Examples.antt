-- Document 01's file of one hexagon, written and parsed, and lines that are none; the limits of a point in what others wrote: each by computing.
-- Assumes nothing.
use Rattle.std.specs.Prelude.{◌≡◌, refl, Bool, true, false, ◌&&◌, ◌||◌, List, [], ◌∷◌, ◌++◌, ℕ, pos, negsuc}
use Rattle.lattice.specs.Points.{pt}
use Rattle.lattice.specs.declared.records.Record.{Record}
use Rattle.text.specs.Decimal.{digits_by, digits}
use Rattle.text.specs.Reading.{run, value, number_at, signed_at}
use Rattle.text.specs.Limits.{in_limits}
use Rattle.text.specs.Line.{point_text, star_text, line_of, lines, place_at, star_at, spelled_at, line_at, rec}
use Rattle.text.specs.declared.line.Line.{Line}
use Rattle.text.specs.declared.line.Line.TheVariants.{Good, Bad, End}

-- "One hexagon at [0, 0] gives this full file"
hexagon : List Record
hexagon =
    rec (pt (negsuc 0) (pos 0) 0) 0 0 0
    ∷ rec (pt (negsuc 0) (pos 1) 0) 0 0 0
    ∷ rec (pt (pos 0) (negsuc 0) 0) 0 0 0
    ∷ rec (pt (pos 0) (pos 0) 0) 3 0 0
    ∷ rec (pt (pos 0) (pos 1) 0) 0 0 0
    ∷ rec (pt (pos 1) (negsuc 0) 0) 0 0 0
    ∷ rec (pt (pos 1) (pos 0) 0) 0 0 0
    ∷ []

file : List ℕ
file =
    45 ∷ 49 ∷ 9 ∷ 48 ∷ 9 ∷ 48 ∷ 9 ∷ 48 ∷ 9 ∷ 48 ∷ 9 ∷ 48 ∷ 10
    ∷ 45 ∷ 49 ∷ 9 ∷ 49 ∷ 9 ∷ 48 ∷ 9 ∷ 48 ∷ 9 ∷ 48 ∷ 9 ∷ 48 ∷ 10
    ∷ 48 ∷ 9 ∷ 45 ∷ 49 ∷ 9 ∷ 48 ∷ 9 ∷ 48 ∷ 9 ∷ 48 ∷ 9 ∷ 48 ∷ 10
    ∷ 48 ∷ 9 ∷ 48 ∷ 9 ∷ 48 ∷ 9 ∷ 51 ∷ 9 ∷ 48 ∷ 9 ∷ 48 ∷ 10
    ∷ 48 ∷ 9 ∷ 49 ∷ 9 ∷ 48 ∷ 9 ∷ 48 ∷ 9 ∷ 48 ∷ 9 ∷ 48 ∷ 10
    ∷ 49 ∷ 9 ∷ 45 ∷ 49 ∷ 9 ∷ 48 ∷ 9 ∷ 48 ∷ 9 ∷ 48 ∷ 9 ∷ 48 ∷ 10
    ∷ 49 ∷ 9 ∷ 48 ∷ 9 ∷ 48 ∷ 9 ∷ 48 ∷ 9 ∷ 48 ∷ 9 ∷ 48 ∷ 10
    ∷ []

written : lines hexagon ≡ file
unfolding hexagon file lines line_of point_text star_text digits digits_by
written = refl

first-line : line_at file 0 ≡ Good (rec (pt (negsuc 0) (pos 0) 0) 0 0 0) 13
unfolding file line_at spelled_at place_at star_at signed_at number_at run value
first-line = refl

fourth-line : line_at file 39 ≡ Good (rec (pt (pos 0) (pos 0) 0) 3 0 0) 51
unfolding file line_at spelled_at place_at star_at signed_at number_at run value
fourth-line = refl

file-end : line_at file 88 ≡ End
unfolding file line_at spelled_at
file-end = refl

-- a longest line: -182978, 182977, 6, 4, 11, 11
longest : line_at (45 ∷ 49 ∷ 56 ∷ 50 ∷ 57 ∷ 55 ∷ 56 ∷ 9 ∷ 49 ∷ 56 ∷ 50 ∷ 57 ∷ 55 ∷ 55 ∷ 9 ∷ 54 ∷ 9 ∷ 52 ∷ 9 ∷ 49 ∷ 49 ∷ 9 ∷ 49 ∷ 49 ∷ 10 ∷ []) 0
    ≡ Good (rec (pt (negsuc 182977) (pos 182977) 6) 4 11 11) 25
unfolding line_at spelled_at place_at star_at signed_at number_at run value
longest = refl

-- ---- no lines of a valid record: a number `a`, then 0, 0, 3, 0, 0

abbrev bad : Line → Bool
bad Bad = true
bad End = false
bad (Good r q) = false

abbrev rest : List ℕ
rest = 9 ∷ 48 ∷ 9 ∷ 48 ∷ 9 ∷ 51 ∷ 9 ∷ 48 ∷ 9 ∷ 48 ∷ 10 ∷ []

abbrev all_bad : List (List ℕ) → Bool
all_bad [] = true
all_bad (a ∷ as') = bad (line_at (a ++ rest) 0) && all_bad as'

-- +1, 01, 00, -0, -, nothing, a blank before and behind, 0x1, 4294967296, 18446744073709551616, 999999999999999999999, 252, a byte over 127, a byte 0
refused : all_bad (
    (43 ∷ 49 ∷ [])
    ∷ (48 ∷ 49 ∷ [])
    ∷ (48 ∷ 48 ∷ [])
    ∷ (45 ∷ 48 ∷ [])
    ∷ (45 ∷ [])
    ∷ []
    ∷ (32 ∷ 49 ∷ [])
    ∷ (49 ∷ 32 ∷ [])
    ∷ (48 ∷ 120 ∷ 49 ∷ [])
    ∷ (52 ∷ 50 ∷ 57 ∷ 52 ∷ 57 ∷ 54 ∷ 55 ∷ 50 ∷ 57 ∷ 54 ∷ [])
    ∷ (49 ∷ 56 ∷ 52 ∷ 52 ∷ 54 ∷ 55 ∷ 52 ∷ 52 ∷ 48 ∷ 55 ∷ 51 ∷ 55 ∷ 48 ∷ 57 ∷ 53 ∷ 53 ∷ 49 ∷ 54 ∷ 49 ∷ 54 ∷ [])
    ∷ (57 ∷ 57 ∷ 57 ∷ 57 ∷ 57 ∷ 57 ∷ 57 ∷ 57 ∷ 57 ∷ 57 ∷ 57 ∷ 57 ∷ 57 ∷ 57 ∷ 57 ∷ 57 ∷ 57 ∷ 57 ∷ 57 ∷ 57 ∷ 57 ∷ [])
    ∷ (50 ∷ 53 ∷ 50 ∷ [])
    ∷ (200 ∷ [])
    ∷ (0 ∷ [])
    ∷ []) ≡ true
unfolding line_at spelled_at place_at star_at signed_at number_at run value
refused = refl

-- 256 for m, d, k or n, which a byte would take for 0: the line of 0, 0, 0, 0, 0, 0 is good
abbrev line : List ℕ → List ℕ → List ℕ → List ℕ → List ℕ
line m d k n = 48 ∷ 9 ∷ 48 ∷ 9 ∷ m ++ 9 ∷ d ++ 9 ∷ k ++ 9 ∷ n ++ 10 ∷ []

abbrev small : List ℕ
small = 48 ∷ []

abbrev large : List ℕ
large = 50 ∷ 53 ∷ 54 ∷ []

wrapped : (line_at (line small small small small) 0 ≡ Good (rec (pt (pos 0) (pos 0) 0) 0 0 0) 12)
    × (bad (line_at (line large small small small) 0) ≡ true)
    × (bad (line_at (line small large small small) 0) ≡ true)
    × (bad (line_at (line small small large small) 0) ≡ true)
    × (bad (line_at (line small small small large) 0) ≡ true)
unfolding line_at spelled_at place_at star_at signed_at number_at run value
wrapped = (refl, refl, refl, refl, refl)

-- an empty line; a last line without its line feed; a blank for a tab; two tabs; five fields; a carriage return before the line feed
misshapen : (bad (line_at (10 ∷ []) 0)
    && (bad (line_at (48 ∷ 9 ∷ 48 ∷ 9 ∷ 48 ∷ 9 ∷ 51 ∷ 9 ∷ 48 ∷ 9 ∷ 48 ∷ []) 0)
    && (bad (line_at (48 ∷ 32 ∷ 48 ∷ 9 ∷ 48 ∷ 9 ∷ 51 ∷ 9 ∷ 48 ∷ 9 ∷ 48 ∷ 10 ∷ []) 0)
    && (bad (line_at (48 ∷ 9 ∷ 9 ∷ 48 ∷ 9 ∷ 48 ∷ 9 ∷ 51 ∷ 9 ∷ 48 ∷ 9 ∷ 48 ∷ 10 ∷ []) 0)
    && (bad (line_at (48 ∷ 9 ∷ 48 ∷ 9 ∷ 48 ∷ 9 ∷ 51 ∷ 9 ∷ 48 ∷ 10 ∷ []) 0)
    && bad (line_at (48 ∷ 9 ∷ 48 ∷ 9 ∷ 48 ∷ 9 ∷ 51 ∷ 9 ∷ 48 ∷ 9 ∷ 48 ∷ 13 ∷ 10 ∷ []) 0)))))) ≡ true
unfolding line_at spelled_at place_at star_at signed_at number_at run value
misshapen = refl

-- limits of a point as others may spell it, on both sides of each: a and b, either way, and m
within-limits : (in_limits (pt (pos 1000000) (negsuc 999999) 12) && in_limits (pt (negsuc 999999) (pos 1000000) 0)) ≡ true
within-limits = refl

beyond-limits : (in_limits (pt (pos 1000001) (pos 0) 0) || (in_limits (pt (negsuc 1000000) (pos 0) 0)
    || (in_limits (pt (pos 0) (pos 1000001) 0) || (in_limits (pt (pos 0) (negsuc 1000000) 0) || in_limits (pt (pos 0) (pos 0) 13))))) ≡ false
beyond-limits = refl
