-- Document 02, ticket 5: where a vertex lies, in decimal. What the promises cite: `position_text` a vertex as x, y and 0.0000.
-- `across_of` 2a+b · `near_x`, `near_y` the whole number of ten-thousandths nearest to x and to y, by their sizes, with `root_of` the whole part of a square
-- root · `decimals` it written with a point, `coordinate` with its sign and the blank after it. Their laws: NearLaws.
-- Assumes nothing.
use Rattle.std.specs.Prelude.{cond, List, [], ◌∷◌, ◌++◌, ℕ, zero, suc, ◌+◌, ◌*◌, ◌/◌, ◌%◌, ◌^◌, leb, ℤ, pos, nat_abs, ◌+ℤ◌}
use Rattle.std.specs.Int.Signed.{lt_z}
use Rattle.lattice.specs.declared.points.Point.{Point}
use Rattle.text.specs.Decimal.{minus, feed, digit, digits, ended}

-- the bytes between the numbers of a line, and between a number's whole part and its decimals
abbrev pub blank : ℕ
blank = 32

abbrev pub dot : ℕ
dot = 46

-- ---- the nearest whole number of ten-thousandths

-- "x is (2a+b)/(2 × 3^m)"
abbrev pub across_of : Point → ℤ
across_of p = p.a +ℤ p.a +ℤ p.b

-- of x, by the size of 2a+b: ten-thousandths are 10,000 (2a+b) over 2 × 3^m
unfoldable pub near_x : ℕ → ℕ → ℕ
near_x s m = (10000 * s + 3 ^ m) / (2 * 3 ^ m)

-- the greatest whole number whose square is at most q, from w on: 2^i at most is still to be added
unfoldable pub root_from : ℕ → ℕ → ℕ → ℕ
root_from zero q w = w
root_from (suc i) q w = root_from i q (cond (leb ((w + 2 ^ i) * (w + 2 ^ i)) q) (w + 2 ^ i) w)

-- the same, of numbers below 2^64
unfoldable pub root_of : ℕ → ℕ
root_of q = root_from 32 q 0

-- "y is b times the square root of 3, over 2 × 3^m": the square of twice its ten-thousandths is 300,000,000 b² over 9^m
unfoldable pub near_y : ℕ → ℕ → ℕ
near_y b m = (root_of (300000000 * (b * b) / (3 ^ m * 3 ^ m)) + 1) / 2

-- ---- as text

-- "Coordinates have four decimals"
unfoldable pub four : ℕ → List ℕ
four n = digit (n / 1000) ∷ digit (n / 100 % 10) ∷ digit (n / 10 % 10) ∷ digit (n % 10) ∷ []

-- n ten-thousandths, and the blank after them
unfoldable pub decimals : ℕ → List ℕ
decimals n = ended (digits (n / 10000)) dot ++ ended (four (n % 10000)) blank

-- "zero has no sign", nor has what is above zero
abbrev pub sign_of : ℤ → List ℕ
sign_of z = cond (lt_z z (pos 0)) (minus ∷ []) []

-- n ten-thousandths with the sign of z
unfoldable pub coordinate : ℤ → ℕ → List ℕ
coordinate z n = sign_of z ++ decimals n

-- 0.0000 and the line's end
abbrev pub flat : List ℕ
flat = 48 ∷ dot ∷ 48 ∷ 48 ∷ 48 ∷ 48 ∷ feed ∷ []

abbrev pub text_x : Point → List ℕ
text_x p = coordinate (across_of p) (near_x (nat_abs (across_of p)) p.m.0)

abbrev pub text_y : Point → List ℕ
text_y p = coordinate p.b (near_y (nat_abs p.b) p.m.0)

-- "each vertex as x, y and 0.0000"
unfoldable pub position_text : Point → List ℕ
position_text p = text_x p ++ (text_y p ++ flat)
