-- Document 01, "Files": how a number is written. What the promises cite: `digits` a natural number, `numeral` a whole one, `ended` a field with the
-- byte that ends it.
-- Assumes nothing.
use Rattle.std.specs.Prelude.{cond, List, [], ◌∷◌, ◌++◌, ℕ, zero, suc, ◌+◌, ◌%◌, ◌/◌, ltb, ℤ, pos, negsuc}

-- the bytes that numbers and lines are made of: the digits stand at 48, 49, .. 57
abbrev pub minus : ℕ
minus = 45

abbrev pub tab : ℕ
tab = 9

abbrev pub feed : ℕ
feed = 10

abbrev pub digit : ℕ → ℕ
digit d = 48 + d

-- the digits of n where n takes at most f steps down by tens: those of its tens, and its last
unfoldable pub digits_by : ℕ → ℕ → List ℕ
digits_by zero n = digit n ∷ []
digits_by (suc f) n = let tens = digits_by f (n / 10) in cond (ltb n 10) (digit n ∷ []) (tens ++ digit (n % 10) ∷ [])

-- "in decimal .. no leading zero"
unfoldable pub digits : ℕ → List ℕ
digits n = digits_by n n

-- "No plus sign, .. minus only before a nonzero number."
abbrev pub numeral : ℤ → List ℕ
numeral (pos n) = digits n
numeral (negsuc n) = minus ∷ digits (suc n)

-- a field, and the tab or the line feed after it
abbrev pub ended : List ℕ → ℕ → List ℕ
ended xs stop = xs ++ stop ∷ []
