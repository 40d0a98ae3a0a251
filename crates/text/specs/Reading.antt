-- Document 01, "Files": how a number is read at a position of a file, whatever its bytes. What the promises cite: `number_at` a natural number,
-- `signed_at` a whole one. `is_digit` · `run` the digits that bytes begin with · `value` what they count · `plain` no leading zero · `begins` the next
-- byte.
-- Assumes nothing.
use Rattle.std.specs.Prelude.{Bool, false, cond, ◌&&◌, List, [], ◌∷◌, ℕ, zero, suc, ◌+◌, ◌*◌, ◌-◌, eqb, ltb, leb, ℤ, pos, negsuc, length, get_or, drop, Option, Some, None}
use Rattle.text.specs.Decimal.{minus, digit}

abbrev pub is_digit : ℕ → Bool
is_digit c = leb (digit 0) c && leb c (digit 9)

-- the digits that bytes begin with, up to the first byte that is none
unfoldable pub run : List ℕ → List ℕ
run [] = []
run (c ∷ xs) = let rest = run xs in cond (is_digit c) (c ∷ rest) []

-- what digits count, after v
unfoldable pub value : ℕ → List ℕ → ℕ
value v [] = v
value v (c ∷ xs) = value (v * 10 + (c - digit 0)) xs

-- "no leading zero": a 0 stands alone; and there is a digit
abbrev pub plainly : ℕ → ℕ → Bool
plainly first n = cond (eqb first (digit 0)) (eqb n 1) (ltb 0 n)

abbrev pub plain : List ℕ → Bool
plain s = plainly (get_or s 0 0) (length s)

-- the next byte is there, and is b
abbrev pub begins : ℕ → List ℕ → Bool
begins b [] = false
begins b (c ∷ xs) = eqb c b

-- the number that digits s at p make, of at most `most`, and the position past the byte `stop` that ends it
abbrev pub number_of : List ℕ → List ℕ → ℕ → ℕ → ℕ → Option (ℕ × ℕ)
number_of s t p most stop = cond (leb (value 0 s) most && (begins stop (drop (p + length s) t) && plain s)) (Some (value 0 s, p + length s + 1)) None

-- the number at p: as many digits as there are
unfoldable pub number_at : List ℕ → ℕ → ℕ → ℕ → Option (ℕ × ℕ)
number_at t p most stop = number_of (run (drop p t)) t p most stop

abbrev pub as_whole : Option (ℕ × ℕ) → Option (ℤ × ℕ)
as_whole None = None
as_whole (Some (n, q)) = Some (pos n, q)

-- "minus only before a nonzero number"
abbrev pub as_minus : Option (ℕ × ℕ) → Option (ℤ × ℕ)
as_minus None = None
as_minus (Some (zero, q)) = None
as_minus (Some (suc n, q)) = Some (negsuc n, q)

-- the number at p, with its sign
unfoldable pub signed_at : List ℕ → ℕ → ℕ → ℕ → Option (ℤ × ℕ)
signed_at t p most stop = cond (begins minus (drop p t)) (as_minus (number_at t (p + 1) most stop)) (as_whole (number_at t p most stop))
