-- Four bytes, low byte first, as a number: `word_at` reads it, `word_bytes` writes it, `word_back` and `word_of` undo each other.
-- Assumes nothing.
use Rattle.std.specs.Prelude.{◌≡◌, List, [], ◌∷◌, ℕ, ◌+◌, ◌*◌, ◌%◌, ◌/◌, ◌<◌, get_or}
use Rattle.std.proofs.Common.{sym, ◌∙◌, ap, arith, mod-eq_of_lt}
use Rattle.std.proofs.Math.Nat.{div-div-eq-div-mul, mod-add-div}

-- the four bytes from p on, low byte first
unfoldable pub word_at : List ℕ → ℕ → ℕ
word_at t p = get_or t p 0 + 256 * get_or t (p + 1) 0 + 65536 * get_or t (p + 2) 0 + 16777216 * get_or t (p + 3) 0

-- a word's four bytes, low first
abbrev pub word_bytes : ℕ → List ℕ
word_bytes u = u % 256 ∷ u / 256 % 256 ∷ u / 65536 % 256 ∷ u / 16777216 % 256 ∷ []

-- digits to the base 256. The numbers are variables, so that what `omega` is asked is plain: with `/` and `%` in it it stops at its bound
digits : (u x y z a b c d : ℕ) → a + 256 * x ≡ u → b + 256 * y ≡ x → c + 256 * z ≡ y → d ≡ z → a + 256 * b + 65536 * c + 16777216 * d ≡ u
digits u x y z a b c d p q r s = omega arith

top_digit : (u x y z a b c : ℕ) → a + 256 * x ≡ u → b + 256 * y ≡ x → c + 256 * z ≡ y → u < 4294967296 → z < 256
top_digit u x y z a b c p q r h = omega arith

pub word_back : (u : ℕ) → u < 4294967296 → u % 256 + 256 * (u / 256 % 256) + 65536 * (u / 65536 % 256) + 16777216 * (u / 16777216 % 256) ≡ u
word_back u h =
    let e2 : u / 65536 ≡ u / 256 / 256 = sym (div-div-eq-div-mul u 256 256) in
    let e3 : u / 16777216 ≡ u / 256 / 256 / 256 = sym (ap (λ (x : ℕ). x / 256) (div-div-eq-div-mul u 256 256) ∙ div-div-eq-div-mul u 65536 256) in
    let p = mod-add-div u 256 in
    let q = mod-add-div (u / 256) 256 in
    let r = mod-add-div (u / 256 / 256) 256 in
    let s = mod-eq_of_lt (top_digit u (u / 256) (u / 256 / 256) (u / 256 / 256 / 256) (u % 256) (u / 256 % 256) (u / 256 / 256 % 256) p q r h) in
    rw (e2, e3) (digits u (u / 256) (u / 256 / 256) (u / 256 / 256 / 256) (u % 256) (u / 256 % 256) (u / 256 / 256 % 256) (u / 256 / 256 / 256 % 256) p q r s)

-- a word is its four bytes
pub word_of : (t : List ℕ) (p a b c d : ℕ) → get_or t p 0 ≡ a → get_or t (p + 1) 0 ≡ b → get_or t (p + 2) 0 ≡ c → get_or t (p + 3) 0 ≡ d
    → word_at t p ≡ a + 256 * b + 65536 * c + 16777216 * d
unfolding word_at
word_of t p a b c d ea eb ec ed = rw (ea, eb, ec, ed)
