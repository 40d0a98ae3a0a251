-- Guesses of numbers, stored past the keys in a file's own least bytes: `face_least`, `vertex_least` · `Guessed` keys stored past the first k,
-- `guessed-none`, `guessed-one`, `guessed-then`.
-- Assumes nothing.
use Rattle.std.specs.Prelude.{◌≡◌, refl, List, ℕ, ◌+◌, ◌*◌, ◌≤◌, ◌<◌, length, drop}
use Rattle.std.proofs.Common.{◌∙◌, arith}
use Rattle.sorting.specs.Sorting.{key_width, key_in}
use Rattle.sorting.specs.Keys.{Put}

-- past every length of lent bytes
abbrev pub lengths : ℕ
lengths = 18446744073709551616

-- the bytes of a face's shortest line
abbrev pub face_least : ℕ
face_least = 10

-- the bytes of a vertex's shortest line
abbrev pub vertex_least : ℕ
vertex_least = 21

-- keys may be stored from key `base` on, at most n, if that is past the first k, which left o'
pub record Guessed (o : List ℕ) (k base n : ℕ) (o' : List ℕ) : Type 0 where
  pub keys : (j : ℕ) → j < k → key_in o' j ≡ key_in o j
  pub long : length o' ≡ length o
  pub past : (m : ℕ) → (k < base → key_width * (base + n) ≤ m) → drop m o' ≡ drop m o

pub guessed-none : (o : List ℕ) (k base n : ℕ) → Guessed o k base n o
guessed-none o k base n = record { keys = λ j l. refl; long = refl; past = λ m h. refl }

pub guessed-one : (o : List ℕ) (k base n i v : ℕ) (o' : List ℕ) → k < base → i < n → Put o (base + i) v o' → Guessed o k base n o'
guessed-one o k base n i v o' h l p = record {
  keys = λ j m. p.others j (λ e. omega arith);
  long = p.long;
  past = λ m f. let g = f h in p.past m (omega arith);
}

pub guessed-then : (o o₁ o₂ : List ℕ) (k base n : ℕ) → Guessed o k base n o₁ → Guessed o₁ k base n o₂ → Guessed o k base n o₂
guessed-then o o₁ o₂ k base n a b = record {
  keys = λ j l. b.keys j l ∙ a.keys j l;
  long = b.long ∙ a.long;
  past = λ m h. b.past m h ∙ a.past m h;
}
