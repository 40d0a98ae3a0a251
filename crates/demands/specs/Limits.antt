-- Limits, on both sides of each, computed: what is just within, and what is just beyond.
-- `valid-within`, `valid-beyond` a record · `centres-within`, `centres-beyond`, `centres-none` a base's centres · `lengths-equal` two tables ·
-- `rules-within`, `rules-beyond` "d 3 needs k' mod 4 = k", and the other rules; `rules-give` what they give; `torn-adjacent` · `bytes-within` ours, the m of a
-- triple, and how many triples a list has · `program-slots` the census program's 5,461, `input-within`, `input-beyond` its 65,536 bytes. A finding's
-- limits: `findings/specs/Examples`; a table's length: `table/specs/Examples`.
-- Assumes nothing.
use Rattle.std.specs.Prelude.{◌≡◌, Bool, true, false, ◌&&◌, ◌||◌, List, [], ◌∷◌, ℕ, ◌≤◌, ◌<◌, ℤ, pos, negsuc, length, replicate}
use Rattle.std.proofs.Math.Path.{refl}
use borrow.Author.Tests.{lt-ltb, le-ltb}
use Rattle.laws.specs.Triples.{triples_in, is_byte}
use Rattle.laws.specs.Words.{word_at}
use Rattle.lattice.specs.Points.{pt, normal_of}
use Rattle.lattice.specs.Patterns.{orient, pattern_of, rows_of, six}
use Rattle.lattice.specs.Records.{valid_at}
use Rattle.lattice.specs.Subdivision.{update_of, accepts_of}
use Rattle.lattice.specs.declared.records.Record.{Record}
use Rattle.table.specs.Slots.{lengths_fit, slot_at, free_at, record_at, put_slot, record_bytes, slots_in}
use Rattle.table.specs.Search.{home_of, same_point, search_from, find_of}
use Rattle.table.specs.Entries.{look_up, enter_of}
use Rattle.base.specs.Base.{good_centre, base_after, base_of}
use Rattle.mesh.specs.Subdivide.{torn}
use Rattle.readers.specs.Readers.{read_full_of}
use Rattle.readers.specs.Readers as read
use Rattle.census_text.specs.Census.{text_of, read_input_of, free_table, program_text}

abbrev all : List Bool → Bool
all [] = true
all (b ∷ bs) = b && all bs

abbrev some : List Bool → Bool
some [] = false
some (b ∷ bs) = b || some bs

-- ---- a record: "m is 0..6, |a| and |b| are at most 251 × 3^m", "k is 0..3 for d = 3, 0..11 for d = 4 or 5, 0..1 for d = 6", "n is 0..12"

pub valid-within : all (
    valid_at (pos 251) (negsuc 250) 0 0 0 0 ∷ valid_at (negsuc 250) (pos 251) 0 0 0 0 ∷ valid_at (pos 753) (pos 1) 1 0 0 0 ∷ valid_at (pos 1) (negsuc 752) 1 0 0 0 ∷
    valid_at (pos 182979) (pos 1) 6 0 0 0 ∷ valid_at (negsuc 0) (negsuc 182978) 6 0 0 0 ∷ valid_at (pos 3) (pos 1) 1 0 0 0 ∷ valid_at (pos 1) (pos 3) 1 0 0 0 ∷
    valid_at (pos 3) (pos 3) 0 0 0 0 ∷ valid_at (pos 0) (pos 0) 0 3 3 1 ∷ valid_at (pos 0) (pos 0) 0 4 11 1 ∷ valid_at (pos 0) (pos 0) 0 5 11 1 ∷
    valid_at (pos 0) (pos 0) 0 6 1 11 ∷ valid_at (pos 0) (pos 0) 0 6 0 12 ∷ valid_at (pos 0) (pos 0) 0 3 0 12 ∷ []) ≡ true
valid-within = refl

-- not normalised, deeper, farther; "Degree 0 marks a boundary vertex; there k = n = 0."; an orientation, a level more; "k and n both even or both
-- odd"; no degree
pub valid-beyond : some (
    valid_at (pos 3) (pos 3) 1 0 0 0 ∷ valid_at (pos 1) (pos 1) 7 0 0 0 ∷ valid_at (pos 252) (pos 0) 0 0 0 0 ∷ valid_at (negsuc 251) (pos 0) 0 0 0 0 ∷
    valid_at (pos 0) (pos 252) 0 0 0 0 ∷ valid_at (pos 0) (negsuc 251) 0 0 0 0 ∷ valid_at (pos 754) (pos 1) 1 0 0 0 ∷ valid_at (pos 1) (negsuc 753) 1 0 0 0 ∷
    valid_at (pos 182980) (pos 1) 6 0 0 0 ∷ valid_at (pos 1) (negsuc 182979) 6 0 0 0 ∷ valid_at (pos 0) (pos 0) 0 0 2 0 ∷ valid_at (pos 0) (pos 0) 0 0 0 2 ∷
    valid_at (pos 0) (pos 0) 0 3 4 0 ∷ valid_at (pos 0) (pos 0) 0 4 12 0 ∷ valid_at (pos 0) (pos 0) 0 5 12 0 ∷ valid_at (pos 0) (pos 0) 0 6 2 0 ∷
    valid_at (pos 0) (pos 0) 0 6 1 13 ∷ valid_at (pos 0) (pos 0) 0 3 0 14 ∷ valid_at (pos 0) (pos 0) 0 6 0 1 ∷ valid_at (pos 0) (pos 0) 0 5 3 2 ∷
    valid_at (pos 0) (pos 0) 0 1 0 0 ∷ valid_at (pos 0) (pos 0) 0 2 0 0 ∷ valid_at (pos 0) (pos 0) 0 7 0 0 ∷ []) ≡ false
valid-beyond = refl

-- ---- a centre: "a, b in -250..250 and a-b divisible by 3"

pub centres-within : all (
    good_centre (pt (pos 250) (pos 1) 0) ∷ good_centre (pt (negsuc 249) (negsuc 0) 0) ∷ good_centre (pt (pos 1) (pos 250) 0)
    ∷ good_centre (pt (negsuc 0) (negsuc 249) 0) ∷ []) ≡ true
centres-within = refl

pub centres-beyond : some (
    good_centre (pt (pos 251) (negsuc 0) 0) ∷ good_centre (pt (negsuc 250) (pos 1) 0) ∷ good_centre (pt (negsuc 0) (pos 251) 0)
    ∷ good_centre (pt (pos 1) (negsuc 250) 0) ∷ good_centre (pt (pos 1) (pos 0) 0) ∷ good_centre (pt (pos 2) (pos 0) 0) ∷ []) ≡ false
centres-beyond = refl

-- "an empty .. list gives place 0", and the table cleared
pub centres-none : base_of (replicate 192 7) [] ≡ base_after 2 0 (replicate 192 255)
unfolding base_of
centres-none = refl

-- ---- "a table and a scratch table of equal length": each of them would fit by itself

pub lengths-equal : (lengths_fit (replicate 192 0) (replicate 192 1) ≡ true) × (lengths_fit (replicate 192 0) (replicate 204 0) ≡ false) ×
    (lengths_fit (replicate 204 0) (replicate 192 0) ≡ false) × (lengths_fit (replicate 193 0) (replicate 193 0) ≡ false)
lengths-equal = (refl, refl, refl, refl)

-- ---- the rules of a subdivision at level 2, of an old adjacent vertex

-- of degree d, orientation k, level n
abbrev adjacent : ℕ → ℕ → ℕ → Record
adjacent d k n = record { at = pt (pos 0) (pos 0) 0; d = d; k = k; n = record { 0 = n } }

-- "d 3 needs k' mod 4 = k, d 5 needs k' = k", d 4 "if u's k equals k'" or "if u's k plus 4 equals k'", mod 12; a boundary vertex at any level
pub rules-within : all (
    accepts_of 6 2 (adjacent 3 2 2) ∷ accepts_of 10 2 (adjacent 3 2 2) ∷ accepts_of 6 2 (adjacent 4 6 2) ∷ accepts_of 6 2 (adjacent 4 2 2)
    ∷ accepts_of 2 2 (adjacent 4 10 2) ∷ accepts_of 6 2 (adjacent 5 6 2) ∷ accepts_of 6 2 (adjacent 0 0 0) ∷ []) ≡ true
unfolding accepts_of
rules-within = refl

-- "or no rule above for its k'"; "an internal adjacent has d 6, or a level other than n"
pub rules-beyond : some (
    accepts_of 6 2 (adjacent 3 0 2) ∷ accepts_of 6 2 (adjacent 3 6 2) ∷ accepts_of 6 2 (adjacent 4 10 2) ∷ accepts_of 6 2 (adjacent 4 8 2)
    ∷ accepts_of 6 2 (adjacent 5 2 2) ∷ accepts_of 6 2 (adjacent 5 10 2) ∷ accepts_of 0 2 (adjacent 6 0 2) ∷ accepts_of 6 2 (adjacent 3 2 0)
    ∷ accepts_of 6 2 (adjacent 4 6 4) ∷ accepts_of 6 2 (adjacent 5 6 1) ∷ []) ≡ false
unfolding accepts_of
rules-beyond = refl

-- "boundary u stays. d 3 becomes d 4 with k'+4. d 4 becomes d 5 .. d 5 becomes d 6, level up by one, orientation (k'+1) mod 2. Sums .. are mod 12."
pub rules-give : (update_of 6 (adjacent 0 0 0) ≡ adjacent 0 0 0) × (update_of 10 (adjacent 3 2 2) ≡ adjacent 4 2 2) ×
    (update_of 6 (adjacent 3 2 2) ≡ adjacent 4 10 2) ×
    (update_of 10 (adjacent 4 10 2) ≡ adjacent 5 2 2) × (update_of 2 (adjacent 4 10 2) ≡ adjacent 5 10 2) × (update_of 6 (adjacent 5 6 2) ≡ adjacent 6 1 3) ×
    (update_of 7 (adjacent 5 7 3) ≡ adjacent 6 0 4)
unfolding update_of
rules-give = (refl, refl, refl, refl, refl, refl, refl)

-- ---- "Torn, subdivision"

-- [a, b, m] at level 0, k 0
abbrev plain : ℤ → ℤ → ℕ → ℕ → Record
plain a b m d = record { at = pt a b m; d = d; k = 0; n = record { 0 = 0 } }

pub entered : List Record → List ℕ
entered [] = replicate 192 255
entered (r ∷ rs) = enter_of (entered rs) r

-- [1, 0, 0] with all its adjacent vertices but [2, 0, 0]
pub five : List Record
five = plain (pos 1) (pos 0) 0 6 ∷ plain (pos 1) (pos 1) 0 3 ∷ plain (pos 0) (pos 1) 0 0 ∷ plain (pos 0) (pos 0) 0 3 ∷ plain (pos 1) (negsuc 0) 0 0
    ∷ plain (pos 2) (negsuc 0) 0 3 ∷ []

-- whole with it; "an adjacent is absent" without; "or a new point is already there": [4, 1, 1]
pub torn-adjacent : (torn (entered (plain (pos 2) (pos 0) 0 0 ∷ five)) (plain (pos 1) (pos 0) 0 6) ≡ false) ×
    (torn (entered five) (plain (pos 1) (pos 0) 0 6) ≡ true) ×
    (torn (entered (plain (pos 4) (pos 1) 1 0 ∷ plain (pos 2) (pos 0) 0 0 ∷ five)) (plain (pos 1) (pos 0) 0 6) ≡ true)
unfolding entered five torn accepts_of normal_of orient pattern_of rows_of six look_up enter_of find_of search_from slot_at free_at record_at put_slot record_bytes slots_in
    home_of same_point word_at
torn-adjacent = (refl, refl, refl)

-- ---- ours: "an m outside 0..255 is answered 3", and numbers past the last whole triple are not read

pub bytes-within : (is_byte (pos 0) ≡ true) × (is_byte (pos 255) ≡ true) × (is_byte (pos 256) ≡ false) × (is_byte (negsuc 0) ≡ false) ×
    (triples_in (replicate 5 (pos 0)) ≡ 1) × (triples_in (replicate 6 (pos 0)) ≡ 2)
bytes-within = (refl, refl, refl, refl, refl, refl)

-- ---- the census program

-- "into 5,461 slots": its table, and its scratch table, are so many bytes of 255
pub program-slots : (slots_in 65532 ≡ 5461) × ((i : List ℕ) → program_text i ≡ text_of (read_input_of (replicate 65532 255) (replicate 65532 255) i))
unfolding slots_in program_text free_table
program-slots = (refl, λ i. refl)

module _ (t s i : List ℕ) (f : lengths_fit t s ≡ true) where
  -- "at most 65,536 bytes"
  pub input-within : length i ≤ 65536 → read_input_of t s i ≡ read_full_of t s i
  unfolding read_input_of
  input-within h = rw (f, le-ltb 65536 (length i) h) refl

  -- "Longer input gives `refused`, 8, 0."
  pub input-beyond : 65536 < length i → read_input_of t s i ≡ read.refused 8 0 t s
  unfolding read_input_of
  input-beyond h = rw (f, lt-ltb 65536 (length i) h) refl
