-- How the code reads a slot, word by word, and a weight: what the promises below `read_slot`, `look` and `home` cite.
-- `Word` a word read from four bytes · `all_ones` three words that are twelve bytes of 255 (SlotLaws: `free-words`) ·
-- `pair_of` two words as one number, `First` those that a slot begins with · `reads_as` a slot's bytes read as a point's record, `NoneIn` those of
-- none of some slots do, `group` of so many that are asked at once · `run_before` how many slots right before one are taken · `over` more than any weight.
-- Assumes nothing.
use Rattle.lattice.specs.declared.records.Record.{Record}
use Rattle.std.specs.Prelude.{◌≡◌, Bool, false, cond, ◌&&◌, List, ℕ, zero, suc, ◌+◌, ◌*◌, ◌<◌, eqb, get_or, ℤ, Option}
use Rattle.laws.specs.Words.{word_at}
use Rattle.lattice.specs.Points.{pt}
use Rattle.lattice.specs.declared.points.Point.{Point}
use Rattle.table.specs.Slots.{slot_width, record_at, is_free}
use Rattle.table.specs.Search.{same_point}

-- r is the word at p, and what it was made of are bytes
pub record Word (t : List ℕ) (p r : ℕ) : Type 0 where
  pub is : r ≡ word_at t p
  pub byte0 : get_or t p 0 < 256
  pub byte1 : get_or t (p + 1) 0 < 256
  pub byte2 : get_or t (p + 2) 0 < 256
  pub byte3 : get_or t (p + 3) 0 < 256

abbrev pub all_ones : ℕ → ℕ → ℕ → Bool
all_ones a b c = (eqb a 4294967295 && eqb b 4294967295) && eqb c 4294967295

-- two words as one number, the first the low one
abbrev pub pair_of : ℕ → ℕ → ℕ
pair_of a b = a + 4294967296 * b

-- r is the first two words from p on, as one number
pub record First (t : List ℕ) (p r : ℕ) : Type 0 where
  pub low : Word t p (word_at t p)
  pub high : Word t (p + 4) (word_at t (p + 4))
  pub is : r ≡ pair_of (word_at t p) (word_at t (p + 4))

-- the bytes of slot i, free or not, read as a record of p: those of a free slot, as one of [-1, -1, 255]
abbrev pub reads_as : List ℕ → Point → ℕ → Bool
reads_as t p i = same_point (record_at t (slot_width * i)).at p

-- those of none of the k slots from slot h on read as a record of [a, b, m], whatever m is
abbrev pub NoneIn : List ℕ → ℤ → ℤ → ℕ → ℕ → Type 0
NoneIn t a b h k = (m j : ℕ) → j < k → reads_as t (pt a b m) (h + j) ≡ false

-- how many slots in a row are taken, one slot more seen: none where it is free
abbrev pub run_on : ℕ → ℕ → ℕ
run_on run free = cond (eqb free 0) (run + 1) 0

-- how many slots right before slot i are taken, of slots of which slot s is `f s`
unfoldable pub run_before : (ℕ → Option Record) → ℕ → ℕ
run_before f zero = 0
run_before f (suc i) = run_on (run_before f i) (is_free (f i))

-- how many slots are asked at once
abbrev pub group : ℕ
group = 8

-- 65,536 times 2 to the 32: a multiple of the most slots that is over every weight
abbrev pub over : ℕ
over = 281474976710656
