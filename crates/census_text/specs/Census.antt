-- Document 01, "Census program": the text for an input, and what the call does. What the promises cite: `census_of` for the call, `program_text` for
-- the program.
-- `tabbed` a line of words, `row` one of numbers · `counts_text`, `refused_text` the two outputs · `read_input_of` the input, read ·
-- `put_text` a text written, or refused with 13 · `Result` number, bytes written, and what was lent, after.
-- Assumes nothing.
use Rattle.std.specs.Prelude.{cond, List, [], ◌∷◌, ◌++◌, map, ℕ, ◌*◌, eqb, ltb, length, drop, replicate}
use Rattle.laws.specs.Choices.{unless}
use Rattle.table.specs.Slots.{lengths_fit, slot_width}
use Rattle.text.specs.Decimal.{tab, feed, digits, ended}
use Rattle.readers.specs.Readers.{TablesAfter, tables_after, refused, read_full_of}
use Rattle.counts.specs.Counts.{counts_of}
use Rattle.counts.specs.declared.Counts.{Counts}

-- ---- the output

-- the byte after a word: a tab, or the line feed where no word follows
abbrev pub stop_of : List (List ℕ) → ℕ
stop_of [] = feed
stop_of (x ∷ ws) = tab

-- a line of words, "tabs between"; "Each line ends with a line feed."
unfoldable pub tabbed : List (List ℕ) → List ℕ
tabbed [] = []
tabbed (w ∷ ws) = ended w (stop_of ws) ++ tabbed ws

-- V, E, F stand at 86, 69, 70 among the bytes, d at 100
abbrev degree_word : ℕ → List ℕ
degree_word d = 100 ∷ digits d

-- "a header line `V E F d0 d3 d4 d5 d6`"
unfoldable pub header : List ℕ
unfolding tabbed
header = tabbed ((86 ∷ []) ∷ (69 ∷ []) ∷ (70 ∷ []) ∷ degree_word 0 ∷ degree_word 3 ∷ degree_word 4 ∷ degree_word 5 ∷ degree_word 6 ∷ [])

-- "V E F d0 d3 d4 d5 d6"
abbrev pub in_row : Counts → List ℕ
in_row c = c.vertices ∷ c.edges ∷ c.faces ∷ c.d0 ∷ c.d3 ∷ c.d4 ∷ c.d5 ∷ c.d6 ∷ []

-- a line of numbers
abbrev pub row : List ℕ → List ℕ
row ns = tabbed (map digits ns)

-- "a header line .. and one line of those numbers"
abbrev pub counts_text : Counts → List ℕ
counts_text c = header ++ row (in_row c)

-- the bytes of the word "refused"
abbrev pub refused_word : List ℕ
refused_word = 114 ∷ 101 ∷ 102 ∷ 117 ∷ 115 ∷ 101 ∷ 100 ∷ []

-- "or one line of `refused`, number, line, tabs between"
abbrev pub refused_text : ℕ → ℕ → List ℕ
refused_text number line = tabbed (refused_word ∷ digits number ∷ digits line ∷ [])

unfoldable pub text_of : TablesAfter → List ℕ
text_of r = cond (eqb r.number 0) (counts_text (counts_of r.table)) (refused_text r.number r.line)

-- ---- the input

-- "at most 65,536 bytes"
abbrev pub most_input : ℕ
most_input = 65536

-- "It reads a full file"; "Longer input gives `refused`, 8, 0."
unfoldable pub read_input_of : List ℕ → List ℕ → List ℕ → TablesAfter
read_input_of t s input = unless (lengths_fit t s) (tables_after 1 0 t s) (cond (ltb most_input (length input)) (refused 8 0 t s) (read_full_of t s input))

-- ---- the program

-- "into 5,461 slots"
abbrev pub program_slots : ℕ
program_slots = 5461

-- the program's table, and its scratch table: every slot free
unfoldable pub free_table : List ℕ
free_table = replicate (slot_width * program_slots) 255

-- what the program writes: "It reads a full file from standard input, at most 65,536 bytes, into 5,461 slots."
unfoldable pub program_text : List ℕ → List ℕ
program_text input = text_of (read_input_of free_table free_table input)

-- ---- the call

-- the number, the bytes written, and the output after
pub record Put : Type 0 where
  pub number : ℕ
  pub written : ℕ
  pub out : List ℕ

abbrev pub put : ℕ → ℕ → List ℕ → Put
put number written out = record { number = number; written = written; out = out }

-- 13 where the output is shorter than the text; bytes past the text stay as found
unfoldable pub put_text : ℕ → List ℕ → List ℕ → Put
put_text number text out = cond (ltb (length out) (length text)) (put 13 0 out) (put number (length text) (text ++ drop (length text) out))

-- the same, with the table and the scratch table as the reader leaves them
pub record Result : Type 0 where
  pub put : Put
  pub table : List ℕ
  pub scratch : List ℕ

abbrev pub result : Put → List ℕ → List ℕ → Result
result p t s = record { put = p; table = t; scratch = s }

abbrev pub result_from : TablesAfter → List ℕ → Result
result_from r out = result (put_text r.number (text_of r) out) r.table r.scratch

unfoldable pub census_of : List ℕ → List ℕ → List ℕ → List ℕ → Result
census_of input t s out = result_from (read_input_of t s input) out
