-- Document 02, ticket 12: "Write a tool that drops malformed lines, normalises, drops a line equal to an earlier one after that, sorts, restores absent
-- neighbours of degree 6 vertices, and writes the full file." What the promise cites: `salvage_of`. The lines are those of `salvage_lines`' OldLines.
-- `once`, `sorted_lines` the records without repeats, sorted · `filled` the reduced reader on records, its 12 aside · `changes` the list · `SalvageAfter`,
-- `salvage_of` what the call does.
-- Assumes nothing.
use Rattle.std.specs.Prelude.{Bool, cond, ◌&&◌, List, [], ◌∷◌, ◌++◌, ℕ, ◌+◌, leb, length, drop}
use Rattle.laws.specs.Choices.{unless}
use Rattle.laws.specs.Some.{some_of}
use Rattle.lattice.specs.declared.records.Record.{Record}
use Rattle.table.specs.Slots.{lengths_fit, cleared_of}
use Rattle.table.specs.Search.{same_point, find_of}
use Rattle.table.specs.Entries.{enter_of, records_of}
use Rattle.text.specs.Decimal.{digits, ended, tab, feed}
use Rattle.writers.specs.Files.{sorted, leave_out, full_file}
use Rattle.readers.specs.Readers.{no_slot, Restored, With, Stopped, restore_all, completed}
use Rattle.salvage_lines.specs.OldLines.{same_record, OldLine, Dropped, Kept, salvaged, record_in, kept, clashes}

-- ---- "drops a line equal to an earlier one after that, sorts"

-- those of the records that are no repeats; `seen` stand before them
unfoldable pub once_after : List Record → List Record → List Record
once_after seen [] = []
once_after seen (r ∷ rs) = let rest = once_after (r ∷ seen) rs in cond (some_of (same_record r) seen) rest (r ∷ rest)

abbrev pub once : List Record → List Record
once rs = once_after [] rs

-- the sorted lines
abbrev pub sorted_lines : List OldLine → List Record
sorted_lines ms = sorted (once (kept ms))

-- ---- "Table and scratch are lent and left as by the reduced reader given the sorted lines, its 12 aside"

-- "8": a line's record entered
abbrev pub entering : Restored → Record → Restored
entering (Stopped number) r = Stopped number
entering (With t) r = cond (no_slot (find_of t r.at)) (Stopped 8) (With (enter_of t r))

unfoldable pub enter_all : List Record → Restored → Restored
enter_all [] x = x
enter_all (r ∷ rs) x = enter_all rs (entering x r)

-- "Records enter in file order. The reduced reader then takes the degree 6 records in file order and enters each absent adjacent point"
unfoldable pub filled : List Record → List ℕ → Restored
unfolding enter_all restore_all
filled rs t = restore_all rs (enter_all rs (With t))

-- ---- "With it comes a list, one line a change"

-- `dropped`, `normalised`, `repeat`, `restored`
abbrev pub dropped_word : List ℕ
dropped_word = 100 ∷ 114 ∷ 111 ∷ 112 ∷ 112 ∷ 101 ∷ 100 ∷ []

abbrev pub normalised_word : List ℕ
normalised_word = 110 ∷ 111 ∷ 114 ∷ 109 ∷ 97 ∷ 108 ∷ 105 ∷ 115 ∷ 101 ∷ 100 ∷ []

abbrev pub repeat_word : List ℕ
repeat_word = 114 ∷ 101 ∷ 112 ∷ 101 ∷ 97 ∷ 116 ∷ []

abbrev pub restored_word : List ℕ
restored_word = 114 ∷ 101 ∷ 115 ∷ 116 ∷ 111 ∷ 114 ∷ 101 ∷ 100 ∷ []

-- "the input line number .. and one of" these
unfoldable pub change : ℕ → List ℕ → List ℕ
change line word = ended (digits line) tab ++ ended word feed

-- the same where a test passes
abbrev pub change_if : Bool → ℕ → List ℕ → List ℕ
change_if b line word = cond b (change line word) []

-- "a line both normalised and repeated has both lines, in that order": what is listed of a line; `seen` the records of earlier ones
unfoldable pub changes_at : ℕ → List Record → OldLine → List ℕ
unfolding change
changes_at line seen Dropped = change line dropped_word
changes_at line seen (Kept r changed) = change_if changed line normalised_word ++ change_if (some_of (same_record r) seen) line repeat_word

-- "by rising number": of the lines from line i on
unfoldable pub changes_from : ℕ → List Record → List OldLine → List ℕ
unfolding changes_at
changes_from line seen [] = []
changes_from line seen (m ∷ ms) = changes_at line seen m ++ changes_from (line + 1) (record_in m ++ seen) ms

-- the records of table u that no line has, in file order
abbrev pub restored_in : List Record → List ℕ → List Record
restored_in rs u = leave_out (λ r. some_of (λ q. same_point q.at r.at) rs) (sorted (records_of u))

-- "(0 for a restored record)"
unfoldable pub restored_changes : List Record → List ℕ
unfolding change
restored_changes [] = []
restored_changes (r ∷ rs) = change 0 restored_word ++ restored_changes rs

-- "by rising number, restored ones last in file order"
unfoldable pub changes : List OldLine → List ℕ → List ℕ
changes ms u = changes_from 1 [] ms ++ restored_changes (restored_in (kept ms) u)

-- ---- the call

-- the number, the bytes of both outputs, and what is lent, after
pub record SalvageAfter : Type 0 where
  pub number : ℕ
  pub written : ℕ
  pub changed : ℕ
  pub table : List ℕ
  pub scratch : List ℕ
  pub out : List ℕ
  pub list : List ℕ

abbrev pub salvage_after : ℕ → ℕ → ℕ → List ℕ → List ℕ → List ℕ → List ℕ → SalvageAfter
salvage_after number written changed t s o l =
    record { number = number; written = written; changed = changed; table = t; scratch = s; out = o; list = l }

-- "a refusal after 1 leaves the table all 255, and gives no line number"; "no output on refusal"; scratch as the readers leave it
abbrev pub refusal : ℕ → List ℕ → List ℕ → List ℕ → List ℕ → SalvageAfter
refusal number t s o l = salvage_after number 0 0 (cleared_of t) (cleared_of s) o l

-- a file written over an output; what is past it stays
abbrev pub over : List ℕ → List ℕ → List ℕ
over file o = file ++ drop (length file) o

-- "13 for either output"
abbrev pub room_for : List ℕ → List ℕ → Bool
room_for file o = leb (length file) (length o)

-- u is grown: both are written
abbrev pub write_both : List ℕ → List ℕ → List ℕ → List ℕ → List ℕ → List ℕ → List ℕ → SalvageAfter
write_both t s o l u file list =
    unless (room_for file o && room_for list l) (refusal 13 t s o l)
    (salvage_after 0 (length file) (length list) u (cleared_of s) (over file o) (over list l))

-- "then 8 and 11 as that reader has them; 13"
abbrev pub closing : List ℕ → List ℕ → List ℕ → List ℕ → List OldLine → Restored → SalvageAfter
closing t s o l ms x = completed (λ number. refusal number t s o l) (λ u. write_both t s o l u (full_file u) (changes ms u)) x

-- "Refusals: 1; 20 for one point with two different records; then 8 and 11 as that reader has them; 13 for either output"
unfoldable pub salvage_of : List ℕ → List ℕ → List ℕ → List ℕ → List ℕ → SalvageAfter
unfolding filled
salvage_of t s f o l =
    let ms = salvaged f in
    unless (lengths_fit t s) (salvage_after 1 0 0 t s o l) (
    cond (clashes (kept ms)) (refusal 20 t s o l) (
    closing t s o l ms (filled (sorted_lines ms) (cleared_of t))))
