-- Document 01, "Files" and "Numbers given back": what the readers do. What the promises cite: `read_full_of`, `read_reduced_of`.
-- `Lines`, `read_lines` the lines of a file entered, or refused · `Restored`, `restore_all` what a reduced file leaves out, entered · `completed` and
-- judged · `TablesAfter` number, line, table and scratch.
-- Assumes nothing.
use Rattle.std.specs.Prelude.{Bool, true, false, cond, List, [], ◌∷◌, ℕ, zero, suc, ◌+◌, eqb, length, Option, Some, None}
use Rattle.laws.specs.Choices.{unless}
use Rattle.laws.specs.Some.{some_of}
use Rattle.lattice.specs.Records.{valid_of}
use Rattle.lattice.specs.Subdivision.{born_of}
use Rattle.table.specs.Slots.{lengths_fit, cleared_of}
use Rattle.table.specs.Search.{find_of}
use Rattle.table.specs.Entries.{enter_of}
use Rattle.text.specs.Line.{line_at}
use Rattle.writers.specs.Files.{before, redundant}
use Rattle.grown.specs.Grown.{is_grown}
use Rattle.lattice.specs.declared.records.Record.{Record}
use Rattle.table.specs.declared.probe.Found.{Found}
use Rattle.table.specs.declared.probe.Found.TheVariants as found
use Rattle.text.specs.declared.line.Line.{Line}
use Rattle.text.specs.declared.line.Line.TheVariants.{Good, Bad, End}

-- ---- "The reader reads the lent file line by line and knows the line it is on, first line 1. Records enter in file order."
-- the records of the lines, in file order, and the table with them; or the number and the line at fault
pub data Lines : Type 0 where
  Read : List Record → List ℕ → Lines
  Fault : ℕ → ℕ → Lines

-- a record more, before those that follow it
abbrev pub after : Record → Lines → Lines
after r (Read rs t) = Read (r ∷ rs) t
after r (Fault number line) = Fault number line

-- "Lines rise strictly": r is above the line before, where there is one
abbrev pub above : Option Record → Record → Bool
above None r = true
above (Some q) r = before q r

-- "8: too few free slots"
abbrev pub no_slot : Found → Bool
no_slot (found.At i) = false
no_slot (found.Free i) = false
no_slot found.Full = true

-- "per line 9, 10, 8": what stands at line i, with t the table so far and q the line before; `rest r next` the lines that follow
abbrev pub line_read : ℕ → Option Record → List ℕ → (Record → ℕ → Lines) → Line → Lines
line_read i q t rest End = Read [] t
line_read i q t rest Bad = Fault 9 i
line_read i q t rest (Good r next) = unless (above q r) (Fault 10 i) (cond (no_slot (find_of t r.at)) (Fault 8 i) (after r (rest r next)))

-- the lines of file f from position p on: no more than so many are left
unfoldable pub lines_from : List ℕ → ℕ → ℕ → ℕ → Option Record → List ℕ → Lines
lines_from f zero p i q t = Read [] t
lines_from f (suc left) p i q t = line_read i q t (λ r next. lines_from f left next (i + 1) (Some r) (enter_of t r)) (line_at f p)

-- a line has a byte at least, so a file has no more lines than bytes
abbrev pub read_lines : List ℕ → List ℕ → Lines
read_lines f t = lines_from f (length f) 0 1 None t

-- ---- "The reduced reader then takes the degree 6 records in file order and enters each absent adjacent point, j rising, as d 3, level n, orientation
-- (6+2j+k) mod 4."
-- that record is `born_of v j`, the one that a subdivision enters round its centre

-- the table so far; or the number of the refusal
pub data Restored : Type 0 where
  With : List ℕ → Restored
  Stopped : ℕ → Restored

-- "then restoring, at the first point met, 11 if the new record is not valid, else 8 if no slot is free"
abbrev pub restore_at : List ℕ → Record → Found → Restored
restore_at t r (found.At i) = With t
restore_at t r (found.Free i) = unless (valid_of r) (Stopped 11) (With (enter_of t r))
restore_at t r found.Full = Stopped (unless (valid_of r) 11 8)

abbrev pub restore : Restored → Record → Restored
restore (Stopped number) r = Stopped number
restore (With t) r = restore_at t r (find_of t r.at)

-- the first j adjacent points of v
unfoldable pub restore_to : Record → ℕ → Restored → Restored
restore_to v zero x = x
restore_to v (suc j) x = restore (restore_to v j x) (born_of v j)

abbrev pub restore_star : Record → Restored → Restored
restore_star v x = cond (eqb v.d 6) (restore_to v 6 x) x

-- those of the records of a file
unfoldable pub restore_all : List Record → Restored → Restored
restore_all [] x = x
restore_all (v ∷ vs) x = restore_all vs (restore_star v x)

-- "then 11": where restoring stopped, or the table is no grown mesh, a number is refused; else what follows. So the salvage of an old file ends (document
-- 02, ticket 12: "restores absent neighbours of degree 6 vertices", "then 8 and 11 as that reader has them"), and so does the reduced reader
-- (`restored-completed` in Outcomes)
abbrev pub completed : {A : Type 0} → (ℕ → A) → (List ℕ → A) → Restored → A
completed refuse follows (Stopped number) = refuse number
completed refuse follows (With u) = unless (is_grown u) (refuse 11) (follows u)

-- ---- the calls
pub record TablesAfter : Type 0 where
  pub number : ℕ
  pub line : ℕ
  pub table : List ℕ
  pub scratch : List ℕ

abbrev pub tables_after : ℕ → ℕ → List ℕ → List ℕ → TablesAfter
tables_after number line t s = record { number = number; line = line; table = t; scratch = s }

-- "Refused .. readers, past the length test, leave the table all 255."
abbrev pub refused : ℕ → ℕ → List ℕ → List ℕ → TablesAfter
refused number line t s = tables_after number line (cleared_of t) (cleared_of s)

-- u is read; "otherwise scratch ends all 255"
abbrev pub accepted : List ℕ → List ℕ → TablesAfter
accepted u s = tables_after 0 0 u (cleared_of s)

-- "then 11"
abbrev pub end_full : List ℕ → List ℕ → Lines → TablesAfter
end_full t s (Fault number line) = refused number line t s
end_full t s (Read rs u) = unless (is_grown u) (refused 11 0 t s) (accepted u s)

-- "A reader is lent a table and a scratch table of equal length. Lengths that don't fit are refused with both untouched"
unfoldable pub read_full_of : List ℕ → List ℕ → List ℕ → TablesAfter
read_full_of t s f = unless (lengths_fit t s) (tables_after 1 0 t s) (end_full t s (read_lines f (cleared_of t)))

-- "12: grown, but a redundant record was kept in a reduced file": one of the file's records rs is redundant in the table with all of them
abbrev pub end_restored : List ℕ → List ℕ → List Record → Restored → TablesAfter
end_restored t s rs (Stopped number) = refused number 0 t s
end_restored t s rs (With u) = unless (is_grown u) (refused 11 0 t s) (cond (some_of (redundant u) rs) (refused 12 0 t s) (accepted u s))

-- "then restoring ..; then 11, 12"
abbrev pub end_reduced : List ℕ → List ℕ → Lines → TablesAfter
end_reduced t s (Fault number line) = refused number line t s
end_reduced t s (Read rs u) = end_restored t s rs (restore_all rs (With u))

unfoldable pub read_reduced_of : List ℕ → List ℕ → List ℕ → TablesAfter
read_reduced_of t s f = unless (lengths_fit t s) (tables_after 1 0 t s) (end_reduced t s (read_lines f (cleared_of t)))
