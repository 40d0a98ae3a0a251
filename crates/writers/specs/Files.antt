-- Document 01, "Files": the full and the reduced file of a table, and what the writers do. What the promises cite: `write_full_of`, `write_reduced_of`.
-- `before` the order of lines, `sorted` records in it · `full_file` · `redundant` the records that the reduced file leaves out, `reduced_file` ·
-- `OutputAfter`, `write_of` a file written, or refused, `bytes_told`.
-- Assumes nothing.
use Rattle.std.specs.Prelude.{Bool, cond, ◌&&◌, List, [], ◌∷◌, ◌++◌, ℕ, eqb, ltb, length, drop, Result, Ok, Err}
use Rattle.laws.specs.Choices.{unless}
use Rattle.laws.specs.Rules.{among}
use Rattle.laws.specs.Some.{some_of}
use Rattle.lattice.specs.Stars.{adjacent_at}
use Rattle.lattice.specs.declared.points.Point.{Point}
use Rattle.lattice.specs.declared.records.Record.{Record}
use Rattle.lattice.specs.declared.refusals.Refusal.{Refusal}
use Rattle.table.specs.Search.{same_point}
use Rattle.table.specs.Order.{in_order_of}
use Rattle.table.specs.Entries.{records_of}
use Rattle.text.specs.Line.{lines}
use Rattle.text.specs.LineOrder.{earlier}
use Rattle.sorting.specs.Sorting.{sort_by}

-- "Lines rise strictly by m, then a, then b."
abbrev pub before : Record → Record → Bool
before r s = earlier r.at s.at

-- records in the order of their lines
abbrev pub sorted : List Record → List Record
sorted rs = sort_by before rs

-- "The full file has every record."
abbrev pub full_file : List ℕ → List ℕ
full_file t = lines (sorted (records_of t))

-- "adjacency read from the degree 6 star": p is one of the six adjacent points of q, and q has degree 6
abbrev pub six_names : Point → Record → Bool
six_names p q = eqb q.d 6 && among 6 (λ j. same_point (adjacent_at q j) p)

-- "each degree 3 record that is adjacent to a degree 6 record of the table"
unfoldable pub redundant : List ℕ → Record → Bool
redundant t r = eqb r.d 3 && some_of (six_names r.at) (records_of t)

-- the records of a list at which a test fails
unfoldable pub leave_out : (Record → Bool) → List Record → List Record
leave_out f [] = []
leave_out f (r ∷ rs) = let rest = leave_out f rs in cond (f r) rest (r ∷ rest)

-- "The reduced file leaves out each" of them.
abbrev pub reduced_file : List ℕ → List ℕ
reduced_file t = lines (sorted (leave_out (redundant t) (records_of t)))

-- ---- the calls

-- "Writers give the bytes written": the number, how many bytes, and the output after
pub record OutputAfter : Type 0 where
  pub number : ℕ
  pub bytes : ℕ
  pub out : List ℕ

abbrev pub output_after : ℕ → ℕ → List ℕ → OutputAfter
output_after n b o = record { number = n; bytes = b; out = o }

-- the bytes written, as a writer tells them
abbrev pub bytes_told : Result ℕ Refusal → ℕ
bytes_told (Ok bytes) = bytes
bytes_told (Err why) = 0

-- "output shorter than the file"; "Writers leave output past the file as found."
unfoldable pub put_of : List ℕ → List ℕ → OutputAfter
put_of file out = cond (ltb (length out) (length file)) (output_after 13 0 out) (output_after 0 (length file) (file ++ drop (length file) out))

-- "Writers 1, 13", "0 if refused", "Refused .. writers change no lent byte."
unfoldable pub write_of : List ℕ → List ℕ → List ℕ → OutputAfter
unfolding put_of
write_of file t out = unless (in_order_of t) (output_after 1 0 out) (put_of file out)

abbrev pub write_full_of : List ℕ → List ℕ → OutputAfter
write_full_of t out = write_of (full_file t) t out

abbrev pub write_reduced_of : List ℕ → List ℕ → OutputAfter
write_reduced_of t out = write_of (reduced_file t) t out
