-- Document 01, "Files": what a reader meets on a line of a file. `numbered` with the line's number, `met_at` at a position of any bytes.
-- Assumes nothing.
use Rattle.std.specs.Prelude.{List, ℕ, ◌+◌}
use Rattle.text.specs.Line.{line_at}
use Rattle.text.specs.declared.line.Line.{Line}
use Rattle.text.specs.declared.line.Line.TheVariants.{Good, Bad, End}
use Rattle.reader.specs.declared.Met.{Met}
use Rattle.reader.specs.declared.Met.TheVariants.{Entry, Fault, Over}

-- "knows the line it is on": line i is at fault, or it is followed by line i + 1
abbrev pub numbered : ℕ → Line → Met
numbered i End = Over
numbered i Bad = Fault i
numbered i (Good r next) = Entry r next (i + 1)

-- "reads the lent file line by line": line i of file f begins at p
abbrev pub met_at : List ℕ → ℕ → ℕ → Met
met_at f p i = numbered i (line_at f p)
