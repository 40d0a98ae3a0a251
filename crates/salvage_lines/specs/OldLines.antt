-- Document 02, ticket 12: the lines of an old file. "drops malformed lines, normalises .. Line form is Document 01's; any |a|, |b| up to 1,000,000 and m up
-- to 12
-- may be normalised, and k up to 11; what is then not a valid record counts as malformed."
-- `may_normalise`, `tidied` a record normalised · `piece_at` what is salvaged of a line · `OldLine`, `salvaged` the lines of a file, `kept` their records ·
-- `clashes` number 20.
-- Assumes nothing.
use Rattle.std.specs.Prelude.{Bool, cond, ◌&&◌, not, List, [], ◌∷◌, ◌++◌, ℕ, zero, suc, ◌+◌, ◌%◌, eqb, leb, length, drop}
use Rattle.laws.specs.Some.{some_of}
use Rattle.lattice.specs.Points.{normal_of}
use Rattle.lattice.specs.Records.{valid_of}
use Rattle.lattice.specs.declared.records.Record.{Record}
use Rattle.table.specs.Search.{same_point}
use Rattle.text.specs.Decimal.{feed}
use Rattle.text.specs.Limits.{in_limits}
use Rattle.text.specs.Line.{rec, spelled_at}
use Rattle.text.specs.declared.line.Line.{Line}
use Rattle.text.specs.declared.line.Line.TheVariants.{Good, Bad, End}
use Rattle.salvage_lines.specs.declared.line.Piece.{Piece}
use Rattle.salvage_lines.specs.declared.line.Piece.TheVariants as piece

-- ---- a line

-- "any |a|, |b| up to 1,000,000 and m up to 12 may be normalised, and k up to 11": a record as it is written
abbrev pub may_normalise : Record → Bool
may_normalise r = in_limits r.at && leb r.k 11

-- the orientation, normalised: a star of degree 3 looks the same four steps on, one of degree 6 two (document 000, "Normalized representation")
unfoldable pub orientation_of : ℕ → ℕ → ℕ
orientation_of d k = cond (eqb d 3) (k % 4) (cond (eqb d 6) (k % 2) k)

-- "normalises": the point and the orientation
unfoldable pub tidied : Record → Record
unfolding orientation_of
tidied r = rec (normal_of r.at.a r.at.b r.at.m.0) r.d (orientation_of r.d r.k) r.n.0

-- all six numbers are equal
unfoldable pub same_record : Record → Record → Bool
same_record r q = same_point r.at q.at && (eqb r.d q.d && (eqb r.k q.k && eqb r.n.0 q.n.0))

-- the bytes up to the line feed, and with it; all of them where there is none
unfoldable pub line_span : List ℕ → ℕ
line_span [] = 0
line_span (c ∷ xs) = let rest = line_span xs in cond (eqb c feed) 1 (suc rest)

-- where the line at p ends
unfoldable pub past_line : List ℕ → ℕ → ℕ
unfolding line_span
past_line f p = p + line_span (drop p f)

-- "what is then not a valid record counts as malformed"
abbrev pub judged_piece : Record → ℕ → Piece
judged_piece r next = cond (may_normalise r && valid_of (tidied r)) (piece.Kept (tidied r) (not (same_record r (tidied r))) next) (piece.Dropped next)

abbrev pub piece_of : List ℕ → ℕ → Line → Piece
piece_of f p End = piece.Over
piece_of f p Bad = piece.Dropped (past_line f p)
piece_of f p (Good r next) = judged_piece r next

-- "Line form is Document 01's": what is salvaged of the line at p. A field is read beyond the limits, so the limits decide
unfoldable pub piece_at : List ℕ → ℕ → Piece
piece_at f p = piece_of f p (spelled_at f p)

-- ---- the lines of a file

-- a line: "drops malformed lines"; or its record, and whether normalising changed a number of it
pub data OldLine : Type 0 where
  Dropped : OldLine
  Kept : Record → Bool → OldLine

abbrev pub piece_then : (ℕ → List OldLine) → Piece → List OldLine
piece_then rest piece.Over = []
piece_then rest (piece.Dropped next) = Dropped ∷ rest next
piece_then rest (piece.Kept r changed next) = Kept r changed ∷ rest next

-- the lines from p on, of which there are no more than so many
unfoldable pub salvaged_from : List ℕ → ℕ → ℕ → List OldLine
salvaged_from f zero p = []
salvaged_from f (suc left) p = piece_then (λ next. salvaged_from f left next) (piece_at f p)

-- a line has a byte at least, so a file has no more lines than bytes
abbrev pub salvaged : List ℕ → List OldLine
salvaged f = salvaged_from f (length f) 0

-- the records of the lines that are not dropped, in file order
abbrev pub record_in : OldLine → List Record
record_in Dropped = []
record_in (Kept r changed) = r ∷ []

unfoldable pub kept : List OldLine → List Record
kept [] = []
kept (m ∷ ms) = record_in m ++ kept ms

-- ---- "20 for one point with two different records"

abbrev pub clash : Record → Record → Bool
clash r q = same_point r.at q.at && not (same_record r q)

unfoldable pub clashes : List Record → Bool
clashes rs = some_of (λ r. some_of (clash r) rs) rs
