-- Document 01, "Files": a record's line. What the promises cite: `line_of` the line of a record, `lines` those of several, `line_at` the line at a
-- position of any bytes. `point_text`, `star_text` its halves, as written · `place_at`, `star_at`, `spelled_at` the same as read, valid or not.
-- Assumes nothing.
use Rattle.std.specs.Prelude.{cond, List, [], ◌∷◌, ◌++◌, ℕ, leb, length, Option, Some, None}
use Rattle.lattice.specs.Points.{pt}
use Rattle.lattice.specs.Records.{valid_of}
use Rattle.lattice.specs.declared.points.Point.{Point}
use Rattle.lattice.specs.declared.records.Record.{Record}
use Rattle.text.specs.Decimal.{digits, numeral, ended, tab, feed}
use Rattle.text.specs.Reading.{number_at, signed_at}
use Rattle.text.specs.declared.line.Line.{Line}
use Rattle.text.specs.declared.line.Line.TheVariants.{Good, Bad, End}

-- ---- written

-- a, b, m, each with a tab after it
unfoldable pub point_text : Point → List ℕ
point_text p = ended (numeral p.a) tab ++ (ended (numeral p.b) tab ++ ended (digits p.m.0) tab)

-- d and k, each with a tab after it, and n with the line feed
unfoldable pub star_text : ℕ → ℕ → ℕ → List ℕ
star_text d k n = ended (digits d) tab ++ (ended (digits k) tab ++ ended (digits n) feed)

-- "One record a line: a, b, m, d, k, n in decimal, parted by single tabs, ended by a line feed."
unfoldable pub line_of : Record → List ℕ
line_of r = point_text r.at ++ star_text r.d r.k r.n.0

-- the lines of several records
unfoldable pub lines : List Record → List ℕ
lines [] = []
lines (r ∷ rs) = line_of r ++ lines rs

-- ---- read

-- the most that a numerator, and any other field, is read as
-- they have no effect on `line_at`: what it parses is the lines of valid records, whole (LineLaws: `line_write`, `Line-read`, `line-bad`)
abbrev pub far : ℕ
far = 9999999

abbrev pub near : ℕ
near = 255

-- what a part and the position past it make, in order; `none` where there is no such part
abbrev pub on_read : {A X : Type 0} → Option (A × ℕ) → X → (A → ℕ → X) → X
on_read None none f = none
on_read (Some (a, q)) none f = f a q

-- a, b and m, each ended by a tab
unfoldable pub place_at : List ℕ → ℕ → Option (Point × ℕ)
place_at t p =
    on_read (signed_at t p far tab) None λ a past-a.
    on_read (signed_at t past-a far tab) None λ b past-b.
    on_read (number_at t past-b near tab) None λ m past-m.
    Some (pt a b m, past-m)

-- the record of the vertex at p
abbrev pub rec : Point → ℕ → ℕ → ℕ → Record
rec p d k n = record { at = p; d = d; k = k; n = record { 0 = n } }

-- d and k, each ended by a tab, and n, ended by the line feed
unfoldable pub star_at : List ℕ → ℕ → Point → Option (Record × ℕ)
star_at t q p =
    on_read (number_at t q near tab) None λ d past-d.
    on_read (number_at t past-d near tab) None λ k past-k.
    on_read (number_at t past-k near feed) None λ n next.
    Some (rec p d k n, next)

-- within a file a record stands, or no line of one
abbrev pub good_or_bad : Option (Record × ℕ) → Line
good_or_bad None = Bad
good_or_bad (Some (r, next)) = Good r next

-- the line at p, its record valid or not
unfoldable pub spelled_at : List ℕ → ℕ → Line
spelled_at t p = cond (leb (length t) p) End (good_or_bad (on_read (place_at t p) None λ at past-m. star_at t past-m at))

-- "record not valid"
abbrev pub judged : Line → Line
judged End = End
judged Bad = Bad
judged (Good r next) = cond (valid_of r) (Good r next) Bad

-- the line of a valid record at p; "line malformed or record not valid" is Bad
unfoldable pub line_at : List ℕ → ℕ → Line
line_at t p = judged (spelled_at t p)
