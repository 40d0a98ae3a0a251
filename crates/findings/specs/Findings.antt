-- Document 02, ticket 1: the findings list joined with the plan. What the promise cites: `join_of`.
-- `entry_at` a line of the list · `Listing`, `read_list` all of them, or the first malformed one · `point_of` where a finding is · `standing`, `lost` the
-- findings of the vertices, and those of none · `stands_text`, `lost_text` their lines · `joined` the joined list · `JoinAfter`, `join_of` what the call does.
-- Assumes nothing.
use Rattle.std.specs.Prelude.{Bool, cond, ◌&&◌, ◌||◌, not, List, [], ◌∷◌, ◌++◌, ℕ, zero, suc, ◌+◌, eqb, ltb, leb, length, drop, Result, Ok, Err}
use Rattle.laws.specs.Choices.{unless}
use Rattle.lattice.specs.Points.{normal_of}
use Rattle.lattice.specs.declared.points.Point.{Point}
use Rattle.lattice.specs.declared.records.Record.{Record}
use Rattle.lattice.specs.declared.refusals.Fault.{Fault}
use Rattle.table.specs.Search.{same_point}
use Rattle.table.specs.Order.{in_order_of}
use Rattle.table.specs.Entries.{holds, records_of}
use Rattle.text.specs.Decimal.{digits, ended, tab, feed}
use Rattle.text.specs.Reading.{begins, number_at}
use Rattle.text.specs.Limits.{in_limits}
use Rattle.text.specs.Line.{point_text, on_read, place_at}
use Rattle.writers.specs.Files.{sorted, put_of}
use Rattle.findings.specs.declared.line.Finding.{Finding}
use Rattle.findings.specs.declared.line.Entry.{Entry}
use Rattle.findings.specs.declared.line.Entry.TheVariants.{Good, Bad, End}

-- ---- a line of the list

-- "number 1 to 999,999 (repeats allowed), a and b within 1,000,000 either way, m 0 to 12, and a note of 0 to 80 bytes without tab": of the point `in_limits`
abbrev pub most_number : ℕ
most_number = 999999

abbrev pub longest_note : ℕ
longest_note = 80

-- "without tab", and the line feed ends the line
abbrev pub breaks : ℕ → Bool
breaks c = eqb c tab || eqb c feed

-- the bytes up to the next of these
unfoldable pub note_run : List ℕ → List ℕ
note_run [] = []
note_run (c ∷ xs) = let rest = note_run xs in cond (breaks c) [] (c ∷ rest)

-- "a note of 0 to 80 bytes": that at position p
abbrev pub note_at : List ℕ → ℕ → List ℕ
note_at l p = note_run (drop p l)

-- it is not too long, and the line feed ends it
abbrev pub ends_line : List ℕ → ℕ → Bool
ends_line l p = begins feed (drop (p + length (note_at l p)) l) && leb (length (note_at l p)) longest_note

-- the finding whose line begins at `from`: its number, its point as written, where its note stands and where the next line
abbrev pub finding : ℕ → Point → ℕ → ℕ → ℕ → Finding
finding number p from note next = record { number = number; at = p; from = from; note = note; next = next }

-- what stands behind the point of the line at `from`
abbrev pub noted_at : List ℕ → ℕ → ℕ → Point → ℕ → Entry
noted_at l from number p note =
    cond (ltb 0 number && (in_limits p && ends_line l note)) (Good (finding number p from note (note + length (note_at l note) + 1))) Bad

-- what stands behind its number: a point as in document 01's files, which are read beyond the limits, so the limits decide
unfoldable pub numbered_at : List ℕ → ℕ → ℕ → ℕ → Entry
numbered_at l from number past = on_read (place_at l past) Bad (noted_at l from number)

-- "one line each, tabs between, numbers as in Document 01's files"
unfoldable pub entry_at : List ℕ → ℕ → Entry
unfolding numbered_at
entry_at l from = cond (leb (length l) from) End (on_read (number_at l from most_number tab) Bad (numbered_at l from))

-- ---- the list

-- its findings, in its order; or the first malformed line
pub data Listing : Type 0 where
  Sound : List Finding → Listing
  Faulty : ℕ → Listing

-- a finding and the lines that follow it
abbrev pub ahead : Finding → Listing → Listing
ahead f (Sound fs) = Sound (f ∷ fs)
ahead f (Faulty line) = Faulty line

-- what stands at line i; `rest f` the lines that follow
abbrev pub entry_read : ℕ → (Finding → Listing) → Entry → Listing
entry_read i rest End = Sound []
entry_read i rest Bad = Faulty i
entry_read i rest (Good f) = ahead f (rest f)

-- the lines from position p on, of which the first is line i: no more than so many are left
unfoldable pub list_from : List ℕ → ℕ → ℕ → ℕ → Listing
list_from l zero p i = Sound []
list_from l (suc left) p i = entry_read i (λ f. list_from l left f.next (i + 1)) (entry_at l p)

-- a line has a byte at least, so a list has no more lines than bytes
abbrev pub read_list : List ℕ → Listing
read_list l = list_from l (length l) 0 1

-- ---- the joined list

-- "however its point is spelled"
abbrev pub point_of : Finding → Point
point_of f = normal_of f.at.a f.at.b f.at.m.0

-- the findings that pass a test, in their order
unfoldable pub keep : (Finding → Bool) → List Finding → List Finding
keep test [] = []
keep test (f ∷ fs) = let rest = keep test fs in cond (test f) (f ∷ rest) rest

-- the findings of the vertex at p, "in list order"
abbrev pub findings_at : Point → List Finding → List Finding
findings_at p fs = keep (λ f. same_point (point_of f) p) fs

-- "for each vertex .., its findings"
unfoldable pub findings_of : List Record → List Finding → List Finding
findings_of [] fs = []
findings_of (r ∷ rs) fs = findings_at r.at fs ++ findings_of rs fs

-- "for each vertex in full-file order, its findings in list order"
abbrev pub standing : List ℕ → List Finding → List Finding
standing t fs = findings_of (sorted (records_of t)) fs

-- "after them, in list order, the findings whose point has no vertex"
abbrev pub lost : List ℕ → List Finding → List Finding
lost t fs = keep (λ f. not (holds t (point_of f))) fs

-- number and note, the end of both kinds of line
unfoldable pub tail_text : List ℕ → Finding → List ℕ
tail_text l f = ended (digits f.number) tab ++ ended (note_at l f.note) feed

-- "as the normalised point, number and note, tabs between"
unfoldable pub stands_text : List ℕ → Finding → List ℕ
stands_text l f = point_text (point_of f) ++ tail_text l f

-- "one `?`"
abbrev pub question : ℕ
question = 63

-- "with one `?` in place of the three coordinates"
unfoldable pub lost_text : List ℕ → Finding → List ℕ
lost_text l f = ended (question ∷ []) tab ++ tail_text l f

-- the lines of several
unfoldable pub texts : (Finding → List ℕ) → List Finding → List ℕ
texts text [] = []
texts text (f ∷ fs) = text f ++ texts text fs

-- "Write the joined list": the lines of the vertices' findings; "after them" those of the others
unfoldable pub joined : List ℕ → List ℕ → List Finding → List ℕ
joined t l fs = texts (stands_text l) (standing t fs) ++ texts (lost_text l) (lost t fs)

-- ---- the call

-- "15 .. (with its number)": the call's number and the malformed line, how many bytes are written, and the output after
pub record JoinAfter : Type 0 where
  pub number : ℕ
  pub line : ℕ
  pub bytes : ℕ
  pub out : List ℕ

-- how many bytes are written; none where the call is refused
abbrev pub written : Result ℕ Fault → ℕ
written (Ok bytes) = bytes
written (Err fault) = 0

abbrev pub join_after : ℕ → ℕ → ℕ → List ℕ → JoinAfter
join_after number line bytes out = record { number = number; line = line; bytes = bytes; out = out }

-- where a line is malformed this answer, else what stands below
abbrev pub unless_faulty : Listing → (ℕ → JoinAfter) → (List Finding → JoinAfter) → JoinAfter
unless_faulty (Faulty line) refusal rest = refusal line
unless_faulty (Sound fs) refusal rest = rest fs

-- "then 13; output unchanged": as the writers put a file
unfoldable pub put_joined : List ℕ → List ℕ → JoinAfter
unfolding put_of
put_joined text out = let put = put_of text out in join_after put.number 0 put.bytes put.out

-- "Refusals: 1, then 15 for a malformed findings line (with its number), then 13"
unfoldable pub join_of : List ℕ → List ℕ → List ℕ → JoinAfter
unfolding put_joined
join_of t l out =
    unless (in_order_of t) (join_after 1 0 0 out) (
    unless_faulty (read_list l) (λ line. join_after 15 line 0 out) λ fs.
    put_joined (joined t l fs) out)
