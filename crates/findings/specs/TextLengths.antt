-- How long the lines out are. `tail-long`, `stands-long`, `lost-long` by their parts · `stands-least` the shortest ·
-- `tail-most`, `stands-most`, `lost-most` no line out is longer than its line in, and a lost one is shorter.
-- Assumes nothing.
use Rattle.std.specs.Prelude.{◌≡◌, List, [], ◌∷◌, ◌++◌, ℕ, ◌+◌, ◌-◌, ◌≤◌, ◌<◌, length}
use native.Mathlib.Omega.{arith}
use Rattle.std.proofs.Math.ListN.{length-append}
use Rattle.text.specs.Decimal.{digits, ended, tab, feed}
use Rattle.text.specs.DecimalLaws.{digits-some, width-below}
use Rattle.text.specs.Line.{point_text}
use Rattle.text.specs.LineLengths.{point-least}
use Rattle.text.specs.Shorter.{point-shrinks}
use Rattle.findings.specs.Findings.{question, note_at, point_of, tail_text, stands_text, lost_text}
use Rattle.findings.specs.EntryLaws.{shortest_line, InList, finding_text, entry_read_lem, note-size}
use Rattle.findings.specs.declared.line.Finding.{Finding}

module _ (l : List ℕ) (f : Finding) where
  tail-fields : length (tail_text l f) ≡ length (digits f.number) + 1 + length (ended (note_at l f.note) feed)
  unfolding tail_text
  tail-fields =
      omega (
        arith,
        length-append (ended (digits f.number) tab) (ended (note_at l f.note) feed),
        length-append (digits f.number) (tab ∷ []),
      )

  pub stands-long : length (stands_text l f) ≡ length (point_text (point_of f)) + length (tail_text l f)
  unfolding stands_text
  stands-long = length-append (point_text (point_of f)) (tail_text l f)

  pub lost-long : length (lost_text l f) ≡ 2 + length (tail_text l f)
  unfolding lost_text
  lost-long = length-append (ended (question ∷ []) tab) (tail_text l f)

  pub stands-least : shortest_line ≤ length (stands_text l f)
  stands-least =
      omega (
        arith,
        stands-long,
        tail-fields,
        point-least (point_of f),
        digits-some f.number,
        length-append (note_at l f.note) (feed ∷ []),
      )

-- six digits and a tab, a note of eighty bytes and a line feed
abbrev pub longest_tail : ℕ
longest_tail = 88

-- of a finding of the list
module _ (l : List ℕ) (f : Finding) (e : InList l f) where
  pub tail-long : length (tail_text l f) ≡ length (digits f.number) + 1 + (f.next - f.note)
  tail-long = omega (arith, tail-fields l f, (note-size l f e).1)

  pub tail-most : length (tail_text l f) ≤ longest_tail
  tail-most =
      let g = (entry_read_lem l f.from f e).good in
      let w = width-below 6 f.number (omega arith) (omega (arith, g.high)) in
      omega (arith, tail-fields l f, g.short, w, length-append (note_at l f.note) (feed ∷ []))

  -- number, point as spelled, note
  line-in : f.next ≡ f.from + (length (point_text f.at) + length (tail_text l f))
  unfolding finding_text
  line-in =
      let s = (entry_read_lem l f.from f e).line in
      let tn = ended (digits f.number) tab in
      let tp = point_text f.at in
      let te = ended (note_at l f.note) feed in
      omega (
        arith,
        s.past,
        tail-fields l f,
        length-append tn (tp ++ te),
        length-append tp te,
        length-append (digits f.number) (tab ∷ []),
      )

  pub stands-most : f.from + length (stands_text l f) ≤ f.next
  stands-most = omega (arith, line-in, stands-long l f, point-shrinks f.at.m.0 f.at.a f.at.b)

  pub lost-most : f.from + length (lost_text l f) < f.next
  lost-most = omega (arith, line-in, lost-long l f, point-least f.at)
