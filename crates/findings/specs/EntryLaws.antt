-- Why a finding's line is one format: `finding_text` the line, `Writable` what it may hold. A written line is read back (`entry-write`), and only a written
-- line is read (`entry_read_lem`): `Reads` says where it and its note stand. `InList` a finding of the list · `entry-from`, `entry_in`, `entry_next` where it
-- stands, and how far its line goes · `note-part` its note with the line feed, as a part of the list.
-- Assumes nothing.
use Rattle.std.specs.Prelude.{◌≡◌, Bool, ◌&&◌, ◌||◌, List, [], ◌∷◌, ◌++◌, ℕ, ◌+◌, ◌-◌, ◌≤◌, ◌<◌, ltb, nat_abs, take, drop, Option, Some, None}
use Rattle.std.proofs.Math.Path.{refl, subst, ap}
use Rattle.std.proofs.Common.{sym, ◌∙◌, arith}
use Rattle.std.proofs.Math.Bool.{true, false, cond}
use borrow.Author.Tests.{le-leb, lt-leb, lt-ltb, ltb-true, leb-true}
use Rattle.std.proofs.Math.Dec.{leb}
use Rattle.std.proofs.Math.ListN.{length, length-append, length-drop}
use Rattle.std.proofs.Math.Seq.{append_snoc, take-append_seam}
use Rattle.laws.specs.Each.{never, both_left, both_right}
use Rattle.laws.specs.Some.{some_of}
use Rattle.lattice.specs.declared.points.Point.{Point}
use Rattle.text.specs.Decimal.{digits, ended, tab, feed}
use Rattle.text.specs.DecimalLaws.{digits-some}
use Rattle.text.specs.Reading.{begins, number_at}
use Rattle.text.specs.ReadingLaws.{
  Stands,
  stands_at,
  stands-rest,
  stands-join,
  stands-first,
  stands-then,
  stands-byte,
  byte-stands,
  number-most,
  number_read,
  number-write,
}
use Rattle.text.specs.Limits.{farthest, deepest, in_limits}
use Rattle.text.specs.Line.{point_text, on_read, place_at}
use Rattle.text.specs.LineLaws.{place-write, place_read, stands-within}
use Rattle.text.specs.LineLengths.{point-least}
use Rattle.findings.specs.Findings.{
  most_number,
  longest_note,
  breaks,
  note_run,
  note_at,
  ends_line,
  finding,
  noted_at,
  numbered_at,
  entry_at,
}
use Rattle.findings.specs.declared.line.Finding.{Finding}
use Rattle.findings.specs.declared.line.Entry.TheVariants.{Good, Bad, End}

-- ---- the line, written

-- number, point as spelled and note, tabs between
unfoldable pub finding_text : ℕ → Point → List ℕ → List ℕ
finding_text number p note = ended (digits number) tab ++ (point_text p ++ ended note feed)

-- what a line may hold: the ticket's limits
pub record Writable (number : ℕ) (p : Point) (note : List ℕ) : Type 0 where
  pub low : 0 < number
  pub high : number ≤ most_number
  pub near : in_limits p ≡ true
  pub short : length note ≤ longest_note
  pub whole : some_of breaks note ≡ false

-- a number, three coordinates, and five bytes between and after
abbrev pub shortest_line : ℕ
shortest_line = 9

-- f is a finding of the list: its line stands there
abbrev pub InList : List ℕ → Finding → Type 0
InList l f = entry_at l f.from ≡ Good f

-- ---- a written line is read back

or-false : (b c : Bool) → (b || c) ≡ false → (b ≡ false) × (c ≡ false)
or-false true c h = absurd (never (sym h))
or-false false c h = (refl, h)

note-all : (note rest : List ℕ) → some_of breaks note ≡ false → note_run (note ++ feed ∷ rest) ≡ note
unfolding note_run
note-all [] rest h = refl
note-all (c ∷ xs) rest h = let w = or-false (breaks c) (some_of breaks xs) h in rw w.0 (ap (λ (l : List ℕ). c ∷ l) (note-all xs rest w.1))

within-limits : (p : Point) → in_limits p ≡ true → (nat_abs p.a ≤ farthest) × (nat_abs p.b ≤ farthest) × (p.m.0 ≤ deepest)
within-limits p h =
    let rest = leb (nat_abs p.b) farthest && leb p.m.0 deepest in
    let k = both_right (leb (nat_abs p.a) farthest) rest h in (
      leb-true (nat_abs p.a) farthest (both_left (leb (nat_abs p.a) farthest) rest h),
      leb-true (nat_abs p.b) farthest (both_left (leb (nat_abs p.b) farthest) (leb p.m.0 deepest) k),
      leb-true p.m.0 deepest (both_right (leb (nat_abs p.b) farthest) (leb p.m.0 deepest) k),
    )

pub entry-write : (l : List ℕ) (from next number : ℕ) (p : Point) (note : List ℕ) → Writable number p note → Stands l from (finding_text number p note) next
    → entry_at l from ≡ Good (finding number p from (from + length (ended (digits number) tab) + length (point_text p)) next)
unfolding entry_at finding_text
entry-write l from next number p note w s =
    let tn = ended (digits number) tab in
    let tp = point_text p in
    let te = ended note feed in
    let past = from + length tn in
    let at = past + length tp in
    let rest = stands-then tn (tp ++ te) s in
    let s₃ = stands-then tp te rest in
    let whole : drop at l ≡ note ++ feed ∷ drop next l = s₃.here ∙ append_snoc note feed (drop next l) in
    let spelt : note_at l at ≡ note = ap note_run whole ∙ note-all note (drop next l) w.whole in
    let met : begins feed (drop (at + length note) l) ≡ true
    = byte-stands l (at + length note) feed (drop next l) (stands-rest l note (feed ∷ drop next l) at whole) in
    let end : at + length note + 1 ≡ next = omega (arith, s₃.past, length-append note (feed ∷ [])) in
    let within : from < length l = stands-within s (omega (arith, length-append tn (tp ++ te), length-append tp te, point-least p)) in
    let limits = within-limits p w.near in
    rw (
      lt-leb (length l) from within,
      number-write l from most_number tab number _ refl w.high (stands-first tn (tp ++ te) s),
      place-write l past _ p (omega (arith, limits.0)) (omega (arith, limits.1)) (omega (arith, limits.2)) (stands-first tp te rest),
      spelt,
      met,
      lt-ltb 0 number w.low,
      w.near,
      le-leb (length note) longest_note w.short,
    )
    (ap (λ (k : ℕ). Good (finding number p from at k)) end)

-- ---- only a written line is read

-- what stands where the finding f is read
pub record Reads (l : List ℕ) (from : ℕ) (f : Finding) : Type 0 where
  pub starts : f.from ≡ from
  pub line : Stands l from (finding_text f.number f.at (note_at l f.note)) f.next
  pub note : Stands l f.note (ended (note_at l f.note) feed) f.next
  pub good : Writable f.number f.at (note_at l f.note)

note-front : (xs : List ℕ) → xs ≡ note_run xs ++ drop (length (note_run xs)) xs
unfolding note_run
note-front [] = refl
note-front (c ∷ xs) = go (breaks c) (note-front xs)
  where
    go : (b : Bool) → xs ≡ note_run xs ++ drop (length (note_run xs)) xs
        → c ∷ xs ≡ cond b [] (c ∷ note_run xs) ++ drop (length (cond b [] (c ∷ note_run xs))) (c ∷ xs)
    go true e = refl
    go false e = ap (λ (l : List ℕ). c ∷ l) e

note-whole : (xs : List ℕ) → some_of breaks (note_run xs) ≡ false
unfolding note_run
note-whole [] = refl
note-whole (c ∷ xs) = go (breaks c) refl (note-whole xs)
  where
    go : (b : Bool) → breaks c ≡ b → some_of breaks (note_run xs) ≡ false → some_of breaks (cond b [] (c ∷ note_run xs)) ≡ false
    go true e h = refl
    go false e h = rw (e, h)

pub good-is : {f g : Finding} → Good f ≡ Good g → f ≡ g
good-is e = cc

not-bad : {X : Type 0} {f : Finding} → Bad ≡ Good f → X
not-bad e = absurd (let z : ◌≡◌ {A = ℕ} 0 1 = cc in omega arith)

not_end : {X : Type 0} {f : Finding} → End ≡ Good f → X
not_end e = absurd (let z : ◌≡◌ {A = ℕ} 0 1 = cc in omega arith)

module _ (l : List ℕ) (from : ℕ) (f : Finding) where
  -- its number, its point and its note, each where the one before ends
  whole-read : (number past : ℕ) (p : Point) (note : ℕ) → number_at l from most_number tab ≡ Some (number, past) → place_at l past ≡ Some (p, note)
      → (ltb 0 number && (in_limits p && ends_line l note)) ≡ true → Reads l from (finding number p from note (note + length (note_at l note) + 1))
  unfolding finding_text
  whole-read number past p note en ep h =
      let met = begins feed (drop (note + length (note_at l note)) l) in
      let size = leb (length (note_at l note)) longest_note in
      let k = both_right (ltb 0 number) (in_limits p && (met && size)) h in
      let e = both_right (in_limits p) (met && size) k in
      let front = stands_at l (note_at l note) (drop (length (note_at l note)) (drop note l)) note (note-front (drop note l)) in
      let end = stands-join front (stands-byte l (note + length (note_at l note)) feed (both_left met size e)) in
      record {
        starts = refl;
        line = stands-join (number_read l from most_number tab number past en) (stands-join (place_read l past note p ep) end);
        note = end;
        good =
            record {
              low = ltb-true 0 number (both_left (ltb 0 number) (in_limits p && (met && size)) h);
              high = number-most l from most_number tab number past en;
              near = both_left (in_limits p) (met && size) k;
              short = leb-true (length (note_at l note)) longest_note (both_right met size e);
              whole = note-whole (drop note l);
            };
      }

  pub entry_read_lem : entry_at l from ≡ Good f → Reads l from f
  unfolding entry_at
  entry_read_lem = go (leb (length l) from) (number_at l from most_number tab) refl
    where
      ends : (number past : ℕ) (p : Point) (note : ℕ) (b : Bool) → number_at l from most_number tab ≡ Some (number, past) → place_at l past ≡ Some (p, note)
          → (ltb 0 number && (in_limits p && ends_line l note)) ≡ b → cond b (Good (finding number p from note (note + length (note_at l note) + 1))) Bad ≡ Good f
          → Reads l from f
      ends number past p note true en ep t h = subst (Reads l from) (good-is h) (whole-read number past p note en ep t)
      ends number past p note false en ep t h = not-bad h

      place : (number past : ℕ) (x : Option (Point × ℕ)) → number_at l from most_number tab ≡ Some (number, past) → place_at l past ≡ x
          → on_read x Bad (noted_at l from number) ≡ Good f → Reads l from f
      place number past None en ep h = not-bad h
      place number past (Some (p, note)) en ep h = ends number past p note (ltb 0 number && (in_limits p && ends_line l note)) en ep refl h

      go : (b : Bool) (n : Option (ℕ × ℕ)) → number_at l from most_number tab ≡ n
          → cond b End (on_read n Bad (numbered_at l from)) ≡ Good f → Reads l from f
      go true n en h = not_end h
      go false None en h = not-bad h
      go false (Some (number, past)) en h = place number past (place_at l past) en refl h

-- ---- a finding of the list

module _ (l : List ℕ) (from : ℕ) (f : Finding) (e : entry_at l from ≡ Good f) where
  pub entry-from : f.from ≡ from
  entry-from = (entry_read_lem l from f e).starts

  pub entry_in : InList l f
  entry_in = ap (entry_at l) entry-from ∙ e

  -- a reader that takes a line comes on by so many bytes or more, and stays within the list
  pub entry_next : (from + shortest_line ≤ f.next) × (f.next ≤ length l)
  unfolding finding_text
  entry_next =
      let r = entry_read_lem l from f e in
      let s = r.line in
      let note = note_at l f.note in
      let tn = ended (digits f.number) tab in
      let tp = point_text f.at in
      let te = ended note feed in
      let whole = finding_text f.number f.at note in
      let n₁ = length-append tn (tp ++ te) in
      let n₂ = length-append tp te in
      let n₃ = length-append note (feed ∷ []) in
      let n₄ = length-append (digits f.number) (tab ∷ []) in
      let least : shortest_line ≤ length whole = omega (arith, n₁, n₂, n₃, n₄, point-least f.at, digits-some f.number) in
      let within = stands-within s (omega arith) in
      (omega (arith, s.past), omega (arith, s.past, ap length s.here, length-append whole (drop f.next l), length-drop from l))

module _ (l : List ℕ) (f : Finding) (e : InList l f) where
  -- where its note stands, with the line feed
  pub note-size : (f.note ≤ f.next) × (f.next - f.note ≡ length (ended (note_at l f.note) feed))
  note-size = let s = (entry_read_lem l f.from f e).note in (omega (arith, s.past), omega (arith, s.past))

  pub note-part : take (f.next - f.note) (drop f.note l) ≡ ended (note_at l f.note) feed
  note-part =
      let s = (entry_read_lem l f.from f e).note in
      let xs = ended (note_at l f.note) feed in
      (λ i. take (note-size.1 i) (s.here i)) ∙ take-append_seam xs (drop f.next l)
