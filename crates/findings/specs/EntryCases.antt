-- A finding's line taken apart as the code does it: `entry-end`, `entry-unnumbered`, `entry-numbered` the line
-- by cases, `numbered-nowhere`, `numbered-unended`, `numbered-ended` what stands behind its number · `note-unbroken`, `note-broken` where a note ends ·
-- `place-inside` where a point does.
-- Assumes nothing.
use Rattle.std.specs.Prelude.{◌≡◌, Bool, ◌&&◌, List, [], ◌∷◌, ℕ, ◌+◌, ◌≤◌, ◌<◌, get_or, drop, Option, Some, None}
use Rattle.std.specs.List.{position, position_or_len}
use Rattle.std.proofs.Math.Path.{refl, ap}
use Rattle.std.proofs.Common.{sym, ◌∙◌, le-leb, ltb-true, ltb-false, drop_of_length-le, drop-cons, length-drop, length-append, get_or-drop}
use Rattle.std.proofs.lemmas.List.Recursion.{is_position_or_len}
use Rattle.std.proofs.Math.Bool.{true, false, cond}
use native.Mathlib.Omega.{arith}
use Rattle.std.proofs.lemmas.Bool.{lt-leb}
use Rattle.std.proofs.Math.Dec.{eqb, ltb, leb}
use Rattle.std.proofs.Math.ListN.{length}
use Rattle.lattice.specs.declared.points.Point.{Point}
use Rattle.text.specs.Decimal.{tab, feed}
use Rattle.text.specs.Reading.{begins, number_at}
use Rattle.text.specs.Limits.{in_limits}
use Rattle.text.specs.Line.{point_text, place_at}
use Rattle.text.specs.LineLengths.{point-least}
use Rattle.text.specs.LineLaws.{place_read}
use Rattle.findings.specs.Findings.{most_number, longest_note, breaks, note_run, note_at, ends_line, finding, entry_at}
pub use Rattle.findings.specs.Findings.{numbered_at}
use Rattle.findings.specs.declared.line.Entry.TheVariants.{Good, Bad, End}

-- ---- where a note ends

note-long : (xs : List ℕ) → length (note_run xs) ≡ position_or_len breaks xs
unfolding note_run
note-long = is_position_or_len (λ xs. length (note_run xs)) breaks refl (λ x xs. go x (note_run xs) (breaks x))
  where
    go : (x : ℕ) (rest : List ℕ) (b : Bool) → length (cond b [] (x ∷ rest)) ≡ cond b 0 (1 + length rest)
    go x rest true = refl
    go x rest false = omega arith

pub note-unbroken : (xs : List ℕ) → None ≡ position breaks xs → length xs ≤ length (note_run xs)
note-unbroken xs e = go (ltb (position_or_len breaks xs) (length xs)) refl e
  where
    go : (b : Bool) → ltb (position_or_len breaks xs) (length xs) ≡ b → ◌≡◌ {A = Option ℕ} None (cond b (Some (position_or_len breaks xs)) None)
        → length xs ≤ length (note_run xs)
    go true h e = absurd (cc)
    go false h e = omega (arith, ltb-false (position_or_len breaks xs) (length xs) h, note-long xs)

pub note-broken : (xs : List ℕ) (n : ℕ) → Some n ≡ position breaks xs → (n ≡ length (note_run xs)) × (n < length xs)
note-broken xs n e = go (ltb (position_or_len breaks xs) (length xs)) refl e
  where
    go : (b : Bool) → ltb (position_or_len breaks xs) (length xs) ≡ b → ◌≡◌ {A = Option ℕ} (Some n) (cond b (Some (position_or_len breaks xs)) None)
        → (n ≡ length (note_run xs)) × (n < length xs)
    go true h e =
        let k : n ≡ position_or_len breaks xs = cc in
        (k ∙ sym (note-long xs), omega (arith, ltb-true (position_or_len breaks xs) (length xs) h))
    go false h e = absurd (cc)

-- the three ends of a line
module _ (l : List ℕ) (from : ℕ) where
  pub entry-end : length l ≤ from → End ≡ entry_at l from
  unfolding entry_at
  entry-end h = rw (le-leb (length l) from h)

  pub entry-unnumbered : from < length l → number_at l from most_number tab ≡ None → Bad ≡ entry_at l from
  unfolding entry_at
  entry-unnumbered h e = rw (lt-leb (length l) from h, e)

  pub entry-numbered : (number past : ℕ) → from < length l → number_at l from most_number tab ≡ Some (number, past)
      → numbered_at l from number past ≡ entry_at l from
  unfolding entry_at numbered_at
  entry-numbered number past h e = rw (lt-leb (length l) from h, e)

-- what stands behind the number, by cases: no point; a note that runs to the list's end; a note that some byte ends
module _ (l : List ℕ) (from number past : ℕ) where
  pub numbered-nowhere : place_at l past ≡ None → Bad ≡ numbered_at l from number past
  unfolding numbered_at
  numbered-nowhere e = rw e

  pub numbered-unended : (p : Point) (note : ℕ) → place_at l past ≡ Some (p, note) → note ≤ length l → None ≡ position breaks (drop note l)
      → Bad ≡ numbered_at l from number past
  unfolding numbered_at
  numbered-unended p note e h f =
      let end : length l ≤ note + length (note_at l note) = omega (arith, note-unbroken (drop note l) f, length-drop note l) in
      let off : begins feed (drop (note + length (note_at l note)) l) ≡ false
      = ap (begins feed) (drop_of_length-le l {i = note + length (note_at l note)} end) in
      rw (e, off) (go (ltb 0 number) (in_limits p))
    where
      go : (b c : Bool) → Bad ≡ cond (b && (c && false)) (Good (finding number p from note (note + length (note_at l note) + 1))) Bad
      go true true = refl
      go true false = refl
      go false c = refl

  pub numbered-ended : (p : Point) (note n : ℕ) (b : Bool) → place_at l past ≡ Some (p, note) → Some n ≡ position breaks (drop note l)
      → (ltb 0 number && (in_limits p && (eqb (get_or (drop note l) n 0) feed && leb n longest_note))) ≡ b
      → cond b (Good (finding number p from note (note + n + 1))) Bad ≡ numbered_at l from number past
  unfolding numbered_at
  numbered-ended p note n b e f g =
      let w = note-broken (drop note l) n f in
      let within : note + n < length l = omega (arith, w.1, length-drop note l) in
      let met : begins feed (drop (note + length (note_at l note)) l) ≡ eqb (get_or (drop note l) n 0) feed
      = ap (λ (k : ℕ). begins feed (drop (note + k) l)) (sym w.0) ∙ ap (begins feed) (drop-cons l (note + n) 0 within)
      ∙ ap (λ (k : ℕ). eqb k feed) (sym (get_or-drop note l n 0)) in
      let test : (ltb 0 number && (in_limits p && ends_line l note)) ≡ b
      = (λ i. ltb 0 number && (in_limits p && (met i && leb (sym w.0 i) longest_note))) ∙ g in
      rw (e, test) (ap (λ (k : ℕ). cond b (Good (finding number p from note (note + k + 1))) Bad) w.0)

-- a point that is read ends within the list
pub place-inside : (l : List ℕ) (past : ℕ) (p : Point) (note : ℕ) → place_at l past ≡ Some (p, note) → note ≤ length l
place-inside l past p note e =
    let s = place_read l past note p e in
    omega (arith, s.past, ap length s.here, length-drop past l, length-drop note l, length-append (point_text p) (drop note l), point-least p)
