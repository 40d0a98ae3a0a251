-- A line taken apart as the code does it: `piece-over`, `piece-bad`, `piece-kept`, `piece-dropped` · `before_feed` the bytes of a line before its
-- line feed: `span-feed`, `span-none` · `past-line` the next line begins past this one, and within the file.
-- Assumes nothing.
use Rattle.std.specs.Prelude.{◌≡◌, refl, Bool, true, false, cond, ◌&&◌, not, List, [], ◌∷◌, ℕ, suc, ◌+◌, ◌≤◌, ◌<◌, eqb, ltb, ◌==◌, length, drop}
use Rattle.std.specs.Prelude.{Option, Some, None}
use Rattle.std.specs.List.{position, position_or_len}
use Rattle.std.proofs.Math.Path.{sym}
use Rattle.std.proofs.Common.{ap, ◌∙◌, arith, length-drop, ltb-true, ltb-false}
use Rattle.lattice.specs.Records.{valid_of}
use Rattle.lattice.specs.declared.records.Record.{Record}
use Rattle.text.specs.Decimal.{feed}
use Rattle.text.specs.Line.{spelled_at}
use Rattle.text.specs.declared.line.Line.TheVariants.{Good, Bad, End}
use Rattle.salvage_lines.specs.OldLines.{may_normalise, tidied, same_record, line_span, past_line, judged_piece, piece_of, piece_at}
use Rattle.salvage_lines.specs.declared.line.Piece.TheVariants as piece

module _ (f : List ℕ) (p : ℕ) where
  pub piece-over : spelled_at f p ≡ End → piece.Over ≡ piece_at f p
  unfolding piece_at
  piece-over e = sym (ap (piece_of f p) e)

  pub piece-bad : spelled_at f p ≡ Bad → piece.Dropped (past_line f p) ≡ piece_at f p
  unfolding piece_at
  piece-bad e = sym (ap (piece_of f p) e)

  module _ (r : Record) (next : ℕ) (e : spelled_at f p ≡ Good r next) where
    pub piece-good : judged_piece r next ≡ piece_at f p
    unfolding piece_at
    piece-good = sym (ap (piece_of f p) e)

    pub piece-kept : (may_normalise r && valid_of (tidied r)) ≡ true → piece.Kept (tidied r) (not (same_record r (tidied r))) next ≡ piece_at f p
    piece-kept h = ap (λ (b : Bool). cond b (piece.Kept (tidied r) (not (same_record r (tidied r))) next) (piece.Dropped next)) (sym h) ∙ piece-good

    pub piece-dropped : (may_normalise r && valid_of (tidied r)) ≡ false → piece.Dropped next ≡ piece_at f p
    piece-dropped h = ap (λ (b : Bool). cond b (piece.Kept (tidied r) (not (same_record r (tidied r))) next) (piece.Dropped next)) (sym h) ∙ piece-good

    -- the same, by what the code has worked out
    module _ (q : Record) (a v : Bool) (eq : q ≡ tidied r) (ea : a ≡ may_normalise r) (ev : v ≡ valid_of q) where
      told : (may_normalise r && valid_of (tidied r)) ≡ (a && v)
      told = λ i. sym ea i && sym (ev ∙ ap valid_of eq) i

      pub kept-told : (s : Bool) → s ≡ same_record r q → (a && v) ≡ true → piece.Kept q (not s) next ≡ piece_at f p
      kept-told s es h = (λ i. piece.Kept (eq i) (not ((es ∙ ap (same_record r) eq) i)) next) ∙ piece-kept (told ∙ h)

      pub dropped-told : (a && v) ≡ false → piece.Dropped next ≡ piece_at f p
      dropped-told h = piece-dropped (told ∙ h)

-- ---- a line passed

-- the bytes before the first line feed, where there is one
abbrev pub before_feed : List ℕ → Option ℕ
before_feed xs = position (λ c. c == feed) xs

abbrev count : List ℕ → ℕ
count xs = position_or_len (λ c. c == feed) xs

span-stops : (xs : List ℕ) → count xs < length xs → line_span xs ≡ count xs + 1
unfolding line_span
span-stops [] h = absurd (omega arith)
span-stops (c ∷ xs) h = go (eqb c feed) h (span-stops xs)
  where
    go : (b : Bool) → cond (not b) (1 + count xs) 0 < length (c ∷ xs) → (count xs < length xs → line_span xs ≡ count xs + 1)
        → cond b 1 (suc (line_span xs)) ≡ cond (not b) (1 + count xs) 0 + 1
    go true k ih = refl
    go false k ih = let e = ih (omega arith) in omega arith

span-ends : (xs : List ℕ) → length xs ≤ count xs → line_span xs ≡ length xs
unfolding line_span
span-ends [] h = refl
span-ends (c ∷ xs) h = go (eqb c feed) h (span-ends xs)
  where
    go : (b : Bool) → length (c ∷ xs) ≤ cond (not b) (1 + count xs) 0 → (length xs ≤ count xs → line_span xs ≡ length xs)
        → cond b 1 (suc (line_span xs)) ≡ length (c ∷ xs)
    go true k ih = absurd (omega arith)
    go false k ih = let e = ih (omega arith) in omega arith

-- to its line feed, or to the end of the file
pub span-feed : (xs : List ℕ) (n : ℕ) → Some n ≡ before_feed xs → (n < length xs) × (line_span xs ≡ n + 1)
span-feed xs n = go (ltb (count xs) (length xs)) refl
  where
    go : (b : Bool) → ltb (count xs) (length xs) ≡ b → Some n ≡ cond b (Some (count xs)) None → (n < length xs) × (line_span xs ≡ n + 1)
    go true h e =
        let l = ltb-true (count xs) (length xs) h in
        let z : n ≡ count xs = cc in
        let s = span-stops xs l in
        (omega arith, omega arith)
    go false h e = absurd (let z : ◌≡◌ {A = ℕ} 0 1 = cc in omega arith)

pub span-none : (xs : List ℕ) → None ≡ before_feed xs → line_span xs ≡ length xs
span-none xs = go (ltb (count xs) (length xs)) refl
  where
    go : (b : Bool) → ltb (count xs) (length xs) ≡ b → None ≡ cond b (Some (count xs)) None → line_span xs ≡ length xs
    go true h e = absurd (let z : ◌≡◌ {A = ℕ} 0 1 = cc in omega arith)
    go false h e = span-ends xs (ltb-false (count xs) (length xs) h)

-- ---- where the next line begins

pub span-most : (xs : List ℕ) → line_span xs ≤ length xs
unfolding line_span
span-most [] = omega arith
span-most (c ∷ xs) = go (eqb c feed) (span-most xs)
  where
    go : (b : Bool) → line_span xs ≤ length xs → cond b 1 (suc (line_span xs)) ≤ length (c ∷ xs)
    go true h = omega arith
    go false h = omega arith

span-least : (xs : List ℕ) → 0 < length xs → 0 < line_span xs
unfolding line_span
span-least [] h = absurd (omega arith)
span-least (c ∷ xs) h = go (eqb c feed)
  where
    go : (b : Bool) → 0 < cond b 1 (suc (line_span xs))
    go true = omega arith
    go false = omega arith

pub past-line : (f : List ℕ) (p : ℕ) → p < length f → (p < past_line f p) × (past_line f p ≤ length f)
unfolding past_line
past-line f p h =
    let l = length-drop p f in
    let a = span-most (drop p f) in
    let b = span-least (drop p f) (omega arith) in
    (omega arith, omega arith)
