-- The lines of a file from a position on: `salvaged_on`, and their records `records_on`. `kept_next`, `dropped-next` the next line begins past this one, within
-- the file, and what is kept is valid · `on-over`, `on-dropped`, `on-kept`, `records-over`, `records-dropped`, `records-kept` what stands there.
-- Assumes nothing.
use Rattle.std.specs.Prelude.{◌≡◌, Bool, true, false, cond, ◌&&◌, not, length, drop}
use Rattle.std.proofs.Math.Path.{refl, sym, ap}
use Rattle.std.proofs.Common.{◌∙◌, subst, arith, le-leb, length-append, length-drop}
use mathlib.Core.List.{List, [], ◌∷◌}
use Prim.Native.Nat.{ℕ, zero, suc, ◌+◌, ◌-◌, ◌≤◌, ◌<◌}
use Rattle.std.proofs.Math.Decide.{dec_lt}
use Rattle.laws.specs.Each.{both_right}
use Rattle.lattice.specs.Records.{valid_of}
use Rattle.lattice.specs.declared.records.Record.{Record}
use Rattle.text.specs.Line.{line_of, spelled_at}
use Rattle.text.specs.LineLengths.{line-least}
use Rattle.text.specs.LineLaws.{spelled-read, stands-within}
use Rattle.text.specs.declared.line.Line.{Line}
use Rattle.text.specs.declared.line.Line.TheVariants.{Good, Bad, End}
use Rattle.salvage_lines.specs.OldLines.{may_normalise, tidied, same_record, past_line, judged_piece, piece_of, piece_at, OldLine, Dropped, Kept, piece_then}
use Rattle.salvage_lines.specs.OldLines.{salvaged_from, salvaged, kept}
use Rattle.salvage_lines.specs.LineLaws.{past-line}
use Rattle.salvage_lines.specs.declared.line.Piece.TheVariants as piece

-- the next line begins past this one, within the file
abbrev pub Moves : List ℕ → ℕ → ℕ → Type 0
Moves f p next = (p < next) × (next ≤ length f)

-- no line stands at the end
spelled-end : (f : List ℕ) (p : ℕ) → length f ≤ p → spelled_at f p ≡ End
unfolding spelled_at
spelled-end f p h = rw (le-leb (length f) p h)

pub end-over : (f : List ℕ) (p : ℕ) → length f ≤ p → piece_at f p ≡ piece.Over
unfolding piece_at
end-over f p h = ap (piece_of f p) (spelled-end f p h)

spelled-next : (f : List ℕ) (p next : ℕ) (r : Record) → spelled_at f p ≡ Good r next → Moves f p next
spelled-next f p q r e =
    let s = spelled-read f p q r e in
    let least = line-least r in
    let within = stands-within s (omega arith) in
    (omega (arith, s.past), omega (arith, s.past, ap length s.here, length-append (line_of r) (drop q f), length-drop p f))

bad-next : (f : List ℕ) (p : ℕ) → spelled_at f p ≡ Bad → Moves f p (past_line f p)
bad-next f p e = go (dec_lt p (length f))
  where
    go : Dec (p < length f) → Moves f p (past_line f p)
    go (yes h) = past-line f p h
    go (no h) = let k = spelled-end f p (omega arith) in absurd (let z : ◌≡◌ {A = ℕ} 0 1 = cc in omega arith)

-- what stands at a position
pub data Stand (f : List ℕ) (p : ℕ) : Type 0 where
  over : piece_at f p ≡ piece.Over → Stand f p
  dropped : (next : ℕ) → Moves f p next → piece_at f p ≡ piece.Dropped next → Stand f p
  stays : (r : Record) (changed : Bool) (next : ℕ) → Moves f p next → valid_of r ≡ true → piece_at f p ≡ piece.Kept r changed next → Stand f p

pub stand : (f : List ℕ) (p : ℕ) → Stand f p
unfolding piece_at
stand f p = go (spelled_at f p) refl
  where
    judge : (r : Record) (next : ℕ) → spelled_at f p ≡ Good r next → piece_at f p ≡ judged_piece r next → (b : Bool) → (may_normalise r && valid_of (tidied r))
        ≡ b → Stand f p
    judge r next e k true h =
        stays (tidied r) (not (same_record r (tidied r))) next (spelled-next f p next r e) (both_right (may_normalise r) (valid_of (tidied r)) h)
        (k ∙ ap (λ (b : Bool). cond b (piece.Kept (tidied r) (not (same_record r (tidied r))) next) (piece.Dropped next)) h)
    judge r next e k false h =
        dropped next (spelled-next f p next r e)
        (k ∙ ap (λ (b : Bool). cond b (piece.Kept (tidied r) (not (same_record r (tidied r))) next) (piece.Dropped next)) h)

    go : (l : Line) → spelled_at f p ≡ l → Stand f p
    go End e = over (ap (piece_of f p) e)
    go Bad e = dropped (past_line f p) (bad-next f p e) (ap (piece_of f p) e)
    go (Good r next) e = judge r next e (ap (piece_of f p) e) (may_normalise r && valid_of (tidied r)) refl

pub kept_next : (f : List ℕ) (p : ℕ) (r : Record) (changed : Bool) (next : ℕ) → piece_at f p ≡ piece.Kept r changed next → Moves f p next × (valid_of r ≡ true)
kept_next f p r changed next e = go (stand f p)
  where
    go : Stand f p → Moves f p next × (valid_of r ≡ true)
    go (over h) = absurd (let z : ◌≡◌ {A = ℕ} 0 1 = cc in omega arith)
    go (dropped n m h) = absurd (let z : ◌≡◌ {A = ℕ} 0 1 = cc in omega arith)
    go (stays q c n m v h) =
        let en : n ≡ next = cc in
        let eq : q ≡ r = cc in
        (subst (Moves f p) en m, sym (ap valid_of eq) ∙ v)

pub dropped-next : (f : List ℕ) (p next : ℕ) → piece_at f p ≡ piece.Dropped next → Moves f p next
dropped-next f p next e = go (stand f p)
  where
    go : Stand f p → Moves f p next
    go (over h) = absurd (let z : ◌≡◌ {A = ℕ} 0 1 = cc in omega arith)
    go (stays q c n m v h) = absurd (let z : ◌≡◌ {A = ℕ} 0 1 = cc in omega arith)
    go (dropped n m h) = let en : n ≡ next = cc in subst (Moves f p) en m

module _ (f : List ℕ) where
  -- as many lines as there may be, or more: the same
  enough : (x y p : ℕ) → length f ≤ p + x → length f ≤ p + y → salvaged_from f x p ≡ salvaged_from f y p
  unfolding salvaged_from
  enough zero zero p a b = refl
  enough zero (suc y) p a b = sym (ap (piece_then (λ n. salvaged_from f y n)) (end-over f p (omega arith)))
  enough (suc x) zero p a b = ap (piece_then (λ n. salvaged_from f x n)) (end-over f p (omega arith))
  enough (suc x) (suc y) p a b = go (stand f p) (λ n m. enough x y n (omega arith) (omega arith))
    where
      go : Stand f p → ((n : ℕ) → p < n → salvaged_from f x n ≡ salvaged_from f y n)
          → piece_then (λ n. salvaged_from f x n) (piece_at f p) ≡ piece_then (λ n. salvaged_from f y n) (piece_at f p)
      go (over h) ih = ap (piece_then (λ n. salvaged_from f x n)) h ∙ sym (ap (piece_then (λ n. salvaged_from f y n)) h)
      go (dropped n m h) ih =
          ap (piece_then (λ n. salvaged_from f x n)) h ∙ ap (λ (l : List OldLine). Dropped ∷ l) (ih n m.0)
          ∙ sym (ap (piece_then (λ n. salvaged_from f y n)) h)
      go (stays r c n m v h) ih =
          ap (piece_then (λ n. salvaged_from f x n)) h ∙ ap (λ (l : List OldLine). Kept r c ∷ l) (ih n m.0)
          ∙ sym (ap (piece_then (λ n. salvaged_from f y n)) h)

  -- the lines from position p on, and their records
  abbrev pub salvaged_on : ℕ → List OldLine
  salvaged_on p = salvaged_from f (length f - p) p

  abbrev pub records_on : ℕ → List Record
  records_on p = kept (salvaged_on p)

  pub salvaged-on : salvaged f ≡ salvaged_on 0
  salvaged-on = enough (length f) (length f - 0) 0 (omega arith) (omega arith)

  on-piece : (p : ℕ) → salvaged_on p ≡ piece_then (λ n. salvaged_from f (length f) n) (piece_at f p)
  unfolding salvaged_from
  on-piece p = enough (length f - p) (suc (length f)) p (omega arith) (omega arith)

  pub on-over : (p : ℕ) → piece_at f p ≡ piece.Over → salvaged_on p ≡ []
  on-over p e = on-piece p ∙ ap (piece_then (λ n. salvaged_from f (length f) n)) e

  pub on-dropped : (p next : ℕ) → piece_at f p ≡ piece.Dropped next → salvaged_on p ≡ Dropped ∷ salvaged_on next
  on-dropped p next e =
      on-piece p ∙ ap (piece_then (λ n. salvaged_from f (length f) n)) e
      ∙ ap (λ (l : List OldLine). Dropped ∷ l) (enough (length f) (length f - next) next (omega arith) (omega arith))

  pub on-kept : (p : ℕ) (r : Record) (changed : Bool) (next : ℕ) → piece_at f p ≡ piece.Kept r changed next
      → salvaged_on p ≡ Kept r changed ∷ salvaged_on next
  on-kept p r changed next e =
      on-piece p ∙ ap (piece_then (λ n. salvaged_from f (length f) n)) e
      ∙ ap (λ (l : List OldLine). Kept r changed ∷ l) (enough (length f) (length f - next) next (omega arith) (omega arith))

  pub records-over : (p : ℕ) → piece_at f p ≡ piece.Over → records_on p ≡ []
  unfolding kept
  records-over p e = ap kept (on-over p e)

  pub records-dropped : (p next : ℕ) → piece_at f p ≡ piece.Dropped next → records_on p ≡ records_on next
  unfolding kept
  records-dropped p next e = ap kept (on-dropped p next e)

  pub records-kept : (p : ℕ) (r : Record) (changed : Bool) (next : ℕ) → piece_at f p ≡ piece.Kept r changed next → records_on p ≡ r ∷ records_on next
  unfolding kept
  records-kept p r changed next e = ap kept (on-kept p r changed next e)
