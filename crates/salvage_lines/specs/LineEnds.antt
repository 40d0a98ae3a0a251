-- Where a line ends: `line-ends` one that is of document 01's form ends past its line feed, as every other does, though it is read field by field ·
-- `kept-written` a line in which nothing was normalised is its record's line, byte for byte.
-- Assumes nothing.
use Rattle.std.specs.Prelude.{◌≡◌, refl, Bool, true, false, cond, ◌&&◌, not, List, [], ◌∷◌, ◌++◌, ℕ, suc, ◌+◌, eqb, length, drop}
use Rattle.std.proofs.Common.{sym, ap, ◌∙◌, subst, append_assoc, append-nil, arith, length-append}
use Rattle.lattice.specs.Records.{valid_of}
use Rattle.lattice.specs.declared.records.Record.{Record}
use Rattle.text.specs.Decimal.{digits, ended, tab, feed}
use Rattle.text.specs.Line.{point_text, star_text, line_of, lines, spelled_at}
use Rattle.text.specs.LineCount.{lines_in, lines-in}
use Rattle.text.specs.LineLaws.{spelled-read}
use Rattle.text.specs.ReadingLaws.{Stands}
use Rattle.text.specs.declared.line.Line.{Line}
use Rattle.text.specs.declared.line.Line.TheVariants.{Good, Bad, End}
use Rattle.salvage_lines.specs.OldLines.{may_normalise, tidied, same_record, line_span, past_line, piece_of, piece_at}
use Rattle.salvage_lines.specs.ClashLaws.{record_same}
use Rattle.salvage_lines.specs.declared.line.Piece.TheVariants as piece

in-join : (xs ys : List ℕ) → lines_in (xs ++ ys) ≡ lines_in xs + lines_in ys
in-join [] ys = omega arith
in-join (c ∷ xs) ys = omega (arith, in-join xs ys)

-- bytes without a line feed, and then one
span-feed : (xs rest : List ℕ) → lines_in xs ≡ 0 → line_span (xs ++ feed ∷ rest) ≡ length xs + 1
unfolding line_span
span-feed [] rest h = refl
span-feed (c ∷ xs) rest h = go (eqb c feed) h (λ z. span-feed xs rest z)
  where
    go : (b : Bool) → cond b 1 0 + lines_in xs ≡ 0 → (lines_in xs ≡ 0 → line_span (xs ++ feed ∷ rest) ≡ length xs + 1)
        → cond b 1 (suc (line_span (xs ++ feed ∷ rest))) ≡ length (c ∷ xs) + 1
    go true k ih = absurd (omega arith)
    go false k ih = let z : lines_in xs ≡ 0 = omega arith in omega (arith, ih z)

-- a line without its line feed
body : Record → List ℕ
body r = point_text r.at ++ (ended (digits r.d) tab ++ (ended (digits r.k) tab ++ digits r.n.0))

body-line : (r : Record) → line_of r ≡ body r ++ feed ∷ []
unfolding line_of star_text body
body-line r =
    let p = point_text r.at in
    let d = ended (digits r.d) tab in
    let k = ended (digits r.k) tab in
    let n = digits r.n.0 in
    ap (λ (x : List ℕ). p ++ (d ++ x)) (sym (append_assoc k n (feed ∷ []))) ∙ ap (λ (x : List ℕ). p ++ x) (sym (append_assoc d (k ++ n) (feed ∷ [])))
    ∙ sym (append_assoc p (d ++ (k ++ n)) (feed ∷ []))

body-none : (r : Record) → lines_in (body r) ≡ 0
unfolding lines
body-none r =
    let one : lines_in (line_of r ++ []) ≡ 1 = lines-in (r ∷ []) in
    let same : lines_in (line_of r) ≡ 1 = ap lines_in (sym (append-nil (line_of r))) ∙ one in
    let split = ap lines_in (body-line r) in
    omega (arith, in-join (body r) (feed ∷ []))

pub line-ends : (f : List ℕ) (p next : ℕ) (r : Record) → spelled_at f p ≡ Good r next → next ≡ past_line f p
unfolding past_line
line-ends f p next r e =
    let s = spelled-read f p next r e in
    let here : drop p f ≡ body r ++ feed ∷ drop next f
    = s.here ∙ ap (λ (x : List ℕ). x ++ drop next f) (body-line r) ∙ append_assoc (body r) (feed ∷ []) (drop next f) in
    let span = ap line_span here ∙ span-feed (body r) (drop next f) (body-none r) in
    omega (arith, s.past, ap length (body-line r), length-append (body r) (feed ∷ []))

pub kept-written : (f : List ℕ) (p : ℕ) (r : Record) (next : ℕ) → piece_at f p ≡ piece.Kept r false next → Stands f p (line_of r) next
unfolding piece_at
kept-written f p r next = go (spelled_at f p) refl
  where
    other : {A : Type 0} (n : ℕ) → piece.Dropped n ≡ piece.Kept r false next → A
    other n e = absurd (let z : ◌≡◌ {A = ℕ} 0 1 = cc in omega arith)

    parts : (q : Record) (c : Bool) (n : ℕ) → piece.Kept q c n ≡ piece.Kept r false next → (q ≡ r) × (c ≡ false) × (n ≡ next)
    parts q c n e = (cc, cc, cc)

    same : (b : Bool) → not b ≡ false → b ≡ true
    same true e = refl
    same false e = sym e

    judge : (q : Record) (n : ℕ) → spelled_at f p ≡ Good q n → (b : Bool)
        → cond b (piece.Kept (tidied q) (not (same_record q (tidied q))) n) (piece.Dropped n) ≡ piece.Kept r false next → Stands f p (line_of r) next
    judge q n e false k = other n k
    judge q n e true k =
        let (a, c, i) = parts (tidied q) (not (same_record q (tidied q))) n k in
        let z : q ≡ r = record_same q (tidied q) (same (same_record q (tidied q)) c) ∙ a in
        subst (Stands f p (line_of r)) i (subst (λ (x : Record). Stands f p (line_of x) n) z (spelled-read f p n q e))

    go : (x : Line) → spelled_at f p ≡ x → piece_of f p x ≡ piece.Kept r false next → Stands f p (line_of r) next
    go End e k = absurd (let z : ◌≡◌ {A = ℕ} 0 1 = cc in omega arith)
    go Bad e k = other (past_line f p) k
    go (Good q n) e k = judge q n e (may_normalise q && valid_of (tidied q)) k
