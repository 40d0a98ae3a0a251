-- A file in which points and orientations are spelled in whatever way. `Respelled`, `one-record` two spellings of one record are one once normalised ·
-- `Spelt`, `piece-spelt` a line within the limits is kept as its record normalised, and listed where a number changed · `salvaged-spelt` so are all lines ·
-- `respelled-alike` two files that differ only in spellings.
-- Assumes nothing.
use Rattle.std.specs.Prelude.{◌≡◌, refl, Bool, true, ◌&&◌, not, ℕ, ◌+◌, nat_abs}
use Rattle.std.proofs.Common.{sym, ap, ◌∙◌, subst, arith, zero-add}
use mathlib.Core.List.{List, [], ◌∷◌, map, append-nil, Memᴰ}
use borrow.Author.Tests.{leb-true, lt-leb}
use Rattle.std.proofs.Math.Dec.{leb}
use Rattle.std.proofs.Math.ListN.{length}
use Rattle.laws.specs.Each.{both_left, both_right}
use Rattle.lattice.specs.Points.{normal_of}
use Rattle.lattice.specs.Records.{valid_of}
use Rattle.lattice.specs.declared.records.Record.{Record}
use Rattle.text.specs.Limits.{farthest, deepest, in_limits}
use Rattle.text.specs.Line.{rec, point_text, star_text, line_of, lines, good_or_bad, spelled_at}
use Rattle.text.specs.LineLaws.{place-write, star-write, stands-within}
use Rattle.text.specs.LineLengths.{line-least}
use Rattle.text.specs.Near.{Near, valid-near}
use Rattle.text.specs.ReadingLaws.{Stands, stands_at, stands-first, stands-then}
use Rattle.text.specs.declared.line.Line.TheVariants.{Good}
use Rattle.salvage_lines.specs.OldLines.{may_normalise, orientation_of, tidied, same_record, piece_at, OldLine, Kept, salvaged, kept}
use Rattle.salvage_lines.specs.LineLaws.{piece-kept}
use Rattle.salvage_lines.specs.LinesOn.{salvaged_on, salvaged-on, on-over, on-kept, end-over}
use Rattle.salvage_lines.specs.declared.line.Piece.TheVariants as piece
use Rattle.salvaged.specs.SalvageLaws.{Alike}

-- ---- one record

-- one point, one degree, one level, and orientations that turn a star of that degree alike
pub record Respelled (r q : Record) : Type 0 where
  pub point : normal_of r.at.a r.at.b r.at.m.0 ≡ normal_of q.at.a q.at.b q.at.m.0
  pub degree : r.d ≡ q.d
  pub turn : orientation_of r.d r.k ≡ orientation_of q.d q.k
  pub level : r.n.0 ≡ q.n.0

pub one-record : (r q : Record) → Respelled r q → tidied r ≡ tidied q
unfolding tidied
one-record r q w = λ i. rec (w.point i) (w.degree i) (w.turn i) (w.level i)

-- ---- one line

-- within the limits, and a valid record once it is normalised
pub record Spelt (r : Record) : Type 0 where
  pub limits : may_normalise r ≡ true
  pub valid : valid_of (tidied r) ≡ true

module _ (r : Record) (w : Spelt r) where
  within : in_limits r.at ≡ true
  within = both_left (in_limits r.at) (leb r.k 11) w.limits

  near : Near (tidied r)
  near = valid-near (tidied r) w.valid

  spelt-read : (f : List ℕ) (p next : ℕ) → Stands f p (line_of r) next → spelled_at f p ≡ Good r next
  unfolding spelled_at line_of tidied
  spelt-read f p next s =
      let tp = point_text r.at in
      let ts = star_text r.d r.k r.n.0 in
      let a = leb (nat_abs r.at.a) farthest in
      let b = leb (nat_abs r.at.b) farthest in
      let m = leb r.at.m.0 deepest in
      let rest = both_right a (b && m) within in
      let ha = leb-true (nat_abs r.at.a) farthest (both_left a (b && m) within) in
      let hb = leb-true (nat_abs r.at.b) farthest (both_left b m rest) in
      let hm = leb-true r.at.m.0 deepest (both_right b m rest) in
      let hk = leb-true r.k 11 (both_right (in_limits r.at) (leb r.k 11) w.limits) in
      let hd = near.d in
      let hn = near.n in
      let here = stands-within s (omega (arith, line-least r)) in
      rw (lt-leb (length f) p here, place-write f p (p + length tp) r.at (omega arith) (omega arith) (omega arith) (stands-first tp ts s))
      (ap good_or_bad (star-write f (p + length tp) next r.at r.d r.k r.n.0 (omega arith) (omega arith) (omega arith) (stands-then tp ts s)))

  pub piece-spelt : (f : List ℕ) (p next : ℕ) → Stands f p (line_of r) next → piece_at f p ≡ piece.Kept (tidied r) (not (same_record r (tidied r))) next
  piece-spelt f p next s = sym (piece-kept f p r next (spelt-read f p next s) (λ i. w.limits i && w.valid i))

-- ---- all lines

-- what becomes of such a line
abbrev pub as_spelt : Record → OldLine
as_spelt r = Kept (tidied r) (not (same_record r (tidied r)))

abbrev pub AllSpelt : List Record → Type 0
AllSpelt rs = (r : Record) → Memᴰ r rs → Spelt r

lines-on : (f : List ℕ) (p : ℕ) (rs : List Record) → AllSpelt rs → Stands f p (lines rs) (length f) → salvaged_on f p ≡ map as_spelt rs
unfolding lines
lines-on f p [] v s = on-over f p (end-over f p (omega (arith, s.past)))
lines-on f p (r ∷ rs) v s =
    let next = p + length (line_of r) in
    on-kept f p (tidied r) (not (same_record r (tidied r))) next
    (piece-spelt r (v r (Memᴰ.head refl)) f p next (stands-first (line_of r) (lines rs) s))
    ∙ ap (λ (l : List OldLine). as_spelt r ∷ l) (lines-on f next rs (λ q m. v q (Memᴰ.tail m)) (stands-then (line_of r) (lines rs) s))

pub salvaged-spelt : (rs : List Record) → AllSpelt rs → salvaged (lines rs) ≡ map as_spelt rs
salvaged-spelt rs v =
    salvaged-on (lines rs)
    ∙ lines-on (lines rs) 0 rs v
    (subst (Stands (lines rs) 0 (lines rs)) (zero-add (length (lines rs))) (stands_at (lines rs) (lines rs) [] 0 (sym (append-nil (lines rs)))))

kept-spelt : (rs : List Record) → kept (map as_spelt rs) ≡ map tidied rs
unfolding kept
kept-spelt [] = refl
kept-spelt (r ∷ rs) = ap (λ (l : List Record). tidied r ∷ l) (kept-spelt rs)

-- ---- two files, line by line

abbrev pub Spelling : Type 0
Spelling = Record × Record

same-tidied : (xs : List Spelling) → ((x : Spelling) → Memᴰ x xs → Respelled x.0 x.1)
    → map tidied (map (λ (x : Spelling). x.0) xs) ≡ map tidied (map (λ (x : Spelling). x.1) xs)
same-tidied [] h = refl
same-tidied (x ∷ xs) h = λ i. one-record x.0 x.1 (h x (Memᴰ.head refl)) i ∷ same-tidied xs (λ y m. h y (Memᴰ.tail m)) i

pub respelled-alike : (xs : List Spelling) → ((x : Spelling) → Memᴰ x xs → Respelled x.0 x.1)
    → AllSpelt (map (λ (x : Spelling). x.0) xs) → AllSpelt (map (λ (x : Spelling). x.1) xs)
    → Alike (lines (map (λ (x : Spelling). x.0) xs)) (lines (map (λ (x : Spelling). x.1) xs))
respelled-alike xs h v w = ((λ r m. subst (Memᴰ r) same m), (λ r m. subst (Memᴰ r) (sym same) m))
  where
    rs : List Record
    rs = map (λ (x : Spelling). x.0) xs

    qs : List Record
    qs = map (λ (x : Spelling). x.1) xs

    same : kept (salvaged (lines rs)) ≡ kept (salvaged (lines qs))
    same =
        ap kept (salvaged-spelt rs v) ∙ kept-spelt rs ∙ same-tidied xs h ∙ sym (kept-spelt qs) ∙ sym (ap kept (salvaged-spelt qs w))
