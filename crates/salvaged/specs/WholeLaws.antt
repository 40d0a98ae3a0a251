-- A file that is not broken. `valid-tidied`, `valid-normalises` a valid record is normalised, and within the limits · `piece-written` its line is kept as it
-- is · `salvaged-lines` so are all lines of valid records · `changes-none` where each has a point of its own nothing is listed.
-- Assumes nothing.
use Rattle.std.specs.Prelude.{◌≡◌, Bool, true, false, cond, ◌&&◌, ◌||◌, not, eqb, ltb, leb, nat_abs, length}
use Rattle.std.proofs.Math.Path.{refl}
use Rattle.std.proofs.Common.{sym, ap, ◌∙◌, subst, arith, zero-add, eqb-true, ltb-true, le-leb}
use mathlib.Core.List.{List, [], ◌∷◌, map, append-nil, Memᴰ}
use Prim.Native.Nat.{ℕ, ◌+◌, ◌%◌}
use Rattle.laws.specs.Each.{both_left, both_right, not-both}
use Rattle.laws.specs.Some.{some_of}
use Rattle.lattice.specs.Points.{pt, by3, normal_at, normal_of}
use Rattle.lattice.specs.PointLaws.{normal-stop, normal-zero}
use Rattle.lattice.specs.Records.{within, orientations_of, same_parity, suits_of, valid_of}
use Rattle.lattice.specs.declared.records.Record.{Record}
use Rattle.table.specs.MapLaws.{Apart}
use Rattle.text.specs.Limits.{farthest, deepest}
use Rattle.text.specs.Line.{rec, line_of, lines}
use Rattle.text.specs.LineLaws.{spelled-write, lines_next}
use Rattle.text.specs.Near.{Near, valid-near}
use Rattle.text.specs.ReadingLaws.{Stands, stands_at, stands-first}
use Rattle.readers.specs.ReadLaws.{Valid}
use Rattle.salvage_lines.specs.OldLines.{may_normalise, orientation_of, tidied, same_record, judged_piece, piece_at, OldLine, Dropped, Kept, salvaged, kept}
use Rattle.salvage.specs.Salvage.{changes_at, changes_from}
use Rattle.salvage_lines.specs.LineLaws.{piece-good}
use Rattle.salvage_lines.specs.LinesOn.{salvaged_on, salvaged-on, on-over, on-kept, end-over}
use Rattle.salvage_lines.specs.ClashLaws.{same-record}
use Rattle.salvage.specs.MendLaws.{new-after}
use Rattle.salvage_lines.specs.declared.line.Piece.TheVariants as piece

-- ---- a valid record

module _ (r : Record) (v : valid_of r ≡ true) where
  near : Near r
  near = valid-near r v

  point-same : normal_of r.at.a r.at.b r.at.m.0 ≡ r.at
  point-same = go (eqb r.at.m.0 0) refl (both_left (normal_at r.at.a r.at.b r.at.m.0) _ v)
    where
      thirds : (b : Bool) → (by3 r.at.a && by3 r.at.b) ≡ b → not b ≡ true → normal_of r.at.a r.at.b r.at.m.0 ≡ r.at
      thirds true e h = absurd (not-both h refl)
      thirds false e h = sym (normal-stop r.at.a r.at.b r.at.m.0 e)

      go : (z : Bool) → eqb r.at.m.0 0 ≡ z → (z || not (by3 r.at.a && by3 r.at.b)) ≡ true → normal_of r.at.a r.at.b r.at.m.0 ≡ r.at
      go true e h =
          let m = eqb-true r.at.m.0 0 e in
          ap (normal_of r.at.a r.at.b) m ∙ sym (normal-zero r.at.a r.at.b) ∙ ap (pt r.at.a r.at.b) (sym m)
      go false e h = thirds (by3 r.at.a && by3 r.at.b) refl h

  suits : suits_of r.d r.k r.n.0 ≡ true
  suits =
      let a = within r.at.a r.at.m.0 in
      let b = within r.at.b r.at.m.0 in
      let s = suits_of r.d r.k r.n.0 in
      let e₁ = both_right (normal_at r.at.a r.at.b r.at.m.0) (leb r.at.m.0 6 && (a && (b && s))) v in
      both_right b s (both_right a (b && s) (both_right (leb r.at.m.0 6) (a && (b && s)) e₁))

  turn-same : orientation_of r.d r.k ≡ r.k
  unfolding orientation_of
  turn-same = go (eqb r.d 3) (eqb r.d 6) refl refl
    where
      d : ℕ
      d = r.d

      k : ℕ
      k = r.k

      rest : Bool
      rest = leb r.n.0 12 && same_parity r.k r.n.0

      ranges : (z : Bool) → eqb d 0 ≡ z → cond z (eqb k 0 && eqb r.n.0 0) (ltb k (orientations_of d) && rest) ≡ true → (eqb d 0 ≡ false)
          → ltb k (orientations_of d) ≡ true
      ranges true e h n = absurd (not-both e n)
      ranges false e h n = both_left (ltb k (orientations_of d)) rest h

      go : (x y : Bool) → eqb d 3 ≡ x → eqb d 6 ≡ y → cond x (k % 4) (cond y (k % 2) k) ≡ k
      go true y e f =
          let q = eqb-true d 3 e in
          let l = ranges (eqb d 0) refl suits (ap (λ (z : ℕ). eqb z 0) q) in
          let low = ltb-true k 4 (sym (ap (λ (z : ℕ). ltb k (orientations_of z)) q) ∙ l) in
          omega arith
      go false true e f =
          let q = eqb-true d 6 f in
          let l = ranges (eqb d 0) refl suits (ap (λ (z : ℕ). eqb z 0) q) in
          let low = ltb-true k 2 (sym (ap (λ (z : ℕ). ltb k (orientations_of z)) q) ∙ l) in
          omega arith
      go false false e f = refl

  pub valid-tidied : tidied r ≡ r
  unfolding tidied
  valid-tidied = λ i. rec (point-same i) r.d (turn-same i) r.n.0

  pub valid-normalises : may_normalise r ≡ true
  valid-normalises =
      let a = near.a in
      let b = near.b in
      let m = near.m in
      let k = near.k in
      λ i. (le-leb (nat_abs r.at.a) farthest (omega arith) i &&
      (le-leb (nat_abs r.at.b) farthest (omega arith) i && le-leb r.at.m.0 deepest (omega arith) i))
      && le-leb r.k 11 k i

  -- what is judged of it
  judged-valid : (next : ℕ) → judged_piece r next ≡ piece.Kept r false next
  judged-valid next =
      let t = valid-tidied in
      ap (λ (q : Record). cond (may_normalise r && valid_of q) (piece.Kept q (not (same_record r q)) next) (piece.Dropped next)) t
      ∙ (λ i. cond (valid-normalises i && v i) (piece.Kept r (not (same-record r i)) next) (piece.Dropped next))

  pub piece-written : (f : List ℕ) (p next : ℕ) → Stands f p (line_of r) next → piece_at f p ≡ piece.Kept r false next
  piece-written f p next s = sym (piece-good f p r next (spelled-write f p next r near s)) ∙ judged-valid next

-- ---- the lines of valid records

-- a line that is kept as it is
abbrev pub as_written : Record → OldLine
as_written r = Kept r false

lines-on : (f : List ℕ) (p : ℕ) (rs : List Record) → Valid rs → Stands f p (lines rs) (length f) → salvaged_on f p ≡ map as_written rs
unfolding lines
lines-on f p [] v s = on-over f p (end-over f p (omega (arith, s.past)))
lines-on f p (r ∷ rs) v s =
    let ok = v r (Memᴰ.head refl) in
    let e = lines_next f p (length f) r rs ok s in
    let next = p + length (line_of r) in
    on-kept f p r false next (piece-written r ok f p next (stands-first (line_of r) (lines rs) s))
    ∙ ap (λ (l : List OldLine). as_written r ∷ l) (lines-on f next rs (λ q m. v q (Memᴰ.tail m)) e.1)

pub salvaged-lines : (rs : List Record) → Valid rs → salvaged (lines rs) ≡ map as_written rs
salvaged-lines rs v =
    salvaged-on (lines rs)
    ∙ lines-on (lines rs) 0 rs v
    (subst (Stands (lines rs) 0 (lines rs)) (zero-add (length (lines rs))) (stands_at (lines rs) (lines rs) [] 0 (sym (append-nil (lines rs)))))

pub kept-lines : (rs : List Record) → kept (map as_written rs) ≡ rs
unfolding kept
kept-lines [] = refl
kept-lines (r ∷ rs) = ap (λ (l : List Record). r ∷ l) (kept-lines rs)

-- none of them stands already, and each has a point of its own: nothing is listed
pub changes-none : (line : ℕ) (seen rs : List Record) → Apart rs → ((r : Record) → Memᴰ r rs → some_of (same_record r) seen ≡ false)
    → changes_from line seen (map as_written rs) ≡ []
unfolding changes_from changes_at
changes-none line seen [] a h = refl
changes-none line seen (r ∷ rs) a h =
    rw (h r (Memᴰ.head refl)) (changes-none (line + 1) (r ∷ seen) rs a.1 (new-after r rs seen a h))
