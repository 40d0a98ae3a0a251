-- Why written and parsed lines are one format: a written line parses to its record (`line_write`), and only a written line parses (`line_read_lem`). So the
-- bytes at a position settle the answer: `line-one` no two valid records' lines stand there, `line-prefix` no line begins another, `line-bad` all else
-- is Bad, `line-end` the end of the file. `line-next` how far a line goes · `lines_join`, `lines_next` the lines of several records, one after the
-- other.
-- Assumes nothing.
use Rattle.std.specs.Prelude.{◌≡◌, Bool, true, false, cond, List, [], ◌∷◌, ◌++◌, ℕ, ◌+◌, ◌≤◌, ◌<◌, leb, nat_abs, length, drop, Option, Some, None}
use Rattle.std.proofs.Math.Path.{refl, subst, ap}
use Rattle.std.proofs.Common.{sym, ◌∙◌, append_assoc, arith, le-leb, length-append, length-drop}
use Rattle.std.proofs.lemmas.Bool.{lt-leb}
use Rattle.std.proofs.Math.Seq.{drop-append_seam}
use Rattle.laws.specs.Each.{never}
use Rattle.lattice.specs.Records.{valid_of}
use Rattle.lattice.specs.declared.points.Point.{Point}
use Rattle.lattice.specs.declared.records.Record.{Record}
use Rattle.text.specs.Decimal.{digits, numeral, ended, tab, feed}
use Rattle.text.specs.Reading.{number_at, signed_at}
use Rattle.text.specs.Line.{point_text, star_text, line_of, lines, far, near, on_read, place_at, star_at, good_or_bad, spelled_at, judged, line_at, rec}
use Rattle.text.specs.ReadingLaws.{Stands, stands_at, stands-join, stands-first, stands-then, number_read, number-write, signed-read, signed-write, read-is}
use Rattle.text.specs.Near.{Near, valid-near}
use Rattle.text.specs.LineLengths.{line-least}
use Rattle.text.specs.declared.line.Line.{Line}
use Rattle.text.specs.declared.line.Line.TheVariants.{Good, Bad, End}

-- ---- a written line parses

pub place-write : (t : List ℕ) (p q : ℕ) (x : Point) → nat_abs x.a ≤ far → nat_abs x.b ≤ far → x.m.0 ≤ near → Stands t p (point_text x) q
    → place_at t p ≡ Some (x, q)
unfolding place_at point_text
place-write t p q x ha hb hm s =
    let ta = ended (numeral x.a) tab in
    let tb = ended (numeral x.b) tab in
    let tm = ended (digits x.m.0) tab in
    let s₁ = stands-first ta (tb ++ tm) s in
    let rest = stands-then ta (tb ++ tm) s in
    let s₂ = stands-first tb tm rest in
    let s₃ = stands-then tb tm rest in
    rw (
      signed-write t p far tab x.a _ refl ha s₁,
      signed-write t (p + length ta) far tab x.b _ refl hb s₂,
      number-write t (p + length ta + length tb) near tab x.m.0 q refl hm s₃,
    )

pub star-write : (t : List ℕ) (p q : ℕ) (x : Point) (d k n : ℕ) → d ≤ near → k ≤ near → n ≤ near → Stands t p (star_text d k n) q
    → star_at t p x ≡ Some (rec x d k n, q)
unfolding star_at star_text
star-write t p q x d k n hd hk hn s =
    let td = ended (digits d) tab in
    let tk = ended (digits k) tab in
    let tn = ended (digits n) feed in
    let s₁ = stands-first td (tk ++ tn) s in
    let rest = stands-then td (tk ++ tn) s in
    let s₂ = stands-first tk tn rest in
    let s₃ = stands-then tk tn rest in
    rw (
      number-write t p near tab d _ refl hd s₁,
      number-write t (p + length td) near tab k _ refl hk s₂,
      number-write t (p + length td + length tk) near feed n q refl hn s₃,
    )

pub stands-within : {t xs : List ℕ} {p q : ℕ} → Stands t p xs q → 0 < length xs → p < length t
stands-within {t} {xs} {p} {q} s h = omega (arith, ap length s.here, length-drop p t, length-append xs (drop q t))

pub spelled-write : (t : List ℕ) (p q : ℕ) (r : Record) → Near r → Stands t p (line_of r) q → spelled_at t p ≡ Good r q
unfolding spelled_at line_of
spelled-write t p q r h s =
    let tp = point_text r.at in
    let ts = star_text r.d r.k r.n.0 in
    let within : p < length t = stands-within s (omega (arith, line-least r)) in
    rw (
      lt-leb (length t) p within,
      place-write t p (p + length tp) r.at (omega (arith, h.a)) (omega (arith, h.b)) (omega (arith, h.m))
          (stands-first tp ts s),
      star-write t (p + length tp) q r.at r.d r.k r.n.0 (omega (arith, h.d)) (omega (arith, h.k)) (omega (arith, h.n)) (stands-then tp ts s),
    )

-- the line of a valid record at p parses to it
pub line_write : (t : List ℕ) (p q : ℕ) (r : Record) → valid_of r ≡ true → Stands t p (line_of r) q → line_at t p ≡ Good r q
unfolding line_at
line_write t p q r v s = rw (spelled-write t p q r (valid-near r v) s, v)

-- ---- only a written line parses

good-is : {r s : Record} {p q : ℕ} → Good r p ≡ Good s q → (r ≡ s) × (p ≡ q)
good-is e = (cc, cc)

not-bad : {X : Type 0} {r : Record} {q : ℕ} → Bad ≡ Good r q → X
not-bad e = absurd (let z : ◌≡◌ {A = ℕ} 0 1 = cc in omega arith)

not_end : {X : Type 0} {r : Record} {q : ℕ} → End ≡ Good r q → X
not_end e = absurd (let z : ◌≡◌ {A = ℕ} 0 1 = cc in omega arith)

-- what was read of a part and what is behind it: the part was
read-some : {A X : Type 0} (o : Option (A × ℕ)) (f : A → ℕ → Option X) (r : X) → on_read o None f ≡ Some r
    → (a : A) × (q : ℕ) × (o ≡ Some (a, q)) × (f a q ≡ Some r)
read-some None f r e = absurd (cc)
read-some (Some (a, q)) f r e = (a, q, refl, e)

pub place_read : (t : List ℕ) (p q : ℕ) (x : Point) → place_at t p ≡ Some (x, q) → Stands t p (point_text x) q
unfolding place_at point_text
place_read t p q x h =
    let (a, past-a, ea, ha) = read-some (signed_at t p far tab) _ _ h in
    let (b, past-b, eb, hb) = read-some (signed_at t past-a far tab) _ _ ha in
    let (m, past-m, em, hm) = read-some (number_at t past-b near tab) _ _ hb in
    let w = read-is hm in
    let sm = subst (Stands t past-b (ended (digits m) tab)) w.1 (number_read t past-b near tab m past-m em) in
    let sb = stands-join (signed-read t past-a far tab b past-b eb).0 sm in
    subst (λ (y : Point). Stands t p (point_text y) q) w.0 (stands-join (signed-read t p far tab a past-a ea).0 sb)

star_read : (t : List ℕ) (p q : ℕ) (x : Point) (s : Record) → star_at t p x ≡ Some (s, q) → (x ≡ s.at) × Stands t p (star_text s.d s.k s.n.0) q
unfolding star_at star_text
star_read t p q x s h =
    let (d, past-d, ed, hd) = read-some (number_at t p near tab) _ _ h in
    let (k, past-k, ek, hk) = read-some (number_at t past-d near tab) _ _ hd in
    let (n, next, en, hn) = read-some (number_at t past-k near feed) _ _ hk in
    let w = read-is hn in
    let sn = subst (Stands t past-k (ended (digits n) feed)) w.1 (number_read t past-k near feed n next en) in
    let sk = stands-join (number_read t past-d near tab k past-k ek) sn in (
      ap (λ (y : Record). y.at) w.0,
      subst (λ (y : Record). Stands t p (star_text y.d y.k y.n.0) q) w.0 (stands-join (number_read t p near tab d past-d ed) sk),
    )

good-some : (o : Option (Record × ℕ)) (r : Record) (q : ℕ) → good_or_bad o ≡ Good r q → o ≡ Some (r, q)
good-some None r q e = not-bad e
good-some (Some (s, k)) r q e = let w = good-is e in λ i. Some (w.0 i, w.1 i)

pub spelled-read : (t : List ℕ) (p q : ℕ) (r : Record) → spelled_at t p ≡ Good r q → Stands t p (line_of r) q
unfolding spelled_at line_of
spelled-read t p q r = go (leb (length t) p)
  where
    go : (b : Bool) → cond b End (good_or_bad (on_read (place_at t p) None λ at past. star_at t past at)) ≡ Good r q → Stands t p (line_of r) q
    go true h = not_end h
    go false h =
        let (x, past, ex, hx) = read-some (place_at t p) _ _ (good-some _ r q h) in
        let w = star_read t past q x r hx in
        stands-join (subst (λ (y : Point). Stands t p (point_text y) past) w.0 (place_read t p past x ex)) w.1

-- what parses is valid, and its line stands there
pub line_read_lem : (t : List ℕ) (p q : ℕ) (r : Record) → line_at t p ≡ Good r q → (valid_of r ≡ true) × Stands t p (line_of r) q
unfolding line_at
line_read_lem t p q r = go (spelled_at t p) refl
  where
    sure : (s : Record) (k : ℕ) (b : Bool) → valid_of s ≡ b → spelled_at t p ≡ Good s k → cond b (Good s k) Bad ≡ Good r q
        → (valid_of r ≡ true) × Stands t p (line_of r) q
    sure s k true v e h =
        let w = good-is h in
        (subst (λ (y : Record). valid_of y ≡ true) w.0 v, spelled-read t p q r (e ∙ h))
    sure s k false v e h = not-bad h

    go : (l : Line) → spelled_at t p ≡ l → judged l ≡ Good r q → (valid_of r ≡ true) × Stands t p (line_of r) q
    go End e h = not_end h
    go Bad e h = not-bad h
    go (Good s k) e h = sure s k (valid_of s) refl e h

-- a reader that takes a line comes on by 12 bytes or more, and stays within the file
pub line-next : (t : List ℕ) (p q : ℕ) (r : Record) → line_at t p ≡ Good r q → (p + 12 ≤ q) × (q ≤ length t)
line-next t p q r e =
    let s = (line_read_lem t p q r e).1 in
    let least = line-least r in
    let within = stands-within s (omega arith) in
    (omega (arith, s.past), omega (arith, s.past, ap length s.here, length-append (line_of r) (drop q t), length-drop p t))

-- ---- the bytes settle the answer

-- no two valid records' lines stand at one position
pub line-one : (t : List ℕ) (p q q' : ℕ) (r s : Record) → valid_of r ≡ true → valid_of s ≡ true → Stands t p (line_of r) q → Stands t p (line_of s) q'
    → (r ≡ s) × (q ≡ q')
line-one t p q q' r s v w h k = good-is (sym (line_write t p q r v h) ∙ line_write t p q' s w k)

-- no valid record's line begins another's
pub line-prefix : (r s : Record) (xs ys : List ℕ) → valid_of r ≡ true → valid_of s ≡ true → line_of r ++ xs ≡ line_of s ++ ys → (r ≡ s) × (xs ≡ ys)
line-prefix r s xs ys v w e =
    let t = line_of r ++ xs in
    let h = stands_at t (line_of r) xs 0 refl in
    let k = stands_at t (line_of s) ys 0 e in
    let u = line-one t 0 _ _ r s v w h k in (
      u.0,
      sym (drop-append_seam (line_of r) xs) ∙ ap (drop (length (line_of r))) e ∙ ap (λ (y : Record). drop (length (line_of y)) (line_of s ++ ys)) u.0
          ∙ drop-append_seam (line_of s) ys,
    )

pub line-end : (t : List ℕ) (p : ℕ) → length t ≤ p → line_at t p ≡ End
unfolding line_at spelled_at
line-end t p h = rw (le-leb (length t) p h)

over : Line → Bool
over End = true
over Bad = false
over (Good r q) = false

good-over : (o : Option (Record × ℕ)) → over (good_or_bad o) ≡ false
unfolding over
good-over None = refl
good-over (Some (r, q)) = refl

judged-over : (l : Line) → over l ≡ false → over (judged l) ≡ false
unfolding over
judged-over End h = h
judged-over Bad h = h
judged-over (Good r q) h = go (valid_of r)
  where
    go : (b : Bool) → over (cond b (Good r q) Bad) ≡ false
    go true = refl
    go false = refl

-- a position within the file is not its end
line-over : (t : List ℕ) (p : ℕ) → p < length t → over (line_at t p) ≡ false
unfolding line_at spelled_at over
line-over t p h = judged-over (spelled_at t p) (rw (lt-leb (length t) p h) (good-over (on_read (place_at t p) None λ at past. star_at t past at)))

-- within the file, where no valid record's line stands
pub line-bad : (t : List ℕ) (p : ℕ) → p < length t → ((r : Record) (q : ℕ) → valid_of r ≡ true → Stands t p (line_of r) q → ⊥) → line_at t p ≡ Bad
unfolding over
line-bad t p h none = go (line_at t p) refl
  where
    go : (l : Line) → line_at t p ≡ l → line_at t p ≡ Bad
    go Bad e = e
    go End e = absurd (never (sym (sym (ap over e) ∙ line-over t p h)))
    go (Good r q) e = let w = line_read_lem t p q r e in absurd (none r q w.0 w.1)

-- ---- the lines of several records

pub lines_join : (rs ss : List Record) → lines (rs ++ ss) ≡ lines rs ++ lines ss
unfolding lines
lines_join [] ss = refl
lines_join (r ∷ rs) ss = ap (λ (l : List ℕ). line_of r ++ l) (lines_join rs ss) ∙ sym (append_assoc (line_of r) (lines rs) (lines ss))

-- the first parses, and the others stand behind it
pub lines_next : (t : List ℕ) (p q : ℕ) (r : Record) (rs : List Record) → valid_of r ≡ true → Stands t p (lines (r ∷ rs)) q
    → (line_at t p ≡ Good r (p + length (line_of r))) × Stands t (p + length (line_of r)) (lines rs) q
unfolding lines
lines_next t p q r rs v s = (line_write t p _ r v (stands-first (line_of r) (lines rs) s), stands-then (line_of r) (lines rs) s)
