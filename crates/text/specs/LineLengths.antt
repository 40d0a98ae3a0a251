-- How long lines are, by their fields.
-- `point-length`, `star-length`, `line-halves` a line's parts · `point-long`, `star-long`, `line-long` by their fields · `point-least`,
-- `line-least`, `line-most` a point's text has at least 6 bytes, a line at least 12, and at most 26 for a valid record · `lines-least` those of several.
-- Assumes nothing.
use Rattle.std.specs.Prelude.{◌≡◌, true, List, [], ◌∷◌, ◌++◌, ℕ, suc, ◌+◌, ◌*◌, ◌≤◌, ◌<◌, ◌^◌, length, ℤ, pos, negsuc, nat_abs}
use Rattle.std.proofs.Common.{arith, length-append}
use Rattle.lattice.specs.declared.points.Point.{Point}
use Rattle.lattice.specs.declared.records.Record.{Record}
use Rattle.lattice.specs.Records.{valid_of}
use Rattle.text.specs.Decimal.{digits, numeral, ended, tab, feed}
use Rattle.text.specs.Line.{point_text, star_text, line_of, lines}
use Rattle.text.specs.DecimalLaws.{digits-some, width-below}
use Rattle.text.specs.Near.{valid-near}

pub length_three : (xs ys zs : List ℕ) → length (xs ++ (ys ++ zs)) ≡ length xs + (length ys + length zs)
length_three xs ys zs = omega (arith, length-append xs (ys ++ zs), length-append ys zs)

pub point-length : (p : Point)
    → length (point_text p) ≡ length (ended (numeral p.a) tab) + (length (ended (numeral p.b) tab) + length (ended (digits p.m.0) tab))
unfolding point_text
point-length p = length_three (ended (numeral p.a) tab) (ended (numeral p.b) tab) (ended (digits p.m.0) tab)

pub star-length : (d k n : ℕ) → length (star_text d k n) ≡ length (ended (digits d) tab) + (length (ended (digits k) tab) + length (ended (digits n) feed))
unfolding star_text
star-length d k n = length_three (ended (digits d) tab) (ended (digits k) tab) (ended (digits n) feed)

pub line-halves : (r : Record) → length (line_of r) ≡ length (point_text r.at) + length (star_text r.d r.k r.n.0)
unfolding line_of
line-halves r = length-append (point_text r.at) (star_text r.d r.k r.n.0)

-- three fields each, and a byte after each
pub point-long : (p : Point) → length (point_text p) ≡ length (numeral p.a) + length (numeral p.b) + length (digits p.m.0) + 3
point-long p =
    omega (
      arith,
      point-length p,
      length-append (numeral p.a) (tab ∷ []),
      length-append (numeral p.b) (tab ∷ []),
      length-append (digits p.m.0) (tab ∷ []),
    )

pub star-long : (d k n : ℕ) → length (star_text d k n) ≡ length (digits d) + length (digits k) + length (digits n) + 3
star-long d k n =
    omega (
      arith,
      star-length d k n,
      length-append (digits d) (tab ∷ []),
      length-append (digits k) (tab ∷ []),
      length-append (digits n) (feed ∷ []),
    )

pub line-long : (r : Record) → length (line_of r) ≡ length (numeral r.at.a) + length (numeral r.at.b) + length (digits r.at.m.0) +
    (length (digits r.d) + length (digits r.k) + length (digits r.n.0)) + 6
line-long r = omega (arith, line-halves r, point-long r.at, star-long r.d r.k r.n.0)

numeral-some : (z : ℤ) → 1 ≤ length (numeral z)
numeral-some (pos n) = digits-some n
numeral-some (negsuc n) = omega (arith, digits-some (suc n))

numeral-below : (w : ℕ) (z : ℤ) → 0 < w → nat_abs z < 10 ^ w → length (numeral z) ≤ suc w
numeral-below w (pos n) p h = omega (arith, width-below w n p h)
numeral-below w (negsuc n) p h = omega (arith, width-below w (suc n) p h)

pub point-least : (p : Point) → 6 ≤ length (point_text p)
point-least p = omega (arith, point-long p, numeral-some p.a, numeral-some p.b, digits-some p.m.0)

-- the shortest line has six digits
abbrev pub shortest : ℕ
shortest = 12

pub line-least : (r : Record) → shortest ≤ length (line_of r)
line-least r =
    omega (
      arith,
      line-halves r,
      point-least r.at,
      star-long r.d r.k r.n.0,
      digits-some r.d,
      digits-some r.k,
      digits-some r.n.0,
    )

-- a valid record's line has at most two signs, and 6, 6, 1, 1, 2, 2 digits
abbrev pub longest : ℕ
longest = 26

pub line-most : (r : Record) → valid_of r ≡ true → length (line_of r) ≤ longest
line-most r v =
    let s = valid-near r v in
    omega (
      arith,
      line-long r,
      numeral-below 6 r.at.a (omega arith) (omega (arith, s.a)),
      numeral-below 6 r.at.b (omega arith) (omega (arith, s.b)),
      width-below 1 r.at.m.0 (omega arith) (omega (arith, s.m)),
      width-below 1 r.d (omega arith) (omega (arith, s.d)),
      width-below 2 r.k (omega arith) (omega (arith, s.k)),
      width-below 2 r.n.0 (omega arith) (omega (arith, s.n)),
    )

pub lines-least : (rs : List Record) → shortest * length rs ≤ length (lines rs)
unfolding lines
lines-least [] = omega arith
lines-least (r ∷ rs) = omega (arith, line-least r, lines-least rs, length-append (line_of r) (lines rs))
