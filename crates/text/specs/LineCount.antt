-- A line ends with a line feed and has no other: `lines_in` counts them · `lines-in` a file has as many as records.
-- Assumes nothing.
use Rattle.std.specs.Prelude.{◌≡◌, refl, Bool, cond, List, [], ◌∷◌, ◌++◌, ℕ, suc, ◌+◌, eqb, ℤ, pos, negsuc, length}
use Rattle.std.proofs.Common.{ap, arith, ne_eqb}
use Rattle.lattice.specs.declared.records.Record.{Record}
use Rattle.text.specs.Decimal.{digits, numeral, ended, tab, feed}
use Rattle.text.specs.DecimalLaws.{Digits, none, more, digits_are, digit_low}
use Rattle.text.specs.Line.{point_text, star_text, line_of, lines}

-- 1 for a line feed, 0 for any other byte
abbrev pub is_feed : ℕ → ℕ
is_feed c = cond (eqb c feed) 1 0

-- the lines of a file: its line feeds
abbrev pub lines_in : List ℕ → ℕ
lines_in [] = 0
lines_in (c ∷ xs) = is_feed c + lines_in xs

in-join : (xs ys : List ℕ) → lines_in (xs ++ ys) ≡ lines_in xs + lines_in ys
in-join [] ys = omega arith
in-join (c ∷ xs) ys = omega (arith, in-join xs ys)

in-digits : (xs : List ℕ) → Digits xs → lines_in xs ≡ 0
in-digits _ none = refl
in-digits _ (more {c} {xs} h d) =
    let l = digit_low c h in
    let e : is_feed c ≡ 0 = ap (λ (b : Bool). cond b 1 0) (ne_eqb c feed (omega arith)) in
    omega (arith, in-digits xs d)

in-numeral : (z : ℤ) → lines_in (numeral z) ≡ 0
in-numeral (pos n) = in-digits (digits n) (digits_are n)
in-numeral (negsuc n) = omega (arith, in-digits (digits (suc n)) (digits_are (suc n)))

in_field : (xs : List ℕ) → lines_in xs ≡ 0 → lines_in (ended xs tab) ≡ 0
in_field xs h = omega (arith, in-join xs (tab ∷ []), h)

in-line : (r : Record) → lines_in (line_of r) ≡ 1
unfolding line_of point_text star_text
in-line r =
    let a = ended (numeral r.at.a) tab in
    let b = ended (numeral r.at.b) tab in
    let m = ended (digits r.at.m.0) tab in
    let d = ended (digits r.d) tab in
    let k = ended (digits r.k) tab in
    let n = ended (digits r.n.0) feed in
    omega (
      arith,
      in-join (a ++ (b ++ m)) (d ++ (k ++ n)),
      in-join a (b ++ m),
      in-join b m,
      in-join d (k ++ n),
      in-join k n,
      in_field (numeral r.at.a) (in-numeral r.at.a),
      in_field (numeral r.at.b) (in-numeral r.at.b),
      in_field (digits r.at.m.0) (in-digits (digits r.at.m.0) (digits_are r.at.m.0)),
      in_field (digits r.d) (in-digits (digits r.d) (digits_are r.d)),
      in_field (digits r.k) (in-digits (digits r.k) (digits_are r.k)),
      in-join (digits r.n.0) (feed ∷ []),
      in-digits (digits r.n.0) (digits_are r.n.0),
    )

pub lines-in : (rs : List Record) → lines_in (lines rs) ≡ length rs
unfolding lines
lines-in [] = refl
lines-in (r ∷ rs) = omega (arith, in-join (line_of r) (lines rs), in-line r, lines-in rs)
