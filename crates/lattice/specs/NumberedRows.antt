-- The rows of the star patterns numbered on through the four degrees: row d(d - 1) + 2j + h is place j of degree d at orientation h, 0 or 1.
-- `Place` a row, nine numbers, `place_of` the row of a place, `adjacent_in`, `first_in`, `second_in` its points · `first_row` where a degree begins,
-- `table_row` the row at a number · `table-row`, `degree-rows` which number a degree, a place and an orientation have · `read` a point in bytes is the
-- same, `read_same`, `read-hex` · `past`.
-- Assumes nothing.
use Rattle.std.specs.Prelude.{◌≡◌, List, [], ◌∷◌, ◌++◌, ℕ, zero, suc, ◌+◌, ◌*◌, ◌-◌, ◌≤◌, ◌<◌, ℤ, get_or}
use Rattle.std.proofs.Common.{sym, subst, arith, to_z, of_z, to_z-of_z}
use Rattle.std.specs.Int.{w8}
use Rattle.laws.specs.Sizes.{fits}
use Rattle.laws.specs.Rules.{Test, ◌≤?◌, ◌&◌, ◌⇒◌, Means, rule, rule2}
use Rattle.lattice.specs.Patterns.{Row, three, four, five, six, rows_of, pattern_of, orient}
use Rattle.lattice.specs.PointLaws.{alike, alike-eq}
use Rattle.lattice.specs.Bounds.{Hex}
use Rattle.lattice.specs.Points.{pt}
use Rattle.lattice.specs.Rows.{own, held, orient_row}
use Rattle.lattice.specs.declared.points.Point.{Point}

-- three numbers a point
pub record Place : Type 0 where
  pub 0 : ℤ
  pub 1 : ℤ
  pub 2 : ℕ
  pub 3 : ℤ
  pub 4 : ℤ
  pub 5 : ℕ
  pub 6 : ℤ
  pub 7 : ℤ
  pub 8 : ℕ

-- adjacent | first opposite | second opposite, and each read out of a row
abbrev pub nine : Point → Point → Point → Place
nine p q s = record { 0 = p.a; 1 = p.b; 2 = p.m.0; 3 = q.a; 4 = q.b; 5 = q.m.0; 6 = s.a; 7 = s.b; 8 = s.m.0 }

abbrev pub adjacent_in : Place → Point
adjacent_in r = pt r.0 r.1 r.2

abbrev pub first_in : Place → Point
first_in r = pt r.3 r.4 r.5

abbrev pub second_in : Place → Point
second_in r = pt r.6 r.7 r.8

abbrev pub place_of : Row → Place
place_of r = nine r.adjacent r.first (held r.second)

-- each row at orientation 0 and at orientation 1
abbrev both_rows : List Row → List Place
both_rows [] = []
both_rows (r ∷ l) = place_of (orient_row 0 r) ∷ place_of (orient_row 1 r) ∷ both_rows l

-- the number of degree d's first row, and past the last degree the first number that is none
abbrev pub first_row : ℕ → ℕ
first_row d = d * (d - 1)

-- row i of the four tables, one after the other
unfoldable pub table_row : ℕ → Place
unfolding orient three four five six
table_row i = get_or (both_rows (three ++ four ++ five ++ six)) (i - first_row 3) (nine own own own)

-- a point near 0 is the same in bytes
abbrev pub read : Point → Point
read p = pt (to_z w8 (of_z w8 p.a)) (to_z w8 (of_z w8 p.b)) p.m.0

pub read_same : {p : Point} → Hex 10 p → read p ≡ p
read_same {p} h = λ i. pt (to_z-of_z (fits w8 p.a (omega (arith, h.a))) i) (to_z-of_z (fits w8 p.b (omega (arith, h.b))) i) p.m.0

pub read-hex : {p : Point} → Hex 10 p → Hex 10 (read p)
read-hex h = subst (Hex 10) (sym (read_same h)) h

-- a number that is none of those so far
pub past : {n i : ℕ} → n ≤ i → (i ≡ n → ⊥) → suc n ≤ i
past {n} {i} l e = omega arith

-- ---- where a degree, a place and an orientation stand: one test over degree and place
abbrev same_row : Place → Place → Test
same_row p q = alike (adjacent_in p) (adjacent_in q) & alike (first_in p) (first_in q) & alike (second_in p) (second_in q)

row-eq : (p q : Place) → Means (same_row p q) → p ≡ q
row-eq p q r =
    λ i. nine (alike-eq (adjacent_in p) (adjacent_in q) r.0 i) (alike-eq (first_in p) (first_in q) r.1.0 i) (alike-eq (second_in p) (second_in q) r.1.1 i)

abbrev at : ℕ → ℕ → ℕ → ℕ
at d j h = first_row d + 2 * j + h

abbrev stands : ℕ → ℕ → ℕ → Test
stands d j h = same_row (table_row (at d j h)) (place_of (orient_row h (pattern_of d j)))

both-stand : (d j : ℕ) → 3 ≤ d → d ≤ 6 → j < d → Means (stands d j 0 & stands d j 1)
unfolding table_row orient pattern_of rows_of three four five six
both-stand d j l h k = rule2 7 6 (λ d j. 3 ≤? d ⇒ suc j ≤? d ⇒ stands d j 0 & stands d j 1) tt d (omega arith) j (omega arith) l k

pub table-row : (d j h : ℕ) → 3 ≤ d → d ≤ 6 → j < d → h < 2 → table_row (at d j h) ≡ place_of (orient_row h (pattern_of d j))
table-row d j zero l t k b = row-eq _ _ (both-stand d j l t k).0
table-row d j (suc zero) l t k b = row-eq _ _ (both-stand d j l t k).1
table-row d j (suc (suc h)) l t k b = absurd (omega arith)

-- the rows of a degree are among the 36
pub degree-rows : (d : ℕ) → 3 ≤ d → d ≤ 6 → (first_row 3 ≤ first_row d) × (first_row d + 2 * d ≤ first_row 7)
degree-rows d l h = rule 7 (λ d. 3 ≤? d ⇒ first_row 3 ≤? first_row d & first_row d + 2 * d ≤? first_row 7) tt d (omega arith) l
