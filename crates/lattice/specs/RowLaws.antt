-- What the rows of the constant tables obey.
-- `foremost-row` the first adjacent point · `table-rule` the rule of a degree's table, by one test over the whole of it, `table-rules` of each degree,
-- `table-long` how many rows it has · `held-hex`, `held-turned`, `second_none`, `second_at` second opposites.
-- Assumes nothing.
use Rattle.std.specs.Prelude.{◌≡◌, refl, ℕ, zero, suc, ◌+◌, ◌*◌, ◌%◌, ◌/◌, ◌≤◌, ◌<◌, T, ℤ, pos, nat_abs, length, Option, Some, None}
use Rattle.std.proofs.Common.{sym, ap, subst, arith, lit≤, Fits}
use Rattle.std.specs.Int.Signed.{non_neg}
use Rattle.std.specs.Int.{w8}
use Rattle.laws.specs.Rules.{Test, ◌≤?◌, ◌≡?◌, ◌≡ᶻ?◌, ◌&◌, ◌⇒◌, run, upto, rule, rule2}
use Rattle.lattice.specs.Patterns.{three, four, five, six, rows_of, pattern_of, orient, on_spot}
use Rattle.lattice.specs.PatternLaws.{Close, Zero, orient-split, orient-zero, hex-orient}
use Rattle.lattice.specs.PointLaws.{alike, alike-eq}
use Rattle.lattice.specs.Bounds.{Hex}
use Rattle.lattice.specs.Points.{pt, turn60_of, turns}
use Rattle.lattice.specs.Rows.{own, held, part_of, orient_row, table_of, number_in, point_in, TableRule}
use Rattle.lattice.specs.declared.points.Point.{Point}

-- the first adjacent point, at orientations 0 and 1
pub foremost-row : (h : ℕ) → h < 2 → pt (pos 1) (pos h) h ≡ orient h (pattern_of 6 0).adjacent
unfolding orient pattern_of rows_of six
foremost-row zero l = refl
foremost-row (suc zero) l = refl
foremost-row (suc (suc h)) l = absurd (omega arith)

-- ---- the rule of a degree's table, by one test that is computed over the whole table
abbrev depth_at : ℕ → ℕ → ℕ → ℤ
depth_at d i c = number_in (table_of d) i (3 * c + 2)

abbrev in_table : ℕ → ℕ → ℕ → Test
in_table d i c =
    alike (point_in (table_of d) i c) (part_of c (orient_row (i % 2) (pattern_of d (i / 2))))
    & depth_at d i c ≡ᶻ? pos (nat_abs (depth_at d i c))
    & nat_abs (depth_at d i c) ≤? 255

byte : (z : ℤ) → z ≡ pos (nat_abs z) → nat_abs z ≤ 255 → T (non_neg z) × Fits w8 (nat_abs z)
byte z e h = (subst (λ (x : ℤ). T (non_neg x)) (sym e) tt, record { fits = omega (arith, h) })

pub table-rule : (d : ℕ) → T (upto (2 * d) (λ i. upto 3 (λ c. run (in_table d i c)))) → TableRule d
table-rule d t =
    let at = rule2 (2 * d) 3 (in_table d) t in
    record { part = λ i c h b. alike-eq _ _ (at i h c b).0; depth = λ i c h b. byte (depth_at d i c) (at i h c b).1.0 (at i h c b).1.1 }

pub table-rules : (d : ℕ) → 3 ≤ d → d ≤ 6 → TableRule d
unfolding orient pattern_of rows_of three four five six
table-rules zero l h = absurd (omega arith)
table-rules (suc zero) l h = absurd (omega arith)
table-rules (suc (suc zero)) l h = absurd (omega arith)
table-rules (suc (suc (suc zero))) l h = table-rule 3 tt
table-rules (suc (suc (suc (suc zero)))) l h = table-rule 4 tt
table-rules (suc (suc (suc (suc (suc zero))))) l h = table-rule 5 tt
table-rules (suc (suc (suc (suc (suc (suc zero)))))) l h = table-rule 6 tt
table-rules (suc (suc (suc (suc (suc (suc (suc d))))))) l h = absurd (omega arith)

-- two rows a place
pub table-long : (d : ℕ) → 3 ≤ d → d ≤ 6 → length (table_of d) ≡ 2 * d
unfolding orient rows_of three four five six
table-long d l h = rule 7 (λ d. 3 ≤? d ⇒ length (table_of d) ≡? 2 * d) tt d (omega arith) l

-- a second opposite as the tables have it is near
pub held-hex : (h : ℕ) (s : Option Point) → ((p : Point) → s ≡ Some p → Close p) → Hex 10 (held (on_spot (orient h) s))
held-hex h (Some p) c = hex-orient h (c p refl).hex
held-hex h None c = record { a = lit≤ tt; b = lit≤ tt; c = lit≤ tt }

-- ---- a second opposite as the tables have it, turned: it is the vertex itself exactly where there is none
turns-own : (n : ℕ) → turns n own ≡ own
unfolding turns
turns-own zero = refl
turns-own (suc n) = ap turn60_of (turns-own n)

-- what the tables have, turned, is the second opposite at any orientation
pub held-turned : (k : ℕ) (s : Option Point) → turns (k / 2) (held (on_spot (orient (k % 2)) s)) ≡ held (on_spot (orient k) s)
held-turned k (Some p) = orient-split k p
held-turned k None = turns-own (k / 2)

pub second_none : (k : ℕ) (s : Option Point) → ((p : Point) → s ≡ Some p → Close p) → Zero (held (on_spot (orient k) s)) → on_spot (orient k) s ≡ None
second_none k (Some p) c z = absurd ((c p refl).away (orient-zero k p z))
second_none k None c z = refl

pub second_at : (k : ℕ) (s : Option Point) → (Zero (held (on_spot (orient k) s)) → ⊥) → Some (held (on_spot (orient k) s)) ≡ on_spot (orient k) s
second_at k (Some p) h = refl
second_at k None h = absurd (h (refl, refl))
