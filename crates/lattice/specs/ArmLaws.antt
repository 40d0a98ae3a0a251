-- `foremost-adjacent` every star's first arm is the same · `arm-next`, `near_next`, `far-next` an arm of a regular star, turned, is the next · `second-by-arm`,
-- `far-bounded` its corners have second opposites · `arm-light`, `near-light`, `far-light` an arm's sum can be taken ·
-- `ArmsPut` a star's row as it is filled arm by arm, `arms_start`, `arms_more`, `arms_end`.
-- Assumes nothing.
use Rattle.std.specs.Prelude.{◌≡◌, refl, true, false, List, ℕ, ◌+◌, ◌*◌, ◌≤◌, ◌<◌, ◌-◌, ◌^◌, max, ℤ, neg_ℤ, ◌+ℤ◌, Option, Some, None}
use Rattle.std.proofs.Common.{sym, ◌∙◌, ap, subst, arith, ne_eqb}
use Rattle.std.proofs.Math.Decide.{ℕ_discrete}
use Rattle.std.proofs.lemmas.List.Edits.{sets}
use Rattle.laws.specs.Each.{never}
use Rattle.laws.specs.Linear.{same, ‵, ◌⊕◌, ⊟}
use Rattle.laws.specs.Multiples.{add_times, neg-times}
use Rattle.laws.specs.Rules.{Test, ◌≤?◌, ◌&◌, ◌⇒◌, Means, rule}
use Rattle.lattice.specs.AnswerRowLaws.{six_numbers, mixed, mixed-more}
use Rattle.lattice.specs.AnswerRows.{point_numbers, answer_numbers}
use Rattle.lattice.specs.Arms.{regular_of, arm_by, arm_of, near_arm, far_arm, next_arm}
use Rattle.lattice.specs.Bounds.{Near, near-small}
use Rattle.lattice.specs.PatternLaws.{adjacent-near, first-near, second-near, orient-turn}
use Rattle.lattice.specs.Patterns.{Row, three, four, five, six, rows_of, pattern_of, orient, on_spot, adjacent_of, second_opposite_of}
use Rattle.lattice.specs.PointLaws.{alike, alike-eq}
use Rattle.lattice.specs.Points.{turn60_of}
use Rattle.lattice.specs.RecordLaws.{Inner, inner-small}
use Rattle.lattice.specs.Rows.{held}
use Rattle.lattice.specs.Stars.{scale_of, step_of, adjacent_at, second_at, nowhere, given}
use Rattle.lattice.specs.Terms.{added_of, Light, terms-light}
use Rattle.lattice.specs.declared.points.Point.{Point}
use Rattle.lattice.specs.declared.points.Terms.{Terms}
use Rattle.lattice.specs.declared.records.Record.{Record}

first-row : (d : ℕ) → 3 ≤ d → d ≤ 6 → (pattern_of 6 0).adjacent ≡ (pattern_of d 0).adjacent
unfolding pattern_of rows_of three four five six
first-row d l h = alike-eq _ _ (rule 7 (λ d. 3 ≤? d ⇒ alike (pattern_of 6 0).adjacent (pattern_of d 0).adjacent) tt d (omega arith) l)

pub foremost-adjacent : (d k : ℕ) → 3 ≤ d → d ≤ 6 → adjacent_of 6 k 0 ≡ adjacent_of d k 0
foremost-adjacent d k l h = ap (orient k) (first-row d l h)

-- ---- what stands at the places of a regular star, each turned from the one before it: one test a degree
abbrev turns_to : (Point → Point) → Row → Row → Test
turns_to f r q = alike q.adjacent (f r.adjacent) & alike q.first (f r.first) & alike (held q.second) (f (held r.second))

six-turns : (j : ℕ) → j + 1 < 6 → Means (turns_to turn60_of (pattern_of 6 j) (pattern_of 6 (j + 1)))
unfolding pattern_of rows_of three four five six
six-turns j h = rule 5 (λ j. turns_to turn60_of (pattern_of 6 j) (pattern_of 6 (j + 1))) tt j (omega arith)

three-turns : (j : ℕ) → j + 1 < 3 → Means (turns_to (λ p. turn60_of (turn60_of p)) (pattern_of 3 j) (pattern_of 3 (j + 1)))
unfolding pattern_of rows_of three four five six
three-turns j h = rule 2 (λ j. turns_to (λ p. turn60_of (turn60_of p)) (pattern_of 3 j) (pattern_of 3 (j + 1))) tt j (omega arith)

-- a column of the patterns turns so
record Turning (f : Row → Point) : Type 0 where
  by-six : (j : ℕ) → j + 1 < 6 → f (pattern_of 6 (j + 1)) ≡ turn60_of (f (pattern_of 6 j))
  by_three : (j : ℕ) → j + 1 < 3 → f (pattern_of 3 (j + 1)) ≡ turn60_of (turn60_of (f (pattern_of 3 j)))

adjacents : Turning (λ r. r.adjacent)
adjacents = record { by-six = λ j h. alike-eq _ _ (six-turns j h).0; by_three = λ j h. alike-eq _ _ (three-turns j h).0 }

firsts : Turning (λ r. r.first)
firsts = record { by-six = λ j h. alike-eq _ _ (six-turns j h).1.0; by_three = λ j h. alike-eq _ _ (three-turns j h).1.0 }

seconds : Turning (λ r. held r.second)
seconds = record { by-six = λ j h. alike-eq _ _ (six-turns j h).1.1; by_three = λ j h. alike-eq _ _ (three-turns j h).1.1 }

-- ---- an arm turns with its pattern point
module _ (v : Record) (q : Point) where
  abbrev scale : ℕ
  scale = 3 ^ (max v.at.m.0 (scale_of v.n q).m.0 - (scale_of v.n q).m.0)

  turn-arm : next_arm 6 (arm_by v q) ≡ arm_by v (turn60_of q)
  turn-arm =
      λ i. record {
        a = (arm_by v q).a;
        b = (arm_by v q).b;
        x = sym (neg-times q.b scale) i;
        y = sym (add_times q.a q.b scale) i;
        m = (arm_by v q).m;
      }

twice : (w : Terms) → next_arm 3 w ≡ next_arm 6 (next_arm 6 w)
twice w =
    let x = ‵ w.x in
    let y = ‵ w.y in
    λ i. record { a = w.a; b = w.b; x = neg_ℤ (w.x +ℤ w.y); y = same x (⊟ y ⊕ (x ⊕ y)) (omega arith) i; m = w.m }

-- what is so at degrees 3 and 6 is so of each regular one
regular-by : (P : ℕ → Type 0) → P 3 → P 6 → (d : ℕ) → regular_of d ≡ true → P d
regular-by P a b d e = go (ℕ_discrete d 6) (ℕ_discrete d 3)
  where
    go : Dec (d ≡ 6) → Dec (d ≡ 3) → P d
    go (yes f) s = subst P (sym f) b
    go (no f) (yes g) = subst P (sym g) a
    go (no f) (no g) = absurd (let z : false ≡ true = simp (ne_eqb d 3 g, ne_eqb d 6 f) at e in never z)

-- the arms to a column's points
module _ (f : Row → Point) (t : Turning f) (v : Record) (j : ℕ) where
  abbrev at : ℕ → ℕ → Point
  at d j = f (pattern_of d j)

  abbrev to : ℕ → ℕ → Terms
  to d j = arm_by v (orient v.k (at d j))

  next-six : j + 1 < 6 → next_arm 6 (to 6 j) ≡ to 6 (j + 1)
  next-six h =
      turn-arm v (orient v.k (at 6 j)) ∙ ap (arm_by v) (sym (orient-turn v.k (at 6 j)) ∙ ap (orient v.k) (sym (t.by-six j h)))

  next-three : j + 1 < 3 → next_arm 3 (to 3 j) ≡ to 3 (j + 1)
  next-three h =
      let q = orient v.k (at 3 j) in
      twice (arm_by v q)
      ∙ ap (next_arm 6) (turn-arm v q)
      ∙ turn-arm v (turn60_of q)
      ∙ ap (arm_by v)
      (ap turn60_of (sym (orient-turn v.k (at 3 j))) ∙ sym (orient-turn v.k (turn60_of (at 3 j))) ∙ ap (orient v.k) (sym (t.by_three j h)))

  column-next : regular_of v.d ≡ true → j + 1 < v.d → next_arm v.d (to v.d j) ≡ to v.d (j + 1)
  column-next e = regular-by (λ d. j + 1 < d → next_arm d (to d j) ≡ to d (j + 1)) next-three next-six v.d e

module _ (v : Record) (j : ℕ) where
  pub arm-next : regular_of v.d ≡ true → j + 1 < v.d → next_arm v.d (arm_of v j) ≡ arm_of v (j + 1)
  arm-next = column-next (λ r. r.adjacent) adjacents v j

  pub near_next : regular_of v.d ≡ true → j + 1 < v.d → next_arm v.d (near_arm v j) ≡ near_arm v (j + 1)
  near_next = column-next (λ r. r.first) firsts v j

-- ---- each corner of a regular star has a second opposite
abbrev at_test : Option Point → Test
at_test (Some p) = 0 ≤? 0
at_test None = 1 ≤? 0

at_held : (s : Option Point) → Means (at_test s) → s ≡ Some (held s)
at_held (Some p) m = refl
at_held None m = absurd (omega (arith, m))

second-there : (d : ℕ) → regular_of d ≡ true → (j : ℕ) → j < d → (pattern_of d j).second ≡ Some (held (pattern_of d j).second)
unfolding pattern_of rows_of three four five six
second-there d e j =
    regular-by (λ d. j < d → (pattern_of d j).second ≡ Some (held (pattern_of d j).second))
    (λ h. at_held _ (rule 3 (λ j. at_test (pattern_of 3 j).second) tt j h))
    (λ h. at_held _ (rule 6 (λ j. at_test (pattern_of 6 j).second) tt j h))
    d
    e

module _ (v : Record) (e : regular_of v.d ≡ true) (j : ℕ) (h : j < v.d) where
  abbrev p : Point
  p = orient v.k (held (pattern_of v.d j).second)

  second-held : second_opposite_of v.d v.k j ≡ Some p
  second-held = ap (on_spot (orient v.k)) (second-there v.d e j h)

  far-is : far_arm v j ≡ arm_by v p
  far-is = ap (λ (s : Option Point). arm_by v (held s)) second-held

  pub second-by-arm : second_at v j ≡ Some (added_of (far_arm v j))
  second-by-arm = ap (on_spot (step_of v.at v.n)) second-held ∙ ap (λ (w : Terms). Some (added_of w)) (sym far-is)

  pub far-bounded : Inner v → Near v.n (held (second_opposite_of v.d v.k j))
  far-bounded i = subst (λ (s : Option Point). Near v.n (held s)) (sym second-held) (second-near v i j h p second-held)

pub far-next : (v : Record) (j : ℕ) (e : regular_of v.d ≡ true) → j + 1 < v.d → next_arm v.d (far_arm v j) ≡ far_arm v (j + 1)
far-next v j e h =
    ap (next_arm v.d) (far-is v e j (omega (arith, h))) ∙ column-next (λ r. held r.second) seconds v j e h ∙ sym (far-is v e (j + 1) h)

-- ---- an arm's sum can be taken
light : (v : Record) → Inner v → (q : Point) → Near v.n q → Light (arm_by v q)
light v i q k = terms-light v.at (scale_of v.n q) (inner-small i) (near-small v.n k)

module _ (v : Record) (i : Inner v) (j : ℕ) (h : j < v.d) where
  pub arm-light : Light (arm_of v j)
  arm-light = light v i _ (adjacent-near v i j h)

  pub near-light : Light (near_arm v j)
  near-light = light v i _ (first-near v i j h)

  pub far-light : regular_of v.d ≡ true → Light (far_arm v j)
  far-light e = light v i _ (far-bounded v e j h i)

-- ---- a star's row, filled arm by arm
-- the adjacent points below place j, then zeros
abbrev pub row_to : Record → ℕ → List ℤ
row_to v j = six_numbers v.d (mixed (adjacent_at v) (λ i. nowhere) j)

-- and w is the arm to the point at place j
pub record ArmsPut (v : Record) (j : ℕ) (out : List ℤ) (w : Terms) : Type 0 where
  pub most : j ≤ v.d
  pub row : out ≡ row_to v j
  pub arm : j < v.d → w ≡ arm_of v j

module _ (v : Record) where
  pub arms_start : (out : List ℤ) (w : Terms) → out ≡ row_to v 0 → w ≡ arm_of v 0 → ArmsPut v 0 out w
  arms_start out w e f = record { most = omega arith; row = e; arm = λ h. f }

  pub arms-light : (i : Inner v) (j : ℕ) (out : List ℤ) (w : Terms) → ArmsPut v j out w → j < v.d → Light w
  arms-light i j out w a h = subst Light (sym (a.arm h)) (arm-light v i j h)

  -- the point of w put, and w turned
  pub arms_more :
      (i : Inner v) → regular_of v.d ≡ true → (j : ℕ) (out : List ℤ) (w : Terms) → ArmsPut v j out w → j < v.d
      → ArmsPut v (j + 1) (sets out (3 * j + 1) (point_numbers (added_of w))) (next_arm v.d w)
  arms_more i r j out w a h =
      record {
        most = omega (arith, h);
        row = ap (λ (o : List ℤ). sets o (3 * j + 1) (point_numbers (added_of w))) a.row
            ∙ mixed-more v.d (adjacent_at v) (λ i. nowhere) j (omega (arith, i.top, h)) _ (ap added_of (a.arm h));
        arm = λ l. ap (next_arm v.d) (a.arm h) ∙ arm-next v j r l;
      }

  pub arms_end : (j : ℕ) (out : List ℤ) (w : Terms) → ArmsPut v j out w → (j < v.d → ⊥) → out ≡ answer_numbers (given v)
  arms_end j out w a h = let e : j ≡ v.d = omega (arith, a.most, h) in a.row ∙ ap (row_to v) e
