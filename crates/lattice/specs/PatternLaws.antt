-- The laws of orientations and pattern points, each over degree and orientation, by one test over the table.
-- `orient-split` an orientation by turns, `orient-turn` and a turn through it · `hex-orient`, `orient-depth` how far and how deep · `Zero`, `orient-zero` only
-- 0 is turned to 0 · `adjacent-close`, `first-close`, `second-close` the bounds of the pattern points ·
-- `adjacent-near`, `first-near`, `second-near` the same at any orientation and level.
-- Assumes nothing.
use Rattle.std.specs.Prelude.{◌≡◌, refl, ℕ, zero, suc, ◌+◌, ◌%◌, ◌/◌, ◌≤◌, ◌<◌, pos, ◌+ℤ◌, nat_abs, Option, Some, None}
use Rattle.std.proofs.Common.{ap, subst, arith}
use Rattle.laws.specs.Linear.{same, told-≡, ‵, ◌⊕◌, ◌⊝◌, ⊟, ◌⊗◌}
use Rattle.laws.specs.Rules.{Test, ◌≤?◌, ◌≡?◌, ◌≡ᶻ?◌, ◌&◌, Means, ◌⇒◌, rule2}
use Rattle.lattice.specs.Patterns.{orient, Row, three, four, five, six, rows_of, pattern_of, on_spot, adjacent_of, first_opposite_of, second_opposite_of}
use Rattle.lattice.specs.Bounds.{Hex, hex-turn60, hex-turn30, Near}
use Rattle.lattice.specs.Points.{turn60_of, turn30_of, turns, pt}
use Rattle.lattice.specs.declared.points.Point.{Point}
use Rattle.lattice.specs.declared.records.Level.{Level}
use Rattle.lattice.specs.RecordLaws.{Inner}
use Rattle.lattice.specs.declared.records.Record.{Record}

-- the 30 degree rule where k is odd, and a turn for every two
pub orient-split : (k : ℕ) (p : Point) → turns (k / 2) (orient (k % 2) p) ≡ orient k p
unfolding orient turns
orient-split zero p = refl
orient-split (suc zero) p = refl
orient-split (suc (suc k)) p =
    let e : suc (suc k) / 2 ≡ suc (k / 2) = omega arith in
    let f : suc (suc k) % 2 ≡ k % 2 = omega arith in
    rw (e, f) (ap turn60_of (orient-split k p))

-- a turn goes through an orientation
pub orient-turn : (k : ℕ) (p : Point) → orient k (turn60_of p) ≡ turn60_of (orient k p)
unfolding orient
orient-turn zero p = refl
orient-turn (suc zero) p =
    let a = ‵ p.a in
    let b = ‵ p.b in
    let x = ⊟ b in
    let y = a ⊕ b in
    λ i. pt (same (x ⊝ y) (⊟ (a ⊕ 2 ⊗ b)) (omega arith) i) (same (x ⊕ 2 ⊗ y) ((a ⊝ b) ⊕ (a ⊕ 2 ⊗ b)) (omega arith) i) (p.m.0 + 1)
orient-turn (suc (suc k)) p = ap turn60_of (orient-turn k p)

pub hex-orient : (k : ℕ) {p : Point} → Hex 4 p → Hex 10 (orient k p)
unfolding orient
hex-orient zero h = record { a = omega (arith, h.a); b = omega (arith, h.b); c = omega (arith, h.c) }
hex-orient (suc zero) h = hex-turn30 h
hex-orient (suc (suc k)) h = hex-turn60 (hex-orient k h)

pub orient-depth : (k : ℕ) (p : Point) → (orient k p).m.0 ≡ p.m.0 + k % 2
unfolding orient
orient-depth zero p = omega arith
orient-depth (suc zero) p = refl
orient-depth (suc (suc k)) p = let e = orient-depth k p in omega arith

-- both numerators are 0
abbrev pub Zero : Point → Type 0
Zero p = (p.a ≡ pos 0) × (p.b ≡ pos 0)

turn60-zero : (p : Point) → Zero (turn60_of p) → Zero p
turn60-zero p z =
    let a = ‵ p.a in
    let b = ‵ p.b in
    let o = ‵ (pos 0) in
    let x = told-≡ (⊟ b) o z.0 in
    let y = told-≡ (a ⊕ b) o z.1 in
    (same a o (omega arith), same b o (omega arith))

turn30-zero : (p : Point) → Zero (turn30_of p) → Zero p
turn30-zero p z =
    let a = ‵ p.a in
    let b = ‵ p.b in
    let o = ‵ (pos 0) in
    let x = told-≡ (a ⊝ b) o z.0 in
    let y = told-≡ (a ⊕ 2 ⊗ b) o z.1 in
    (same a o (omega arith), same b o (omega arith))

pub orient-zero : (k : ℕ) (p : Point) → Zero (orient k p) → Zero p
unfolding orient
orient-zero zero p z = z
orient-zero (suc zero) p z = turn30-zero p z
orient-zero (suc (suc k)) p z = orient-zero k p (turn60-zero (orient k p) z)

-- ---- the pattern points lie near, and not at 0, at every degree and place
abbrev near_test : Point → Test
near_test p =
    nat_abs p.a ≤? 4 & nat_abs p.b ≤? 4 & nat_abs (p.a +ℤ p.b) ≤? 4 & p.m.0 ≤? 1 & (p.a ≡ᶻ? pos 0 & p.b ≡ᶻ? pos 0 ⇒ 1 ≡? 0)

abbrev near_spot : Option Point → Test
near_spot (Some p) = near_test p
near_spot None = 0 ≤? 0

abbrev near_row : Row → Test
near_row r = near_test r.adjacent & near_test r.first & near_spot r.second

-- a pattern point of orientation 0
pub record Close (p : Point) : Type 0 where
  pub hex : Hex 4 p
  pub depth : p.m.0 ≤ 1
  pub away : Zero p → ⊥

close : (p : Point) → Means (near_test p) → Close p
close p r =
    record { hex = record { a = r.0; b = r.1.0; c = r.1.1.0 }; depth = r.1.1.1.0; away = λ z. let e = r.1.1.1.1 z in omega (arith, e) }

row_near : (d j : ℕ) → 3 ≤ d → d ≤ 6 → j < d → Means (near_row (pattern_of d j))
unfolding pattern_of rows_of three four five six
row_near d j l h k = rule2 7 6 (λ d j. 3 ≤? d ⇒ suc j ≤? d ⇒ near_row (pattern_of d j)) tt d (omega arith) j (omega arith) l k

-- so it is at each place of each degree
module _ (d j : ℕ) (l : 3 ≤ d) (h : d ≤ 6) (k : j < d) where
  pub adjacent-close : Close (pattern_of d j).adjacent
  adjacent-close = close (pattern_of d j).adjacent (row_near d j l h k).0

  pub first-close : Close (pattern_of d j).first
  first-close = close (pattern_of d j).first (row_near d j l h k).1.0

  pub second-close : (p : Point) → (pattern_of d j).second ≡ Some p → Close p
  second-close p e = close p (subst (λ (s : Option Point). Means (near_spot s)) e (row_near d j l h k).1.1)

spot-inj : {p q : Point} → Some p ≡ Some q → p ≡ q
spot-inj {p} {q} e = cc

spot-none : {p : Point} → None ≡ Some p → ⊥
spot-none {p} e = let z : ◌≡◌ {A = ℕ} 0 1 = cc in omega arith

-- turned to an orientation whose parity is the level's, such a point can be stepped by
pub close-near : (k : ℕ) (n : Level) {p : Point} → Close p → k % 2 ≡ n.0 % 2 → n.0 ≤ 12 → Near n (orient k p)
close-near k n {p} c e h = record { hex = hex-orient k c.hex; depth = let d = orient-depth k p in let m = c.depth in omega arith }

-- what is stepped by in the star of a record: its adjacent points and its opposites
module _ (r : Record) (i : Inner r) (j : ℕ) (h : j < r.d) where
  pub adjacent-near : Near r.n (adjacent_of r.d r.k j)
  adjacent-near = close-near r.k r.n (adjacent-close r.d j i.low i.top h) i.parity i.level

  pub first-near : Near r.n (first_opposite_of r.d r.k j)
  first-near = close-near r.k r.n (first-close r.d j i.low i.top h) i.parity i.level

  pub second-near : (p : Point) → second_opposite_of r.d r.k j ≡ Some p → Near r.n p
  second-near p e = go (pattern_of r.d j).second refl e
    where
      go : (s : Option Point) → (pattern_of r.d j).second ≡ s → on_spot (orient r.k) s ≡ Some p → Near r.n p
      go (Some q) f g = subst (Near r.n) (spot-inj g) (close-near r.k r.n (second-close r.d j i.low i.top h q f) i.parity i.level)
      go None f g = absurd (spot-none g)
