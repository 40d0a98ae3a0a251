-- A face is the same four points seen from its adjacent vertex: at every degree, orientation and place, for the first opposite (`first-seen`) and
-- for the second (`second-seen`). From v the face is v, adjacent j, opposite j, next adjacent; from a vertex at adjacent j it begins there and ends
-- with v (`Seen`).
-- Which star that vertex has is worked out from the direction of its step (`first_star`, `second_star`); that it fits is one test over degree,
-- orientation and place. A second opposite at level 0 belongs to no mesh: it is the far end of a kite, whose tip a subdivision made.
-- Assumes nothing.
use Rattle.std.specs.Prelude.{◌≡◌, refl, ◌⊎◌, [], ◌∷◌, cond, ℕ, zero, suc, ◌+◌, ◌%◌, ◌/◌, ◌-◌, ◌≤◌, ◌<◌, T, eqb, ℤ, ◌+ℤ◌, get_or, Option, Some, None}
use Rattle.std.proofs.Common.{sym, ◌∙◌, ap, subst, inl, inr, arith}
use Rattle.laws.specs.Rules.{Test, ◌≤?◌, ◌≡ᶻ?◌, ◌&◌, ◌⇒◌, Means, run, upto, upto-at, rule2}
use Rattle.lattice.specs.Points.{pt, is_normal, lift}
use Rattle.lattice.specs.Places.{wide, high, away, sum_away}
use Rattle.lattice.specs.Patterns.{orient, three, four, five, six, rows_of, pattern_of, on_spot, adjacent_of, first_opposite_of, second_opposite_of}
use Rattle.lattice.specs.RecordLaws.{Inner}
use Rattle.lattice.specs.Ranks.{level}
use Rattle.lattice.specs.Stars.{scale_of, step_of, adjacent_at, first_at, second_at}
use Rattle.lattice.specs.declared.points.Point.{Point}
use Rattle.lattice.specs.declared.records.Level.{Level}
use Rattle.lattice.specs.declared.records.Record.{Record}
use Rattle.geometry.specs.GeometryLaws.{low-normal, scale-lift, sum_same, sum-sum}
use Rattle.geometry.specs.StarSteps.{turn_of, down_of}
use Rattle.firsts.specs.Faces.{next_place}

-- the face x, a, o, w, as a vertex at a has it: "Its face is v, adjacent j, opposite j, next adjacent."
pub record Seen (x a o w : Point) : Type 0 where
  pub vertex : Record
  pub place : ℕ
  pub at : vertex.at ≡ a
  pub adjacent : adjacent_at vertex place ≡ o
  pub opposite : (first_at vertex place ≡ w) ⊎ (second_at vertex place ≡ Some w)
  pub next : adjacent_at vertex (next_place vertex.d place) ≡ x

-- ---- places of pattern points at depth 4, raised by h: what is left of two levels when their common half is taken off
abbrev raised : ℕ → Point → Point
raised h p = pt p.a p.b (p.m.0 + h)

abbrev shallow : Point → Test
shallow p = p.m.0 ≤? 4

-- p and then q lead where r does
abbrev adds : Point → Point → Point → Test
adds p q r =
    (wide 4 p +ℤ wide 4 q) ≡ᶻ? wide 4 r & (high 4 p +ℤ high 4 q) ≡ᶻ? high 4 r & shallow p & shallow q & shallow r

-- and q leads back from p
abbrev backs : Point → Point → Test
backs p q = wide 4 q ≡ᶻ? wide 4 (away p) & high 4 q ≡ᶻ? high 4 (away p) & shallow p & shallow q

abbrev adds_spot : ℕ → Point → Option Point → Point → Test
adds_spot h p (Some q) r = adds p (raised h q) r
adds_spot h p None r = 1 ≤? 0

-- one of the opposites of a corner: 0 the first, else the second
abbrev one_of : ℕ → ℕ → ℕ → ℕ → Option Point
one_of zero d k j = Some (first_opposite_of d k j)
one_of (suc c) d k j = second_opposite_of d k j

-- the face of p, o and w, seen from p at place i of a star of degree d and orientation k by its opposite c; g and h raise the two stars
abbrev face_test : ℕ → ℕ → Point → Point → Point → ℕ → ℕ → ℕ → ℕ → Test
face_test g h p o w d k i c =
    adds (raised g p) (raised h (adjacent_of d k i)) (raised g o)
    & backs (raised g p) (raised h (adjacent_of d k (next_place d i)))
    & adds_spot h (raised g p) (one_of c d k i) (raised g w)

-- ---- from the test to the points
module _ (n : Level) (g h : ℕ) (e : n.0 / 2 ≡ g + h) where
  one : (x : ℤ) (m : ℕ) → lift x (m + n.0 / 2) (4 + h) ≡ lift x (m + g) 4
  one x m = let q : m + n.0 / 2 ≡ m + g + h = omega arith in ap (λ (k : ℕ). lift x k (4 + h)) q ∙ scale-lift x (m + g) h 4

  deep : (p : Point) → p.m.0 + g ≤ 4 → (scale_of n p).m.0 ≤ 4 + h
  deep p l = omega (arith, l, e)

module _ (x : Point) (n n' : Level) (g g' h : ℕ) (e : n.0 / 2 ≡ g + h) (e' : n'.0 / 2 ≡ g' + h) (p : Point) where
  two_steps : (q r : Point) → Means (adds (raised g p) (raised g' q) (raised g r)) → step_of (step_of x n p) n' q ≡ step_of x n r
  two_steps q r (a, (b, (lp, (lq, lr)))) =
      sum-sum x (scale_of n p) (scale_of n' q) (scale_of n r) (4 + h) (deep n g h e p lp) (deep n' g' h e' q lq) (deep n g h e r lr)
      ((λ i. one n g h e p.a p.m.0 i +ℤ one n' g' h e' q.a q.m.0 i) ∙ a ∙ sym (one n g h e r.a r.m.0))
      ((λ i. one n g h e p.b p.m.0 i +ℤ one n' g' h e' q.b q.m.0 i) ∙ b ∙ sym (one n g h e r.b r.m.0))

  step_back : (q : Point) → T (is_normal x) → Means (backs (raised g p) (raised g' q)) → step_of (step_of x n p) n' q ≡ x
  step_back q t (a, (b, (lp, lq))) =
      sum_same (step_of x n p) (scale_of n' q) (away (scale_of n p)) (4 + h) (deep n' g' h e' q lq) (deep n g h e p lp)
      (record {
        across = one n' g' h e' q.a q.m.0 ∙ a ∙ sym (one n g h e (away p).a p.m.0);
        up = one n' g' h e' q.b q.m.0 ∙ b ∙ sym (one n g h e (away p).b p.m.0);
      })
      ∙ sum_away x (scale_of n p) (low-normal x t)

  by-spot : (s : Option Point) (w : Point) → Means (adds_spot g' (raised g p) s (raised g w)) → on_spot (step_of (step_of x n p) n') s ≡ Some (step_of x n w)
  by-spot (Some q) w m = ap Some (two_steps q w m)
  by-spot None w m = absurd (omega (arith, m))

  seen : T (is_normal x) → (o w : Point) (d k i c : ℕ) → Means (face_test g g' p o w d k i c) → Seen x (step_of x n p) (step_of x n o) (step_of x n w)
  seen t o w d k i c (a, (b, s)) =
      record {
        vertex = record { at = step_of x n p; d = d; k = k; n = n' };
        place = i;
        at = refl;
        adjacent = two_steps (adjacent_of d k i) o a;
        opposite = opp c s;
        next = step_back (adjacent_of d k (next_place d i)) t b;
      }
    where
      spot-inj : {y z : Point} → Some y ≡ Some z → y ≡ z
      spot-inj {y} {z} q = cc

      opp : (c : ℕ) → Means (adds_spot g' (raised g p) (one_of c d k i) (raised g w))
          → (step_of (step_of x n p) n' (first_opposite_of d k i) ≡ step_of x n w)
          ⊎ (on_spot (step_of (step_of x n p) n') (second_opposite_of d k i) ≡ Some (step_of x n w))
      opp zero m = inl (spot-inj (by-spot (Some (first_opposite_of d k i)) w m))
      opp (suc c) m = inr (by-spot (second_opposite_of d k i) w m)

-- ---- the star that is seen from, by the direction e of the step to it
-- 1 where the two adjacents of a corner are two directions apart
unfoldable acute : ℕ → ℕ → ℕ
acute d j = get_or (cond (eqb d 4) (0 ∷ 0 ∷ 1 ∷ 0 ∷ []) (cond (eqb d 5) (0 ∷ 1 ∷ 1 ∷ 1 ∷ 0 ∷ []) (cond (eqb d 6) (1 ∷ 1 ∷ 1 ∷ 1 ∷ 1 ∷ 1 ∷ []) []))) j 0

abbrev has : Option Point → ℕ
has (Some p) = 1
has None = 0

record Star : Type 0 where
  deg : ℕ
  turn : ℕ
  place : ℕ
  which : ℕ

abbrev star : ℕ → ℕ → ℕ → ℕ → Star
star d k i c = record { deg = d; turn = k; place = i; which = c }

abbrev way : ℕ → ℕ → ℕ → ℕ
way d k j = (k + turn_of d j) % 12

-- for the first opposite: an acute corner is seen from the side of a kite; a corner beside a nearer adjacent from the tip of one; any other from
-- where it is acute
unfoldable first_star : ℕ → ℕ → ℕ → Star
unfolding acute turn_of down_of
first_star d k j =
    cond (eqb (acute d j) 1) (star 4 ((way d k j + 6) % 12) 3 0)
    (cond (eqb (down_of d j) 1) (star 3 ((way d k j + 2) % 4) ((way d k j + 2) % 12 / 4) 1)
    (star 6 (k % 2) ((way d k j + 4) % 12 / 2) (has (second_opposite_of d k j))))

-- for the second: an acute corner is seen from the side of a diamond, any other from the side of a kite, a level up
unfoldable second_star : ℕ → ℕ → ℕ → Star
unfolding acute turn_of
second_star d k j =
    cond (eqb (acute d j) 1) (star 3 ((way d k j + 2) % 4) ((way d k j + 2) % 12 / 4) 0)
    (star 4 ((way d k j + 11) % 12) 1 0)

abbrev star_test : ℕ → ℕ → ℕ → ℕ → ℕ → Point → Star → Test
star_test g h d k j o s = face_test g h (adjacent_of d k j) o (adjacent_of d k (next_place d j)) s.deg s.turn s.place s.which

-- the second opposite, where there is one; an acute corner from its own level, any other from a level below
abbrev second_test : ℕ → ℕ → ℕ → Option Point → Test
second_test d k j (Some o) =
    (1 ≤? acute d j ⇒ star_test 0 ((k % 2 + down_of d j) / 2) d k j o (second_star d k j))
    & (acute d j ≤? 0 ⇒ star_test (((k + 1) % 2 + 1) / 2) 0 d k j o (second_star d k j))
second_test d k j None = 0 ≤? 0

abbrev both_tests : ℕ → ℕ → ℕ → Test
both_tests d k j =
    3 ≤? d ⇒ suc j ≤? d
    ⇒ star_test 0 ((k % 2 + down_of d j) / 2) d k j (first_opposite_of d k j) (first_star d k j) & second_test d k j (second_opposite_of d k j) & acute d j ≤? 1

both_hold : (d k j : ℕ) → 3 ≤ d → d ≤ 6 → k < 12 → j < d
    → Means (star_test 0 ((k % 2 + down_of d j) / 2) d k j (first_opposite_of d k j) (first_star d k j) & second_test d k j (second_opposite_of d k j) & acute d j ≤? 1)
unfolding orient pattern_of rows_of three four five six turn_of down_of acute first_star second_star
both_hold d k j l h hk hj =
    rule2 12 6 (both_tests d) (upto-at 7 (λ d. upto 12 (λ k. upto 6 (λ j. run (both_tests d k j)))) tt d (omega arith)) k hk j (omega arith) l hj

-- ---- the law
module _ (v : Record) (i : Inner v) (hk : v.k < 12) (j : ℕ) (hj : j < v.d) where
  holds : Means (star_test 0 ((v.k % 2 + down_of v.d j) / 2) v.d v.k j (first_opposite_of v.d v.k j) (first_star v.d v.k j)
      & second_test v.d v.k j (second_opposite_of v.d v.k j) & acute v.d j ≤? 1)
  holds = both_hold v.d v.k j i.low i.top hk hj

  same_half : v.n.0 / 2 ≡ 0 + v.n.0 / 2
  same_half = omega arith

  -- a level further down by t
  further : (t : ℕ) → (v.n.0 + t) / 2 ≡ (v.k % 2 + t) / 2 + v.n.0 / 2
  further t = omega (arith, i.parity)

  pub first-seen : Seen v.at (adjacent_at v j) (first_at v j) (adjacent_at v (next_place v.d j))
  first-seen =
      let s = first_star v.d v.k j in
      let t = down_of v.d j in
      seen v.at v.n (level (v.n.0 + t)) 0 ((v.k % 2 + t) / 2) (v.n.0 / 2) same_half (further t) (adjacent_of v.d v.k j) i.normal
      (first_opposite_of v.d v.k j) (adjacent_of v.d v.k (next_place v.d j)) s.deg s.turn s.place s.which holds.0

  pub second-seen : (o : Point) → second_at v j ≡ Some o → 0 < v.n.0 → Seen v.at (adjacent_at v j) o (adjacent_at v (next_place v.d j))
  second-seen o e up = go (second_opposite_of v.d v.k j) holds.1.0 e
    where
      s : Star
      s = second_star v.d v.k j

      t : ℕ
      t = down_of v.d j

      spot-inj : {y z : Point} → Some y ≡ Some z → y ≡ z
      spot-inj {y} {z} q = cc

      spot-none : {y : Point} → None ≡ Some y → ⊥
      spot-none {y} q = let z : ◌≡◌ {A = ℕ} 0 1 = cc in omega arith

      -- from the level of the step, or from one below the star's
      from : (q : Point) → Means (second_test v.d v.k j (Some q)) → (a : ℕ) → acute v.d j ≡ a → a ≤ 1
          → Seen v.at (adjacent_at v j) (step_of v.at v.n q) (adjacent_at v (next_place v.d j))
      from q (x, y) (suc zero) f l =
          seen v.at v.n (level (v.n.0 + t)) 0 ((v.k % 2 + t) / 2) (v.n.0 / 2) same_half (further t) (adjacent_of v.d v.k j) i.normal
          q (adjacent_of v.d v.k (next_place v.d j)) s.deg s.turn s.place s.which (x (omega arith))
      from q (x, y) zero f l =
          seen v.at v.n (level (v.n.0 - 1)) (((v.k + 1) % 2 + 1) / 2) 0 ((v.n.0 - 1) / 2) (omega (arith, i.parity)) (omega arith)
          (adjacent_of v.d v.k j) i.normal
          q (adjacent_of v.d v.k (next_place v.d j)) s.deg s.turn s.place s.which (y (omega arith))
      from q m (suc (suc a)) f l = absurd (omega arith)

      go : (p : Option Point) → Means (second_test v.d v.k j p) → on_spot (step_of v.at v.n) p ≡ Some o
          → Seen v.at (adjacent_at v j) o (adjacent_at v (next_place v.d j))
      go (Some q) m f =
          subst (λ (y : Point). Seen v.at (adjacent_at v j) y (adjacent_at v (next_place v.d j))) (spot-inj f) (from q m (acute v.d j) refl holds.1.1)
      go None m f = absurd (spot-none f)
