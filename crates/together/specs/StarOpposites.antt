-- The opposites of a star by steps. A corner is acute where its two adjacents are two directions apart: from the vertex, in directions e and e + 2 of one
-- level i, its second opposite is the far end of the rhombus, and its first one step of the next level back from there (`acute-second`, `acute-first`). At
-- any other corner the first opposite is one step of the star's own level away, in the direction `mid_of`, and the second, where there is one, as far again
-- (`blunt-first`, `blunt-second`, `blunt-none`). One table over degree, place, orientation and the level's parity.
-- Assumes nothing.
use Rattle.std.specs.Prelude.{◌≡◌, refl, [], ◌∷◌, cond, ℕ, zero, suc, ◌+◌, ◌%◌, ◌/◌, ◌-◌, ◌≤◌, ◌<◌, eqb, ℤ, pos, ◌+ℤ◌, get_or, Option, Some, None}
use Rattle.std.proofs.Common.{sym, ◌∙◌, ap, arith}
use Rattle.laws.specs.Rules.{Test, ◌≡?◌, ◌≤?◌, ◌≡ᶻ?◌, ◌&◌, ◌⇒◌, Means, run, upto, upto-at, rule2}
use Rattle.lattice.specs.Points.{pt}
use Rattle.lattice.specs.Places.{wide, high}
use Rattle.lattice.specs.Patterns.{orient, three, four, five, six, rows_of, pattern_of, first_opposite_of, second_opposite_of, on_spot}
use Rattle.lattice.specs.PatternLaws.{orient-depth}
use Rattle.lattice.specs.Stars.{scale_of, step_of, first_at, second_at}
use Rattle.lattice.specs.Ranks.{move_of, level}
use Rattle.geometry.specs.GeometryLaws.{sum_same, sum-sum, scale-lift}
use Rattle.geometry.specs.SideLaws.{vector}
use Rattle.geometry.specs.StarSteps.{turn_of, down_of}
use Rattle.lattice.specs.declared.points.Point.{Point}
use Rattle.lattice.specs.declared.records.Record.{Record}

-- 1 where corner j of degree d is acute: its adjacents are two directions apart
unfoldable pub acute_of : ℕ → ℕ → ℕ
acute_of d j = get_or (cond (eqb d 3) [] (cond (eqb d 4) (0 ∷ 0 ∷ 1 ∷ 0 ∷ []) (cond (eqb d 5) (0 ∷ 1 ∷ 1 ∷ 1 ∷ 0 ∷ []) (1 ∷ 1 ∷ 1 ∷ 1 ∷ 1 ∷ 1 ∷ [])))) j 0

-- the direction of the first opposite at the others, from the orientation
unfoldable pub mid_of : ℕ → ℕ → ℕ
mid_of d j = get_or (cond (eqb d 3) (2 ∷ 6 ∷ 10 ∷ []) (cond (eqb d 4) (2 ∷ 6 ∷ 0 ∷ 10 ∷ []) (2 ∷ 0 ∷ 0 ∷ 0 ∷ 10 ∷ []))) j 0

-- 1 where these have a second opposite
unfoldable pub has_second : ℕ → ℕ → ℕ
has_second d j = get_or (cond (eqb d 3) (1 ∷ 1 ∷ 1 ∷ []) (cond (eqb d 4) (1 ∷ 0 ∷ 0 ∷ 0 ∷ []) [])) j 0

-- ---- a spot by its parts
abbrev is_at : Option Point → ℕ
is_at (Some p) = 1
is_at None = 0

abbrev point_in : Option Point → Point
point_in (Some p) = p
point_in None = pt (pos 0) (pos 0) 0

spot-at : (f : Point → Point) (s : Option Point) → is_at s ≡ 1 → on_spot f s ≡ Some (f (point_in s))
spot-at f (Some p) e = refl
spot-at f None e = absurd (omega arith)

spot-none : (f : Point → Point) (s : Option Point) → is_at s ≡ 0 → on_spot f s ≡ None
spot-none f (Some p) e = absurd (omega arith)
spot-none f None e = refl

-- ---- the table: places at depth 2, before the level scales them. b is the level's parity, o how many levels down
abbrev across : ℕ → ℕ → ℕ → ℤ
across b o e = wide (2 - (b + o) / 2) (orient e (pt (pos 1) (pos 0) 0))

abbrev upward : ℕ → ℕ → ℕ → ℤ
upward b o e = high (2 - (b + o) / 2) (orient e (pt (pos 1) (pos 0) 0))

abbrev far_point : ℕ → ℕ → ℕ → Point
far_point d k j = point_in (second_opposite_of d k j)

abbrev acute_row : ℕ → ℕ → ℕ → ℕ → ℕ → ℕ → Test
acute_row b k d j e o =
    is_at (second_opposite_of d k j) ≡? 1
    & (across b o e +ℤ across b o ((e + 2) % 12)) ≡ᶻ? wide 2 (far_point d k j) & (upward b o e +ℤ upward b o ((e + 2) % 12)) ≡ᶻ? high 2 (far_point d k j)
    & (wide 2 (far_point d k j) +ℤ across b (o + 1) ((e + 7) % 12)) ≡ᶻ? wide 2 (first_opposite_of d k j)
    & (high 2 (far_point d k j) +ℤ upward b (o + 1) ((e + 7) % 12)) ≡ᶻ? high 2 (first_opposite_of d k j)
    & o ≤? 1

abbrev blunt_row : ℕ → ℕ → ℕ → ℕ → ℕ → Test
blunt_row b k d j g =
    is_at (second_opposite_of d k j) ≡? has_second d j
    & across b 0 g ≡ᶻ? wide 2 (first_opposite_of d k j) & upward b 0 g ≡ᶻ? high 2 (first_opposite_of d k j)
    & (has_second d j ≡? 1 ⇒ (across b 0 g +ℤ across b 0 g) ≡ᶻ? wide 2 (far_point d k j) & (upward b 0 g +ℤ upward b 0 g) ≡ᶻ? high 2 (far_point d k j))

abbrev row : ℕ → ℕ → ℕ → ℕ → Test
row b k d j =
    (far_point d k j).m.0 ≤? 2 & (first_opposite_of d k j).m.0 ≤? 2
    & (acute_of d j ≡? 1 ⇒ acute_row b k d j ((k + turn_of d j) % 12) (down_of d j))
    & (acute_of d j ≡? 0 ⇒ blunt_row b k d j ((k + mid_of d j) % 12))

star-row : (b k d j : ℕ) → b < 2 → k < 12 → 3 ≤ d → d ≤ 6 → j < d → k % 2 ≡ b → Means (row b k d j)
unfolding orient pattern_of rows_of three four five six turn_of down_of acute_of mid_of has_second
star-row b k d j hb hk l h hj e =
    let f : ℕ → ℕ → ℕ → ℕ → Test = λ b k d j. 3 ≤? d ⇒ suc j ≤? d ⇒ (k % 2) ≡? b ⇒ row b k d j in
    rule2 7 6 (f b k) (upto-at 12 (λ k. upto 7 (λ d. upto 6 (λ j. run (f b k d j))))
    (upto-at 2 (λ b. upto 12 (λ k. upto 7 (λ d. upto 6 (λ j. run (f b k d j))))) tt b hb) k hk)
    d (omega arith) j (omega arith) l hj e

-- ---- a step of level n + o, at depth 2 + n/2
depths : (n o : ℕ) → o ≤ 2 → 2 + n / 2 ≡ 2 - (n % 2 + o) / 2 + (n + o) / 2
depths n zero h = omega arith
depths n (suc zero) h = omega arith
depths n (suc (suc zero)) h = omega arith
depths n (suc (suc (suc o))) h = absurd (omega arith)

vec-wide : (e n o : ℕ) → o ≤ 2 → wide (2 + n / 2) (vector e (n + o)) ≡ across (n % 2) o e
vec-wide e n o h =
    ap (λ (d : ℕ). wide d (vector e (n + o))) (depths n o h) ∙ scale-lift (orient e (pt (pos 1) (pos 0) 0)).a (orient e (pt (pos 1) (pos 0) 0)).m.0
    ((n + o) / 2) (2 - (n % 2 + o) / 2)

vec-high : (e n o : ℕ) → o ≤ 2 → high (2 + n / 2) (vector e (n + o)) ≡ upward (n % 2) o e
vec-high e n o h =
    ap (λ (d : ℕ). high d (vector e (n + o))) (depths n o h) ∙ scale-lift (orient e (pt (pos 1) (pos 0) 0)).b (orient e (pt (pos 1) (pos 0) 0)).m.0
    ((n + o) / 2) (2 - (n % 2 + o) / 2)

vec-depth : (e n o : ℕ) → o ≤ 2 → (vector e (n + o)).m.0 ≤ 2 + n / 2
vec-depth e n o h = let d = orient-depth e (pt (pos 1) (pos 0) 0) in omega arith

pat-wide : (p : Point) (n : ℕ) → wide (2 + n / 2) (scale_of (level n) p) ≡ wide 2 p
pat-wide p n = scale-lift p.a p.m.0 (n / 2) 2

pat-high : (p : Point) (n : ℕ) → high (2 + n / 2) (scale_of (level n) p) ≡ high 2 p
pat-high p n = scale-lift p.b p.m.0 (n / 2) 2

module _ (r : Record) (j : ℕ) (l : 3 ≤ r.d) (h : r.d ≤ 6) (hj : j < r.d) (hk : r.k < 12) (par : r.k % 2 ≡ r.n.0 % 2) where
  abbrev n : ℕ
  n = r.n.0

  D : ℕ
  D = 2 + n / 2

  w : Means (row (n % 2) r.k r.d j)
  w = star-row (n % 2) r.k r.d j (omega arith) hk l h hj par

  abbrev S : Point
  S = far_point r.d r.k j

  abbrev F : Point
  F = first_opposite_of r.d r.k j

  S-depth : (scale_of (level n) S).m.0 ≤ 2 + n / 2
  S-depth = let z = w.0 in omega arith

  F-depth : (scale_of (level n) F).m.0 ≤ 2 + n / 2
  F-depth = let z = w.1.0 in omega arith

  -- ---- acute
  module _ (a : acute_of r.d j ≡ 1) where
    abbrev e : ℕ
    e = (r.k + turn_of r.d j) % 12

    abbrev o : ℕ
    o = down_of r.d j

    x : Means (acute_row (n % 2) r.k r.d j e o)
    x = w.1.1.0 a

    bound : o ≤ 1
    bound = x.1.1.1.1.1

    far-is : move_of (move_of r.at e (n + o)) ((e + 2) % 12) (n + o) ≡ step_of r.at r.n S
    far-is =
        let g = (e + 2) % 12 in
        let b : o ≤ 2 = omega (arith, bound) in
        sum-sum r.at (vector e (n + o)) (vector g (n + o)) (scale_of (level n) S) (2 + n / 2) (vec-depth e n o b) (vec-depth g n o b) S-depth
        ((λ t. vec-wide e n o b t +ℤ vec-wide g n o b t) ∙ x.1.0 ∙ sym (pat-wide S n))
        ((λ t. vec-high e n o b t +ℤ vec-high g n o b t) ∙ x.1.1.0 ∙ sym (pat-high S n))

    pub acute-second : second_at r j ≡ Some (move_of (move_of r.at e (n + o)) ((e + 2) % 12) (n + o))
    acute-second = spot-at (step_of r.at r.n) (second_opposite_of r.d r.k j) x.0 ∙ ap (λ (p : Point). Some p) (sym far-is)

    pub acute-first : first_at r j ≡ move_of (move_of (move_of r.at e (n + o)) ((e + 2) % 12) (n + o)) ((e + 7) % 12) (suc (n + o))
    acute-first =
        let g = (e + 7) % 12 in
        let b : o + 1 ≤ 2 = omega (arith, bound) in
        let m : n + (o + 1) ≡ suc (n + o) = omega arith in
        sym (ap (λ (p : Point). move_of p g (suc (n + o))) far-is ∙ ap (λ (i : ℕ). move_of (step_of r.at r.n S) g i) (sym m)
        ∙ sum-sum r.at (scale_of (level n) S) (vector g (n + (o + 1))) (scale_of (level n) F) (2 + n / 2) S-depth (vec-depth g n (o + 1) b) F-depth
        ((λ t. pat-wide S n t +ℤ vec-wide g n (o + 1) b t) ∙ x.1.1.1.0 ∙ sym (pat-wide F n))
        ((λ t. pat-high S n t +ℤ vec-high g n (o + 1) b t) ∙ x.1.1.1.1.0 ∙ sym (pat-high F n)))

  -- ---- blunt
  module _ (a : acute_of r.d j ≡ 0) where
    abbrev g : ℕ
    g = (r.k + mid_of r.d j) % 12

    y : Means (blunt_row (n % 2) r.k r.d j g)
    y = w.1.1.1 a

    plain : n + 0 ≡ n
    plain = omega arith

    zero-wide : wide (2 + n / 2) (vector g n) ≡ across (n % 2) 0 g
    zero-wide = ap (λ (i : ℕ). wide (2 + n / 2) (vector g i)) (sym plain) ∙ vec-wide g n 0 (omega arith)

    zero_high : high (2 + n / 2) (vector g n) ≡ upward (n % 2) 0 g
    zero_high = ap (λ (i : ℕ). high (2 + n / 2) (vector g i)) (sym plain) ∙ vec-high g n 0 (omega arith)

    zero-depth : (vector g n).m.0 ≤ 2 + n / 2
    zero-depth = let d = orient-depth g (pt (pos 1) (pos 0) 0) in omega arith

    pub blunt-first : first_at r j ≡ move_of r.at g n
    blunt-first =
        sum_same r.at (scale_of (level n) F) (vector g n) (2 + n / 2) F-depth zero-depth
        (record { across = pat-wide F n ∙ sym y.1.0 ∙ sym zero-wide; up = pat-high F n ∙ sym y.1.1.0 ∙ sym zero_high })

    pub blunt-second : has_second r.d j ≡ 1 → second_at r j ≡ Some (move_of (move_of r.at g n) g n)
    blunt-second f =
        let z = y.1.1.1 f in
        spot-at (step_of r.at r.n) (second_opposite_of r.d r.k j) (y.0 ∙ f)
        ∙ ap (λ (p : Point). Some p) (sym (sum-sum r.at (vector g n) (vector g n) (scale_of (level n) S) (2 + n / 2) zero-depth zero-depth S-depth
        ((λ t. zero-wide t +ℤ zero-wide t) ∙ z.0 ∙ sym (pat-wide S n))
        ((λ t. zero_high t +ℤ zero_high t) ∙ z.1 ∙ sym (pat-high S n))))

    pub blunt-none : has_second r.d j ≡ 0 → second_at r j ≡ None
    blunt-none f = spot-none (step_of r.at r.n) (second_opposite_of r.d r.k j) (y.0 ∙ f)
