-- Where a vertex stands, seen from a side across from it: at one of eight places (`across-before`, `across-after`). Its sides across are different ones,
-- since no adjacent point is an opposite (`adjacent-opposite`) and two corners have different opposites (`opposite-apart`).
--
-- The adjacent point p = v + A and the opposite q = v + O of a corner, before or after it, have v = p + f(q - p) for one of the eight factors f: that
-- is f(O - A) = -A, one test over the pattern table, computed at each degree and orientation. A level only scales it, and v drops out of q - p.
-- Assumes nothing.
use Rattle.std.specs.Prelude.{◌≡◌, true, ◌&&◌, ◌||◌, List, T, leb, ℤ, pos, negsuc, neg_ℤ, ◌+ℤ◌, ◌-ℤ◌, ◌*ℤ◌, Option, Some, None}
use Rattle.std.proofs.Common.{sym, ap, ◌∙◌, subst, arith, mul_comm, le→leb, lit≤}
use Rattle.std.proofs.Math.Bool.{Bool, not}
use Prim.Native.Nat.{ℕ, suc, ◌+◌, ◌/◌, ◌-◌, ◌^◌, ◌≤◌, ◌<◌}
use Rattle.std.proofs.Math.IntN.{*ℤ_comm, *ℤ-negsuc}
use Rattle.laws.specs.Rules.{Test, run, Means, ◌≡?◌, ◌≡ᶻ?◌, ◌≤?◌, ◌&◌, ◌⇒◌, sound, upto, upto-at, among, eq_z, eq_z→eq}
use Rattle.laws.specs.Bools.{and_left, and_right, then-of}
use Rattle.laws.specs.Choices.{is_true, of-true}
use Rattle.laws.specs.Each.{among-at}
use Rattle.laws.specs.Linear.{same, ‵, ◌⊕◌, ◌⊝◌, ◌⊗◌}
use Rattle.laws.specs.Multiples.{mul-mul, add_times, neg-times}
use Rattle.lattice.specs.Points.{normal_of, lift, sum_of}
use Rattle.lattice.specs.Places.{wide, high, Low, unique, normal-low, normal-place, normal-depth, lift-lift, sum-wide, sum-high, sum-depth, away, sum_away}
use Rattle.lattice.specs.Patterns.{orient, three, four, five, six, rows_of, pattern_of, adjacent_of, on_spot}
use Rattle.lattice.specs.Stars.{scale_of, step_of, adjacent_at}
use Rattle.lattice.specs.Records.{valid_of}
use Rattle.lattice.specs.RecordLaws.{Inner, valid-turn}
use Rattle.lattice.specs.declared.points.Point.{Point}
use Rattle.lattice.specs.declared.records.Level.{Level}
use Rattle.lattice.specs.declared.records.Record.{Record}
use Rattle.geometry.specs.GeometryLaws.{Same, step-told, sum_same, scale-lift, low-normal}
use Rattle.queries.specs.Queries.{chosen_at}
use Rattle.across.specs.Across.{Factor, factor_of, across_of}
use Rattle.across.specs.OppositeLaws.{opposite_of, Opposite, chosen-opposite, adjacent-depth, opposite-depth, adjacent-bound, opposite-bound}
use Rattle.firsts.specs.Faces.{next_place}

-- ---- what the pattern table says, at each orientation

abbrev unlike : Point → Point → Test
unlike p q = wide 2 p ≡ᶻ? wide 2 q & high 2 p ≡ᶻ? high 2 q ⇒ 1 ≡? 0

abbrev unlike_spot : Point → Option Point → Test
unlike_spot p (Some q) = unlike p q
unlike_spot p None = 0 ≡? 0

abbrev spots_unlike : Option Point → Option Point → Test
spots_unlike (Some p) s = unlike_spot p s
spots_unlike None s = 0 ≡? 0

-- f(O - A) = -A
abbrev crosses : Factor → Point → Point → Bool
crosses f a o =
    eq_z (f.x *ℤ (wide 2 o -ℤ wide 2 a) -ℤ f.y *ℤ (high 2 o -ℤ high 2 a)) (neg_ℤ (wide 3 a))
    && eq_z (f.y *ℤ (wide 2 o -ℤ wide 2 a) +ℤ (f.x +ℤ f.y) *ℤ (high 2 o -ℤ high 2 a)) (neg_ℤ (high 3 a))

abbrev crossed : Point → Option Point → Bool
crossed a (Some o) = among 8 (λ c. crosses (factor_of c) a o)
crossed a None = true

-- a point of a row, at orientation k
abbrev opposite_at : ℕ → ℕ → ℕ → ℕ → Option Point
opposite_at d k j w = on_spot (orient k) (opposite_of d j w)

module _ (d k : ℕ) (l : 3 ≤ d) (h : d ≤ 6) (m : k < 12) where
  row_other : (i j w : ℕ) → i < d → j < d → w < 2 → Means (unlike_spot (adjacent_of d k i) (opposite_at d k j w))
  unfolding pattern_of rows_of three four five six orient
  row_other i j w hi hj hw =
      let f : ℕ → ℕ → ℕ → ℕ → ℕ → Test = λ d k i j w. 3 ≤? d ⇒ suc i ≤? d ⇒ suc j ≤? d ⇒ unlike_spot (adjacent_of d k i) (opposite_at d k j w) in
      let t₁ = upto-at 7 (λ d. upto 12 (λ k. upto 6 (λ i. upto 6 (λ j. upto 2 (λ w. run (f d k i j w)))))) tt d (omega arith) in
      let t₂ = upto-at 12 (λ k. upto 6 (λ i. upto 6 (λ j. upto 2 (λ w. run (f d k i j w))))) t₁ k m in
      let t₃ = upto-at 6 (λ i. upto 6 (λ j. upto 2 (λ w. run (f d k i j w)))) t₂ i (omega arith) in
      let t₄ = upto-at 6 (λ j. upto 2 (λ w. run (f d k i j w))) t₃ j (omega arith) in
      sound (f d k i j w) (upto-at 2 (λ w. run (f d k i j w)) t₄ w hw) l hi hj

  row_apart : (i j w z : ℕ) → i < j → j < d → w < 2 → z < 2 → Means (spots_unlike (opposite_at d k i w) (opposite_at d k j z))
  unfolding pattern_of rows_of three four five six orient
  row_apart i j w z hi hj hw hz =
      let f : ℕ → ℕ → ℕ → ℕ → ℕ → ℕ → Test = λ d k i j w z. 3 ≤? d ⇒ suc i ≤? j ⇒ suc j ≤? d ⇒ spots_unlike (opposite_at d k i w) (opposite_at d k j z) in
      let t₁ = upto-at 7 (λ d. upto 12 (λ k. upto 6 (λ i. upto 6 (λ j. upto 2 (λ w. upto 2 (λ z. run (f d k i j w z))))))) tt d (omega arith) in
      let t₂ = upto-at 12 (λ k. upto 6 (λ i. upto 6 (λ j. upto 2 (λ w. upto 2 (λ z. run (f d k i j w z)))))) t₁ k m in
      let t₃ = upto-at 6 (λ i. upto 6 (λ j. upto 2 (λ w. upto 2 (λ z. run (f d k i j w z))))) t₂ i (omega arith) in
      let t₄ = upto-at 6 (λ j. upto 2 (λ w. upto 2 (λ z. run (f d k i j w z)))) t₃ j (omega arith) in
      let t₅ = upto-at 2 (λ w. upto 2 (λ z. run (f d k i j w z))) t₄ w hw in
      sound (f d k i j w z) (upto-at 2 (λ z. run (f d k i j w z)) t₅ z hz) l hi hj

  -- the vertex is across from both sides of the opposite
  row-crossed : (j w : ℕ) → j < d → w < 2 → T (crossed (adjacent_of d k j) (opposite_at d k j w) && crossed (adjacent_of d k (next_place d j)) (opposite_at d k j w))
  unfolding pattern_of rows_of three four five six orient
  row-crossed j w hj hw =
      let g : ℕ → ℕ → ℕ → ℕ → Bool = λ d k j w. crossed (adjacent_of d k j) (opposite_at d k j w) && crossed (adjacent_of d k (next_place d j))
      (opposite_at d k j w) in
      let f : ℕ → ℕ → ℕ → ℕ → Bool = λ d k j w. not (leb 3 d) || (not (leb (suc j) d) || g d k j w) in
      let t₁ = upto-at 7 (λ d. upto 12 (λ k. upto 6 (λ j. upto 2 (λ w. f d k j w)))) tt d (omega arith) in
      let t₂ = upto-at 12 (λ k. upto 6 (λ j. upto 2 (λ w. f d k j w))) t₁ k m in
      let t₃ = upto-at 6 (λ j. upto 2 (λ w. f d k j w)) t₂ j (omega arith) in
      let t₄ = upto-at 2 (λ w. f d k j w) t₃ w hw in
      then-of (leb (suc j) d) (g d k j w) (then-of (leb 3 d) (not (leb (suc j) d) || g d k j w) t₄ (le→leb 3 d l)) (le→leb (suc j) d hj)

-- ---- a factor, taken at any depth

product : (s a : ℤ) (k : ℕ) → s *ℤ a *ℤ pos k ≡ s *ℤ (a *ℤ pos k)
product (pos j) a k =
    ap (λ (z : ℤ). z *ℤ pos k) (*ℤ_comm (pos j) a) ∙ mul-mul a j k ∙ ap (λ (n : ℕ). a *ℤ pos n) (mul_comm j k) ∙ sym (mul-mul a k j)
    ∙ *ℤ_comm (a *ℤ pos k) (pos j)
product (negsuc j) a k =
    ap (λ (z : ℤ). z *ℤ pos k) (*ℤ_comm (negsuc j) a ∙ *ℤ-negsuc a j) ∙ neg-times (a *ℤ pos (suc j)) k
    ∙ ap neg_ℤ (mul-mul a (suc j) k ∙ ap (λ (n : ℕ). a *ℤ pos n) (mul_comm (suc j) k) ∙ sym (mul-mul a k (suc j)))
    ∙ sym (*ℤ-negsuc (a *ℤ pos k) j) ∙ *ℤ_comm (a *ℤ pos k) (negsuc j)

plus : (s r a b : ℤ) (k : ℕ) → (s *ℤ a +ℤ r *ℤ b) *ℤ pos k ≡ s *ℤ (a *ℤ pos k) +ℤ r *ℤ (b *ℤ pos k)
plus s r a b k = add_times (s *ℤ a) (r *ℤ b) k ∙ (λ i. product s a k i +ℤ product r b k i)

minus : (s r a b : ℤ) (k : ℕ) → (s *ℤ a -ℤ r *ℤ b) *ℤ pos k ≡ s *ℤ (a *ℤ pos k) -ℤ r *ℤ (b *ℤ pos k)
minus s r a b k = add_times (s *ℤ a) (neg_ℤ (r *ℤ b)) k ∙ (λ i. product s a k i +ℤ (neg-times (r *ℤ b) k ∙ ap neg_ℤ (product r b k)) i)

-- e times f
abbrev times_of : Factor → Point → Point
times_of f e = normal_of (f.x *ℤ e.a -ℤ f.y *ℤ e.b) (f.y *ℤ e.a +ℤ (f.x +ℤ f.y) *ℤ e.b) (e.m.0 + 1)

-- q seen from p
abbrev less_of : Point → Point → Point
less_of q p = sum_of q (away p)

-- the place of e times f, by the place of e
times-wide : (f : Factor) (e : Point) (D : ℕ) → e.m.0 ≤ D → wide (D + 1) (times_of f e) ≡ f.x *ℤ wide D e -ℤ f.y *ℤ high D e
times-wide f e D h =
    let x = f.x *ℤ e.a -ℤ f.y *ℤ e.b in
    let y = f.y *ℤ e.a +ℤ (f.x +ℤ f.y) *ℤ e.b in
    (normal-place x y (e.m.0 + 1) (D + 1) (omega arith)).0 ∙ scale-lift x e.m.0 1 D ∙ minus f.x f.y e.a e.b (3 ^ (D - e.m.0))

times-high : (f : Factor) (e : Point) (D : ℕ) → e.m.0 ≤ D → high (D + 1) (times_of f e) ≡ f.y *ℤ wide D e +ℤ (f.x +ℤ f.y) *ℤ high D e
times-high f e D h =
    let x = f.x *ℤ e.a -ℤ f.y *ℤ e.b in
    let y = f.y *ℤ e.a +ℤ (f.x +ℤ f.y) *ℤ e.b in
    (normal-place x y (e.m.0 + 1) (D + 1) (omega arith)).1 ∙ scale-lift y e.m.0 1 D ∙ plus f.y (f.x +ℤ f.y) e.a e.b (3 ^ (D - e.m.0))

-- the place of a difference
less-wide : (q p : Point) (D : ℕ) → q.m.0 ≤ D → p.m.0 ≤ D → wide D (less_of q p) ≡ wide D q -ℤ wide D p
less-wide q p D h k = sum-wide q (away p) D h k ∙ ap (λ (z : ℤ). wide D q +ℤ z) (neg-times p.a (3 ^ (D - p.m.0)))

less-high : (q p : Point) (D : ℕ) → q.m.0 ≤ D → p.m.0 ≤ D → high D (less_of q p) ≡ high D q -ℤ high D p
less-high q p D h k = sum-high q (away p) D h k ∙ ap (λ (z : ℤ). high D q +ℤ z) (neg-times p.b (3 ^ (D - p.m.0)))

-- seen from one of them, two steps from one point differ as what is stepped by
less-steps : (u a o : Point) → less_of (sum_of u o) (sum_of u a) ≡ less_of o a
less-steps u a o =
    let D = u.m.0 + a.m.0 + o.m.0 in
    let dq = sum-depth u o in
    let dp = sum-depth u a in
    let dl = sum-depth (sum_of u o) (away (sum_of u a)) in
    let dr = sum-depth o (away a) in
    unique (less_of (sum_of u o) (sum_of u a)) (less_of o a) D (omega arith) (omega arith) (normal-low _ _ _) (normal-low _ _ _)
    (less-wide (sum_of u o) (sum_of u a) D (omega arith) (omega arith)
    ∙ (λ i. sum-wide u o D (omega arith) (omega arith) i -ℤ sum-wide u a D (omega arith) (omega arith) i)
    ∙ same ((‵ (wide D u) ⊕ ‵ (wide D o)) ⊝ (‵ (wide D u) ⊕ ‵ (wide D a))) (‵ (wide D o) ⊝ ‵ (wide D a)) (omega arith)
    ∙ sym (less-wide o a D (omega arith) (omega arith)))
    (less-high (sum_of u o) (sum_of u a) D (omega arith) (omega arith)
    ∙ (λ i. sum-high u o D (omega arith) (omega arith) i -ℤ sum-high u a D (omega arith) (omega arith) i)
    ∙ same ((‵ (high D u) ⊕ ‵ (high D o)) ⊝ (‵ (high D u) ⊕ ‵ (high D a))) (‵ (high D o) ⊝ ‵ (high D a)) (omega arith)
    ∙ sym (less-high o a D (omega arith) (omega arith)))

-- the place of a factor is the sum of p and the way to q, times the factor
across-sum : (f : Factor) (p q : Point) → p.m.0 ≤ 7 → q.m.0 ≤ 7 → across_of f p q ≡ sum_of p (times_of f (less_of q p))
across-sum f p q hp hq =
    unique (across_of f p q) (sum_of p (times_of f (less_of q p))) 8 (normal-depth X Y 8) ds (normal-low X Y 8) (normal-low _ _ _)
    ((normal-place X Y 8 8 (lit≤ tt)).0 ∙ alone X ∙ sym right)
    ((normal-place X Y 8 8 (lit≤ tt)).1 ∙ alone Y ∙ sym above)
  where
    e : Point
    e = less_of q p

    v : Point
    v = times_of f e

    X : ℤ
    X = pos 3 *ℤ wide 7 p +ℤ (f.x *ℤ (wide 7 q -ℤ wide 7 p) -ℤ f.y *ℤ (high 7 q -ℤ high 7 p))

    Y : ℤ
    Y = pos 3 *ℤ high 7 p +ℤ (f.y *ℤ (wide 7 q -ℤ wide 7 p) +ℤ (f.x +ℤ f.y) *ℤ (high 7 q -ℤ high 7 p))

    de : e.m.0 ≤ 7
    de = omega (arith, sum-depth q (away p))

    dv : v.m.0 ≤ 8
    dv = omega (arith, de, normal-depth (f.x *ℤ e.a -ℤ f.y *ℤ e.b) (f.y *ℤ e.a +ℤ (f.x +ℤ f.y) *ℤ e.b) (e.m.0 + 1))

    ds : (sum_of p v).m.0 ≤ 8
    ds = omega (arith, dv, sum-depth p v)

    alone : (z : ℤ) → z *ℤ pos 1 ≡ z
    alone z = *ℤ_comm z (pos 1) ∙ same (1 ⊗ ‵ z) (‵ z) (omega arith)

    three : (x : ℤ) → lift x p.m.0 8 ≡ pos 3 *ℤ lift x p.m.0 7
    three x = sym (lift-lift x p.m.0 7 8 hp (lit≤ tt)) ∙ *ℤ_comm (lift x p.m.0 7) (pos 3)

    right : wide 8 (sum_of p v) ≡ X
    right =
        sum-wide p v 8 (omega arith) dv
        ∙ (λ i. three p.a i +ℤ (times-wide f e 7 de ∙ (λ i. f.x *ℤ less-wide q p 7 hq hp i -ℤ f.y *ℤ less-high q p 7 hq hp i)) i)

    above : high 8 (sum_of p v) ≡ Y
    above =
        sum-high p v 8 (omega arith) dv
        ∙ (λ i. three p.b i +ℤ (times-high f e 7 de ∙ (λ i. f.y *ℤ less-wide q p 7 hq hp i +ℤ (f.x +ℤ f.y) *ℤ less-high q p 7 hq hp i)) i)

-- the vertex that an adjacent point and a factor lead to
leads : (f : Factor) (u : Point) (n : Level) (a o : Point) → Low u → a.m.0 ≤ 2 → o.m.0 ≤ 2 → (step_of u n a).m.0 ≤ 7 → (step_of u n o).m.0 ≤ 7
    → T (crosses f a o) → across_of f (step_of u n a) (step_of u n o) ≡ u
leads f u n a o low ha ho hp hq t =
    across-sum f p q hp hq ∙ ap (λ (x : Point). sum_of p (times_of f x)) e ∙ sum_same p v (away A) (D + 1) dv da there ∙ sum_away u A low
  where
    h : ℕ
    h = n.0 / 2

    D : ℕ
    D = 2 + h

    A : Point
    A = scale_of n a

    O : Point
    O = scale_of n o

    p : Point
    p = step_of u n a

    q : Point
    q = step_of u n o

    v : Point
    v = times_of f (less_of O A)

    e : less_of q p ≡ less_of O A
    e = less-steps u A O

    across : wide D (less_of O A) ≡ wide 2 o -ℤ wide 2 a
    across = less-wide O A D (omega arith) (omega arith) ∙ (λ i. scale-lift o.a o.m.0 h 2 i -ℤ scale-lift a.a a.m.0 h 2 i)

    upward : high D (less_of O A) ≡ high 2 o -ℤ high 2 a
    upward = less-high O A D (omega arith) (omega arith) ∙ (λ i. scale-lift o.b o.m.0 h 2 i -ℤ scale-lift a.b a.m.0 h 2 i)

    de : (less_of O A).m.0 ≤ D
    de = omega (arith, sum-depth O (away A))

    dv : v.m.0 ≤ D + 1
    dv = omega (
      arith,
      de,
      normal-depth (f.x *ℤ (less_of O A).a -ℤ f.y *ℤ (less_of O A).b) (f.y *ℤ (less_of O A).a +ℤ (f.x +ℤ f.y) *ℤ (less_of O A).b)
          ((less_of O A).m.0 + 1),
    )

    da : (away A).m.0 ≤ D + 1
    da = omega arith

    back : (x : ℤ) → neg_ℤ x *ℤ pos (3 ^ (D + 1 - (a.m.0 + h))) ≡ neg_ℤ (x *ℤ pos (3 ^ (3 - a.m.0)))
    back x = neg-times x (3 ^ (D + 1 - (a.m.0 + h)))
        ∙ (let z : D + 1 - (a.m.0 + h) ≡ 3 - a.m.0 = omega arith in ap (λ (k : ℕ). neg_ℤ (x *ℤ pos (3 ^ k))) z)

    x : ℤ
    x = f.x *ℤ (wide 2 o -ℤ wide 2 a) -ℤ f.y *ℤ (high 2 o -ℤ high 2 a)

    y : ℤ
    y = f.y *ℤ (wide 2 o -ℤ wide 2 a) +ℤ (f.x +ℤ f.y) *ℤ (high 2 o -ℤ high 2 a)

    there : Same (D + 1) v (away A)
    there =
        record {
          across =
              times-wide f (less_of O A) D de ∙ (λ i. f.x *ℤ across i -ℤ f.y *ℤ upward i)
              ∙ eq_z→eq x (neg_ℤ (wide 3 a)) (and_left (eq_z x (neg_ℤ (wide 3 a))) (eq_z y (neg_ℤ (high 3 a))) t)
              ∙ sym (back a.a);
          up =
              times-high f (less_of O A) D de ∙ (λ i. f.y *ℤ across i +ℤ (f.x +ℤ f.y) *ℤ upward i)
              ∙ eq_z→eq y (neg_ℤ (high 3 a)) (and_right (eq_z x (neg_ℤ (wide 3 a))) (eq_z y (neg_ℤ (high 3 a))) t)
              ∙ sym (back a.b);
        }

-- ---- a star

-- u stands at one of the eight places
abbrev pub IsAcross : Point → Point → Point → Type 0
IsAcross p q u = (c : ℕ) × (c < 8) × (across_of (factor_of c) p q ≡ u)

module _ (t : List ℕ) (v : Record) (ok : valid_of v ≡ true) (i : Inner v) where
  turn : v.k < 12
  turn = valid-turn v (of-true ok)

  -- no adjacent point is an opposite
  pub adjacent-opposite : (a b : ℕ) (o : Point) → a < v.d → b < v.d → chosen_at t v b ≡ Some o → adjacent_at v a ≡ o → ⊥
  adjacent-opposite a b o ha hb c e =
      let x = chosen-opposite t v b o c in
      let s = step-told v.at (adjacent_of v.d v.k a) (orient v.k x.pattern) v.n 2 (adjacent-depth v i a ha) (opposite-depth v i b o hb x)
      (e ∙ sym x.is) in
      let m : Means (unlike_spot (adjacent_of v.d v.k a) (Some (orient v.k x.pattern))) =
      subst (λ (z : Option Point). Means (unlike_spot (adjacent_of v.d v.k a) (on_spot (orient v.k) z))) x.row
      (row_other v.d v.k i.low i.top turn a b x.which ha hb x.two) in
      let z = m (s.across, s.up) in
      omega (arith, z)

  -- two corners have different opposites
  pub opposite-apart : (a b : ℕ) (o : Point) → a < b → b < v.d → chosen_at t v a ≡ Some o → chosen_at t v b ≡ Some o → ⊥
  opposite-apart a b o ha hb c e =
      let la : a < v.d = omega arith in
      let x = chosen-opposite t v a o c in
      let y = chosen-opposite t v b o e in
      let s = step-told v.at (orient v.k x.pattern) (orient v.k y.pattern) v.n 2 (opposite-depth v i a o la x)
      (opposite-depth v i b o hb y) (x.is ∙ sym y.is) in
      let m₁ = row_apart v.d v.k i.low i.top turn a b x.which y.which ha hb x.two y.two in
      let m₂ : Means (spots_unlike (Some (orient v.k x.pattern)) (opposite_at v.d v.k b y.which)) =
      subst (λ (z : Option Point). Means (spots_unlike (on_spot (orient v.k) z) (opposite_at v.d v.k b y.which))) x.row m₁ in
      let m₃ : Means (unlike_spot (orient v.k x.pattern) (Some (orient v.k y.pattern))) =
      subst (λ (z : Option Point). Means (unlike_spot (orient v.k x.pattern) (on_spot (orient v.k) z))) y.row m₂ in
      let z = m₃ (s.across, s.up) in
      omega (arith, z)

  -- v is across from its far sides
  across-one : (a b : ℕ) (o : Point) → a < v.d → b < v.d → (x : Opposite v b o)
      → T (crossed (adjacent_of v.d v.k a) (opposite_at v.d v.k b x.which))
      → IsAcross (adjacent_at v a) o v.at
  across-one a b o ha hb x g =
      let A = adjacent_of v.d v.k a in
      let O = orient v.k x.pattern in
      let g₁ : T (among 8 (λ c. crosses (factor_of c) A O)) = subst (λ (z : Option Point). T (crossed A (on_spot (orient v.k) z))) x.row g in
      let y = among-at (λ c. crosses (factor_of c) A O) 8 (is_true _ g₁) in (
        y.0,
        y.1,
        subst (λ (q : Point). across_of (factor_of y.0) (adjacent_at v a) q ≡ v.at) x.is
            (leads (factor_of y.0) v.at v.n A O (low-normal v.at i.normal) (adjacent-depth v i a ha) (opposite-depth v i b o hb x)
            (adjacent-bound v i a ha).depth
            (opposite-bound v i b o hb x).depth (of-true y.2)),
      )

  pub across-before : (j : ℕ) (o : Point) → j < v.d → chosen_at t v j ≡ Some o → IsAcross (adjacent_at v j) o v.at
  across-before j o h c =
      let x = chosen-opposite t v j o c in
      across-one j j o h h x (and_left (crossed (adjacent_of v.d v.k j) (opposite_at v.d v.k j x.which))
      (crossed (adjacent_of v.d v.k (next_place v.d j)) (opposite_at v.d v.k j x.which))
      (row-crossed v.d v.k i.low i.top turn j x.which h x.two))

  pub across-after : (j : ℕ) (o : Point) → j < v.d → next_place v.d j < v.d → chosen_at t v j ≡ Some o → IsAcross (adjacent_at v (next_place v.d j)) o v.at
  across-after j o h m c =
      let x = chosen-opposite t v j o c in
      across-one (next_place v.d j) j o m h x
      (and_right (crossed (adjacent_of v.d v.k j) (opposite_at v.d v.k j x.which))
      (crossed (adjacent_of v.d v.k (next_place v.d j)) (opposite_at v.d v.k j x.which))
      (row-crossed v.d v.k i.low i.top turn j x.which h x.two))
