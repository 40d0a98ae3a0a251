-- What strides say. Each stride of a star leads where the pattern table says (`adjacent-walk`, `side-walk`, `other-walk`): tests computed over degree, place,
-- orientation and the level's parity, since a level only scales them. The way back leads back (`back-walk`). So where a corner of a star has the strides
-- of a face, it has its points, and, the opposite being in the table, its sides and, by the first opposite, the face: `told`.
-- Assumes nothing.
use Rattle.std.specs.Prelude.{◌≡◌, refl, Bool, true, false, not, ◌&&◌, ◌||◌, [], ◌∷◌, ℕ, zero, suc, ◌+◌, ◌*◌, ◌-◌, ◌/◌, ◌%◌, ◌≤◌, ◌<◌, T, eqb, ℤ, pos, ◌+ℤ◌, get_or, Option, Some, None}
use Rattle.std.proofs.Math.Path.{sym, ap}
use Rattle.std.proofs.Common.{◌∙◌, subst, arith, eq-eqb, ne_eqb, lt-ltb, le-ltb}
use Rattle.std.proofs.Math.Bool.{cond, or-true}
use Rattle.std.proofs.Math.Decide.{ℕ_discrete, dec_lt}
use Rattle.laws.specs.Rules.{Test, run, Means, ◌≡?◌, ◌≡ᶻ?◌, ◌≤?◌, ◌&◌, ◌⇒◌, sound, rule2, upto, upto-at}
use Rattle.laws.specs.Choices.{of-true}
use Rattle.laws.specs.Each.{never}
use Rattle.lattice.specs.Points.{pt, by3, is_normal, lift}
use Rattle.lattice.specs.Places.{wide, high, Low}
use Rattle.lattice.specs.Patterns.{orient, three, four, five, six, rows_of, pattern_of, adjacent_of, on_spot}
use Rattle.lattice.specs.PatternLaws.{orient-depth}
use Rattle.lattice.specs.Stars.{scale_of, step_of, adjacent_at, first_at}
use Rattle.lattice.specs.Ranks.{move_of}
use Rattle.lattice.specs.RecordLaws.{Inner}
use Rattle.lattice.specs.declared.points.Point.{Point}
use Rattle.lattice.specs.declared.records.Record.{Record}
use Rattle.geometry.specs.GeometryLaws.{scale-lift, move-back, sum-sum}
use Rattle.geometry.specs.SideLaws.{vector}
use Rattle.geometry.specs.StarSteps.{turn_of, down_of, star-step}
use Rattle.across.specs.OppositeLaws.{opposite_of, adjacent-depth, opposite-depth}
use Rattle.firsts.specs.Faces.{bit, next_place}
use Rattle.firsts.specs.Strides.{adjacent_row, side_row, other_row, part_of, stride_with, stride_of, walk_of, back_of, opposite_by}
use Rattle.firsts.specs.FaceLaws.{next-below}

-- ---- a stride's direction and level

record Split (p k n c : ℕ) : Type 0 where
  some : p ≡ 63 → ⊥
  turn : c % 16 ≡ (k + p % 16) % 12
  level : c / 16 ≡ n + p / 16

split : (p k n : ℕ) → 16 ≤ stride_with p k n → Split p k n (stride_with p k n)
split p k n h = go (ℕ_discrete p 63)
  where
    none : (e : p ≡ 63) → stride_with p k n ≡ 0
    none e = ap (λ (b : Bool). cond b 0 (16 * (n + p / 16) + (k + p % 16) % 12)) (eq-eqb p 63 e)

    is : (p ≡ 63 → ⊥) → stride_with p k n ≡ 16 * (n + p / 16) + (k + p % 16) % 12
    is e = ap (λ (b : Bool). cond b 0 (16 * (n + p / 16) + (k + p % 16) % 12)) (ne_eqb p 63 e)

    parts : (x y c : ℕ) → c ≡ 16 * x + y % 12 → (c % 16 ≡ y % 12) × (c / 16 ≡ x)
    parts x y c e = (omega arith, omega arith)

    go : Dec (p ≡ 63) → Split p k n (stride_with p k n)
    go (yes e) = let z = none e in absurd (omega (arith, z, h))
    go (no e) = let z = parts (n + p / 16) (k + p % 16) (stride_with p k n) (is e) in record { some = e; turn = z.0; level = z.1 }

-- no direction is past the last
pub stride-turn : (row j k n : ℕ) → stride_of row j k n % 16 < 12
unfolding stride_of
stride-turn row j k n = go (eqb (part_of row j) 63)
  where
    go : (b : Bool) → cond b 0 (16 * (n + part_of row j / 16) + (k + part_of row j % 16) % 12) % 16 < 12
    go true = omega arith
    go false = under (n + part_of row j / 16) (k + part_of row j % 16)
      where
        under : (x y : ℕ) → (16 * x + y % 12) % 16 < 12
        under x y = omega arith

-- ---- to an adjacent point

adjacent-part : (d j : ℕ) → 3 ≤ d → d ≤ 6 → j < d
    → Means ((part_of (adjacent_row d) j % 16) ≡? turn_of d j & (part_of (adjacent_row d) j / 16) ≡? (1 + down_of d j) & part_of (adjacent_row d) j ≤? 62)
unfolding turn_of down_of
adjacent-part d j l h k =
    rule2 7 6
    (λ d j. 3 ≤? d ⇒ suc j ≤? d
    ⇒ (part_of (adjacent_row d) j % 16) ≡? turn_of d j & (part_of (adjacent_row d) j / 16) ≡? (1 + down_of d j) & part_of (adjacent_row d) j ≤? 62)
    tt d (omega arith) j (omega arith) l k

module _ (v : Record) (i : Inner v) (turn : v.k < 12) where
  abbrev pub to_adjacent : ℕ → ℕ
  to_adjacent j = stride_of (adjacent_row v.d) j v.k v.n.0

  pub adjacent-some : (j : ℕ) → j < v.d → 16 ≤ to_adjacent j
  unfolding stride_of
  adjacent-some j h =
      let m = adjacent-part v.d j i.low i.top h in
      let p = part_of (adjacent_row v.d) j in
      let e = ap (λ (b : Bool). cond b 0 (16 * (v.n.0 + p / 16) + (v.k + p % 16) % 12)) (ne_eqb p 63 (λ z. omega (arith, m.1.1))) in
      let a = m.1.0 in
      omega (arith, e, a)

  pub adjacent-walk : (j : ℕ) → j < v.d → walk_of v.at (to_adjacent j) ≡ adjacent_at v j
  unfolding stride_of
  adjacent-walk j h =
      let m = adjacent-part v.d j i.low i.top h in
      let s = split (part_of (adjacent_row v.d) j) v.k v.n.0 (adjacent-some j h) in
      let a = m.1.0 in
      let e : to_adjacent j / 16 - 1 ≡ v.n.0 + down_of v.d j = omega (arith, s.level, a) in
      sym (star-step v j i.low i.top h turn i.parity
      ∙ (λ z. move_of v.at ((sym (s.turn ∙ ap (λ (x : ℕ). (v.k + x) % 12) m.0)) z) (sym e z)))

-- ---- from an adjacent point to an opposite

-- where a stride of s levels, from 1 on, ends at the depth of the pattern table, by the parity of the star's level
abbrev depth_of : ℕ → ℕ → ℕ
depth_of b s = get_or ((3 - b) ∷ 2 ∷ (2 - b) ∷ 1 ∷ []) s 0

-- a and the stride make o
abbrev makes : ℕ → ℕ → Point → ℕ → Option Point → Test
makes b k a p (Some o) =
    (p / 16) ≤? 3
    & (wide 2 a +ℤ wide (depth_of b (p / 16)) (orient ((k + p % 16) % 12) (pt (pos 1) (pos 0) 0))) ≡ᶻ? wide 2 (orient k o)
    & (high 2 a +ℤ high (depth_of b (p / 16)) (orient ((k + p % 16) % 12) (pt (pos 1) (pos 0) 0))) ≡ᶻ? high 2 (orient k o)
makes b k a p None = p ≡? 63

abbrev both_make : ℕ → ℕ → ℕ → ℕ → ℕ → Test
both_make b k d j w =
    makes b k (adjacent_of d k j) (part_of (side_row d (eqb w 1)) j) (opposite_of d j w)
    & makes b k (adjacent_of d k (next_place d j)) (part_of (other_row d (eqb w 1)) j) (opposite_of d j w)

opposite-row : (b k d j w : ℕ) → b < 2 → k < 12 → 3 ≤ d → d ≤ 6 → j < d → w < 2 → k % 2 ≡ b → Means (both_make b k d j w)
unfolding pattern_of rows_of three four five six orient
opposite-row b k d j w hb hk l h hj hw e =
    let f : ℕ → ℕ → ℕ → ℕ → ℕ → Test = λ b k d j w. 3 ≤? d ⇒ suc j ≤? d ⇒ (k % 2) ≡? b ⇒ both_make b k d j w in
    let t₁ = upto-at 2 (λ b. upto 12 (λ k. upto 7 (λ d. upto 6 (λ j. upto 2 (λ w. run (f b k d j w)))))) tt b hb in
    let t₂ = upto-at 12 (λ k. upto 7 (λ d. upto 6 (λ j. upto 2 (λ w. run (f b k d j w))))) t₁ k hk in
    let t₃ = upto-at 7 (λ d. upto 6 (λ j. upto 2 (λ w. run (f b k d j w)))) t₂ d (omega arith) in
    let t₄ = upto-at 6 (λ j. upto 2 (λ w. run (f b k d j w))) t₃ j (omega arith) in
    sound (f b k d j w) (upto-at 2 (λ w. run (f b k d j w)) t₄ w hw) l hj e

-- the depth to which a stride of level n + s - 1 is brought
deep : (n s : ℕ) → s ≤ 3 → 1 ≤ n + s → (2 + n / 2 ≡ depth_of (n % 2) s + (n + s - 1) / 2) × (1 ≤ depth_of (n % 2) s)
deep n zero h k = (omega arith, omega arith)
deep n (suc zero) h k = (omega arith, omega arith)
deep n (suc (suc zero)) h k = (omega arith, omega arith)
deep n (suc (suc (suc zero))) h k = (omega arith, omega arith)
deep n (suc (suc (suc (suc s)))) h k = absurd (omega arith)

-- a stride from the end of one pattern point to the end of another
walk-on : (v : Record) (a o : Point) (p : ℕ) → a.m.0 ≤ 2 → (orient v.k o).m.0 ≤ 2 → 16 ≤ stride_with p v.k v.n.0
    → Means (makes (v.n.0 % 2) v.k a p (Some o)) → walk_of (step_of v.at v.n a) (stride_with p v.k v.n.0) ≡ step_of v.at v.n (orient v.k o)
walk-on v a o p ha ho h m =
    (λ z. move_of (step_of v.at v.n a) (s.turn z) (l z))
    ∙ sum-sum v.at (scale_of v.n a) (vector e (n + p / 16 - 1)) (scale_of v.n (orient v.k o)) (2 + n / 2) (omega arith)
    (omega (arith, orient-depth e (pt (pos 1) (pos 0) 0), d.0, d.1)) (omega arith)
    ((λ z. scale-lift a.a a.m.0 (n / 2) 2 z +ℤ reach u.a z) ∙ m.1.0 ∙ sym (scale-lift (orient v.k o).a (orient v.k o).m.0 (n / 2) 2))
    ((λ z. scale-lift a.b a.m.0 (n / 2) 2 z +ℤ reach u.b z) ∙ m.1.1 ∙ sym (scale-lift (orient v.k o).b (orient v.k o).m.0 (n / 2) 2))
  where
    n : ℕ
    n = v.n.0

    e : ℕ
    e = (v.k + p % 16) % 12

    u : Point
    u = orient e (pt (pos 1) (pos 0) 0)

    s : Split p v.k n (stride_with p v.k n)
    s = split p v.k n h

    l : stride_with p v.k n / 16 - 1 ≡ n + p / 16 - 1
    l = omega (arith, s.level)

    d : (2 + n / 2 ≡ depth_of (n % 2) (p / 16) + (n + p / 16 - 1) / 2) × (1 ≤ depth_of (n % 2) (p / 16))
    d = deep n (p / 16) m.0 (omega (arith, s.level, h))

    reach : (x : ℤ) → lift x (u.m.0 + (n + p / 16 - 1) / 2) (2 + n / 2) ≡ lift x u.m.0 (depth_of (n % 2) (p / 16))
    reach x = ap (λ (z : ℕ). lift x (u.m.0 + (n + p / 16 - 1) / 2) z) d.0 ∙ scale-lift x u.m.0 ((n + p / 16 - 1) / 2) (depth_of (n % 2) (p / 16))

-- ---- the way back

low-point : (p : Point) → Low p → T (is_normal p)
low-point p l = go p.m.0 (by3 p.a && by3 p.b) l.low
  where
    go : (m : ℕ) (b : Bool) → (0 < m → b ≡ false) → T (eqb m 0 || not b)
    go zero b h = tt
    go (suc m) true h = absurd (never (sym (h (omega arith))))
    go (suc m) false h = of-true (or-true (eqb (suc m) 0))

back-parts : (c : ℕ) → c % 16 < 12 → (back_of c % 16 ≡ (c % 16 + 6) % 12) × (back_of c / 16 ≡ c / 16)
back-parts c low = go (dec_lt (c % 16) 6)
  where
    under : (x : ℕ) → x ≡ c + 6 → c % 16 < 6 → (x % 16 ≡ (c % 16 + 6) % 12) × (x / 16 ≡ c / 16)
    under x e l = (omega arith, omega arith)

    over : (x : ℕ) → x ≡ c - 6 → 6 ≤ c % 16 → (x % 16 ≡ (c % 16 + 6) % 12) × (x / 16 ≡ c / 16)
    over x e l = (omega (arith, low), omega (arith, low))

    go : Dec (c % 16 < 6) → (back_of c % 16 ≡ (c % 16 + 6) % 12) × (back_of c / 16 ≡ c / 16)
    go (yes l) = under (back_of c) (ap (λ (b : Bool). cond b (c + 6) (c - 6)) (lt-ltb (c % 16) 6 l)) l
    go (no l) = over (back_of c) (ap (λ (b : Bool). cond b (c + 6) (c - 6)) (le-ltb (c % 16) 6 (omega arith))) (omega arith)

pub back_some : (c : ℕ) → c % 16 < 12 → 16 ≤ c → 16 ≤ back_of c
back_some c low h = let e = (back-parts c low).1 in omega (arith, e)

pub back-walk : (p q : Point) (c : ℕ) → c % 16 < 12 → Low p → walk_of p c ≡ q → walk_of q (back_of c) ≡ p
back-walk p q c low l e =
    let x = back-parts c low in
    ap (λ (z : Point). walk_of z (back_of c)) (sym e)
    ∙ (λ z. move_of (walk_of p c) (x.0 z) (ap (λ (y : ℕ). y - 1) x.1 z))
    ∙ move-back p (c % 16) (c / 16 - 1) (low-point p l) (omega arith)

-- ---- the corners of a star

module _ (v : Record) (i : Inner v) (turn : v.k < 12) (j : ℕ) (h : j < v.d) (second : Bool) where
  abbrev pub to_opposite : ℕ
  to_opposite = stride_of (side_row v.d second) j v.k v.n.0

  abbrev pub from_next : ℕ
  from_next = stride_of (other_row v.d second) j v.k v.n.0

  row : (s : Bool) → Means (makes (v.n.0 % 2) v.k (adjacent_of v.d v.k j) (part_of (side_row v.d s) j) (opposite_of v.d j (bit s))
      & makes (v.n.0 % 2) v.k (adjacent_of v.d v.k (next_place v.d j)) (part_of (other_row v.d s) j) (opposite_of v.d j (bit s)))
  row false = opposite-row (v.n.0 % 2) v.k v.d j 0 (omega arith) turn i.low i.top h (omega arith) i.parity
  row true = opposite-row (v.n.0 % 2) v.k v.d j 1 (omega arith) turn i.low i.top h (omega arith) i.parity

  two : (s : Bool) → bit s < 2
  two true = omega arith
  two false = omega arith

  spot-inj : (p q : Point) → Some p ≡ Some q → p ≡ q
  spot-inj p q e = cc

  spot-none : {A : Type 0} {p : Point} → None ≡ Some p → A
  spot-none e = absurd (let z : ◌≡◌ {A = ℕ} 0 1 = cc in omega arith)

  -- the opposite, as a point of the pattern table
  pattern-of : (o : Point) → opposite_by v j second ≡ Some o → (p : Point) × (opposite_of v.d j (bit second) ≡ Some p)
      × (step_of v.at v.n (orient v.k p) ≡ o)
  pattern-of o e = go second e
    where
      from : (s : Option Point) → (pattern_of v.d j).second ≡ s → on_spot (step_of v.at v.n) (on_spot (orient v.k) s) ≡ Some o
          → (p : Point) × ((pattern_of v.d j).second ≡ Some p) × (step_of v.at v.n (orient v.k p) ≡ o)
      from None x g = spot-none g
      from (Some p) x g = (p, x, spot-inj (step_of v.at v.n (orient v.k p)) o g)

      go : (s : Bool) → opposite_by v j s ≡ Some o → (p : Point) × (opposite_of v.d j (bit s) ≡ Some p) × (step_of v.at v.n (orient v.k p) ≡ o)
      go false g = ((pattern_of v.d j).first, refl, spot-inj (first_at v j) o g)
      go true g = from (pattern_of v.d j).second refl g

  module _ (o : Point) (e : opposite_by v j second ≡ Some o) where
    near : (p : Point) → opposite_of v.d j (bit second) ≡ Some p → step_of v.at v.n (orient v.k p) ≡ o → (orient v.k p).m.0 ≤ 2
    near p r is = opposite-depth v i j o h (record { pattern = p; which = bit second; two = two second; row = r; is = is })

    pub side-walk : 16 ≤ to_opposite → walk_of (adjacent_at v j) to_opposite ≡ o
    unfolding stride_of
    side-walk l =
        let (p, r, is) = pattern-of o e in
        let a = adjacent_of v.d v.k j in
        let x = part_of (side_row v.d second) j in
        walk-on v a p x (adjacent-depth v i j h) (near p r is) l (subst (λ (s : Option Point). Means (makes (v.n.0 % 2) v.k a x s)) r (row second).0) ∙ is

    pub other-walk : 16 ≤ from_next → walk_of (adjacent_at v (next_place v.d j)) from_next ≡ o
    unfolding stride_of
    other-walk l =
        let (p, r, is) = pattern-of o e in
        let n = next_place v.d j in
        let a = adjacent_of v.d v.k n in
        let x = part_of (other_row v.d second) j in
        walk-on v a p x (adjacent-depth v i n (next-below v.d j h)) (near p r is) l
        (subst (λ (s : Option Point). Means (makes (v.n.0 % 2) v.k a x s)) r (row second).1) ∙ is

  -- a stride that is one leads to an opposite
  pub some-opposite : 16 ≤ to_opposite → (o : Point) × (opposite_by v j second ≡ Some o)
  unfolding stride_of
  some-opposite l = go second l
    where
      spot : (s : Bool) (z : Option Point) → opposite_of v.d j (bit s) ≡ z → 16 ≤ stride_with (part_of (side_row v.d s) j) v.k v.n.0 → (p : Point)
          × (opposite_of v.d j (bit s) ≡ Some p)
      spot s (Some p) e k = (p, e)
      spot s None e k =
          let x = part_of (side_row v.d s) j in
          absurd ((split x v.k v.n.0 k).some
          (subst (λ (z : Option Point). Means (makes (v.n.0 % 2) v.k (adjacent_of v.d v.k j) x z)) e (row s).0))

      go : (s : Bool) → 16 ≤ stride_with (part_of (side_row v.d s) j) v.k v.n.0 → (o : Point) × (opposite_by v j s ≡ Some o)
      go false k = (first_at v j, refl)
      go true k = let x = spot true (opposite_of v.d j 1) refl k in
          (step_of v.at v.n (orient v.k x.0), ap (λ (z : Option Point). on_spot (step_of v.at v.n) (on_spot (orient v.k) z)) x.1)
