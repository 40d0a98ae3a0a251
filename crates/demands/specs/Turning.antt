-- "counter-clockwise": a face of a star turns left at each of its corners, at every degree, orientation and place, by its first opposite and by its second.
-- `cross_of D p q r` (q - p) × (r - q) of places at depth D, (x, y) × (z, w) being xw - yz · `Left p q r` it is above zero: the way from p by q to r turns
-- left, since w lies to the left of 1 · `LeftRound` at each of four points round, `LeftFace` of a face · `first-left`, `second-left` the face of a corner ·
-- `face-left` of a vertex of a table, `left-round` from whichever vertex it is read.
-- A star is its pattern, made smaller and moved, so the numbers of the places are those of the pattern times one number (`Off`), and the pattern's are
-- one test over degree, orientation and place.
-- Assumes nothing.
use Rattle.std.proofs.Math.Path.{◌≡◌, sym, ap}
use Rattle.std.specs.Prelude.{refl, Bool, ℕ, suc, ◌+◌, ◌*◌, ◌/◌, ◌-◌, ◌^◌, ◌≤◌, ◌<◌, ℤ, nat_abs, ◌+ℤ◌, ◌-ℤ◌, ◌*ℤ◌, Option, Some, None}
use Rattle.std.proofs.Common.{◌∙◌, subst, arith, mul-pos}
use Rattle.std.proofs.Math.Bool.{true, false, cond}
use mathlib.Core.List.Memᴰ
use mathlib.Core.List.{List, Memᴰ}
use Rattle.std.proofs.Math.IntN.{pos, zero-*ℤ, +ℤ_idr, pos-*ℤ-pos}
use Rattle.laws.specs.Choices.{of-true}
use Rattle.laws.specs.Linear.{same, ‵, ◌⊕◌, ◌⊝◌}
use Rattle.laws.specs.Products.{times-times, minus-times, above-times}
use Rattle.laws.specs.Rules.{Test, ◌≤?◌, ◌≡ᶻ?◌, ◌&◌, ◌⇒◌, Means, run, upto, upto-at, rule2}
use Rattle.lattice.specs.Points.{pt, lift}
use Rattle.lattice.specs.Places.{wide, high, sum-wide, sum-high, lift-lift, pow-over}
use Rattle.lattice.specs.Patterns.{orient, three, four, five, six, rows_of, pattern_of, on_spot, adjacent_of, first_opposite_of, second_opposite_of}
use Rattle.lattice.specs.Records.{valid_of}
use Rattle.lattice.specs.RecordLaws.{Inner, inner, valid-turn}
use Rattle.lattice.specs.Stars.{scale_of, step_of, adjacent_at, first_at, second_at}
use Rattle.lattice.specs.declared.points.Point.{Point}
use Rattle.lattice.specs.declared.records.Level.{Level}
use Rattle.lattice.specs.declared.records.Record.{Record}
use Rattle.geometry.specs.GeometryLaws.{scale-lift}
use Rattle.table.specs.Order.{InOrder}
use Rattle.table.specs.Entries.{records_of, holds}
use Rattle.table.specs.MapLaws.{records-looked, lookup-valid}
use Rattle.queries.specs.Queries.{there, chosen_at}
use Rattle.firsts.specs.Faces.{next_place, face, face_with, faces_at, turned}
use Rattle.firsts.specs.DifferentLaws.{gather-mem}
use Rattle.firsts.specs.FaceLaws.{SameRound, straight, once, twice, thrice}
use Rattle.firsts.specs.declared.faces.Face.{Face}

-- (x, y) × (z, w)
abbrev cross : ℤ → ℤ → ℤ → ℤ → ℤ
cross x y z w = x *ℤ w -ℤ y *ℤ z

-- (q - p) × (r - q)
abbrev pub cross_of : ℕ → Point → Point → Point → ℤ
cross_of D p q r = cross (wide D q -ℤ wide D p) (high D q -ℤ high D p) (wide D r -ℤ wide D q) (high D r -ℤ high D q)

-- above zero, at whatever common depth
abbrev pub Left : Point → Point → Point → Type 0
Left p q r = (D : ℕ) → p.m.0 ≤ D → q.m.0 ≤ D → r.m.0 ≤ D → (n : ℕ) × (cross_of D p q r ≡ pos (suc n))

pub record LeftRound (p q r s : Point) : Type 0 where
  pub at-q : Left p q r
  pub at-r : Left q r s
  pub at-s : Left r s p
  pub at_p : Left s p q

-- ---- all four numbers times one
cross-times : (x y z w : ℤ) (k : ℕ) → cross (x *ℤ pos k) (y *ℤ pos k) (z *ℤ pos k) (w *ℤ pos k) ≡ cross x y z w *ℤ pos (k * k)
cross-times x y z w k = (λ i. times-times x w k i -ℤ times-times y z k i) ∙ sym (minus-times (x *ℤ w) (y *ℤ z) (k * k))

module _ (D e : ℕ) where
  raised : (x : ℤ) (m : ℕ) → m ≤ D → lift x m (D + e) ≡ lift x m D *ℤ pos (3 ^ e)
  raised x m h = let f : D + e - D ≡ e = omega arith in sym (lift-lift x m D (D + e) h (omega arith)) ∙ ap (λ (k : ℕ). lift x m D *ℤ pos (3 ^ k)) f

  apart : (x y : ℤ) (m n : ℕ) → m ≤ D → n ≤ D → lift x m (D + e) -ℤ lift y n (D + e) ≡ (lift x m D -ℤ lift y n D) *ℤ pos (3 ^ e)
  apart x y m n h g = (λ i. raised x m h i -ℤ raised y n g i) ∙ sym (minus-times (lift x m D) (lift y n D) (3 ^ e))

  cross-raised : (p q r : Point) → p.m.0 ≤ D → q.m.0 ≤ D → r.m.0 ≤ D → cross_of (D + e) p q r ≡ cross_of D p q r *ℤ pos (3 ^ e * 3 ^ e)
  cross-raised p q r hp hq hr =
      (λ i. cross (apart q.a p.a q.m.0 p.m.0 hq hp i) (apart q.b p.b q.m.0 p.m.0 hq hp i)
      (apart r.a q.a r.m.0 q.m.0 hr hq i) (apart r.b q.b r.m.0 q.m.0 hr hq i))
      ∙ cross-times (wide D q -ℤ wide D p) (high D q -ℤ high D p) (wide D r -ℤ wide D q) (high D r -ℤ high D q) (3 ^ e)

-- ---- a point of a star: off the vertex by its pattern point, at depth 4, times k
record Off (x : Point) (E k : ℕ) (o p : Point) : Type 0 where
  across : wide E p ≡ wide E x +ℤ wide 4 o *ℤ pos k
  up : high E p ≡ high E x +ℤ high 4 o *ℤ pos k

origin : Point
origin = pt (pos 0) (pos 0) 0

module _ (x : Point) (E k : ℕ) where
  off-vertex : Off x E k origin x
  unfolding origin
  off-vertex = record { across = zeros (wide E x); up = zeros (high E x) }
    where
      zeros : (z : ℤ) → z ≡ z +ℤ pos 0 *ℤ pos (3 ^ 4) *ℤ pos k
      zeros z = sym (+ℤ_idr z) ∙ ap (λ (y : ℤ). z +ℤ y) (sym (ap (λ (y : ℤ). y *ℤ pos k) (zero-*ℤ (pos (3 ^ 4))) ∙ zero-*ℤ (pos k)))

  from : (z u v : ℤ) → (z +ℤ v *ℤ pos k) -ℤ (z +ℤ u *ℤ pos k) ≡ (v -ℤ u) *ℤ pos k
  from z u v = same ((‵ z ⊕ ‵ (v *ℤ pos k)) ⊝ (‵ z ⊕ ‵ (u *ℤ pos k))) (‵ (v *ℤ pos k) ⊝ ‵ (u *ℤ pos k)) (omega arith) ∙ sym (minus-times v u k)

  cross-off : {o p q a b c : Point} → Off x E k a o → Off x E k b p → Off x E k c q → cross_of E o p q ≡ cross_of 4 a b c *ℤ pos (k * k)
  cross-off {o} {p} {q} {a} {b} {c} f g h =
      (λ i. cross (g.across i -ℤ f.across i) (g.up i -ℤ f.up i) (h.across i -ℤ g.across i) (h.up i -ℤ g.up i))
      ∙ (λ i. cross (from (wide E x) (wide 4 a) (wide 4 b) i) (from (high E x) (high 4 a) (high 4 b) i)
      (from (wide E x) (wide 4 b) (wide 4 c) i) (from (high E x) (high 4 b) (high 4 c) i))
      ∙ cross-times (wide 4 b -ℤ wide 4 a) (high 4 b -ℤ high 4 a) (wide 4 c -ℤ wide 4 b) (high 4 c -ℤ high 4 b) k

-- the same at depth 4 + e + n/2, for each e that is enough for x
module _ (x : Point) (n : Level) where
  abbrev OffAll : Point → Point → Type 0
  OffAll o p = (e : ℕ) → x.m.0 ≤ e → Off x (4 + e + n.0 / 2) (3 ^ e) o p

  off-step : (o : Point) → o.m.0 ≤ 4 → OffAll o (step_of x n o)
  off-step o h e hx =
      record {
        across = sum-wide x (scale_of n o) E (omega arith) (omega arith) ∙ ap (λ (z : ℤ). wide E x +ℤ z) (one o.a);
        up = sum-high x (scale_of n o) E (omega arith) (omega arith) ∙ ap (λ (z : ℤ). high E x +ℤ z) (one o.b);
      }
    where
      E : ℕ
      E = 4 + e + n.0 / 2

      one : (z : ℤ) → lift z (o.m.0 + n.0 / 2) E ≡ lift z o.m.0 4 *ℤ pos (3 ^ e)
      one z = scale-lift z o.m.0 (n.0 / 2) (4 + e) ∙ raised 4 e z o.m.0 h

-- ---- from the pattern to the points
abbrev left_test : Point → Point → Point → Test
left_test p q r = cross_of 4 p q r ≡ᶻ? pos (nat_abs (cross_of 4 p q r)) & 1 ≤? nat_abs (cross_of 4 p q r)

abbrev round_test : Point → Point → Point → Test
round_test p q r =
    left_test origin p q & left_test p q r & left_test q r origin & left_test r origin p & p.m.0 ≤? 4 & q.m.0 ≤? 4 & r.m.0 ≤? 4

module _ (x : Point) (n : Level) where
  left : {o p q a b c : Point} → OffAll x n a o → OffAll x n b p → OffAll x n c q → Means (left_test a b c) → Left o p q
  left {o} {p} {q} {a} {b} {c} f g h (t, l) D ho hp hq =
      let e = x.m.0 + D in
      let hx : x.m.0 ≤ e = omega arith in
      let E = 4 + e + n.0 / 2 in
      let s = 4 + x.m.0 + n.0 / 2 in
      let k = 3 ^ e in
      let N = nat_abs (cross_of 4 a b c) in
      let d : D + s ≡ E = omega arith in
      above-times (cross_of D o p q) (3 ^ s * 3 ^ s) (N * (k * k))
      (sym (cross-raised D s o p q ho hp hq) ∙ ap (λ (F : ℕ). cross_of F o p q) d ∙ cross-off x E k (f e hx) (g e hx) (h e hx)
      ∙ ap (λ (z : ℤ). z *ℤ pos (k * k)) t ∙ pos-*ℤ-pos N (k * k))
      (mul-pos l (mul-pos (pow-over e) (pow-over e)))

  round : (p q r : Point) → Means (round_test p q r) → LeftRound x (step_of x n p) (step_of x n q) (step_of x n r)
  round p q r (a, (b, (c, (d, (hp, (hq, hr)))))) =
      let o : OffAll x n origin x = λ e hx. off-vertex x (4 + e + n.0 / 2) (3 ^ e) in
      let P = off-step x n p hp in
      let Q = off-step x n q hq in
      let R = off-step x n r hr in
      record { at-q = left o P Q a; at-r = left P Q R b; at-s = left Q R o c; at_p = left R o P d }

-- ---- the patterns
abbrev spot_test : ℕ → ℕ → ℕ → Option Point → Test
spot_test d k j (Some o) = round_test (adjacent_of d k j) o (adjacent_of d k (next_place d j))
spot_test d k j None = 0 ≤? 0

abbrev corner_test : ℕ → ℕ → ℕ → Test
corner_test d k j = spot_test d k j (Some (first_opposite_of d k j)) & spot_test d k j (second_opposite_of d k j)

corners-hold : (d k j : ℕ) → 3 ≤ d → d ≤ 6 → k < 12 → j < d → Means (corner_test d k j)
unfolding orient pattern_of rows_of three four five six origin
corners-hold d k j l h hk hj =
    rule2 12 6 (λ k j. 3 ≤? d ⇒ suc j ≤? d ⇒ corner_test d k j)
    (upto-at 7 (λ d. upto 12 (λ k. upto 6 (λ j. run (3 ≤? d ⇒ suc j ≤? d ⇒ corner_test d k j)))) tt d (omega arith)) k hk j (omega arith) l hj

-- ---- the faces of a star
module _ (v : Record) (i : Inner v) (hk : v.k < 12) (j : ℕ) (hj : j < v.d) where
  corner : Means (corner_test v.d v.k j)
  corner = corners-hold v.d v.k j i.low i.top hk hj

  pub first-left : LeftRound v.at (adjacent_at v j) (first_at v j) (adjacent_at v (next_place v.d j))
  first-left =
      round v.at v.n (adjacent_of v.d v.k j) (first_opposite_of v.d v.k j) (adjacent_of v.d v.k (next_place v.d j)) corner.0

  pub second-left : (o : Point) → second_at v j ≡ Some o → LeftRound v.at (adjacent_at v j) o (adjacent_at v (next_place v.d j))
  second-left o e = go (second_opposite_of v.d v.k j) corner.1 e
    where
      go : (s : Option Point) → Means (spot_test v.d v.k j s) → on_spot (step_of v.at v.n) s ≡ Some o
          → LeftRound v.at (adjacent_at v j) o (adjacent_at v (next_place v.d j))
      go (Some q) m f =
          let g : step_of v.at v.n q ≡ o = cc in
          subst (λ (y : Point). LeftRound v.at (adjacent_at v j) y (adjacent_at v (next_place v.d j))) g
          (round v.at v.n (adjacent_of v.d v.k j) q (adjacent_of v.d v.k (next_place v.d j)) m)
      go None m f = absurd (let z : ◌≡◌ {A = ℕ} 0 1 = cc in omega arith)

-- ---- the faces of a table
abbrev pub LeftFace : Face → Type 0
LeftFace f = LeftRound f.at f.adjacent f.opposite f.next

-- read from the next vertex on
left-turned : (f : Face) → LeftFace f → LeftFace (turned f)
left-turned f l = record { at-q = l.at-r; at-r = l.at-s; at-s = l.at_p; at_p = l.at-q }

pub left-round : (f g : Face) → SameRound f g → LeftFace f → LeftFace g
left-round f g (straight e) l = subst LeftFace e l
left-round f g (once e) l = subst LeftFace e (left-turned f l)
left-round f g (twice e) l = subst LeftFace e (left-turned (turned f) (left-turned f l))
left-round f g (thrice e) l = subst LeftFace e (left-turned (turned (turned f)) (left-turned (turned f) (left-turned f l)))

module _ (t : List ℕ) (o : InOrder t) (v : Record) (m : Memᴰ v (records_of t)) where
  module _ (j : ℕ) (h : j < v.d) where
    valid : valid_of v ≡ true
    valid = lookup-valid t o v.at v (records-looked t o v m)

    i : Inner v
    i = inner v (of-true valid) (λ e. omega arith)

    chosen-left : (q : Point) → chosen_at t v j ≡ Some q → LeftFace (face v.at (adjacent_at v j) q (adjacent_at v (next_place v.d j)))
    unfolding chosen_at
    chosen-left q = go (holds t (first_at v j))
      where
        else-left : (s : Option Point) → second_at v j ≡ s → there t s ≡ Some q → LeftFace (face v.at (adjacent_at v j) q (adjacent_at v (next_place v.d j)))
        else-left (Some p) e f = second-left v i (valid-turn v (of-true valid)) j h q (e ∙ held (holds t p) f)
          where
            held : (b : Bool) → cond b (Some p) None ≡ Some q → Some p ≡ Some q
            held true f = f
            held false f = absurd (let z : ◌≡◌ {A = ℕ} 0 1 = cc in omega arith)
        else-left None e f = absurd (let z : ◌≡◌ {A = ℕ} 0 1 = cc in omega arith)

        go : (b : Bool) → cond b (Some (first_at v j)) (there t (second_at v j)) ≡ Some q
            → LeftFace (face v.at (adjacent_at v j) q (adjacent_at v (next_place v.d j)))
        go true e =
            let g : first_at v j ≡ q = cc in
            subst (λ (y : Point). LeftFace (face v.at (adjacent_at v j) y (adjacent_at v (next_place v.d j)))) g
            (first-left v i (valid-turn v (of-true valid)) j h)
        go false e = else-left (second_at v j) refl e

    spot-left : (s : Option Point) → chosen_at t v j ≡ s → (f : Face) → Memᴰ f (face_with v j s) → LeftFace f
    spot-left (Some q) e f n = subst LeftFace (sym (Memᴰ.eq_of_singleton n)) (chosen-left q e)
    spot-left None e f n = absurd (Memᴰ.not-nil n)

  pub face-left : (f : Face) → Memᴰ f (faces_at t v) → LeftFace f
  face-left f n =
      let (j, h, k) = gather-mem v.d (λ j. face_with v j (chosen_at t v j)) f n in
      spot-left j h (chosen_at t v j) refl f k
