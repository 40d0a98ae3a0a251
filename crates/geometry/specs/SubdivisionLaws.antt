-- A subdivision makes valid records: `centre-valid`, `update-valid`, `new-valid`. So in a table in order a subdivision that is not torn needs no further
-- refusal.
-- A new point is a third of the sum of v and two of its old adjacent points, so it keeps to their range; and its depth is at most 6 (`new-depth`).
-- `Sited` what the point of a valid record has · `sited`, `valid-made`, `suits-made` between it and validity ·
-- `update-boundary` .. `update-five` what becomes of an old adjacent vertex, degree by degree, `update-at` at its point ·
-- `Rule`, `has-rule`, `accepted` what it is when nothing is torn · `six-place` a star of degree 6 by directions · `sum-normal`.
-- Assumes nothing.
use Rattle.std.specs.Prelude.{◌≡◌, refl, ◌⊎◌, Bool, true, false, cond, ◌&&◌, not, ◌||◌, ℕ, zero, suc, ◌+◌, ◌*◌, ◌%◌, ◌/◌, ◌≤◌, ◌<◌, ◌-◌, ◌^◌, T, eqb, ltb, leb, ℤ, pos, ◌+ℤ◌, ◌*ℤ◌, nat_abs}
use Rattle.std.proofs.Common.{sym, ◌∙◌, ap, subst, inl, inr, arith, mul_assoc, mul-le-mul_right, le_of_mul-le-mul_right, leb→le, eqb→eq, le→leb, lt→ltb, pow-add, ne_eqb}
use Rattle.std.proofs.Math.Logic.{⊎_map}
use Rattle.std.proofs.Math.Decide.{ℕ_discrete}
use Rattle.std.proofs.Math.Dec.{eqb_refl}
use Rattle.std.proofs.Math.IntN.{*ℤ_comm}
use Rattle.laws.specs.Choices.{or_split, or_right, apart}
use Rattle.laws.specs.Bools.{and_left, and_right, and_both}
use Rattle.laws.specs.Linear.{same, told-≡, ‵, ◌⊕◌, ◌⊗◌}
use Rattle.laws.specs.Sizes.{abs-add, abs-mul}
use Rattle.lattice.specs.Points.{by3, is_normal, lift, sum_of}
use Rattle.lattice.specs.Places.{wide, high, sum-wide, sum-high, sum-depth, normal-low, pow-over}
use Rattle.lattice.specs.Records.{within, orientations_of, same_parity, suits_of, valid_of}
use Rattle.lattice.specs.RecordLaws.{Inner, inner}
use Rattle.lattice.specs.Stars.{adjacent_at}
use Rattle.lattice.specs.Ranks.{move_of}
use Rattle.lattice.specs.Subdivision.{centre_of, new_of, four_turn, update_of, has_rule, accepts_of}
use Rattle.geometry.specs.GeometryLaws.{six-adjacent}
use Rattle.geometry.specs.SideLaws.{Dir, turn1, turn11, vector, vector-depth, next-deep, middle-wide, middle-high}
use Rattle.lattice.specs.declared.points.Point.{Point}
use Rattle.lattice.specs.declared.records.Record.{Record}

-- ---- what validity says
-- a point that a valid record can have
pub record Sited (p : Point) : Type 0 where
  pub normal : T (is_normal p)
  pub depth : p.m.0 ≤ 6
  pub wide : nat_abs p.a ≤ 251 * 3 ^ p.m.0
  pub high : nat_abs p.b ≤ 251 * 3 ^ p.m.0

pub sited : (r : Record) → T (valid_of r) → Sited r.at
sited r t =
    let m = r.at.m.0 in
    let s = suits_of r.d r.k r.n.0 in
    let t₁ = and_right (is_normal r.at) (leb m 6 && (within r.at.a m && (within r.at.b m && s))) t in
    let t₂ = and_right (leb m 6) (within r.at.a m && (within r.at.b m && s)) t₁ in
    let t₃ = and_right (within r.at.a m) (within r.at.b m && s) t₂ in
    record {
      normal = and_left (is_normal r.at) (leb m 6 && (within r.at.a m && (within r.at.b m && s))) t;
      depth = leb→le m 6 (and_left (leb m 6) (within r.at.a m && (within r.at.b m && s)) t₁);
      wide = leb→le (nat_abs r.at.a) (251 * 3 ^ m) (and_left (within r.at.a m) (within r.at.b m && s) t₂);
      high = leb→le (nat_abs r.at.b) (251 * 3 ^ m) (and_left (within r.at.b m) s t₃);
    }

pub valid-made : (r : Record) → Sited r.at → T (suits_of r.d r.k r.n.0) → T (valid_of r)
valid-made r s t =
    let m = r.at.m.0 in
    let u = suits_of r.d r.k r.n.0 in
    and_both (is_normal r.at) (leb m 6 && (within r.at.a m && (within r.at.b m && u))) s.normal
    (and_both (leb m 6) (within r.at.a m && (within r.at.b m && u)) (le→leb m 6 s.depth)
    (and_both (within r.at.a m) (within r.at.b m && u) (le→leb (nat_abs r.at.a) (251 * 3 ^ m) s.wide)
    (and_both (within r.at.b m) u (le→leb (nat_abs r.at.b) (251 * 3 ^ m) s.high) t)))

pub suits-made : (d k n : ℕ) → (d ≡ 0 → ⊥) → k < orientations_of d → n ≤ 12 → k % 2 ≡ n % 2 → T (suits_of d k n)
suits-made d k n h l m e =
    let t : T (ltb k (orientations_of d) && (leb n 12 && same_parity k n)) =
    and_both (ltb k (orientations_of d)) (leb n 12 && same_parity k n) (lt→ltb k (orientations_of d) l)
    (and_both (leb n 12) (same_parity k n) (le→leb n 12 m) (subst (λ (x : ℕ). T (eqb (k % 2) x)) e (eqb_refl (k % 2)))) in
    rw (ne_eqb d 0 h) t

-- ---- v itself
module _ (v : Record) (t : T (valid_of v)) (six : v.d ≡ 6) (below : v.n.0 < 12) where
  six-inner : Inner v
  six-inner = inner v t (omega arith)

  six-turn : v.k < 2
  six-turn = let l = six-inner.turn in rw six at l

  pub centre-valid : T (valid_of (centre_of v))
  centre-valid =
      let p = six-inner.parity in
      valid-made (centre_of v) (sited v t)
      (suits-made v.d ((v.k + 1) % 2) (v.n.0 + 1) (omega arith) (rw six (omega arith)) (omega arith) (next v.k v.n.0 p))
    where
      next : (k n : ℕ) → k % 2 ≡ n % 2 → (k + 1) % 2 % 2 ≡ (n + 1) % 2
      next k n h = omega arith

-- ---- an old adjacent vertex u: the rules, one by one
module _ (k' : ℕ) (u : Record) where
  pub update-boundary : u.d ≡ 0 → update_of k' u ≡ u
  unfolding update_of
  update-boundary e = rw e

  pub update-three : u.d ≡ 3 → update_of k' u ≡ record { at = u.at; d = 4; k = (k' + 4) % 12; n = u.n }
  unfolding update_of
  update-three e = rw e

  pub update-four : u.d ≡ 4 → update_of k' u ≡ record { at = u.at; d = 5; k = four_turn k' u.k; n = u.n }
  unfolding update_of
  update-four e = rw e

  pub update-five : u.d ≡ 5 → update_of k' u ≡ record { at = u.at; d = 6; k = (k' + 1) % 2; n = record { 0 = u.n.0 + 1 } }
  unfolding update_of
  update-five e = rw e

-- whatever becomes of it, its point stays
pub update-at : (k' : ℕ) (u : Record) → (update_of k' u).at ≡ u.at
unfolding update_of
update-at k' u = go (eqb u.d 3) (eqb u.d 4) (eqb u.d 5)
  where
    go : (a b c : Bool) →
        (cond a (record { at = u.at; d = 4; k = (k' + 4) % 12; n = u.n })
        (cond b (record { at = u.at; d = 5; k = four_turn k' u.k; n = u.n })
        (cond c (record { at = u.at; d = 6; k = (k' + 1) % 2; n = record { 0 = u.n.0 + 1 } })
        u))).at ≡ u.at
    go true b c = refl
    go false true c = refl
    go false false true = refl
    go false false false = refl

-- what "no rule" leaves: the degree, and how its orientation stands to k'
pub data Rule (k' : ℕ) (u : Record) : Type 0 where
  three : u.d ≡ 3 → k' % 4 ≡ u.k → Rule k' u
  four : u.d ≡ 4 → (u.k ≡ k') ⊎ ((u.k + 4) % 12 ≡ k') → Rule k' u
  five : u.d ≡ 5 → k' ≡ u.k → Rule k' u

pub has-rule : (k' : ℕ) (u : Record) → T (has_rule k' u.d u.k) → Rule k' u
has-rule k' u t = go (ℕ_discrete u.d 3) (ℕ_discrete u.d 4) (ℕ_discrete u.d 5)
  where
    go : Dec (u.d ≡ 3) → Dec (u.d ≡ 4) → Dec (u.d ≡ 5) → Rule k' u
    go (yes a) b c = three a (eqb→eq (k' % 4) u.k (rw a at t))
    go (no a) (yes b) c =
        four b (⊎_map (eqb→eq u.k k') (eqb→eq ((u.k + 4) % 12) k') (or_split (eqb u.k k') (eqb ((u.k + 4) % 12) k') (rw b at t)))
    go (no a) (no b) (yes c) = five c (eqb→eq k' u.k (rw c at t))
    go (no a) (no b) (no c) = let z : ⊥ = rw (ne_eqb u.d 3 a, ne_eqb u.d 4 b, ne_eqb u.d 5 c) at t in absurd z

pub accepted : (k' n : ℕ) (u : Record) → T (accepts_of k' n u) → (u.d ≡ 0) ⊎ ((u.n.0 ≡ n) × Rule k' u)
unfolding accepts_of
accepted k' n u t = go (ℕ_discrete u.d 0)
  where
    go : Dec (u.d ≡ 0) → (u.d ≡ 0) ⊎ ((u.n.0 ≡ n) × Rule k' u)
    go (yes e) = inl e
    go (no e) =
        let h : T (eqb u.n.0 n && has_rule k' u.d u.k) = rw (ne_eqb u.d 0 e) at t in
        inr (
          eqb→eq u.n.0 n (and_left (eqb u.n.0 n) (has_rule k' u.d u.k) h),
          has-rule k' u
              (and_right (eqb u.n.0 n) (has_rule k' u.d u.k) h),
        )

pub update-valid : (k' n : ℕ) (u : Record) → n < 12 → T (valid_of u) → T (accepts_of k' n u) → T (valid_of (update_of k' u))
update-valid k' n u l t a = go (accepted k' n u a)
  where
    i : (u.d ≡ 0 → ⊥) → u.k % 2 ≡ u.n.0 % 2
    i z = (inner u t z).parity

    even : (s m : ℕ) → s % 2 ≡ 0 → k' % 2 ≡ m % 2 → (k' + s) % 12 % 2 ≡ m % 2
    even s m h p = twice (k' + s) ∙ more k' s m h p
      where
        twice : (x : ℕ) → x % 12 % 2 ≡ x % 2
        twice x = omega arith

        more : (x s m : ℕ) → s % 2 ≡ 0 → x % 2 ≡ m % 2 → (x + s) % 2 ≡ m % 2
        more x s m h p = omega arith

    into : (r : Record) → update_of k' u ≡ r → r.at ≡ u.at → T (suits_of r.d r.k r.n.0) → T (valid_of (update_of k' u))
    into r e a s = subst (λ (r : Record). T (valid_of r)) (sym e) (valid-made r (subst Sited (sym a) (sited u t)) s)

    turn : (b : Bool) → cond b ((k' + 4) % 12) ((k' + 8) % 12) < 12
    turn true = omega arith
    turn false = omega arith

    turn_even : (b : Bool) (m : ℕ) → k' % 2 ≡ m % 2 → cond b ((k' + 4) % 12) ((k' + 8) % 12) % 2 ≡ m % 2
    turn_even true m h = even 4 m refl h
    turn_even false m h = even 8 m refl h

    go : (u.d ≡ 0) ⊎ ((u.n.0 ≡ n) × Rule k' u) → T (valid_of (update_of k' u))
    go (inl e) = subst (λ (r : Record). T (valid_of r)) (sym (update-boundary k' u e)) t
    go (inr (m, three e k)) =
        let p = i (omega arith) in
        into _ (update-three k' u e) refl (suits-made 4 ((k' + 4) % 12) u.n.0 (omega arith) (omega arith) (omega arith)
        (even 4 u.n.0 refl (omega arith)))
    go (inr (m, four e k)) =
        let p = i (omega arith) in
        let q : k' % 2 ≡ u.n.0 % 2 = four-parity k p in
        into _ (update-four k' u e) refl (suits-made 5 (four_turn k' u.k) u.n.0 (omega arith) (turn (eqb u.k k')) (omega arith)
        (turn_even (eqb u.k k') u.n.0 q))
      where
        four-parity : (u.k ≡ k') ⊎ ((u.k + 4) % 12 ≡ k') → u.k % 2 ≡ u.n.0 % 2 → k' % 2 ≡ u.n.0 % 2
        four-parity (inl x) p = omega arith
        four-parity (inr x) p = omega arith
    go (inr (m, five e k)) =
        let p = i (omega arith) in
        into _ (update-five k' u e) refl (suits-made 6 ((k' + 1) % 2) (u.n.0 + 1) (omega arith) (omega arith) (omega arith) (omega arith))

-- ---- the new points
-- a sum is normalised
pub sum-normal : (p q : Point) → T (is_normal (sum_of p q))
sum-normal p q = go (sum_of p q).m.0 (by3 (sum_of p q).a && by3 (sum_of p q).b) (normal-low _ _ _).low
  where
    go : (m : ℕ) (b : Bool) → (0 < m → b ≡ false) → T (eqb m 0 || not b)
    go m false h = or_right (eqb m 0) true tt
    go zero true h = tt
    go (suc m) true h = absurd (apart tt (h (omega arith)))

-- the range of a numerator is one at every depth
abbrev reach : ℕ → ℕ
reach D = 251 * 3 ^ D

reach-raised : (m D : ℕ) → m ≤ D → reach m * 3 ^ (D - m) ≡ reach D
reach-raised m D h =
    let e : m + (D - m) ≡ D = omega arith in
    mul_assoc 251 (3 ^ m) (3 ^ (D - m)) ∙ ap (λ (k : ℕ). 251 * k) (sym (pow-add 3 m (D - m)) ∙ ap (λ (k : ℕ). 3 ^ k) e)

lift-range : (z : ℤ) (m D : ℕ) → m ≤ D → nat_abs z ≤ reach m → nat_abs (lift z m D) ≤ reach D
lift-range z m D h l =
    let k : nat_abs z * 3 ^ (D - m) ≤ reach m * 3 ^ (D - m) = mul-le-mul_right (3 ^ (D - m)) l in
    omega (arith, abs-mul z (3 ^ (D - m)), reach-raised m D h)

range-lift : (z : ℤ) (m D : ℕ) → m ≤ D → nat_abs (lift z m D) ≤ reach D → nat_abs z ≤ reach m
range-lift z m D h l =
    let k : nat_abs z * 3 ^ (D - m) ≤ reach m * 3 ^ (D - m) = omega (arith, abs-mul z (3 ^ (D - m)), reach-raised m D h) in
    le_of_mul-le-mul_right k (pow-over (D - m))

-- the middle of three numbers keeps to their bound
middle : (v x l r : ℤ) (b : ℕ) → l +ℤ r ≡ x *ℤ pos 3 → nat_abs v ≤ b → nat_abs (v +ℤ l) ≤ b → nat_abs (v +ℤ r) ≤ b → nat_abs (v +ℤ x) ≤ b
middle v x l r b e hv hl hr =
    let t = told-≡ (‵ l ⊕ ‵ r) (3 ⊗ ‵ x) (e ∙ *ℤ_comm x (pos 3)) in
    let w : pos 3 *ℤ (v +ℤ x) ≡ v +ℤ (v +ℤ l) +ℤ (v +ℤ r) = same (3 ⊗ (‵ v ⊕ ‵ x)) (‵ v ⊕ (‵ v ⊕ ‵ l) ⊕ (‵ v ⊕ ‵ r)) (omega arith) in
    let c : nat_abs (v +ℤ x) * 3 ≡ nat_abs (v +ℤ (v +ℤ l) +ℤ (v +ℤ r)) = sym (abs-mul (v +ℤ x) 3) ∙ ap nat_abs (*ℤ_comm (v +ℤ x) (pos 3) ∙ w) in
    omega (arith, abs-add (v +ℤ (v +ℤ l)) (v +ℤ r), abs-add v (v +ℤ l))

-- so does a point that is the third of the sum of three: q, and the ends of two steps l and r from it
module _ (q x l r : Point) (dx : x.m.0 ≤ 6) (dl : l.m.0 ≤ 6) (dr : r.m.0 ≤ 6) (sq : Sited q) (sl : Sited (sum_of q l)) (sr : Sited (sum_of q r)) where
  third-depth : (sum_of q x).m.0 ≤ 6
  third-depth = let d = sum-depth q x in let y = sq.depth in omega arith

  -- one numerator f
  third-range : (f : Point → ℤ) → ((p : Point) → p.m.0 ≤ 6 → lift (f (sum_of q p)) (sum_of q p).m.0 6 ≡ lift (f q) q.m.0 6 +ℤ lift (f p) p.m.0 6)
      → nat_abs (f q) ≤ reach q.m.0 → nat_abs (f (sum_of q l)) ≤ reach (sum_of q l).m.0 → nat_abs (f (sum_of q r)) ≤ reach (sum_of q r).m.0
      → lift (f l) l.m.0 6 +ℤ lift (f r) r.m.0 6 ≡ lift (f x) x.m.0 6 *ℤ pos 3 → nat_abs (f (sum_of q x)) ≤ reach (sum_of q x).m.0
  third-range f sum hq hl hr e =
      range-lift (f (sum_of q x)) (sum_of q x).m.0 6 third-depth
      (rw (sum x dx)
      (middle (lift (f q) q.m.0 6) (lift (f x) x.m.0 6) (lift (f l) l.m.0 6) (lift (f r) r.m.0 6) (reach 6) e
      (lift-range (f q) q.m.0 6 sq.depth hq)
      (rw (← (sum l dl)) (lift-range (f (sum_of q l)) (sum_of q l).m.0 6 sl.depth hl))
      (rw (← (sum r dr)) (lift-range (f (sum_of q r)) (sum_of q r).m.0 6 sr.depth hr))))

  third-sited : wide 6 l +ℤ wide 6 r ≡ wide 6 x *ℤ pos 3 → high 6 l +ℤ high 6 r ≡ high 6 x *ℤ pos 3 → Sited (sum_of q x)
  third-sited a b =
      record {
        normal = sum-normal q x;
        depth = third-depth;
        wide = third-range (λ p. p.a) (λ p d. sum-wide q p 6 sq.depth d) sq.wide sl.wide sr.wide a;
        high = third-range (λ p. p.b) (λ p d. sum-high q p 6 sq.depth d) sq.high sl.high sr.high b;
      }

-- direction g of v's old star, by its place
pub six-place : (v : Record) (g : ℕ) → v.d ≡ 6 → v.k < 2 → v.k % 2 ≡ v.n.0 % 2 → Dir g v.n.0
    → (g / 2 < 6) × (adjacent_at v (g / 2) ≡ move_of v.at g v.n.0)
six-place v g six k p d =
    let e = d.1 in
    let l : g / 2 < 6 = omega (arith, d.0) in
    let s : 2 * (g / 2) + v.k ≡ g = omega arith in
    (l, six-adjacent v (g / 2) six l ∙ ap (λ (x : ℕ). move_of v.at x v.n.0) s)

module _ (v : Record) (t : T (valid_of v)) (six : v.d ≡ 6) (below : v.n.0 < 12) (j : ℕ) (h : j < 6) where
  -- its direction in the new star, and those of the old adjacent points beside it
  dir : Dir (2 * j + (v.k + 1) % 2) (suc v.n.0)
  dir = let k = six-turn v t six below in let p = (six-inner v t six below).parity in (omega arith, next v.k v.n.0 p)
    where
      next : (k n : ℕ) → k % 2 ≡ n % 2 → (2 * j + (k + 1) % 2) % 2 ≡ suc n % 2
      next k n q = omega arith

  new-at : (new_of v j).at ≡ move_of v.at (2 * j + (v.k + 1) % 2) (suc v.n.0)
  new-at = let s : v.n.0 + 1 ≡ suc v.n.0 = omega arith in six-adjacent (centre_of v) j six h ∙ ap (move_of v.at (2 * j + (v.k + 1) % 2)) s

  pub new-depth : (new_of v j).at.m.0 ≤ 6
  new-depth =
      let x = vector (2 * j + (v.k + 1) % 2) (suc v.n.0) in
      let d = sum-depth v.at x in
      let l = next-deep (2 * j + (v.k + 1) % 2) v.n.0 dir in
      let y = (sited v t).depth in
      rw new-at (omega arith)

  module _ (old : (i : ℕ) → i < 6 → Sited (adjacent_at v i)) where
    beside : (g : ℕ) → Dir g v.n.0 → Sited (move_of v.at g v.n.0)
    beside g d = let (l, e) = six-place v g six (six-turn v t six below) (six-inner v t six below).parity d in subst Sited e (old (g / 2) l)

    pub new-valid : T (valid_of (new_of v j))
    new-valid =
        let e = 2 * j + (v.k + 1) % 2 in
        let n = v.n.0 in
        let dx = next-deep e n dir in
        let dl = vector-depth ((e + 11) % 12) n in
        let dr = vector-depth ((e + 1) % 12) n in
        let p = (six-inner v t six below).parity in
        valid-made (new_of v j)
        (subst Sited (sym new-at)
        (third-sited v.at (vector e (suc n)) (vector ((e + 11) % 12) n) (vector ((e + 1) % 12) n) (omega arith) (omega arith) (omega arith) (sited v t)
        (beside ((e + 11) % 12) (turn11 e n dir)) (beside ((e + 1) % 12) (turn1 e n dir)) (middle-wide e n 6 dir (omega arith))
        (middle-high e n 6 dir (omega arith))))
        (suits-made 3 ((6 + 2 * j + (v.k + 1) % 2) % 4) (n + 1) (omega arith) (omega arith) (omega arith) (next v.k n p))
      where
        four : (x : ℕ) → x % 4 % 2 ≡ x % 2
        four x = omega arith

        next : (k n : ℕ) → k % 2 ≡ n % 2 → (6 + 2 * j + (k + 1) % 2) % 4 % 2 ≡ (n + 1) % 2
        next k n h = four (6 + 2 * j + (k + 1) % 2) ∙ omega arith
