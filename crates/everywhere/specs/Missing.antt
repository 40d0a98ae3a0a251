-- The directions in which a vertex of degree 3 to 5 is still missing a subdivision, and how a subdivision next to it takes one away. Of records and
-- directions alone; no table.
-- `missing` the directions: k, k + 4, k + 8 at degree 3, k, k + 4 at degree 4, k at degree 5, none at degree 6 · `place-missing`, `missing-place`,
-- `place-step` they are those of the places without an angle of 60 degrees · `missing-parity` they have the level's parity ·
-- `Updated`, `updated` degree and level after a rule · `updated-off` the direction it came from is gone · `divided-from`, `adjacent-from` the
-- direction it came from leads back to the centre, and only an old adjacent vertex is seen so.
-- Assumes nothing.
use Rattle.std.specs.Prelude.{◌≡◌, refl, ◌≢◌, ◌⊎◌, Bool, true, false, ◌&&◌, ◌||◌, not, ℕ, zero, suc, ◌+◌, ◌*◌, ◌%◌, ◌/◌, ◌-◌, ◌≤◌, ◌<◌, T, eqb, ltb}
use Rattle.std.proofs.Common.{sym, ◌∙◌, ap, subst, inl, inr, arith, eqb→eq, ltb→lt}
use Rattle.std.proofs.Math.Decide.{ℕ_discrete}
use Rattle.std.proofs.Math.Dec.{eqb_refl}
use Rattle.laws.specs.Bools.{then-of, and_left, and_right}
use Rattle.laws.specs.Choices.{or_split, or_left, or_right, of-true}
use Rattle.laws.specs.Rules.{upto, among, upto-at}
use Rattle.lattice.specs.Points.{is_normal}
use Rattle.lattice.specs.Records.{valid_of, orientations_of}
use Rattle.lattice.specs.RecordLaws.{inner, valid-turn}
use Rattle.lattice.specs.Stars.{adjacent_at}
use Rattle.lattice.specs.Ranks.{move_of}
use Rattle.lattice.specs.Subdivision.{back_of, four_turn, update_of, accepts_of}
use Rattle.lattice.specs.declared.points.Point.{Point}
use Rattle.lattice.specs.declared.records.Record.{Record}
use Rattle.geometry.specs.GeometryLaws.{six-adjacent, move-back}
use Rattle.geometry.specs.StarSteps.{turn_of, down_of, star-step}
use Rattle.geometry.specs.SubdivisionLaws.{Rule, three, four, five, accepted, update-three, update-four, update-five}

-- direction e, 30 degrees each, is one of the 6 - d that a vertex of degree d and orientation k is missing
unfoldable pub missing : ℕ → ℕ → ℕ → Bool
missing d k e = among (6 - d) (λ i. eqb e ((k + 4 * i) % 12))

abbrev pub lacks : Record → ℕ → Bool
lacks u e = missing u.d u.k e

-- ---- the places
among-at : (n : ℕ) (f : ℕ → Bool) (i : ℕ) → i < n → T (f i) → T (among n f)
among-at zero f i h x = absurd (omega arith)
among-at (suc n) f i h x = last (ℕ_discrete i n) (λ l. among-at n f i l x)
  where
    last : Dec (i ≡ n) → (i < n → T (among n f)) → T (f n || among n f)
    last (yes e) r = or_left (f n) (among n f) (subst (λ (m : ℕ). T (f m)) e x)
    last (no e) r = or_right (f n) (among n f) (r (omega arith))

pub place-missing : (d k i : ℕ) → i < 6 - d → T (missing d k ((k + 4 * i) % 12))
unfolding missing
place-missing d k i h = among-at (6 - d) (λ j. eqb ((k + 4 * i) % 12) ((k + 4 * j) % 12)) i h (eqb_refl ((k + 4 * i) % 12))

turn-table : (d i : ℕ) → 3 ≤ d → d ≤ 6 → i < 6 - d → (turn_of d i ≡ 4 * i) × (down_of d i ≡ 0)
unfolding turn_of down_of
turn-table (suc (suc (suc zero))) zero l h x = (refl, refl)
turn-table (suc (suc (suc zero))) (suc zero) l h x = (refl, refl)
turn-table (suc (suc (suc zero))) (suc (suc zero)) l h x = (refl, refl)
turn-table (suc (suc (suc zero))) (suc (suc (suc i))) l h x = absurd (omega arith)
turn-table (suc (suc (suc (suc zero)))) zero l h x = (refl, refl)
turn-table (suc (suc (suc (suc zero)))) (suc zero) l h x = (refl, refl)
turn-table (suc (suc (suc (suc zero)))) (suc (suc i)) l h x = absurd (omega arith)
turn-table (suc (suc (suc (suc (suc zero))))) zero l h x = (refl, refl)
turn-table (suc (suc (suc (suc (suc zero))))) (suc i) l h x = absurd (omega arith)
turn-table (suc (suc (suc (suc (suc (suc d)))))) i l h x = absurd (omega arith)
turn-table zero i l h x = absurd (omega arith)
turn-table (suc zero) i l h x = absurd (omega arith)
turn-table (suc (suc zero)) i l h x = absurd (omega arith)

-- the neighbour across place i
pub place-step : (r : Record) (i : ℕ) → T (valid_of r) → r.d ≢ 0 → i < 6 - r.d → adjacent_at r i ≡ move_of r.at ((r.k + 4 * i) % 12) r.n.0
place-step r i t z h =
    let n = inner r t z in
    let lo = n.low in
    let hi = n.top in
    let (a, b) = turn-table r.d i lo hi h in
    let c : r.n.0 + down_of r.d i ≡ r.n.0 = omega arith in
    star-step r i lo hi (omega arith) (valid-turn r t) n.parity ∙ (λ j. move_of r.at ((r.k + a j) % 12) (c j))

-- ---- the rules
-- over all orientations and directions, computed
abbrev takes : ℕ → ℕ → ℕ → ℕ → ℕ → ℕ → Bool
takes d k k' d₁ k₁ e = not (missing d k e) || (eqb e k' || missing d₁ k₁ e)

abbrev adds : ℕ → ℕ → ℕ → ℕ → ℕ → Bool
adds d k d₁ k₁ e = not (missing d₁ k₁ e) || missing d k e

at_pair : (f : ℕ → ℕ → Bool) → T (upto 12 (λ k. upto 12 (λ e. f k e))) → (k e : ℕ) → k < 12 → e < 12 → T (f k e)
at_pair f t k e hk he = upto-at 12 (f k) (upto-at 12 (λ k. upto 12 (λ e. f k e)) t k hk) e he

takes-three : (k' e : ℕ) → k' < 12 → e < 12 → T (takes 3 (k' % 4) k' 4 ((k' + 4) % 12) e)
unfolding missing
takes-three = at_pair (λ k' e. takes 3 (k' % 4) k' 4 ((k' + 4) % 12) e) tt

takes-four : (k e : ℕ) → k < 12 → e < 12 → T (takes 4 k k 5 (four_turn k k) e)
unfolding missing
takes-four = at_pair (λ k e. takes 4 k k 5 (four_turn k k) e) tt

takes-next : (k e : ℕ) → k < 12 → e < 12 → T (takes 4 k ((k + 4) % 12) 5 (four_turn ((k + 4) % 12) k) e)
unfolding missing
takes-next = at_pair (λ k e. takes 4 k ((k + 4) % 12) 5 (four_turn ((k + 4) % 12) k) e) tt

takes-five : (k e : ℕ) → k < 12 → e < 12 → T (takes 5 k k 6 0 e)
unfolding missing
takes-five = at_pair (λ k e. takes 5 k k 6 0 e) tt

adds-three : (k' e : ℕ) → k' < 12 → e < 12 → T (adds 3 (k' % 4) 4 ((k' + 4) % 12) e)
unfolding missing
adds-three = at_pair (λ k' e. adds 3 (k' % 4) 4 ((k' + 4) % 12) e) tt

adds-four : (k e : ℕ) → k < 12 → e < 12 → T (adds 4 k 5 (four_turn k k) e)
unfolding missing
adds-four = at_pair (λ k e. adds 4 k 5 (four_turn k k) e) tt

adds-next : (k e : ℕ) → k < 12 → e < 12 → T (adds 4 k 5 (four_turn ((k + 4) % 12) k) e)
unfolding missing
adds-next = at_pair (λ k e. adds 4 k 5 (four_turn ((k + 4) % 12) k) e) tt

pub six-none : (k e : ℕ) → T (missing 6 k e) → ⊥
unfolding missing
six-none k e t = t

taken : (d k k' d₁ k₁ e : ℕ) → T (takes d k k' d₁ k₁ e) → T (missing d k e) → (e ≡ k') ⊎ T (missing d₁ k₁ e)
taken d k k' d₁ k₁ e t m = go (or_split (eqb e k') (missing d₁ k₁ e) (then-of (missing d k e) (eqb e k' || missing d₁ k₁ e) t m))
  where
    go : T (eqb e k') ⊎ T (missing d₁ k₁ e) → (e ≡ k') ⊎ T (missing d₁ k₁ e)
    go (inl x) = inl (eqb→eq e k' x)
    go (inr x) = inr x

-- what a rule makes of a vertex, seen from direction k'
pub data Updated (k' : ℕ) (u : Record) : Type 0 where
  -- one direction fewer
  less : (update_of k' u).d ≢ 0 → (update_of k' u).d ≢ 6 → (update_of k' u).n.0 ≡ u.n.0
      → ((e : ℕ) → e < 12 → T (lacks u e) → (e ≡ k') ⊎ T (lacks (update_of k' u) e))
      → ((e : ℕ) → e < 12 → T (lacks (update_of k' u) e) → T (lacks u e)) → Updated k' u
  -- that was the last
  last : (update_of k' u).d ≡ 6 → (update_of k' u).n.0 ≡ u.n.0 + 1 → ((e : ℕ) → e < 12 → T (lacks u e) → e ≡ k') → Updated k' u

module _ (k' : ℕ) (u : Record) (hk' : k' < 12) (hk : u.k < 12) where
  -- what is so of the record that a rule gives is so of `update_of`
  made-less : (d k d₁ k₁ : ℕ) → u.d ≡ d → u.k ≡ k → d₁ ≢ 0 → d₁ ≢ 6 → update_of k' u ≡ record { at = u.at; d = d₁; k = k₁; n = u.n }
      → ((e : ℕ) → e < 12 → T (takes d k k' d₁ k₁ e)) → ((e : ℕ) → e < 12 → T (adds d k d₁ k₁ e)) → Updated k' u
  made-less d k d₁ k₁ ed ek nz n6 is f g =
      let x : (update_of k' u).d ≡ d₁ = ap (λ (r : Record). r.d) is in
      let y : (update_of k' u).k ≡ k₁ = ap (λ (r : Record). r.k) is in
      less (λ z. nz (sym x ∙ z)) (λ z. n6 (sym x ∙ z)) (ap (λ (r : Record). r.n.0) is)
      (λ e h m. subst (λ (r : Record). (e ≡ k') ⊎ T (lacks r e)) (sym is)
      (taken d k k' d₁ k₁ e (f e h) (subst (λ (n : ℕ). T (missing n k e)) ed (subst (λ (n : ℕ). T (missing u.d n e)) ek m))))
      (λ e h m. subst (λ (n : ℕ). T (missing n u.k e)) (sym ed) (subst (λ (n : ℕ). T (missing d n e)) (sym ek)
      (then-of (missing d₁ k₁ e) (missing d k e) (g e h) (subst (λ (r : Record). T (lacks r e)) is m))))

  by-rule : Rule k' u → Updated k' u
  by-rule (three d q) =
      made-less 3 (k' % 4) 4 ((k' + 4) % 12) d (sym q) (λ z. omega arith) (λ z. omega arith) (update-three k' u d)
      (λ e h. takes-three k' e hk' h) (λ e h. adds-three k' e hk' h)
  by-rule (four d (inl q)) =
      made-less 4 u.k 5 (four_turn k' u.k) d refl (λ z. omega arith) (λ z. omega arith) (update-four k' u d)
      (λ e h. subst (λ (n : ℕ). T (takes 4 u.k n 5 (four_turn n u.k) e)) q (takes-four u.k e hk h))
      (λ e h. subst (λ (n : ℕ). T (adds 4 u.k 5 (four_turn n u.k) e)) q (adds-four u.k e hk h))
  by-rule (four d (inr q)) =
      made-less 4 u.k 5 (four_turn k' u.k) d refl (λ z. omega arith) (λ z. omega arith) (update-four k' u d)
      (λ e h. subst (λ (n : ℕ). T (takes 4 u.k n 5 (four_turn n u.k) e)) q (takes-next u.k e hk h))
      (λ e h. subst (λ (n : ℕ). T (adds 4 u.k 5 (four_turn n u.k) e)) q (adds-next u.k e hk h))
  by-rule (five d q) =
      let is = update-five k' u d in
      last (ap (λ (r : Record). r.d) is) (ap (λ (r : Record). r.n.0) is)
      (λ e h m. only e (taken 5 u.k u.k 6 0 e (takes-five u.k e hk h) (subst (λ (n : ℕ). T (missing n u.k e)) d m)))
    where
      only : (e : ℕ) → (e ≡ u.k) ⊎ T (missing 6 0 e) → e ≡ k'
      only e (inl x) = x ∙ sym q
      only e (inr x) = absurd (six-none 0 e x)

-- an old adjacent vertex that is not on the rim, and is accepted
pub updated : (k' n : ℕ) (u : Record) → k' < 12 → T (valid_of u) → accepts_of k' n u ≡ true → u.d ≢ 0 → (u.n.0 ≡ n) × Updated k' u
updated k' n u h t a z = go (accepted k' n u (of-true a))
  where
    go : (u.d ≡ 0) ⊎ ((u.n.0 ≡ n) × Rule k' u) → (u.n.0 ≡ n) × Updated k' u
    go (inl x) = absurd (z x)
    go (inr (l, r)) = (l, by-rule k' u h (valid-turn u t) r)

-- none of degree 6 is
pub six-refused : (k' n : ℕ) (u : Record) → accepts_of k' n u ≡ true → u.d ≡ 6 → ⊥
six-refused k' n u a z = go (accepted k' n u (of-true a))
  where
    go : (u.d ≡ 0) ⊎ ((u.n.0 ≡ n) × Rule k' u) → ⊥
    go (inl x) = omega arith
    go (inr (l, three d q)) = omega arith
    go (inr (l, four d q)) = omega arith
    go (inr (l, five d q)) = omega arith

-- ---- the direction that a rule came from is not missing any more
off-three : (k' e : ℕ) → k' < 12 → e < 12 → T (not (eqb e k') || not (missing 4 ((k' + 4) % 12) e))
unfolding missing
off-three = at_pair (λ k' e. not (eqb e k') || not (missing 4 ((k' + 4) % 12) e)) tt

off-four : (k e : ℕ) → k < 12 → e < 12 → T (not (eqb e k) || not (missing 5 (four_turn k k) e))
unfolding missing
off-four = at_pair (λ k e. not (eqb e k) || not (missing 5 (four_turn k k) e)) tt

off_next : (k e : ℕ) → k < 12 → e < 12 → T (not (eqb e ((k + 4) % 12)) || not (missing 5 (four_turn ((k + 4) % 12) k) e))
unfolding missing
off_next = at_pair (λ k e. not (eqb e ((k + 4) % 12)) || not (missing 5 (four_turn ((k + 4) % 12) k) e)) tt

not-both : (b : Bool) → T (not b) → T b → ⊥
not-both true x y = x
not-both false x y = y

pub updated-off : (k' n : ℕ) (u : Record) → k' < 12 → T (valid_of u) → accepts_of k' n u ≡ true → u.d ≢ 0 → T (lacks (update_of k' u) k') → ⊥
updated-off k' n u h t a z m = go (accepted k' n u (of-true a))
  where
    hk : u.k < 12
    hk = valid-turn u t

    no : (d k : ℕ) → (update_of k' u).d ≡ d → (update_of k' u).k ≡ k → T (not (eqb k' k') || not (missing d k k')) → ⊥
    no d k x y f =
        not-both (missing d k k') (then-of (eqb k' k') (not (missing d k k')) f (eqb_refl k'))
        (subst (λ (i : ℕ). T (missing i k k')) x (subst (λ (i : ℕ). T (missing (update_of k' u).d i k')) y m))

    go : (u.d ≡ 0) ⊎ ((u.n.0 ≡ n) × Rule k' u) → ⊥
    go (inl x) = z x
    go (inr (l, three d q)) =
        let is = update-three k' u d in no 4 ((k' + 4) % 12) (ap (λ (r : Record). r.d) is) (ap (λ (r : Record). r.k) is) (off-three k' k' h h)
    go (inr (l, four d (inl q))) =
        let is = update-four k' u d in
        no 5 (four_turn k' u.k) (ap (λ (r : Record). r.d) is) (ap (λ (r : Record). r.k) is)
        (subst (λ (i : ℕ). T (not (eqb i i) || not (missing 5 (four_turn i u.k) i))) q (off-four u.k u.k hk hk))
    go (inr (l, four d (inr q))) =
        let is = update-four k' u d in
        no 5 (four_turn k' u.k) (ap (λ (r : Record). r.d) is) (ap (λ (r : Record). r.k) is)
        (subst (λ (i : ℕ). T (not (eqb i i) || not (missing 5 (four_turn i u.k) i))) q (off_next u.k ((u.k + 4) % 12) hk (omega arith)))
    go (inr (l, five d q)) =
        let is = update-five k' u d in six-none (update_of k' u).k k' (subst (λ (i : ℕ). T (missing i (update_of k' u).k k')) (ap (λ (r : Record). r.d) is) m)

-- ---- the directions missing have the level's parity
among-some : (n : ℕ) (f : ℕ → Bool) → T (among n f) → (i : ℕ) × (i < n) × T (f i)
among-some zero f t = absurd t
among-some (suc n) f t = go (or_split (f n) (among n f) t) (λ m. among-some n f m)
  where
    go : T (f n) ⊎ T (among n f) → (T (among n f) → (i : ℕ) × (i < n) × T (f i)) → (i : ℕ) × (i < suc n) × T (f i)
    go (inl x) ih = (n, omega arith, x)
    go (inr x) ih = let (i, h, y) = ih x in (i, omega arith, y)

-- a missing direction is that of a place
pub missing-place : (d k e : ℕ) → T (missing d k e) → (i : ℕ) × (i < 6 - d) × (e ≡ (k + 4 * i) % 12)
unfolding missing
missing-place d k e t = let (i, h, x) = among-some (6 - d) (λ i. eqb e ((k + 4 * i) % 12)) t in (i, h, eqb→eq e ((k + 4 * i) % 12) x)

mod-12-2 : (x : ℕ) → x % 12 % 2 ≡ x % 2
mod-12-2 x = omega arith

pub missing-parity : (d k e : ℕ) → T (missing d k e) → e % 2 ≡ k % 2
missing-parity d k e t = let (i, h, x) = missing-place d k e t in ap (λ (n : ℕ). n % 2) x ∙ mod-12-2 (k + 4 * i) ∙ even k i
  where
    even : (k i : ℕ) → (k + 4 * i) % 2 ≡ k % 2
    even k i = omega arith

-- ---- from the old adjacent vertex back to the centre
six-turn : (d k : ℕ) → d ≡ 6 → k < orientations_of d → k < 2
six-turn d k e h = rw e at h

pub divided-from : (v : Record) (j : ℕ) → T (valid_of v) → v.d ≡ 6 → j < 6 → move_of (adjacent_at v j) (back_of v.k j) v.n.0 ≡ v.at
divided-from v j t six h =
    let n = inner v t (λ z. omega arith) in
    let k : v.k < 2 = six-turn v.d v.k six n.turn in
    let b : (6 + 2 * j + v.k) % 12 ≡ (2 * j + v.k + 6) % 12 = omega arith in
    (λ i. move_of (six-adjacent v j six h i) (b i) v.n.0) ∙ move-back v.at (2 * j + v.k) v.n.0 n.normal (omega arith)

-- the place from which direction e is the way back, and that it is: computed over all directions
abbrev half : ℕ → ℕ
half e = (e + 6) % 12 / 2

abbrev fits : ℕ → Bool
fits e = ltb (half e) 6 && (eqb (2 * half e + e % 2) ((e + 6) % 12) && eqb ((6 + 2 * half e + e % 2) % 12) e)

-- and where direction e leads to the centre, and has the level's parity, the point is one of its old adjacent ones, seen in that direction
pub adjacent-from : (v : Record) (p : Point) (e : ℕ) → T (valid_of v) → v.d ≡ 6 → T (is_normal p) → e < 12 → e % 2 ≡ v.n.0 % 2 → move_of p e v.n.0 ≡ v.at
    → (j : ℕ) × (j < 6) × (p ≡ adjacent_at v j) × (back_of v.k j ≡ e)
adjacent-from v p e t six np he par is =
    let n = inner v t (λ z. omega arith) in
    let q = n.parity in
    let k : v.k < 2 = six-turn v.d v.k six n.turn in
    let (hj, up, back) = place e v.k he k (omega arith) in
    let j = (e + 6) % 12 / 2 in (
      j,
      hj,
      sym (six-adjacent v j six hj ∙ (λ i. move_of (sym is i) (up i) v.n.0) ∙ move-back p e v.n.0 np he),
      back,
    )
  where
    place : (e k : ℕ) → e < 12 → k < 2 → e % 2 ≡ k
        → ((e + 6) % 12 / 2 < 6) × (2 * ((e + 6) % 12 / 2) + k ≡ (e + 6) % 12) × ((6 + 2 * ((e + 6) % 12 / 2) + k) % 12 ≡ e)
    place e k he hk par =
        let x = upto-at 12 fits tt e he in
        let a = and_left (ltb (half e) 6) (eqb (2 * half e + e % 2) ((e + 6) % 12) && eqb ((6 + 2 * half e + e % 2) % 12) e) x in
        let r = and_right (ltb (half e) 6) (eqb (2 * half e + e % 2) ((e + 6) % 12) && eqb ((6 + 2 * half e + e % 2) % 12) e) x in
        let b = and_left (eqb (2 * half e + e % 2) ((e + 6) % 12)) (eqb ((6 + 2 * half e + e % 2) % 12) e) r in
        let c = and_right (eqb (2 * half e + e % 2) ((e + 6) % 12)) (eqb ((6 + 2 * half e + e % 2) % 12) e) r in (
          ltb→lt (half e) 6 a,
          ap (λ (i : ℕ). 2 * half e + i) (sym par) ∙ eqb→eq (2 * half e + e % 2) ((e + 6) % 12) b,
          ap (λ (i : ℕ). (6 + 2 * half e + i) % 12) (sym par) ∙ eqb→eq ((6 + 2 * half e + e % 2) % 12) e c,
        )
