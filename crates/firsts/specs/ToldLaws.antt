-- What a corner with the strides of a face says (`told`), at each of the three other vertices of a corner's face: `round-told`. It has the face's
-- points; one of its opposites being in the table it has a face, so its two sides are in one; and where that is the first opposite it is the one chosen,
-- and names this face. `near-earlier`, `face-earlier` what holds of all slots holds of those before slot k · `told-nothing` · `told-before` the face was
-- counted before · `before-ended`, `after-ended` an end has a side across.
-- `fit-renamed` the same strides by other names.
-- Assumes nothing.
use Rattle.std.specs.Prelude.{◌≡◌, ◌⊎◌, ◌&&◌, ◌||◌, List, Option, Some, None}
use Rattle.std.proofs.Math.Path.{refl, sym, ap}
use Rattle.std.proofs.Common.{◌∙◌, subst, inl, inr, arith, lt-ltb, ltb-true, eqb-true}
use Rattle.std.proofs.Math.Bool.{Bool, true, false, cond}
use Prim.Native.Nat.{ℕ, ◌≤◌, ◌<◌}
use Rattle.std.proofs.Math.Dec.{eqb, ltb}
use Rattle.laws.specs.Choices.{of-true}
use Rattle.laws.specs.Each.{both_left, both_right}
use Rattle.lattice.specs.Places.{normal-low}
use Rattle.lattice.specs.Stars.{adjacent_at, first_at, second_at}
use Rattle.lattice.specs.Records.{valid_of}
use Rattle.lattice.specs.RecordLaws.{Inner, valid-turn}
use Rattle.lattice.specs.declared.points.Point.{Point}
use Rattle.lattice.specs.declared.records.Record.{Record}
use Rattle.geometry.specs.GeometryLaws.{low-normal}
use Rattle.table.specs.Slots.{slots_of, slot_at}
use Rattle.table.specs.Order.{InOrder}
use Rattle.table.specs.Entries.{held_in, holds}
use Rattle.queries.specs.Queries.{is_point, there, chosen_at}
use Rattle.queries.specs.QueryLaws.{chosen-first}
use Rattle.firsts.specs.Faces.{next_place, face, turned}
use Rattle.firsts.specs.Earlier.{slot_in, earlier_in, held_and, prev_place, faced, has_near, near_in, near_before, end_has, names_face, face_in, face_seen, Round}
use Rattle.firsts.specs.Earlier.{face_before, face_on}
use Rattle.firsts.specs.EarlierLaws.{holds-slot, earlier-held, valid-inner}
use Rattle.firsts.specs.FaceLaws.{makes-names, next-below}
use Rattle.firsts.specs.NearFarLaws.{one_of, left-of, right_of, prev-next, near-has}
use Rattle.firsts.specs.Strides.{walk_of, back_of, opposite_by, FitIn, FitThere, FitsBy, Told, ToldOf, told_earlier}
use Rattle.firsts.specs.StrideLaws.{to_adjacent, adjacent-some, adjacent-walk, back_some, back-walk, to_opposite, from_next, side-walk, other-walk}
use Rattle.firsts.specs.StrideLaws.{stride-turn, some-opposite}
use Rattle.firsts.specs.declared.earlier.Placed.{Placed}
use Rattle.firsts.specs.declared.faces.Face.{Face}
use Rattle.firsts.specs.declared.fits.Fits.{Fits}

-- ---- with other names of the same numbers
pub fit-renamed : (t : List ℕ) (s d r : ℕ) {n m x x' y y' z z' : ℕ} → n ≡ m → x ≡ x' → y ≡ y' → z ≡ z' → FitThere t s (ltb d n) x y z r
    → FitThere t s (ltb d m) x' y' z' r
fit-renamed t s d r {n} {m} {x} {x'} {y} {y'} {z} {z'} en ex ey ez f =
    subst (λ (w : ℕ). FitThere t s (ltb d m) x' y' w r) ez
    (subst (λ (w : ℕ). FitThere t s (ltb d m) x' w z r) ey
    (subst (λ (w : ℕ). FitThere t s (ltb d m) w y z r) ex (subst (λ (w : ℕ). FitThere t s (ltb d w) x y z r) en f)))

pub fit-renamed-true : (t : List ℕ) (s r : ℕ) {x x' y y' z z' : ℕ} → x ≡ x' → y ≡ y' → z ≡ z' → FitThere t s true x y z r → FitThere t s true x' y' z' r
fit-renamed-true t s r {x} {x'} {y} {y'} {z} {z'} ex ey ez f =
    subst (λ (w : ℕ). FitThere t s true x' y' w r) ez
    (subst (λ (w : ℕ). FitThere t s true x' w z r) ey (subst (λ (w : ℕ). FitThere t s true w y z r) ex f))

-- ---- what stands in a slot

module _ (t : List ℕ) where
  before : (k s : ℕ) → s < k → k ≤ slots_of t → earlier_in t k s ≡ earlier_in t (slots_of t) s
  unfolding earlier_in
  before k s h l = ap (λ (b : Bool). cond b (held_in (slot_at t s)) None) (lt-ltb s k h ∙ sym (lt-ltb s (slots_of t) (omega arith)))

  pub near-earlier : (k s : ℕ) (p : Point) → s < k → k ≤ slots_of t → near_in t k p s ≡ near_in t (slots_of t) p s
  unfolding near_in
  near-earlier k s p h l = ap (held_and (has_near t p)) (before k s h l)

  pub face-earlier : (k s : ℕ) (f : Face) → s < k → k ≤ slots_of t → face_in t k f s ≡ face_in t (slots_of t) f s
  unfolding face_in
  face-earlier k s f h l = ap (held_and (names_face t f)) (before k s h l)

  held : (s : ℕ) (u : Record) → s < slots_of t → slot_at t s ≡ Some u → earlier_in t (slots_of t) s ≡ Some u
  unfolding earlier_in
  held s u h e = ap (λ (b : Bool). cond b (held_in (slot_at t s)) None) (lt-ltb s (slots_of t) h) ∙ ap held_in e

  -- an opposite in the table gives the corner a face
  some-chosen : (u : Record) (i : ℕ) (second : Bool) (q : Point) → opposite_by u i second ≡ Some q → holds t q ≡ true → is_point (chosen_at t u i) ≡ true
  unfolding chosen_at
  some-chosen u i false q e h = ap (λ (b : Bool). is_point (cond b (Some (first_at u i)) (there t (second_at u i)))) (ap (holds t) (point (first_at u i) q e) ∙ h)
    where
      point : (p r : Point) → Some p ≡ Some r → p ≡ r
      point p r g = cc
  some-chosen u i true q e h = ap (λ (s : Option Point). is_point (cond (holds t (first_at u i)) (Some (first_at u i)) (there t s))) e
      ∙ ap (λ (b : Bool). is_point (cond (holds t (first_at u i)) (Some (first_at u i)) (cond b (Some q) None))) h ∙ go (holds t (first_at u i))
    where
      go : (b : Bool) → is_point (cond b (Some (first_at u i)) (Some q)) ≡ true
      go true = refl
      go false = refl

-- ---- a corner with the strides of a face

module _ (t : List ℕ) (o : InOrder t) where
  module _ (s : ℕ) (f : Face) (x y z r : ℕ) (es : s ≡ slot_in t f.at) (there : holds t f.opposite ≡ true) (wx : walk_of f.at x ≡ f.adjacent)
      (wy : walk_of f.at y ≡ f.next) (wz : walk_of f.adjacent z ≡ f.opposite) (l : 16 ≤ z) (w : FitIn t s x y z r) where
    abbrev u : Record
    u = w.rec

    abbrev i : ℕ
    i = w.fit.place

    abbrev n : ℕ
    n = next_place u.d i

    ok : valid_of u ≡ true
    ok = o.valid s u w.below w.holds

    inn : Inner u
    inn = valid-inner u i ok w.fit.below

    turn : u.k < 12
    turn = valid-turn u (of-true ok)

    is_held : earlier_in t (slots_of t) s ≡ Some u
    is_held = held t s u w.below w.holds

    at-it : u.at ≡ f.at
    at-it = (earlier-held t o (slots_of t) (omega arith) f.at u (ap (earlier_in t (slots_of t)) (sym es) ∙ is_held)).2

    first : adjacent_at u i ≡ f.adjacent
    first = sym (adjacent-walk u inn turn i w.fit.below) ∙ (λ a. walk_of (at-it a) (w.fit.adjacent a)) ∙ wx

    last : adjacent_at u n ≡ f.next
    last = sym (adjacent-walk u inn turn n (next-below u.d i w.fit.below)) ∙ (λ a. walk_of (at-it a) (w.fit.next a)) ∙ wy

    long : 16 ≤ to_opposite u inn turn i w.fit.below w.fit.second
    long = subst (λ (c : ℕ). 16 ≤ c) (sym w.fit.side) l

    opposite : opposite_by u i w.fit.second ≡ Some f.opposite
    opposite =
        let (q, e) = some-opposite u inn turn i w.fit.below w.fit.second long in
        e ∙ ap Some (sym (side-walk u inn turn i w.fit.below w.fit.second q e long) ∙ (λ a. walk_of (first a) (w.fit.side a)) ∙ wz)

    has : is_point (chosen_at t u i) ≡ true
    has = some-chosen t u i w.fit.second f.opposite opposite there

    near : near_in t (slots_of t) f.adjacent s ≡ true
    unfolding near_in faced
    near =
        ap (held_and (has_near t f.adjacent)) is_held
        ∙ near-has t u f.adjacent
        (record {
          place = i;
          below = w.fit.below;
          has = left-of (is_point (chosen_at t u i)) (is_point (chosen_at t u (prev_place u.d i))) has;
          is = first;
        })

    after : near_in t (slots_of t) f.next s ≡ true
    unfolding near_in faced
    after =
        ap (held_and (has_near t f.next)) is_held
        ∙ near-has t u f.next
        (record {
          place = n;
          below = next-below u.d i w.fit.below;
          has =
              right_of (is_point (chosen_at t u n)) (is_point (chosen_at t u (prev_place u.d n)))
              (ap (λ (a : ℕ). is_point (chosen_at t u a)) (prev-next u.d i w.fit.below) ∙ has);
          is = last;
        })

    named : w.fit.second ≡ false → face_in t (slots_of t) f s ≡ true
    unfolding face_in
    named e =
        let q : Some (first_at u i) ≡ Some f.opposite = sym (ap (opposite_by u i) e) ∙ opposite in
        let p : first_at u i ≡ f.opposite = cc in
        ap (held_and (names_face t f)) is_held
        ∙ makes-names t u f
        (record {
          corner = i;
          below = w.fit.below;
          opposite = f.opposite;
          chosen = sym (chosen-first t u i (ap (holds t) p ∙ there)) ∙ q;
          is = λ a. face (at-it a) (first a) f.opposite (last a);
        })

  told : (s : ℕ) (f : Face) (x y z r : ℕ) → s ≡ slot_in t f.at → walk_of f.at x ≡ f.adjacent → walk_of f.at y ≡ f.next
      → walk_of f.adjacent z ≡ f.opposite → 16 ≤ z → (0 < r → (holds t f.opposite ≡ true) × FitIn t s x y z r) → Told t s f r
  told s f x y z r es wx wy wz l g =
      record {
        adjacent = λ h. near s f x y z r es (g h).0 wx wy wz l (g h).1;
        next = λ h. after s f x y z r es (g h).0 wx wy wz l (g h).1;
        face = λ h. let w = g (omega (arith, h)) in named s f x y z r es w.0 wx wy wz l w.1 (w.1.fit.first h);
      }

  -- ---- the other three vertices of the face of corner j of v
  module _ (v : Record) (i : Inner v) (turn : v.k < 12) (j : ℕ) (h : j < v.d) (second : Bool) (q : Point) (e : opposite_by v j second ≡ Some q)
      (l₁ : 16 ≤ to_opposite v i turn j h second) (l₂ : 16 ≤ from_next v i turn j h second) where
    hn : next_place v.d j < v.d
    hn = next-below v.d j h

    abbrev a : Point
    a = adjacent_at v j

    abbrev b : Point
    b = adjacent_at v (next_place v.d j)

    abbrev to_a : ℕ
    to_a = to_adjacent v i turn j

    abbrev to_b : ℕ
    to_b = to_adjacent v i turn (next_place v.d j)

    abbrev from_a : ℕ
    from_a = to_opposite v i turn j h second

    abbrev from_b : ℕ
    from_b = from_next v i turn j h second

    v-a : walk_of v.at to_a ≡ a
    v-a = adjacent-walk v i turn j h

    v-b : walk_of v.at to_b ≡ b
    v-b = adjacent-walk v i turn (next_place v.d j) hn

    a-q : walk_of a from_a ≡ q
    a-q = side-walk v i turn j h second q e l₁

    b-q : walk_of b from_b ≡ q
    b-q = other-walk v i turn j h second q e l₂

    a-v : walk_of a (back_of to_a) ≡ v.at
    a-v = back-walk v.at a to_a (stride-turn _ _ _ _) (low-normal v.at i.normal) v-a

    b-v : walk_of b (back_of to_b) ≡ v.at
    b-v = back-walk v.at b to_b (stride-turn _ _ _ _) (low-normal v.at i.normal) v-b

    q-a : walk_of q (back_of from_a) ≡ a
    q-a = back-walk a q from_a (stride-turn _ _ _ _) (normal-low _ _ _) a-q

    q-b : walk_of q (back_of from_b) ≡ b
    q-b = back-walk b q from_b (stride-turn _ _ _ _) (normal-low _ _ _) b-q

    -- all three, by their strides
    pub round-told : (x y z : Placed) → Round t v j x y z → y.at ≡ q → holds t v.at ≡ true → (r : Fits)
        → FitsBy t x.slot y.slot z.slot to_a to_b from_a from_b r → ToldOf t (face_on v j q) x.slot y.slot z.slot r
    round-told x y z w eq here r g =
        record {
          adjacent = told x.slot (turned f) from_a (back_of to_a) (back_of from_b) r.adjacent ea a-q a-v q-b (back_some from_b (stride-turn _ _ _ _) l₂)
              (λ k. let u = g.adjacent k in (held-slot b z.slot eb u.0, u.1));
          opposite = told y.slot (turned (turned f)) (back_of from_b) (back_of from_a) (back_of to_b) r.opposite (w.opposite ∙ ap (slot_in t) eq) q-b q-a b-v
              (back_some to_b (stride-turn _ _ _ _) (adjacent-some v i turn (next_place v.d j) hn))
              (λ k. (here, (g.opposite k).1));
          next = told z.slot (turned (turned (turned f))) (back_of to_b) from_b to_a r.next eb b-v b-q v-a (adjacent-some v i turn j h)
              (λ k. let u = g.next k in (held-slot a x.slot ea u.0, u.1));
        }
      where
        f : Face
        f = face_on v j q

        ea : x.slot ≡ slot_in t a
        ea = ap (λ (u : Placed). u.slot) w.adjacent

        eb : z.slot ≡ slot_in t b
        eb = ap (λ (u : Placed). u.slot) w.next

        held-slot : (p : Point) (s : ℕ) → s ≡ slot_in t p → ltb s (slots_of t) ≡ true → holds t p ≡ true
        held-slot p s es g = holds-slot t o.fits p ∙ ap (λ (u : ℕ). ltb u (slots_of t)) (sym es) ∙ g

-- ---- what is told of a face

pub told-nothing : (t : List ℕ) (s : ℕ) (f : Face) → Told t s f 0
told-nothing t s f = record { adjacent = λ h. absurd (omega arith); next = λ h. absurd (omega arith); face = λ h. absurd (omega arith) }

module _ (t : List ℕ) (k : ℕ) (l : k ≤ slots_of t) (f : Face) (a o b : ℕ) (r : Fits) (told : ToldOf t f a o b r) where
  pub told-before : a ≡ slot_in t f.adjacent → o ≡ slot_in t f.opposite → b ≡ slot_in t f.next → told_earlier r a o b k ≡ true → face_before t k f ≡ true
  unfolding face_before
  told-before ea eo eb h = go (one_of (by r.adjacent a || by r.opposite o) (by r.next b) h)
    where
      by : ℕ → ℕ → Bool
      by x s = eqb x 2 && ltb s k

      x₁ : Bool
      x₁ = face_seen t k (turned f)

      x₂ : Bool
      x₂ = face_seen t k (turned (turned f))

      x₃ : Bool
      x₃ = face_seen t k (turned (turned (turned f)))

      named : (s : ℕ) (g : Face) (x : ℕ) → Told t s g x → s ≡ slot_in t g.at → by x s ≡ true → face_seen t k g ≡ true
      named s g x w e h =
          ap (face_in t k g) (sym e) ∙ face-earlier t k s g (ltb-true s k (both_right (eqb x 2) (ltb s k) h)) l
          ∙ w.face (eqb-true x 2 (both_left (eqb x 2) (ltb s k) h))

      two : (by r.adjacent a ≡ true) ⊎ (by r.opposite o ≡ true) → x₁ || (x₂ || x₃) ≡ true
      two (inl h) = left-of x₁ (x₂ || x₃) (named a (turned f) r.adjacent told.adjacent ea h)
      two (inr h) = right_of x₁ (x₂ || x₃) (left-of x₂ x₃ (named o (turned (turned f)) r.opposite told.opposite eo h))

      go : (by r.adjacent a || by r.opposite o ≡ true) ⊎ (by r.next b ≡ true) → x₁ || (x₂ || x₃) ≡ true
      go (inl h) = two (one_of (by r.adjacent a) (by r.opposite o) h)
      go (inr h) = right_of x₁ (x₂ || x₃) (right_of x₂ x₃ (named b (turned (turned (turned f))) r.next told.next eb h))

  -- an end of a side across has it
  pub before-ended : a ≡ slot_in t f.adjacent → o ≡ slot_in t f.opposite → ltb 0 r.adjacent || ltb 0 r.opposite ≡ true
      → end_has t f.adjacent f.opposite ≡ true
  unfolding end_has
  before-ended ea eo h = go (one_of (ltb 0 r.adjacent) (ltb 0 r.opposite) h)
    where
      x : Bool
      x = near_before t (slots_of t) f.opposite f.adjacent

      y : Bool
      y = near_before t (slots_of t) f.adjacent f.opposite

      go : (ltb 0 r.adjacent ≡ true) ⊎ (ltb 0 r.opposite ≡ true) → x || y ≡ true
      go (inl g) = left-of x y (ap (near_in t (slots_of t) f.opposite) (sym ea) ∙ told.adjacent.adjacent (ltb-true 0 r.adjacent g))
      go (inr g) = right_of x y (ap (near_in t (slots_of t) f.adjacent) (sym eo) ∙ told.opposite.next (ltb-true 0 r.opposite g))

  pub after-ended : b ≡ slot_in t f.next → o ≡ slot_in t f.opposite → ltb 0 r.next || ltb 0 r.opposite ≡ true
      → end_has t f.next f.opposite ≡ true
  unfolding end_has
  after-ended eb eo h = go (one_of (ltb 0 r.next) (ltb 0 r.opposite) h)
    where
      x : Bool
      x = near_before t (slots_of t) f.opposite f.next

      y : Bool
      y = near_before t (slots_of t) f.next f.opposite

      go : (ltb 0 r.next ≡ true) ⊎ (ltb 0 r.opposite ≡ true) → x || y ≡ true
      go (inl g) = left-of x y (ap (near_in t (slots_of t) f.opposite) (sym eb) ∙ told.next.next (ltb-true 0 r.next g))
      go (inr g) = right_of x y (ap (near_in t (slots_of t) f.next) (sym eo) ∙ told.opposite.adjacent (ltb-true 0 r.opposite g))
