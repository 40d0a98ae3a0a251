-- The sides of a vertex's faces are those from it to an adjacent point (near), and those from an adjacent point to an opposite (far): `record-sides`.
-- Corner j has the near sides of place j and of the next, and two far ones. So the different sides of all faces are those of the near sides, then of the
-- far ones of one kind, then of the others, being the same ones in another order, some of them more often: `all-sides`.
-- `nears_at`, `fars_at` these sides, `Kind` which far ones · `NearSide`, `FarSide` one of them · `near-has`, `has-near`, `far-has`, `has-far` as the code
-- tests it · `near-gives`, `gives-near`, `far-gives`, `gives-far` as one of the list · `far-kinds`, `each-kinds` by kind.
-- Assumes nothing.
use Rattle.std.specs.Prelude.{◌≡◌, refl, ◌⊎◌, false, cond, not, ◌&&◌, ◌||◌, List, [], ◌∷◌, ◌++◌, Option, Some, None}
use Rattle.std.proofs.Common.{sym, ap, ◌∙◌, arith, eq-eqb, ne_eqb}
use Rattle.std.proofs.Math.Logic.{inl, inr}
use Rattle.std.proofs.Math.Bool.{Bool, true, or-true, or-false}
use Prim.Native.Nat.{ℕ, ◌+◌, ◌-◌, ◌<◌}
use Rattle.std.proofs.Math.Decide.{ℕ_discrete}
use Rattle.laws.specs.Each.{not-both, never, both_left, both_right, among-at, at-among, same_test}
use Rattle.laws.specs.Some.{some_of, some-append}
use Rattle.lattice.specs.Stars.{adjacent_at}
use Rattle.lattice.specs.declared.points.Point.{Point}
use Rattle.lattice.specs.declared.records.Record.{Record}
use Rattle.table.specs.Search.{same_point}
use Rattle.table.specs.MapLaws.{same_refl, same_true}
use Rattle.queries.specs.Queries.{chosen_at, is_point}
use Rattle.firsts.specs.Faces.{different, gather, each, next_place, face_with, faces_at, Side, side, sides_of, same_side}
use Rattle.firsts.specs.Earlier.{spot_is, prev_place, faced, has_near, far_is, has_far, face_on}
use Rattle.firsts.specs.DifferentLaws.{some_one, some-none, some_same, some_or, some-over, some-gather}
use Rattle.firsts.specs.SetLaws.{different-set}
use Rattle.firsts.specs.FaceLaws.{next-below, spot_is_lem}
use Rattle.firsts.specs.SameLaws.{swap-right, sides-alike}

-- ---- places round a star

prev-below : (d j : ℕ) → j < d → prev_place d j < d
prev-below d j h = go (ℕ_discrete j 0)
  where
    go : Dec (j ≡ 0) → prev_place d j < d
    go (yes e) = rw (eq-eqb j 0 e) (omega arith)
    go (no e) = rw (ne_eqb j 0 e) (omega arith)

next-prev : (d j : ℕ) → j < d → next_place d (prev_place d j) ≡ j
next-prev d j h = go (ℕ_discrete j 0)
  where
    last : (i : ℕ) → i + 1 ≡ d → next_place d i ≡ 0
    last i e = rw (eq-eqb (i + 1) d e)

    inside : (i : ℕ) → (i + 1 ≡ d → ⊥) → next_place d i ≡ i + 1
    inside i n = rw (ne_eqb (i + 1) d n)

    go : Dec (j ≡ 0) → next_place d (prev_place d j) ≡ j
    go (yes e) = ap (λ (b : Bool). next_place d (cond b (d - 1) (j - 1))) (eq-eqb j 0 e) ∙ last (d - 1) (omega arith) ∙ sym e
    go (no n) = ap (λ (b : Bool). next_place d (cond b (d - 1) (j - 1))) (ne_eqb j 0 n) ∙ inside (j - 1) (λ e. omega arith) ∙ omega arith

pub prev-next : (d j : ℕ) → j < d → prev_place d (next_place d j) ≡ j
prev-next d j h = go (ℕ_discrete (j + 1) d)
  where
    first : prev_place d 0 ≡ d - 1
    first = refl

    inside : (i : ℕ) → (i ≡ 0 → ⊥) → prev_place d i ≡ i - 1
    inside i n = rw (ne_eqb i 0 n)

    go : Dec (j + 1 ≡ d) → prev_place d (next_place d j) ≡ j
    go (yes e) = ap (λ (b : Bool). prev_place d (cond b 0 (j + 1))) (eq-eqb (j + 1) d e) ∙ first ∙ omega arith
    go (no n) = ap (λ (b : Bool). prev_place d (cond b 0 (j + 1))) (ne_eqb (j + 1) d n) ∙ inside (j + 1) (λ e. omega arith) ∙ omega arith

-- ---- the near sides of a vertex, and the far ones

is-at : (s : Option Point) → is_point s ≡ true → (o : Point) × (s ≡ Some o)
is-at (Some o) h = (o, refl)
is-at None h = absurd (never h)

pub one_of : (a b : Bool) → a || b ≡ true → (a ≡ true) ⊎ (b ≡ true)
one_of true b h = inl refl
one_of false b h = inr h

pub left-of : (a b : Bool) → a ≡ true → a || b ≡ true
left-of a b h = ap (λ (x : Bool). x || b) h

pub right_of : (a b : Bool) → b ≡ true → a || b ≡ true
right_of a b h = ap (λ (x : Bool). a || x) h ∙ or-true a

abbrev pub near_with : Record → ℕ → Bool → List Side
near_with v j b = cond b (side v.at (adjacent_at v j) ∷ []) []

-- which of the far sides of a vertex are taken, by the vertex, the adjacent point and the opposite
abbrev pub Kind : Type 0
Kind = Point → Point → Point → Bool

abbrev pub every : Kind
every v p q = true

abbrev pub other : Kind → Kind
other c v p q = not (c v p q)

abbrev pub taken : Kind → Point → Point → Point → List Side
taken c v p q = cond (c v p q) (side p q ∷ []) []

abbrev pub far_with : Kind → Record → ℕ → Option Point → List Side
far_with c v j (Some o) = taken c v.at (adjacent_at v j) o ++ taken c v.at (adjacent_at v (next_place v.d j)) o
far_with c v j None = []

some-taken : (f : Side → Bool) (s : Side) (b : Bool) → some_of f (cond b (s ∷ []) []) ≡ b && f s
some-taken f s true = some_one f s
some-taken f s false = some-none f

module _ (t : List ℕ) where
  abbrev pub near_place : Record → ℕ → List Side
  near_place v j = near_with v j (faced t v j)

  abbrev pub far_place : Kind → Record → ℕ → List Side
  far_place c v j = far_with c v j (chosen_at t v j)

  abbrev pub nears_at : Record → List Side
  nears_at v = gather v.d (near_place v)

  abbrev pub fars_at : Kind → Record → List Side
  fars_at c v = gather v.d (far_place c v)

  -- place i of u has the side to p
  pub record NearSide (u : Record) (p : Point) : Type 0 where
    pub place : ℕ
    pub below : place < u.d
    pub has : faced t u place ≡ true
    pub is : adjacent_at u place ≡ p

  pub near-has : (u : Record) (p : Point) → NearSide u p → has_near t p u ≡ true
  unfolding has_near
  near-has u p x =
      at-among (λ i. same_point (adjacent_at u i) p && faced t u i) u.d x.place x.below
      (rw (x.is, same_refl p) x.has)

  pub has-near : (u : Record) (p : Point) → has_near t p u ≡ true → NearSide u p
  unfolding has_near
  has-near u p h =
      let x = among-at (λ i. same_point (adjacent_at u i) p && faced t u i) u.d h in
      let i = x.0 in
      record {
        place = i;
        below = x.1;
        has = both_right (same_point (adjacent_at u i) p) (faced t u i) x.2;
        is =
            same_true (adjacent_at u i) p (both_left (same_point (adjacent_at u i) p) (faced t u i) x.2);
      }

  -- s is one of u's near sides
  pub near-gives : (s : Side) (u : Record) (p : Point) → NearSide u p → same_side s (side u.at p) ≡ true → some_of (same_side s) (nears_at u) ≡ true
  near-gives s u p x e =
      some-gather (same_side s) u.d (near_place u)
      ∙ at-among (λ i. some_of (same_side s) (near_place u i)) u.d x.place x.below
      (ap (λ (b : Bool). some_of (same_side s) (near_with u x.place b)) x.has ∙ some_one (same_side s) (side u.at (adjacent_at u x.place))
      ∙ ap (λ (q : Point). same_side s (side u.at q)) x.is ∙ e)

  pub gives-near : (s : Side) (u : Record) → some_of (same_side s) (nears_at u) ≡ true → (p : Point) × NearSide u p × (same_side s (side u.at p) ≡ true)
  gives-near s u h =
      let x = among-at (λ i. some_of (same_side s) (near_place u i)) u.d (sym (some-gather (same_side s) u.d (near_place u)) ∙ h) in
      go x.0 x.1 (faced t u x.0) refl x.2
    where
      go : (i : ℕ) → i < u.d → (b : Bool) → faced t u i ≡ b → some_of (same_side s) (near_with u i b) ≡ true → (p : Point) × NearSide u p
          × (same_side s (side u.at p) ≡ true)
      go i l false e g = absurd (not-both g (some-none (same_side s)))
      go i l true e g = (adjacent_at u i, record { place = i; below = l; has = e; is = refl }, sym (some_one (same_side s) (side u.at (adjacent_at u i))) ∙ g)

  -- a corner of u has the side from its adjacent point p to the opposite q
  pub record FarSide (u : Record) (p q : Point) : Type 0 where
    pub corner : ℕ
    pub below : corner < u.d
    pub chosen : chosen_at t u corner ≡ Some q
    pub is : (adjacent_at u corner ≡ p) ⊎ (adjacent_at u (next_place u.d corner) ≡ p)

  pub far-has : (u : Record) (p q : Point) → FarSide u p q → has_far t p q u ≡ true
  unfolding has_far far_is
  far-has u p q x = at-among (far_is t p q u) u.d i x.below
      (ap (λ (s : Option Point). (before || after) && spot_is s q) x.chosen ∙ (λ z. ends x.is z && same_refl q z))
    where
      i : ℕ
      i = x.corner

      before : Bool
      before = same_point (adjacent_at u i) p

      after : Bool
      after = same_point (adjacent_at u (next_place u.d i)) p

      ends : (adjacent_at u i ≡ p) ⊎ (adjacent_at u (next_place u.d i) ≡ p) → before || after ≡ true
      ends (inl e) = left-of before after (ap (λ (a : Point). same_point a p) e ∙ same_refl p)
      ends (inr e) = right_of before after (ap (λ (a : Point). same_point a p) e ∙ same_refl p)

  pub has-far : (u : Record) (p q : Point) → has_far t p q u ≡ true → FarSide u p q
  unfolding has_far far_is
  has-far u p q h = let x = among-at (far_is t p q u) u.d h in go x.0 x.1 x.2
    where
      go : (i : ℕ) → i < u.d → (same_point (adjacent_at u i) p || same_point (adjacent_at u (next_place u.d i)) p) && spot_is (chosen_at t u i) q ≡ true
          → FarSide u p q
      go i l g =
          let before = same_point (adjacent_at u i) p in
          let after = same_point (adjacent_at u (next_place u.d i)) p in
          record {
            corner = i;
            below = l;
            chosen = spot_is_lem (chosen_at t u i) q (both_right (before || after) (spot_is (chosen_at t u i) q) g);
            is =
                ends (one_of before after (both_left (before || after) (spot_is (chosen_at t u i) q) g));
          }
        where
          ends : (same_point (adjacent_at u i) p ≡ true) ⊎ (same_point (adjacent_at u (next_place u.d i)) p ≡ true) → (adjacent_at u i ≡ p)
              ⊎ (adjacent_at u (next_place u.d i) ≡ p)
          ends (inl e) = inl (same_true (adjacent_at u i) p e)
          ends (inr e) = inr (same_true (adjacent_at u (next_place u.d i)) p e)

  pub far-two : (c : Kind) (s : Side) (u : Record) (i : ℕ) (o : Point) → some_of (same_side s) (far_with c u i (Some o))
      ≡ c u.at (adjacent_at u i) o && same_side s (side (adjacent_at u i) o)
      || c u.at (adjacent_at u (next_place u.d i)) o && same_side s (side (adjacent_at u (next_place u.d i)) o)
  far-two c s u i o =
      let a = adjacent_at u i in
      let b = adjacent_at u (next_place u.d i) in
      some-append (same_side s) (taken c u.at a o) (taken c u.at b o)
      ∙ (λ z. some-taken (same_side s) (side a o) (c u.at a o) z || some-taken (same_side s) (side b o) (c u.at b o) z)

  pub far-gives : (c : Kind) (s : Side) (u : Record) (p q : Point) → FarSide u p q → c u.at p q ≡ true → same_side s (side p q) ≡ true
      → some_of (same_side s) (fars_at c u) ≡ true
  far-gives c s u p q x k e =
      some-gather (same_side s) u.d (far_place c u)
      ∙ at-among (λ i. some_of (same_side s) (far_place c u i)) u.d i x.below
      (ap (λ (z : Option Point). some_of (same_side s) (far_with c u i z)) x.chosen ∙ far-two c s u i q ∙ ends x.is)
    where
      i : ℕ
      i = x.corner

      is : Point → Bool
      is a = c u.at a q && same_side s (side a q)

      has : is p ≡ true
      has = λ z. k z && e z

      ends : (adjacent_at u i ≡ p) ⊎ (adjacent_at u (next_place u.d i) ≡ p) → is (adjacent_at u i) || is (adjacent_at u (next_place u.d i)) ≡ true
      ends (inl h) = left-of (is (adjacent_at u i)) (is (adjacent_at u (next_place u.d i))) (ap is h ∙ has)
      ends (inr h) = right_of (is (adjacent_at u i)) (is (adjacent_at u (next_place u.d i))) (ap is h ∙ has)

  pub record Given (c : Kind) (s : Side) (u : Record) : Type 0 where
    pub p : Point
    pub q : Point
    pub far : FarSide u p q
    pub kind : c u.at p q ≡ true
    pub same : same_side s (side p q) ≡ true

  pub gives-far : (c : Kind) (s : Side) (u : Record) → some_of (same_side s) (fars_at c u) ≡ true → Given c s u
  gives-far c s u h =
      let x = among-at (λ i. some_of (same_side s) (far_place c u i)) u.d (sym (some-gather (same_side s) u.d (far_place c u)) ∙ h) in
      go x.0 x.1 (chosen_at t u x.0) refl x.2
    where
      go : (i : ℕ) → i < u.d → (z : Option Point) → chosen_at t u i ≡ z → some_of (same_side s) (far_with c u i z) ≡ true → Given c s u
      go i l None e g = absurd (not-both g (some-none (same_side s)))
      go i l (Some o) e g = ends (one_of (is a) (is b) (sym (far-two c s u i o) ∙ g))
        where
          a : Point
          a = adjacent_at u i

          b : Point
          b = adjacent_at u (next_place u.d i)

          is : Point → Bool
          is a = c u.at a o && same_side s (side a o)

          given : (p : Point) → FarSide u p o → is p ≡ true → Given c s u
          given p x k =
              record {
                p = p;
                q = o;
                far = x;
                kind = both_left (c u.at p o) (same_side s (side p o)) k;
                same = both_right (c u.at p o) (same_side s (side p o)) k;
              }

          ends : (is a ≡ true) ⊎ (is b ≡ true) → Given c s u
          ends (inl k) = given a (record { corner = i; below = l; chosen = e; is = inl refl }) k
          ends (inr k) = given b (record { corner = i; below = l; chosen = e; is = inr refl }) k

  -- ---- the sides of a vertex's faces are its near and its far ones

  abbrev pub near_at : Side → Record → ℕ → Bool
  near_at s u i = same_side s (side u.at (adjacent_at u i))

  abbrev pub is_far : Side → Record → ℕ → Point → Bool
  is_far s u i o = same_side s (side (adjacent_at u i) o)

  abbrev pub side_in : Side → Record → ℕ → Point → Bool
  side_in s u i o = some_of (same_side s) (sides_of (face_on u i o))

  pub four-of : (s : Side) (u : Record) (i : ℕ) (o : Point)
      → side_in s u i o ≡ near_at s u i || (is_far s u i o || (is_far s u (next_place u.d i) o || near_at s u (next_place u.d i)))
  four-of s u i o =
      λ z.
      same_side s (side u.at (adjacent_at u i)) || (same_side s (side (adjacent_at u i) o) || (swap-right s (side (adjacent_at u (next_place u.d i)) o) z
      || (or-false (same_side s (side (adjacent_at u (next_place u.d i)) u.at)) ∙ swap-right s (side u.at (adjacent_at u (next_place u.d i)))) z))

  -- corner i of u has a face with the side s
  pub corner-gives : (s : Side) (u : Record) (i : ℕ) (o : Point) → i < u.d → chosen_at t u i ≡ Some o → side_in s u i o ≡ true
      → some_of (λ f. some_of (same_side s) (sides_of f)) (faces_at t u) ≡ true
  corner-gives s u i o l c e =
      some-gather (λ f. some_of (same_side s) (sides_of f)) u.d (λ j. face_with u j (chosen_at t u j))
      ∙ at-among (λ j. some_of (λ f. some_of (same_side s) (sides_of f)) (face_with u j (chosen_at t u j))) u.d i l
      (ap (λ (z : Option Point). some_of (λ f. some_of (same_side s) (sides_of f)) (face_with u i z)) c ∙ some_one (λ f. some_of (same_side s) (sides_of f)) (face_on u i o) ∙ e)

  near-corner : (s : Side) (u : Record) (p : Point) → NearSide u p → same_side s (side u.at p) ≡ true
      → some_of (λ f. some_of (same_side s) (sides_of f)) (faces_at t u) ≡ true
  unfolding faced
  near-corner s u p x e = go (one_of (is_point (chosen_at t u i)) (is_point (chosen_at t u (prev_place u.d i))) x.has)
    where
      i : ℕ
      i = x.place

      j : ℕ
      j = prev_place u.d i

      go : (is_point (chosen_at t u i) ≡ true) ⊎ (is_point (chosen_at t u j) ≡ true) → some_of (λ f. some_of (same_side s) (sides_of f)) (faces_at t u) ≡ true
      go (inl h) =
          let o = is-at (chosen_at t u i) h in
          corner-gives s u i o.0 x.below o.1 (four-of s u i o.0
          ∙ left-of (near_at s u i) (is_far s u i o.0 || (is_far s u (next_place u.d i) o.0 || near_at s u (next_place u.d i)))
          (ap (λ (a : Point). same_side s (side u.at a)) x.is ∙ e))
      go (inr h) =
          let o = is-at (chosen_at t u j) h in
          let g : same_side s (side u.at (adjacent_at u (next_place u.d j))) ≡ true =
          ap (λ (a : ℕ). same_side s (side u.at (adjacent_at u a))) (next-prev u.d i x.below)
          ∙ ap (λ (a : Point). same_side s (side u.at a)) x.is ∙ e in
          corner-gives s u j o.0 (prev-below u.d i x.below) o.1
          (four-of s u j o.0
          ∙ right_of (near_at s u j) (is_far s u j o.0 || (is_far s u (next_place u.d j) o.0 || near_at s u (next_place u.d j)))
          (right_of (is_far s u j o.0) (is_far s u (next_place u.d j) o.0 || near_at s u (next_place u.d j))
          (right_of (is_far s u (next_place u.d j) o.0) (near_at s u (next_place u.d j)) g)))

  far-corner : (s : Side) (u : Record) (p q : Point) → FarSide u p q → same_side s (side p q) ≡ true
      → some_of (λ f. some_of (same_side s) (sides_of f)) (faces_at t u) ≡ true
  far-corner s u p q x e = corner-gives s u i q x.below x.chosen (four-of s u i q ∙ right_of (near_at s u i) (before || (after || last)) (go x.is))
    where
      i : ℕ
      i = x.corner

      before : Bool
      before = same_side s (side (adjacent_at u i) q)

      after : Bool
      after = same_side s (side (adjacent_at u (next_place u.d i)) q)

      last : Bool
      last = same_side s (side u.at (adjacent_at u (next_place u.d i)))

      go : (adjacent_at u i ≡ p) ⊎ (adjacent_at u (next_place u.d i) ≡ p) → before || (after || last) ≡ true
      go (inl h) = left-of before (after || last) (ap (λ (a : Point). same_side s (side a q)) h ∙ e)
      go (inr h) = right_of before (after || last) (left-of after last (ap (λ (a : Point). same_side s (side a q)) h ∙ e))

  pub record-sides : (s : Side) (u : Record) → some_of (λ f. some_of (same_side s) (sides_of f)) (faces_at t u) ≡ some_of (same_side s) (nears_at u)
      || some_of (same_side s) (fars_at every u)
  unfolding faced
  record-sides s u = same_test (some_of (λ f. some_of (same_side s) (sides_of f)) (faces_at t u)) (near || far) there back
    where
      near : Bool
      near = some_of (same_side s) (nears_at u)

      far : Bool
      far = some_of (same_side s) (fars_at every u)

      in-corner : (i : ℕ) (o : Point) → i < u.d → chosen_at t u i ≡ Some o → side_in s u i o ≡ true → near || far ≡ true
      in-corner i o l c g = first (one_of (near_at s u i) (is_far s u i o || (is_far s u n o || near_at s u n)) (sym (four-of s u i o) ∙ g))
        where
          n : ℕ
          n = next_place u.d i

          has : is_point (chosen_at t u i) ≡ true
          has = ap is_point c

          third : (same_side s (side (adjacent_at u n) o) ≡ true) ⊎ (same_side s (side u.at (adjacent_at u n)) ≡ true) → near || far ≡ true
          third (inl e) = right_of near far (far-gives every s u (adjacent_at u n) o (record { corner = i; below = l; chosen = c; is = inr refl }) refl e)
          third (inr e) =
              left-of near far
              (near-gives s u (adjacent_at u n)
              (record {
                place = n;
                below = next-below u.d i l;
                has =
                    right_of (is_point (chosen_at t u n)) (is_point (chosen_at t u (prev_place u.d n)))
                    (ap (λ (a : ℕ). is_point (chosen_at t u a)) (prev-next u.d i l) ∙ has);
                is = refl;
              }) e)

          second : (same_side s (side (adjacent_at u i) o) ≡ true)
              ⊎ (same_side s (side (adjacent_at u n) o) || same_side s (side u.at (adjacent_at u n)) ≡ true) → near || far ≡ true
          second (inl e) = right_of near far (far-gives every s u (adjacent_at u i) o (record { corner = i; below = l; chosen = c; is = inl refl }) refl e)
          second (inr e) = third (one_of (same_side s (side (adjacent_at u n) o)) (same_side s (side u.at (adjacent_at u n))) e)

          first : (same_side s (side u.at (adjacent_at u i)) ≡ true)
              ⊎ (same_side s (side (adjacent_at u i) o) || (same_side s (side (adjacent_at u n) o) || same_side s (side u.at (adjacent_at u n))) ≡ true) → near
              || far ≡ true
          first (inl e) = left-of near far (near-gives s u (adjacent_at u i)
              (record { place = i; below = l; has = left-of (is_point (chosen_at t u i)) (is_point (chosen_at t u (prev_place u.d i))) has; is = refl }) e)
          first (inr e) = second (one_of (same_side s (side (adjacent_at u i) o))
              (same_side s (side (adjacent_at u n) o) || same_side s (side u.at (adjacent_at u n))) e)

      there : some_of (λ f. some_of (same_side s) (sides_of f)) (faces_at t u) ≡ true → near || far ≡ true
      there h =
          let x = among-at (λ j. some_of (λ f. some_of (same_side s) (sides_of f)) (face_with u j (chosen_at t u j))) u.d
          (sym (some-gather (λ f. some_of (same_side s) (sides_of f)) u.d (λ j. face_with u j (chosen_at t u j))) ∙ h) in
          go x.0 x.1 (chosen_at t u x.0) refl x.2
        where
          go : (i : ℕ) → i < u.d → (z : Option Point) → chosen_at t u i ≡ z → some_of (λ f. some_of (same_side s) (sides_of f)) (face_with u i z) ≡ true → near || far ≡ true
          go i l None c g = absurd (not-both g (some-none (λ f. some_of (same_side s) (sides_of f))))
          go i l (Some o) c g = in-corner i o l c (sym (some_one (λ f. some_of (same_side s) (sides_of f)) (face_on u i o)) ∙ g)

      back : near || far ≡ true → some_of (λ f. some_of (same_side s) (sides_of f)) (faces_at t u) ≡ true
      back h = go (one_of near far h)
        where
          go : (near ≡ true) ⊎ (far ≡ true) → some_of (λ f. some_of (same_side s) (sides_of f)) (faces_at t u) ≡ true
          go (inl e) = let x = gives-near s u e in near-corner s u x.0 x.1 x.2
          go (inr e) = let x = gives-far every s u e in far-corner s u x.p x.q x.far x.same

  -- the far sides of one kind, and those that are not of it
  pub far-kinds : (c : Kind) (s : Side) (u : Record) → some_of (same_side s) (fars_at every u) ≡ some_of (same_side s) (fars_at c u)
      || some_of (same_side s) (fars_at (other c) u)
  far-kinds c s u = same_test (some_of (same_side s) (fars_at every u)) (one || rest) there back
    where
      one : Bool
      one = some_of (same_side s) (fars_at c u)

      rest : Bool
      rest = some_of (same_side s) (fars_at (other c) u)

      there : some_of (same_side s) (fars_at every u) ≡ true → one || rest ≡ true
      there h = let x = gives-far every s u h in go x (c u.at x.p x.q) refl
        where
          go : (x : Given every s u) (b : Bool) → c u.at x.p x.q ≡ b → one || rest ≡ true
          go x true e = left-of one rest (far-gives c s u x.p x.q x.far e x.same)
          go x false e = right_of one rest (far-gives (other c) s u x.p x.q x.far (ap not e) x.same)

      back : one || rest ≡ true → some_of (same_side s) (fars_at every u) ≡ true
      back h = go (one_of one rest h)
        where
          go : (one ≡ true) ⊎ (rest ≡ true) → some_of (same_side s) (fars_at every u) ≡ true
          go (inl e) = let x = gives-far c s u e in far-gives every s u x.p x.q x.far refl x.same
          go (inr e) = let x = gives-far (other c) s u e in far-gives every s u x.p x.q x.far refl x.same

  -- those of the records of a list
  pub each-kinds : (c : Kind) (s : Side) (rs : List Record) → some_of (same_side s) (each (fars_at every) rs) ≡ some_of (same_side s) (each (fars_at c) rs)
      || some_of (same_side s) (each (fars_at (other c)) rs)
  each-kinds c s rs =
      some-over (same_side s) (fars_at every) rs
      ∙ some_same (λ u. some_of (same_side s) (fars_at every u)) (λ u. some_of (same_side s) (fars_at c u) || some_of (same_side s) (fars_at (other c) u)) rs
      (far-kinds c s)
      ∙ some_or (λ u. some_of (same_side s) (fars_at c u)) (λ u. some_of (same_side s) (fars_at (other c) u)) rs
      ∙ (λ i. sym (some-over (same_side s) (fars_at c) rs) i || sym (some-over (same_side s) (fars_at (other c)) rs) i)

  -- so the sides of all faces are the near ones of all vertices, then the far ones of a kind, then the others
  pub all-sides : (c : Kind) (rs : List Record) → different same_side (each sides_of (each (faces_at t) rs))
      ≡ different same_side (each nears_at rs ++ (each (fars_at c) rs ++ each (fars_at (other c)) rs))
  all-sides c rs =
      different-set same_side sides-alike (each sides_of (each (faces_at t) rs)) (each nears_at rs ++ (each (fars_at c) rs ++ each (fars_at (other c)) rs))
      (λ s.
      some-over (same_side s) sides_of (each (faces_at t) rs) ∙ some-over (λ f. some_of (same_side s) (sides_of f)) (faces_at t) rs
      ∙ some_same (λ u. some_of (λ f. some_of (same_side s) (sides_of f)) (faces_at t u))
      (λ u. some_of (same_side s) (nears_at u) || some_of (same_side s) (fars_at every u)) rs (record-sides s)
      ∙ some_or (λ u. some_of (same_side s) (nears_at u)) (λ u. some_of (same_side s) (fars_at every u)) rs
      ∙ (λ i. sym (some-over (same_side s) nears_at rs) i
      || (sym (some-over (same_side s) (fars_at every) rs) ∙ each-kinds c s rs
      ∙ sym (some-append (same_side s) (each (fars_at c) rs) (each (fars_at (other c)) rs))) i)
      ∙ sym (some-append (same_side s) (each nears_at rs) (each (fars_at c) rs ++ each (fars_at (other c)) rs)))
