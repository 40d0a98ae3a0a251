-- Each face is counted at the first of the vertices that name it: `faces-counted`.
--
-- The face f of a corner of v, in slot k, is the same as an earlier one exactly where one of its three other vertices stands before slot k and names
-- it, f read from that vertex on: an earlier vertex is not v itself, no point standing twice; and two corners of one star have different faces, v being
-- none of the points of its own star.
-- Assumes nothing.
use Rattle.std.specs.Prelude.{◌≡◌, refl, ◌⊎◌, false, ◌&&◌, ◌||◌, ℕ, ◌+◌, ◌≤◌, ◌<◌, Option, Some, None}
use Rattle.std.proofs.Math.Path.{sym}
use Rattle.std.proofs.Common.{ap, ◌∙◌, inl, inr, arith, eq-eqb, ne_eqb}
use Rattle.std.proofs.Math.Bool.{Bool, true, or-true}
use mathlib.Core.List.{List, [], ◌++◌}
use Rattle.std.proofs.Math.Decide.{ℕ_discrete}
use Rattle.laws.specs.Rules.{among}
use Rattle.laws.specs.Each.{not-both, never, among-at, at-among, same_test}
use Rattle.laws.specs.Some.{some_of}
use Rattle.lattice.specs.Stars.{adjacent_at}
use Rattle.lattice.specs.RecordLaws.{Inner}
use Rattle.lattice.specs.declared.points.Point.{Point}
use Rattle.lattice.specs.declared.records.Record.{Record}
use Rattle.geometry.specs.GeometryLaws.{star-distinct}
use Rattle.table.specs.Slots.{slots_of, slot_at}
use Rattle.table.specs.Search.{same_point}
use Rattle.table.specs.Order.{InOrder}
use Rattle.table.specs.Entries.{records_below}
use Rattle.table.specs.MapLaws.{same_refl, same_true}
use Rattle.queries.specs.Queries.{chosen_at}
use Rattle.firsts.specs.Faces.{different_after, gather, each, next_place, face, face_with, faces_at, turned, fits, same_face, faces_in}
use Rattle.firsts.specs.Earlier.{sum_below, spot_is, corner_is, names_face, face_in, face_seen, face_before, face_on, face_count, corner_count, star_faces}
use Rattle.firsts.specs.Earlier.{slot_faces}
use Rattle.firsts.specs.DifferentLaws.{slot_test, some_one, some-none, some-gather, some-each, different-nothing, different-place, different-star}
use Rattle.firsts.specs.DifferentLaws.{different-slots}
use Rattle.firsts.specs.EarlierLaws.{Passes, other-point, star-inner, earlier-yes, yes-earlier, slots-pass, pass-slots}
use Rattle.firsts.specs.StarLaws.{adjacent-away, chosen-away}
use Rattle.firsts.specs.declared.faces.Face.{Face}

-- ---- the same face

four-true : (a b c d : Bool) → a && (b && (c && d)) ≡ true → (a ≡ true) × (b ≡ true) × (c ≡ true) × (d ≡ true)
four-true true true true true h = (refl, refl, refl, refl)
four-true false b c d h = absurd (not-both h refl)
four-true true false c d h = absurd (not-both h refl)
four-true true true false d h = absurd (not-both h refl)
four-true true true true false h = absurd (not-both h refl)

-- the same four points in the same places
fits-eq : (f g : Face) → fits f g ≡ true → f ≡ g
unfolding fits
fits-eq f g h =
    let x = four-true (same_point f.at g.at) (same_point f.adjacent g.adjacent) (same_point f.opposite g.opposite)
    (same_point f.next g.next) h in
    λ i. face (same_true f.at g.at x.0 i) (same_true f.adjacent g.adjacent x.1 i) (same_true f.opposite g.opposite x.2 i)
    (same_true f.next g.next x.3 i)

fits-refl : (f : Face) → fits f f ≡ true
unfolding fits
fits-refl f = rw (same_refl f.at, same_refl f.adjacent, same_refl f.opposite, same_refl f.next)

-- which of the four readings of f is g
pub data SameRound (f g : Face) : Type 0 where
  straight : f ≡ g → SameRound f g
  once : turned f ≡ g → SameRound f g
  twice : turned (turned f) ≡ g → SameRound f g
  thrice : turned (turned (turned f)) ≡ g → SameRound f g

pub same-round : (f g : Face) → same_face f g ≡ true → SameRound f g
unfolding same_face
same-round f g h = go (fits f g) (fits (turned f) g) (fits (turned (turned f)) g) refl refl refl h
  where
    go : (a b c : Bool) → fits f g ≡ a → fits (turned f) g ≡ b → fits (turned (turned f)) g ≡ c
        → a || (b || (c || fits (turned (turned (turned f))) g)) ≡ true → SameRound f g
    go true b c x y z k = straight (fits-eq f g x)
    go false true c x y z k = once (fits-eq (turned f) g y)
    go false false true x y z k = twice (fits-eq (turned (turned f)) g z)
    go false false false x y z k = thrice (fits-eq (turned (turned (turned f))) g k)

pub round_same : (f g : Face) → SameRound f g → same_face f g ≡ true
unfolding same_face
round_same f g r = go r
  where
    some4 : (a b c d : Bool) → (a ≡ true) ⊎ ((b ≡ true) ⊎ ((c ≡ true) ⊎ (d ≡ true))) → a || (b || (c || d)) ≡ true
    some4 true b c d h = refl
    some4 false true c d h = refl
    some4 false false true d h = refl
    some4 false false false d (inl e) = absurd (never e)
    some4 false false false d (inr (inl e)) = absurd (never e)
    some4 false false false d (inr (inr (inl e))) = absurd (never e)
    some4 false false false d (inr (inr (inr e))) = e

    one : (fits f g ≡ true) ⊎ ((fits (turned f) g ≡ true) ⊎ ((fits (turned (turned f)) g ≡ true) ⊎ (fits (turned (turned (turned f))) g ≡ true)))
        → fits f g || (fits (turned f) g || (fits (turned (turned f)) g || fits (turned (turned (turned f))) g)) ≡ true
    one = some4 (fits f g) (fits (turned f) g) (fits (turned (turned f)) g) (fits (turned (turned (turned f))) g)

    is : (x : Face) → x ≡ g → fits x g ≡ true
    is x e = ap (λ (y : Face). fits y g) e ∙ fits-refl g

    go : SameRound f g → fits f g || (fits (turned f) g || (fits (turned (turned f)) g || fits (turned (turned (turned f))) g)) ≡ true
    go (straight e) = one (inl (is f e))
    go (once e) = one (inr (inl (is (turned f) e)))
    go (twice e) = one (inr (inr (inl (is (turned (turned f)) e))))
    go (thrice e) = one (inr (inr (inr (is (turned (turned (turned f))) e))))

-- ---- the faces that a vertex names

three-true : (a b c : Bool) → a && (b && c) ≡ true → (a ≡ true) × (b ≡ true) × (c ≡ true)
three-true true true true h = (refl, refl, refl)
three-true false b c h = absurd (not-both h refl)
three-true true false c h = absurd (not-both h refl)
three-true true true false h = absurd (not-both h refl)

pub spot_is_lem : (s : Option Point) (p : Point) → spot_is s p ≡ true → s ≡ Some p
spot_is_lem (Some q) p h = ap Some (same_true q p h)
spot_is_lem None p h = absurd (not-both h refl)

module _ (t : List ℕ) where
  -- corner i of u makes g
  pub record Makes (u : Record) (g : Face) : Type 0 where
    pub corner : ℕ
    pub below : corner < u.d
    pub opposite : Point
    pub chosen : chosen_at t u corner ≡ Some opposite
    pub is : face_on u corner opposite ≡ g

  pub makes-names : (u : Record) (g : Face) → Makes u g → names_face t g u ≡ true
  unfolding names_face corner_is
  makes-names u g m = at-among (corner_is t u g) u.d m.corner m.below (ap (λ (f : Face). corner_is t u f m.corner) (sym m.is) ∙ corner)
    where
      corner : corner_is t u (face_on u m.corner m.opposite) m.corner ≡ true
      corner = rw (same_refl (adjacent_at u m.corner), same_refl (adjacent_at u (next_place u.d m.corner)), m.chosen) (same_refl m.opposite)

  names-makes : (u : Record) (g : Face) → u.at ≡ g.at → names_face t g u ≡ true → Makes u g
  unfolding names_face corner_is
  names-makes u g e h =
      let x = among-at (corner_is t u g) u.d h in
      let i = x.0 in
      let y = three-true (same_point (adjacent_at u i) g.adjacent) (same_point (adjacent_at u (next_place u.d i)) g.next)
      (spot_is (chosen_at t u i) g.opposite) x.2 in
      record {
        corner = i;
        below = x.1;
        opposite = g.opposite;
        chosen = spot_is_lem (chosen_at t u i) g.opposite y.2;
        is = λ z. face (e z) (same_true (adjacent_at u i) g.adjacent y.0 z) g.opposite
            (same_true (adjacent_at u (next_place u.d i)) g.next y.1 z);
      }

  -- f is one of u's faces, read from one of its vertices on
  abbrev gives : Face → Record → Bool
  gives f u = some_of (same_face f) (faces_at t u)

  abbrev place : Record → ℕ → List Face
  place u i = face_with u i (chosen_at t u i)

  makes-gives : (f : Face) (u : Record) (g : Face) → Makes u g → SameRound f g → gives f u ≡ true
  makes-gives f u g m r =
      some-gather (same_face f) u.d (place u)
      ∙ at-among (λ i. some_of (same_face f) (place u i)) u.d m.corner m.below
      (ap (λ (s : Option Point). some_of (same_face f) (face_with u m.corner s)) m.chosen ∙ some_one (same_face f) (face_on u m.corner m.opposite)
      ∙ ap (same_face f) m.is ∙ round_same f g r)

  pub gives-makes : (f : Face) (u : Record) → gives f u ≡ true → (g : Face) × Makes u g × SameRound f g
  gives-makes f u h =
      let x = among-at (λ i. some_of (same_face f) (place u i)) u.d (sym (some-gather (same_face f) u.d (place u)) ∙ h) in
      go x.0 x.1 (chosen_at t u x.0) refl x.2
    where
      go : (i : ℕ) → i < u.d → (s : Option Point) → chosen_at t u i ≡ s → some_of (same_face f) (face_with u i s) ≡ true → (g : Face) × Makes u g × SameRound f g
      go i l None e k = absurd (not-both k (some-none (same_face f)))
      go i l (Some p) e k = (
        face_on u i p,
        record { corner = i; below = l; opposite = p; chosen = e; is = refl },
        same-round f (face_on u i p) (sym (some_one (same_face f) (face_on u i p)) ∙ k),
      )

pub next-below : (d j : ℕ) → j < d → next_place d j < d
next-below d j h = go (ℕ_discrete (j + 1) d)
  where
    go : Dec (j + 1 ≡ d) → next_place d j < d
    go (yes e) = rw (eq-eqb (j + 1) d e) (omega arith)
    go (no e) = rw (ne_eqb (j + 1) d e) (omega arith)

-- ---- counted at the first

module _ (t : List ℕ) (o : InOrder t) where
  module _ (k : ℕ) (v : Record) (l : k < slots_of t) (here : slot_at t k ≡ Some v) where
    top : k ≤ slots_of t
    top = omega arith

    -- a vertex before slot k names the face g
    seen : (g : Face) {h : Record → Bool} (x : Passes t k h) → Makes t x.rec g → face_seen t k g ≡ true
    unfolding face_in
    seen g x m =
        earlier-yes t o k top (names_face t g) g.at (record
        { rec = x.rec; slot = x.slot; below = x.below; holds = x.holds; passes = makes-names t x.rec g m }) (ap (λ (f : Face). f.at) m.is)

    seen-gives : (f g : Face) → SameRound f g → face_seen t k g ≡ true → among k (λ i. slot_test (gives t f) (slot_at t i)) ≡ true
    unfolding face_in
    seen-gives f g r h =
        let y = yes-earlier t o k top (names_face t g) g.at h in
        let x = y.0 in
        pass-slots t k (gives t f)
        (record {
          rec = x.rec;
          slot = x.slot;
          below = x.below;
          holds = x.holds;
          passes = makes-gives t f x.rec g (names-makes t x.rec g y.1 x.passes) r;
        })

    pub face-before : (f : Face) → f.at ≡ v.at → some_of (same_face f) (each (faces_at t) (records_below t k)) ≡ face_before t k f
    unfolding face_before
    face-before f e = some-each (same_face f) (faces_at t) t k ∙ same_test (among k (λ i. slot_test (gives t f) (slot_at t i))) (face_before t k f) there back
      where
        x₁ : Bool
        x₁ = face_seen t k (turned f)

        x₂ : Bool
        x₂ = face_seen t k (turned (turned f))

        x₃ : Bool
        x₃ = face_seen t k (turned (turned (turned f)))

        there : among k (λ i. slot_test (gives t f) (slot_at t i)) ≡ true → face_before t k f ≡ true
        there h = let x = slots-pass t k (gives t f) h in let y = gives-makes t f x.rec x.passes in go x y.0 y.1 y.2
          where
            go : (x : Passes t k (gives t f)) (g : Face) → Makes t x.rec g → SameRound f g → x₁ || (x₂ || x₃) ≡ true
            go x g m (straight q) = absurd (other-point t o k v l here x (ap (λ (z : Face). z.at) (m.is ∙ sym q) ∙ e))
            go x g m (once q) = ap (λ (b : Bool). b || (x₂ || x₃)) (ap (face_seen t k) q ∙ seen g x m)
            go x g m (twice q) = ap (λ (b : Bool). x₁ || (b || x₃)) (ap (face_seen t k) q ∙ seen g x m) ∙ or-true x₁
            go x g m (thrice q) = ap (λ (b : Bool). x₁ || (x₂ || b)) (ap (face_seen t k) q ∙ seen g x m) ∙ ap (λ (b : Bool). x₁ || b) (or-true x₂) ∙ or-true x₁

        back : face_before t k f ≡ true → among k (λ i. slot_test (gives t f) (slot_at t i)) ≡ true
        back h = go (face_seen t k (turned f)) (face_seen t k (turned (turned f))) refl refl h
          where
            go : (a b : Bool) → face_seen t k (turned f) ≡ a → face_seen t k (turned (turned f)) ≡ b → a || (b || x₃) ≡ true
                → among k (λ i. slot_test (gives t f) (slot_at t i)) ≡ true
            go true b p q r = seen-gives f (turned f) (once refl) p
            go false true p q r = seen-gives f (turned (turned f)) (twice refl) q
            go false false p q r = seen-gives f (turned (turned (turned f))) (thrice refl) r

    -- no two corners of a star make one face
    pub corner-apart : (i j : ℕ) → i < j → j < v.d → (p : Point) → chosen_at t v j ≡ Some p → some_of (same_face (face_on v j p)) (place t v i) ≡ false
    corner-apart i j h m p c = go (chosen_at t v i)
      where
        n : Inner v
        n = star-inner t o k v l here j m

        never : (q : Point) → SameRound (face_on v j p) (face_on v i q) → ⊥
        never q (straight e) = let x : j ≡ i = star-distinct v j i n.low n.top m (omega arith) (ap (λ (f : Face). f.adjacent) e) in omega arith
        never q (once e) = adjacent-away v n j m (ap (λ (f : Face). f.at) e)
        never q (twice e) = chosen-away v n j m t (c ∙ ap (λ (f : Face). Some f.at) e)
        never q (thrice e) = adjacent-away v n (next_place v.d j) (next-below v.d j m) (ap (λ (f : Face). f.at) e)

        decide : (q : Point) (b : Bool) → same_face (face_on v j p) (face_on v i q) ≡ b → b ≡ false
        decide q true e = absurd (never q (same-round (face_on v j p) (face_on v i q) e))
        decide q false e = refl

        go : (s : Option Point) → some_of (same_face (face_on v j p)) (face_with v i s) ≡ false
        go None = some-none (same_face (face_on v j p))
        go (Some q) = some_one (same_face (face_on v j p)) (face_on v i q) ∙ decide q (same_face (face_on v j p) (face_on v i q)) refl

    star-faces : different_after same_face (each (faces_at t) (records_below t k)) (faces_at t v) ≡ star_faces t k v
    unfolding corner_count
    star-faces = different-star same_face before (place t v) (corner_count t k v) v.d (λ j m. go j m (chosen_at t v j) refl)
      where
        before : List Face
        before = each (faces_at t) (records_below t k)

        go : (j : ℕ) → j < v.d → (s : Option Point) → chosen_at t v j ≡ s
            → different_after same_face (before ++ gather j (place t v)) (face_with v j s) ≡ face_count t k v j s
        go j m None e = different-nothing same_face (before ++ gather j (place t v))
        go j m (Some p) e =
            different-place same_face before (place t v) j (face_on v j p) (face_before t k (face_on v j p)) (face-before (face_on v j p) refl)
            (λ i h. corner-apart i j h m p e)

  -- "F the different faces"
  pub faces-counted : sum_below (slot_faces t) (slots_of t) ≡ faces_in t
  unfolding slot_faces
  faces-counted = sym (different-slots same_face [] (faces_at t) (star_faces t) t (slots_of t) star-faces)
