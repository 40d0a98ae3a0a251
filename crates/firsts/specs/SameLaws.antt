-- The same side, and the same face read from another vertex on.
-- `side_same`, `side-self`, `swapped`, `swap-left`, `swap-right`, `sides-alike` sides · `same-sides` a face has the same sides from whichever vertex it
-- is read · `faces-alike` faces.
-- Assumes nothing.
use Rattle.std.specs.Prelude.{◌≡◌, refl, ◌⊎◌, Bool, true, false, ◌&&◌, ◌||◌}
use Rattle.std.proofs.Common.{sym, ap, ◌∙◌, inl, inr}
use Rattle.std.proofs.Math.Bool.{and_comm, or_comm, or-true, or-false}
use Rattle.laws.specs.Each.{both_left, both_right, same_test}
use Rattle.laws.specs.Some.{some_of}
use Rattle.lattice.specs.declared.points.Point.{Point}
use Rattle.table.specs.Search.{same_point}
use Rattle.table.specs.MapLaws.{same_refl, same_true}
use Rattle.firsts.specs.Faces.{turned, fits, same_face, Side, side, sides_of, same_side}
use Rattle.firsts.specs.SetLaws.{Alike}
use Rattle.firsts.specs.FaceLaws.{SameRound, same-round, round_same, straight, once, twice, thrice}
use Rattle.firsts.specs.declared.faces.Face.{Face}

-- ---- the same side

abbrev swapped : Side → Side
swapped s = side s.other s.one

-- equal, or the other way round
pub side_same : (s z : Side) → same_side s z ≡ true → (s ≡ z) ⊎ (s ≡ swapped z)
unfolding same_side
side_same s z h = go (same_point s.one z.one && same_point s.other z.other) refl h
  where
    two : (p q a b : Point) → same_point p q && same_point a b ≡ true → (p ≡ q) × (a ≡ b)
    two p q a b e = (same_true p q (both_left (same_point p q) (same_point a b) e), same_true a b (both_right (same_point p q) (same_point a b) e))

    go : (x : Bool) → same_point s.one z.one && same_point s.other z.other ≡ x
        → x || (same_point s.one z.other && same_point s.other z.one) ≡ true → (s ≡ z) ⊎ (s ≡ swapped z)
    go true e g = let x = two s.one z.one s.other z.other e in inl (λ i. side (x.0 i) (x.1 i))
    go false e g = let x = two s.one z.other s.other z.one g in inr (λ i. side (x.0 i) (x.1 i))

pub side-self : (s : Side) → same_side s s ≡ true
unfolding same_side
side-self s = rw (same_refl s.one, same_refl s.other)

-- the other way round it is the same side
swap-left : (s z : Side) → same_side (swapped s) z ≡ same_side s z
unfolding same_side
swap-left s z =
    or_comm (same_point s.other z.one && same_point s.one z.other) (same_point s.other z.other && same_point s.one z.one)
    ∙ (λ i. and_comm (same_point s.other z.other) (same_point s.one z.one) i
    || and_comm (same_point s.other z.one) (same_point s.one z.other) i)

pub swap-right : (s z : Side) → same_side s (swapped z) ≡ same_side s z
unfolding same_side
swap-right s z = or_comm (same_point s.one z.other && same_point s.other z.one) (same_point s.one z.one && same_point s.other z.other)

pub sides-alike : Alike same_side
sides-alike =
    record { self = side-self; turn = λ x y. same_test (same_side x y) (same_side y x) (turn x y) (turn y x); both = λ x y e z. both z (side_same x y e) }
  where
    turn : (x y : Side) → same_side x y ≡ true → same_side y x ≡ true
    turn x y e = go (side_same x y e)
      where
        go : (x ≡ y) ⊎ (x ≡ swapped y) → same_side y x ≡ true
        go (inl h) = ap (same_side y) h ∙ side-self y
        go (inr h) = ap (same_side y) h ∙ swap-right y y ∙ side-self y

    both : {x y : Side} (z : Side) → (x ≡ y) ⊎ (x ≡ swapped y) → same_side x z ≡ same_side y z
    both z (inl h) = ap (λ (s : Side). same_side s z) h
    both {y = y} z (inr h) = ap (λ (s : Side). same_side s z) h ∙ swap-left y z

-- a face has the same sides from whichever vertex it is read
turned-sides : (s : Side) (f : Face) → some_of (same_side s) (sides_of (turned f)) ≡ some_of (same_side s) (sides_of f)
turned-sides s f =
    rot (same_side s (side f.at f.adjacent)) (same_side s (side f.adjacent f.opposite)) (same_side s (side f.opposite f.next))
    (same_side s (side f.next f.at))
  where
    rot : (a b c d : Bool) → b || (c || (d || (a || false))) ≡ a || (b || (c || (d || false)))
    rot false b c d = refl
    rot true true c d = refl
    rot true false true d = refl
    rot true false false true = refl
    rot true false false false = refl

pub same-sides : (s : Side) (f g : Face) → SameRound f g → some_of (same_side s) (sides_of f) ≡ some_of (same_side s) (sides_of g)
same-sides s f g (straight e) = ap (λ (z : Face). some_of (same_side s) (sides_of z)) e
same-sides s f g (once e) = sym (turned-sides s f) ∙ ap (λ (z : Face). some_of (same_side s) (sides_of z)) e
same-sides s f g (twice e) = sym (turned-sides s (turned f) ∙ turned-sides s f) ∙ ap (λ (z : Face). some_of (same_side s) (sides_of z)) e
same-sides s f g (thrice e) = sym (turned-sides s (turned (turned f)) ∙ turned-sides s (turned f) ∙ turned-sides s f)
    ∙ ap (λ (z : Face). some_of (same_side s) (sides_of z)) e

-- ---- the same face

turned-face : (f g : Face) → same_face (turned f) g ≡ same_face f g
unfolding same_face
turned-face f g = rot (fits f g) (fits (turned f) g) (fits (turned (turned f)) g) (fits (turned (turned (turned f))) g)
  where
    rot : (a b c d : Bool) → b || (c || (d || a)) ≡ a || (b || (c || d))
    rot false b c d = ap (λ (x : Bool). b || (c || x)) (or-false d)
    rot true true c d = refl
    rot true false true d = refl
    rot true false false d = or-true d

faces-both : (f g h : Face) → SameRound f g → same_face f h ≡ same_face g h
faces-both f g h (straight e) = ap (λ (x : Face). same_face x h) e
faces-both f g h (once e) = sym (turned-face f h) ∙ ap (λ (x : Face). same_face x h) e
faces-both f g h (twice e) = sym (turned-face (turned f) h ∙ turned-face f h) ∙ ap (λ (x : Face). same_face x h) e
faces-both f g h (thrice e) =
    sym (turned-face (turned (turned f)) h ∙ turned-face (turned f) h ∙ turned-face f h) ∙ ap (λ (x : Face). same_face x h) e

pub faces-alike : Alike same_face
faces-alike =
    record { self = self; turn = λ f g. same_test (same_face f g) (same_face g f) (turn f g) (turn g f); both = λ f g e h. faces-both f g h (same-round f g e) }
  where
    self : (f : Face) → same_face f f ≡ true
    self f = round_same f f (straight refl)

    turn : (f g : Face) → same_face f g ≡ true → same_face g f ≡ true
    turn f g e = sym (faces-both f g f (same-round f g e)) ∙ self f
