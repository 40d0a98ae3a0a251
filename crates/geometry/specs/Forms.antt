-- The one written form of a point, "however a request spells it": document 01, "Points".
-- `OnePoint` two spellings of one point · `one_form`, `form-one` they normalise alike exactly then · `form-normal` the form is normalised ·
-- `point-own` and a normalised point is its own.
-- Assumes nothing.
use Rattle.std.specs.Prelude.{◌≡◌, refl, Bool, true, false, ◌&&◌, not, ◌⊎◌, ℕ, ◌+◌, ◌-◌, ◌≤◌, ◌<◌, ◌^◌, T, eqb, ℤ, pos, ◌*ℤ◌}
use Rattle.std.proofs.Common.{sym, ◌∙◌, ap, inl, inr, arith, eqb→eq}
use Rattle.std.proofs.Math.Decide.{dec_lt}
use Rattle.laws.specs.Choices.{or_split, or_right, is_true}
use Rattle.lattice.specs.Points.{pt, normal_of, is_normal, by3, lift}
use Rattle.lattice.specs.PointLaws.{normal-zero, normal-stop}
use Rattle.lattice.specs.Places.{wide, high, Low, unique, normal-place, normal-low, normal-depth}
use Rattle.lattice.specs.declared.points.Point.{Point}

-- "A point [a, b, m] is (a + bw)/3^m": two spellings of one point
pub record OnePoint (a b : ℤ) (m : ℕ) (a' b' : ℤ) (m' : ℕ) : Type 0 where
  pub across : a *ℤ pos (3 ^ m') ≡ a' *ℤ pos (3 ^ m)
  pub up : b *ℤ pos (3 ^ m') ≡ b' *ℤ pos (3 ^ m)

module _ (a b : ℤ) (m : ℕ) (a' b' : ℤ) (m' : ℕ) where
  -- both brought to the depth m + m'
  over : (x : ℤ) → lift x m (m + m') ≡ x *ℤ pos (3 ^ m')
  over x = let e : m + m' - m ≡ m' = omega arith in ap (λ (k : ℕ). x *ℤ pos (3 ^ k)) e

  over' : (x : ℤ) → lift x m' (m + m') ≡ x *ℤ pos (3 ^ m)
  over' x = let e : m + m' - m' ≡ m = omega arith in ap (λ (k : ℕ). x *ℤ pos (3 ^ k)) e

  left : m ≤ m + m'
  left = omega arith

  right : m' ≤ m + m'
  right = omega arith

  pub one_form : OnePoint a b m a' b' m' → normal_of a b m ≡ normal_of a' b' m'
  one_form h =
      let (w, u) = normal-place a b m (m + m') left in
      let (w', u') = normal-place a' b' m' (m + m') right in
      unique (normal_of a b m) (normal_of a' b' m') (m + m')
      (omega (arith, normal-depth a b m)) (omega (arith, normal-depth a' b' m')) (normal-low a b m) (normal-low a' b' m')
      (w ∙ over a ∙ h.across ∙ sym (over' a') ∙ sym w') (u ∙ over b ∙ h.up ∙ sym (over' b') ∙ sym u')

  pub form-one : normal_of a b m ≡ normal_of a' b' m' → OnePoint a b m a' b' m'
  form-one e =
      let (w, u) = normal-place a b m (m + m') left in
      let (w', u') = normal-place a' b' m' (m + m') right in
      record {
        across = sym (over a) ∙ sym w ∙ ap (wide (m + m')) e ∙ w' ∙ over' a';
        up = sym (over b) ∙ sym u ∙ ap (high (m + m')) e ∙ u' ∙ over' b';
      }

-- "It is normalised when m = 0 or 3 fails to divide one of a, b."
pub form-normal : (a b : ℤ) (m : ℕ) → is_normal (normal_of a b m) ≡ true
form-normal a b m = go (normal_of a b m) (normal-low a b m)
  where
    deep : (p : Point) → by3 p.a && by3 p.b ≡ false → is_normal p ≡ true
    deep p h = is_true (is_normal p) (or_right (eqb p.m.0 0) (not (by3 p.a && by3 p.b)) (rw h tt))

    go : (p : Point) → Low p → is_normal p ≡ true
    go p l = at (dec_lt 0 p.m.0)
      where
        at : Dec (0 < p.m.0) → is_normal p ≡ true
        at (yes h) = deep p (l.low h)
        at (no h) = let e : p.m.0 ≡ 0 = omega arith in rw e refl

pub point-own : (p : Point) → T (is_normal p) → normal_of p.a p.b p.m.0 ≡ p
point-own p h = go (or_split (eqb p.m.0 0) (not (by3 p.a && by3 p.b)) h)
  where
    not-false : (b : Bool) → T (not b) → b ≡ false
    not-false true h = absurd h
    not-false false h = refl

    go : T (eqb p.m.0 0) ⊎ T (not (by3 p.a && by3 p.b)) → normal_of p.a p.b p.m.0 ≡ p
    go (inl z) = let m = eqb→eq p.m.0 0 z in ap (normal_of p.a p.b) m ∙ sym (normal-zero p.a p.b) ∙ (λ i. pt p.a p.b (sym m i))
    go (inr n) = sym (normal-stop p.a p.b p.m.0 (not-false (by3 p.a && by3 p.b) n))
