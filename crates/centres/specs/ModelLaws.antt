-- A list with nothing to refuse is a base of the model: `list-model`. `centre-good` what is listed has depth 0 and is good.
-- Assumes nothing.
use Rattle.std.specs.Prelude.{◌≡◌, Bool, true, false, ◌&&◌, not, ◌||◌, List, [], ◌∷◌, eqb, ℤ, length}
use Rattle.std.proofs.Math.Path.{refl}
use Rattle.std.proofs.Common.{sym, ◌∙◌, ap, arith, eq-eqb, eqb-true}
use Prim.Native.Nat.{ℕ, zero, suc, ◌%◌, ◌<◌}
use Rattle.std.proofs.lemmas.Bool.{eqb-false}
use Rattle.laws.specs.Each.{not-both}
use Rattle.laws.specs.Choices.{is_true, of-true}
use Rattle.lattice.specs.PointLaws.{same_alike}
use Rattle.lattice.specs.declared.points.Point.{Point}
use Rattle.growth.specs.Sheets.{in_list, CentreSet}
use Rattle.centres.specs.Centres.{centre_at, centres_in, good_centre, listed_in, is_listed, GoodList}
use Rattle.centres.specs.MarkLaws.{listed_at, listed-is}

module _ (cs : List ℤ) (g : GoodList cs) where
  abbrev H : Point → Bool
  H = is_listed cs

  pub centre-good : (p : Point) → H p ≡ true → (p.m.0 ≡ 0) × (good_centre p ≡ true)
  centre-good p h =
      let (i, l, e) = listed-is cs (centres_in cs) p h in
      (ap (λ (q : Point). q.m.0) (sym e), ap good_centre (sym e) ∙ g.good i l)

  -- the first n centres, the last first
  points : ℕ → List Point
  points zero = []
  points (suc n) = centre_at cs n ∷ points n

  lists : (n : ℕ) (p : Point) → listed_in cs n p ≡ in_list (points n) p
  unfolding listed_in points
  lists zero p = refl
  lists (suc n) p = λ i. same_alike (centre_at cs n) p i || lists n p i

  some_one : 0 < centres_in cs
  some_one = go (eqb (length cs) 0) (eqb (length cs % 2) 0) refl refl g.paired
    where
      go : (a b : Bool) → eqb (length cs) 0 ≡ a → eqb (length cs % 2) 0 ≡ b → a || not b ≡ false → 0 < centres_in cs
      go true b e f k = absurd (not-both refl k)
      go false false e f k = absurd (not-both refl k)
      go false true e f k = let z = eqb-false (length cs) 0 e in let w = eqb-true (length cs % 2) 0 f in omega arith

  pub list-model : CentreSet H
  list-model =
      record {
        list = points (centres_in cs);
        lists = λ p. lists (centres_in cs) p;
        ranges = λ p h. (let (m, c) = centre-good p (is_true (H p) h) in of-true (λ i. eq-eqb p.m.0 0 m i && c i));
        some-centre = (centre_at cs 0, of-true (listed_at cs (centres_in cs) 0 some_one));
      }
