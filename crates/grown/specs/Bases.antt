-- The base that document 01's call lays is the model's. It is said in two ways: by the corners of the listed hexagons (crate base) and by the
-- hexagons round a corner (crate growth).
-- `list-sheet` a good list gives the model's base · `base-sheet`, `base-model` so does a base that is accepted.
-- Assumes nothing.
use Rattle.std.specs.Prelude.{◌≡◌, ◌≢◌, Bool, ◌&&◌, ◌||◌, List, ℕ, ◌+◌, ◌*◌, ◌%◌, ◌/◌, ◌<◌, T, eqb, ℤ, ◌-ℤ◌, Some, None}
use Rattle.std.proofs.Math.Path.{refl, ap}
use Rattle.std.proofs.Common.{sym, ◌∙◌, subst, arith}
use Rattle.std.proofs.Math.Bool.{true, false, cond, not}
use Rattle.std.proofs.Math.Decide.{ℕ_discrete}
use borrow.Author.Tests.{eq-eqb, ne_eqb, eqb-true}
use Rattle.laws.specs.Rules.{◌≡?◌, ◌⇒◌, rule}
use Rattle.laws.specs.Each.{both_left, both_right, each-upto, upto-each, same_test}
use Rattle.laws.specs.Choices.{is_true, of-true}
use Rattle.laws.specs.Thirds.{three-below}
use Rattle.lattice.specs.Points.{class_of}
use Rattle.lattice.specs.Ranks.{move_of}
use Rattle.lattice.specs.declared.points.Point.{Point}
use Rattle.geometry.specs.GeometryLaws.{turned_move}
use Rattle.growth.specs.Sheets.{hexagon_round, inside_base, base_vertex, CentreSet, base_sheet, given_by}
use Rattle.growth.specs.Hexagons.{unit-step, hexagon-centre, in-any, any-in, inside-all, all-inside, centre-in, centre-inside}
use Rattle.centres.specs.Centres.{GoodList}
use Rattle.centres.specs.MarkLaws.{good-is}
use Rattle.centres.specs.ModelLaws.{centre-good, list-model}
use Rattle.base.specs.Base.{is_listed, corner_of, hexagon_listed, internal, corner_record, base_of}
use Rattle.base.specs.Vertices.{in_base, base_record}
use Rattle.base.specs.BaseLaws.{base-list, base-holds, base-depth, base-centre, base-corner, centre-base, corner-base}
use Rattle.local.specs.Sheet.{as_option, sheet_of}

-- ---- corners and hexagons

-- the corner of p that hexagon t round it is
abbrev corner_at : Point → ℕ → ℕ
corner_at p t = cond (eqb (class_of p) 1) 1 0 + 2 * t

corner-at : (p : Point) (t : ℕ) → t < 3 → corner_at p t < 6
corner-at p t h = go (eqb (class_of p) 1)
  where
    go : (b : Bool) → cond b 1 0 + 2 * t < 6
    go true = omega arith
    go false = omega arith

hexagon-is : (p : Point) (t : ℕ) → t < 3 → hexagon_round p t ≡ corner_of p (corner_at p t)
hexagon-is p t h = ap (λ (e : ℕ). move_of p e 0) (go (eqb (class_of p) 1)) ∙ sym (turned_move p (corner_at p t) (corner-at p t h))
  where
    go : (b : Bool) → cond b 2 0 + 4 * t ≡ 2 * (cond b 1 0 + 2 * t)
    go true = omega arith
    go false = omega arith

-- a unit neighbour of a corner that is a centre is one of the three
neighbour-hexagon : (p : Point) (j : ℕ) → p.m.0 ≡ 0 → class_of p ≢ 0 → j < 6 → class_of (corner_of p j) ≡ 0 → corner_of p j ≡ hexagon_round p (j / 2)
neighbour-hexagon p j m n h c =
    let e = turned_move p j h in
    let u = (unit-step p (2 * j) m (omega arith, even j)).1 in
    e ∙ ap (λ (x : ℕ). move_of p x 0) (go (ℕ_discrete (class_of p) 1) (sym u ∙ ap class_of (sym e) ∙ c))
  where
    even : (j : ℕ) → 2 * j % 2 ≡ 0 % 2
    even j = omega arith

    go : Dec (class_of p ≡ 1) → (class_of p + (2 * j % 4 / 2 + 1)) % 3 ≡ 0 → 2 * j ≡ cond (eqb (class_of p) 1) 2 0 + 4 * (j / 2)
    go (yes e) k =
        rw (eq-eqb (class_of p) 1 e)
        (rule 6 (λ j. (1 + (2 * j % 4 / 2 + 1)) % 3 ≡? 0 ⇒ 2 * j ≡? 2 + 4 * (j / 2)) tt j h (ap (λ (x : ℕ). (x + (2 * j % 4 / 2 + 1)) % 3) (sym e) ∙ k))
    go (no e) k =
        let two : class_of p ≡ 2 = omega (arith, three-below (p.a -ℤ p.b)) in
        rw (ne_eqb (class_of p) 1 e)
        (rule 6 (λ j. (2 + (2 * j % 4 / 2 + 1)) % 3 ≡? 0 ⇒ 2 * j ≡? 0 + 4 * (j / 2)) tt j h (ap (λ (x : ℕ). (x + (2 * j % 4 / 2 + 1)) % 3) (sym two) ∙ k))

-- ---- a list that is good
module _ (cs : List ℤ) (g : GoodList cs) where
  abbrev H : Point → Bool
  H = is_listed cs

  centre-class : (p : Point) → H p ≡ true → class_of p ≡ 0
  centre-class p h = (good-is p (centre-good cs g p h).1).class

  -- the points of the base
  module _ (p : Point) where
    in-model : in_base cs p ≡ true → eqb p.m.0 0 && given_by H p ≡ true
    in-model h = (λ i. eq-eqb p.m.0 0 (base-depth cs p g h) i && is_true (given_by H p) (go (ℕ_discrete (class_of p) 0)) i)
      where
        go : Dec (class_of p ≡ 0) → T (given_by H p)
        go (yes c) = subst T (sym (centre-in H p c)) (of-true (base-centre cs p g h c))
        go (no c) =
            let (j, l, k) = base-corner cs p g h c in
            any-in H p c (j / 2) (omega arith) (of-true (ap H (sym (neighbour-hexagon p j (base-depth cs p g h) c l (centre-class (corner_of p j) k))) ∙ k))

    model_in : p.m.0 ≡ 0 → T (given_by H p) → in_base cs p ≡ true
    model_in m h = go (ℕ_discrete (class_of p) 0)
      where
        go : Dec (class_of p ≡ 0) → in_base cs p ≡ true
        go (yes c) = centre-base cs p (sym (centre-in H p c) ∙ is_true (given_by H p) h)
        go (no c) =
            let (t, l, k) = in-any H p c h in
            corner-base cs p (corner_at p t) m (corner-at p t l) (ap H (sym (hexagon-is p t l)) ∙ is_true (H (hexagon_round p t)) k)

    in-same : in_base cs p ≡ eqb p.m.0 0 && given_by H p
    in-same =
        same_test (in_base cs p) (eqb p.m.0 0 && given_by H p) in-model
        (λ h. model_in (eqb-true p.m.0 0 (both_left (eqb p.m.0 0) (given_by H p) h)) (of-true (both_right (eqb p.m.0 0) (given_by H p) h)))

    -- a corner is internal in both ways
    module _ (m : p.m.0 ≡ 0) (n : class_of p ≢ 0) where
      internal-inside : internal H p ≡ true → inside_base H p ≡ true
      unfolding internal
      internal-inside h = is_true (inside_base H p) (all-inside H p n (λ t l. of-true (each t l)))
        where
          each : (t : ℕ) → t < 3 → H (hexagon_round p t) ≡ true
          each t l =
              let e = hexagon-is p t l in
              let c : class_of (corner_of p (corner_at p t)) ≡ 0 = ap class_of (sym e) ∙ (hexagon-centre p m n t l).1 in
              let q = corner_of p (corner_at p t) in
              ap H e ∙ ap (λ (b : Bool). not b || H q) (sym (eq-eqb (class_of q) 0 c))
              ∙ upto-each (λ j. hexagon_listed H (corner_of p j)) 6 (corner_at p t) h (corner-at p t l)

      inside-internal : inside_base H p ≡ true → internal H p ≡ true
      unfolding internal
      inside-internal h = each-upto (λ j. hexagon_listed H (corner_of p j)) 6 (λ j l. go j l (ℕ_discrete (class_of (corner_of p j)) 0))
        where
          go : (j : ℕ) → j < 6 → Dec (class_of (corner_of p j) ≡ 0) → hexagon_listed H (corner_of p j) ≡ true
          go j l (yes c) =
              ap (λ (b : Bool). not b || H (corner_of p j)) (eq-eqb (class_of (corner_of p j)) 0 c)
              ∙ ap H (neighbour-hexagon p j m n l c)
              ∙ is_true (H (hexagon_round p (j / 2))) (inside-all H p n (of-true h) (j / 2) (omega arith))
          go j l (no c) = ap (λ (b : Bool). not b || H (corner_of p j)) (ne_eqb (class_of (corner_of p j)) 0 c)

      internal-same : internal H p ≡ inside_base H p
      internal-same = same_test (internal H p) (inside_base H p) internal-inside inside-internal

    -- the record of a point of the base
    vertex-same : in_base cs p ≡ true → base_record H p ≡ base_vertex H p
    unfolding corner_record
    vertex-same h = go (ℕ_discrete (class_of p) 0)
      where
        go : Dec (class_of p ≡ 0) → base_record H p ≡ base_vertex H p
        go (yes c) =
            let inside : inside_base H p ≡ true = centre-inside H p c ∙ base-centre cs p g h c in
            rw (inside, eq-eqb (class_of p) 0 c)
        go (no c) = rw (internal-same (base-depth cs p g h) c, ne_eqb (class_of p) 0 c)

    pub list-sheet : as_option (cond (in_base cs p) (Some (base_record H p)) None) ≡ base_sheet H p
    unfolding base_sheet
    list-sheet = go (in_base cs p) refl ∙ ap (λ (b : Bool). cond b (Some (base_vertex H p)) None) in-same
      where
        go : (b : Bool) → in_base cs p ≡ b → as_option (cond b (Some (base_record H p)) None) ≡ cond b (Some (base_vertex H p)) None
        go true h = ap Some (vertex-same h)
        go false h = refl

-- ---- a base that is accepted
module _ (t : List ℕ) (cs : List ℤ) (z : (base_of t cs).number ≡ 0) where
  pub base-sheet : (p : Point) → sheet_of (base_of t cs).bytes p ≡ base_sheet (is_listed cs) p
  base-sheet p = ap as_option (base-holds t cs z p) ∙ list-sheet cs (base-list t cs z) p

  pub base-model : CentreSet (is_listed cs)
  base-model = list-model cs (base-list t cs z)
