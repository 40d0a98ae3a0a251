-- The hexagons laid, step by step as the code goes.
-- `step_to` the step to a corner, `step-near` it is short · `beside-is`, `corner-is` a corner by its numbers · `corner-within`, `centre-within` it is near ·
-- `corner-boundary`, `corner-six`, `corner-three`, `corner-at` its record · `lay_at_lem`, `lay-there`, `lay-free`, `lay-full` one record ·
-- `corners-none`, `corners-more`, `corners-full`, `corners-hexagon` one hexagon · `all_none`, `all_more`, `all-full` the list ·
-- `base-by`, `base-unfit`, `base-unpaired`, `base-bad`, `base-laid` what the call answers.
-- Assumes nothing.
use Rattle.std.specs.Prelude.{◌≡◌, Bool, List, eqb, ltb, ℤ, pos, nat_abs, ◌+ℤ◌, ◌*ℤ◌, length}
use Rattle.std.proofs.Math.Path.{refl, sym, ap}
use Rattle.std.proofs.Common.{◌∙◌, subst, eq-eqb, ne_eqb, lt-ltb, le-ltb}
use Rattle.std.proofs.Math.Bool.{true, false, cond}
use Prim.Native.Nat.{ℕ, zero, suc, ◌+◌, ◌≤◌, ◌<◌}
use native.Mathlib.Omega.{arith}
use Rattle.std.proofs.Math.Decide.{ℕ_discrete}
use Rattle.laws.specs.Parts.{up-dn-eq, up-mul, dn-mul}
use Rattle.laws.specs.Rules.{rule, ◌≤?◌, ◌&◌}
use Rattle.laws.specs.Sizes.{abs-add}
use Rattle.lattice.specs.Points.{pt, turns, normal_of, sum_of, class_of}
use Rattle.lattice.specs.PointLaws.{alike, alike-eq}
use Rattle.lattice.specs.declared.points.Point.{Point}
use Rattle.lattice.specs.declared.records.Record.{Record}
use Rattle.table.specs.Slots.{fits_length, cleared_of}
use Rattle.table.specs.Search.{find_of}
use Rattle.table.specs.Entries.{enter_at, enter_of}
use Rattle.table.specs.declared.probe.Found.{Found}
use Rattle.centres.specs.Marks.{in_marks}
use Rattle.centres.specs.MarkLaws.{good-is, marked-good, listed_at}
use Rattle.base.specs.Base.{centres_in, centre_at, is_listed, bad_place, corner_of, internal, at0, centre_record, corner_record, hexagon_of, Laid, Room}
use Rattle.base.specs.Base.{NoRoom, lay, lay_at, lay_hexagon, lay_all, laid_of, BaseAfter, base_after, from_laid, unpaired, base_of}
use Rattle.base.specs.Laying.{Within, lay_corners}
use Rattle.table.specs.declared.probe.Found.TheVariants as found

-- ---- corners

-- the step to corner j: the first one, turned
abbrev pub step_to : ℕ → Point
step_to j = turns j (pt (pos 1) (pos 0) 0)

abbrev pub step_a : ℕ → ℤ
step_a j = (step_to j).a

abbrev pub step_b : ℕ → ℤ
step_b j = (step_to j).b

step_is : (j : ℕ) → j < 6 → step_to j ≡ pt (step_a j) (step_b j) 0
unfolding turns
step_is j h = alike-eq _ _ (rule 6 (λ j. alike (step_to j) (pt (step_a j) (step_b j) 0)) tt j h)

step_small : (j : ℕ) → j < 6 → (nat_abs (step_a j) ≤ 1) × (nat_abs (step_b j) ≤ 1)
unfolding turns
step_small j h = rule 6 (λ j. nat_abs (step_a j) ≤? 1 & nat_abs (step_b j) ≤? 1) tt j h

pub step-near : (j : ℕ) → j < 6 → Within 1 (step_to j)
step-near j h = record { wide = (step_small j h).0; high = (step_small j h).1; depth = ap (λ (p : Point). p.m.0) (step_is j h) }

times-one : (z : ℤ) → z *ℤ pos 1 ≡ z
times-one z = up-dn-eq (z *ℤ pos 1) z (omega (arith, up-mul z 1)) (omega (arith, dn-mul z 1))

sum-flat : (a b x y : ℤ) → sum_of (pt a b 0) (pt x y 0) ≡ pt (a +ℤ x) (b +ℤ y) 0
unfolding normal_of
sum-flat a b x y = λ i. pt (times-one a i +ℤ times-one x i) (times-one b i +ℤ times-one y i) 0

-- a step from p, by its numbers
pub beside-is : (p s : Point) → p.m.0 ≡ 0 → s.m.0 ≡ 0 → pt (p.a +ℤ s.a) (p.b +ℤ s.b) 0 ≡ sum_of p s
beside-is p s d e =
    sym (sum-flat p.a p.b s.a s.b) ∙ (λ i. sum_of (pt p.a p.b (sym d i)) (pt s.a s.b (sym e i)))

pub corner-is : (p : Point) (j : ℕ) → p.m.0 ≡ 0 → j < 6 → pt (p.a +ℤ step_a j) (p.b +ℤ step_b j) 0 ≡ corner_of p j
corner-is p j d h = beside-is p (step_to j) d (step-near j h).depth

pub corner-within : (n : ℕ) (p : Point) (j : ℕ) → Within n p → j < 6 → Within (n + 1) (corner_of p j)
corner-within n p j w h =
    let s = step_small j h in
    subst (Within (n + 1)) (corner-is p j w.depth h)
    (record {
      wide = omega (arith, abs-add p.a (step_a j), w.wide, s.0);
      high = omega (arith, abs-add p.b (step_b j), w.high, s.1);
      depth = refl;
    })

-- a centre of the list is near
pub centre-within : (m : List ℕ) (cs : List ℤ) (i : ℕ) → in_marks m ≡ is_listed cs → i < centres_in cs → Within 250 (centre_at cs i)
centre-within m cs i e h =
    let p = centre_at cs i in
    let g = good-is p (marked-good m cs (centres_in cs) p e (listed_at cs (centres_in cs) i h)).1 in
    record { wide = g.wide; high = g.high; depth = refl }

-- ---- records

module _ (listed : Point → Bool) (q : Point) where
  pub corner-boundary : internal listed q ≡ false → at0 q 0 0 ≡ corner_record listed q
  unfolding corner_record
  corner-boundary h = sym (ap (λ (b : Bool). cond b (cond (eqb (class_of q) 1) (at0 q 6 0) (at0 q 3 2)) (at0 q 0 0)) h)

  inner : internal listed q ≡ true → (b : Bool) → eqb (class_of q) 1 ≡ b → cond b (at0 q 6 0) (at0 q 3 2) ≡ corner_record listed q
  unfolding corner_record
  inner h b e =
      sym (ap (λ (b : Bool). cond b (cond (eqb (class_of q) 1) (at0 q 6 0) (at0 q 3 2)) (at0 q 0 0)) h ∙ ap (λ (b : Bool). cond b (at0 q 6 0) (at0 q 3 2)) e)

  pub corner-six : internal listed q ≡ true → class_of q ≡ 1 → at0 q 6 0 ≡ corner_record listed q
  corner-six h e = inner h true (eq-eqb (class_of q) 1 e)

  pub corner-at : (corner_record listed q).at ≡ q
  unfolding corner_record
  corner-at = go (internal listed q) (eqb (class_of q) 1)
    where
      go : (a b : Bool) → (cond a (cond b (at0 q 6 0) (at0 q 3 2)) (at0 q 0 0)).at ≡ q
      go true true = refl
      go true false = refl
      go false b = refl

  pub corner-three : internal listed q ≡ true → (class_of q ≡ 1 → ⊥) → at0 q 3 2 ≡ corner_record listed q
  corner-three h e = inner h false (ne_eqb (class_of q) 1 e)

-- ---- one record laid, by where its search ended

module _ (t : List ℕ) (r : Record) where
  pub lay_at_lem : (o : Found) → find_of t r.at ≡ o → lay_at t r o ≡ lay (Room t) r
  lay_at_lem o e = ap (lay_at t r) (sym e)

  pub lay-there : (i : ℕ) → find_of t r.at ≡ found.At i → Room (enter_of t r) ≡ lay (Room t) r
  unfolding enter_of
  lay-there i e = ap (λ (o : Found). Room (enter_at t r o)) e ∙ lay_at_lem (found.At i) e

  pub lay-free : (i : ℕ) → find_of t r.at ≡ found.Free i → Room (enter_of t r) ≡ lay (Room t) r
  lay-free i e = lay_at_lem (found.Free i) e

  pub lay-full : find_of t r.at ≡ found.Full → NoRoom ≡ lay (Room t) r
  lay-full e = lay_at_lem found.Full e

-- ---- one hexagon: its centre, then its corners

module _ (listed : Point → Bool) (p : Point) (x : Laid) where
  pub corners-none : lay_corners listed p 0 x ≡ x
  unfolding lay_corners
  corners-none = refl

  pub corners-more : (j : ℕ) (l : Laid) → lay_corners listed p j x ≡ l → lay_corners listed p (j + 1) x ≡ lay l (corner_record listed (corner_of p j))
  unfolding lay_corners
  corners-more j l e =
      let s : j + 1 ≡ suc j = omega arith in
      ap (λ (i : ℕ). lay_corners listed p i x) s ∙ ap (λ (y : Laid). lay y (corner_record listed (corner_of p j))) e

  pub corners-full : (n k : ℕ) → k ≤ n → lay_corners listed p k x ≡ NoRoom → lay_corners listed p n x ≡ NoRoom
  unfolding lay_corners
  corners-full zero k h e = let s : 0 ≡ k = omega arith in ap (λ (i : ℕ). lay_corners listed p i x) s ∙ e
  corners-full (suc n) k h e = go (ℕ_discrete k (suc n)) (λ l. corners-full n k l e)
    where
      go : Dec (k ≡ suc n) → (k ≤ n → lay_corners listed p n x ≡ NoRoom) → lay_corners listed p (suc n) x ≡ NoRoom
      go (yes s) ih = ap (λ (i : ℕ). lay_corners listed p i x) (sym s) ∙ e
      go (no s) ih = ap (λ (y : Laid). lay y (corner_record listed (corner_of p n))) (ih (omega arith))

  pub corners-hexagon : (j : ℕ) → lay_corners listed p j (lay x (centre_record p)) ≡ lay_hexagon listed p (suc j) x
  unfolding lay_corners lay_hexagon hexagon_of
  corners-hexagon zero = refl
  corners-hexagon (suc j) = ap (λ (y : Laid). lay y (corner_record listed (corner_of p j))) (corners-hexagon j)

-- ---- all hexagons, in the order of the list

pub hexagon-no-room : (listed : Point → Bool) (p : Point) (k : ℕ) → lay_hexagon listed p k NoRoom ≡ NoRoom
unfolding lay_hexagon
hexagon-no-room listed p zero = refl
hexagon-no-room listed p (suc k) = ap (λ (y : Laid). lay y (hexagon_of listed p k)) (hexagon-no-room listed p k)

module _ (cs : List ℤ) (x : Laid) where
  pub all_none : lay_all cs 0 x ≡ x
  unfolding lay_all
  all_none = refl

  pub all_more : (n : ℕ) (l : Laid) → lay_all cs n x ≡ l → lay_all cs (n + 1) x ≡ lay_hexagon (is_listed cs) (centre_at cs n) 7 l
  unfolding lay_all
  all_more n l e = let s : n + 1 ≡ suc n = omega arith in ap (λ (i : ℕ). lay_all cs i x) s ∙ ap (lay_hexagon (is_listed cs) (centre_at cs n) 7) e

  pub all-full : (n k : ℕ) → k ≤ n → lay_all cs k x ≡ NoRoom → lay_all cs n x ≡ NoRoom
  unfolding lay_all
  all-full zero k h e = let s : 0 ≡ k = omega arith in ap (λ (i : ℕ). lay_all cs i x) s ∙ e
  all-full (suc n) k h e = go (ℕ_discrete k (suc n)) (λ l. all-full n k l e)
    where
      go : Dec (k ≡ suc n) → (k ≤ n → lay_all cs n x ≡ NoRoom) → lay_all cs (suc n) x ≡ NoRoom
      go (yes s) ih = ap (λ (i : ℕ). lay_all cs i x) (sym s) ∙ e
      go (no s) ih = ap (lay_hexagon (is_listed cs) (centre_at cs n) 7) (ih (omega arith)) ∙ hexagon-no-room (is_listed cs) (centre_at cs n) 7

-- ---- the call

module _ (t : List ℕ) (cs : List ℤ) where
  -- the answered by the three judgements, and what was laid
  abbrev pub judged : Bool → Bool → Bool → Laid → BaseAfter
  judged fit odd bad l =
      cond fit
      (cond odd (base_after 2 0 (cleared_of t))
      (cond bad (base_after 2 (bad_place cs) (cleared_of t))
      (from_laid t l)))
      (base_after 1 0 t)

  pub base-by : (fit odd bad : Bool) (l : Laid) → fits_length (length t) ≡ fit → unpaired cs ≡ odd → ltb (bad_place cs) (centres_in cs) ≡ bad → laid_of t cs ≡ l
      → judged fit odd bad l ≡ base_of t cs
  unfolding base_of
  base-by fit odd bad l f o b e = sym (λ i. judged (f i) (o i) (b i) (e i))

  pub base-unfit : fits_length (length t) ≡ false → base_after 1 0 t ≡ base_of t cs
  base-unfit f = base-by false (unpaired cs) (ltb (bad_place cs) (centres_in cs)) (laid_of t cs) f refl refl refl

  module _ (f : fits_length (length t) ≡ true) where
    pub base-unpaired : unpaired cs ≡ true → base_after 2 0 (cleared_of t) ≡ base_of t cs
    base-unpaired o = base-by true true (ltb (bad_place cs) (centres_in cs)) (laid_of t cs) f o refl refl

    module _ (o : unpaired cs ≡ false) where
      pub base-bad : bad_place cs < centres_in cs → base_after 2 (bad_place cs) (cleared_of t) ≡ base_of t cs
      base-bad h = base-by true false true (laid_of t cs) f o (lt-ltb (bad_place cs) (centres_in cs) h) refl

      pub base-laid : centres_in cs ≤ bad_place cs → (l : Laid) → l ≡ laid_of t cs → from_laid t l ≡ base_of t cs
      base-laid h l e = base-by true false false l f o (le-ltb (bad_place cs) (centres_in cs) h) (sym e)

  pub laid-is : lay_all cs (centres_in cs) (Room (cleared_of t)) ≡ laid_of t cs
  unfolding laid_of
  laid-is = refl
