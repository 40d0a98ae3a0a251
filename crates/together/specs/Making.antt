-- What a plan was made of is told by its records, whatever its history.
-- `ground-held` of depth 0 it has what its hexagons give, `centre-held` these are those whose centres it has · `hexagons-same`, `hexagons-one`,
-- `subdivisions-one` so there is only one set of hexagons, and one number of subdivisions · `CentresOf` a list of the centres that a table has,
-- `centres-from` there is one, `centres-accepted` a base of these is accepted where there is room for the plan · `base-told`, `hexagons-told`,
-- `subdivisions-told` it holds what the plan's own base holds, and a sixth of the vertices beyond it is the number of subdivisions.
-- Assumes nothing.
use Rattle.std.specs.Prelude.{◌≡◌, Bool, cond, not, ◌||◌, List, ℕ, ◌%◌, ◌-◌, ◌/◌, ◌≤◌, ◌<◌, eqb, ℤ, length, Some, None}
use Rattle.std.proofs.Math.Path.{refl, ap, fun_ext}
use Rattle.std.proofs.Common.{sym, ◌∙◌, arith, eq-eqb, ne_eqb, eqb-true}
use Rattle.std.proofs.Math.Bool.{true, false}
use Rattle.laws.specs.Each.{same_test, not-both}
use Rattle.laws.specs.Choices.{of-true, is_true, when_true_lem}
use Rattle.lattice.specs.Points.{class_of}
use Rattle.lattice.specs.declared.points.Point.{Point}
use Rattle.lattice.specs.declared.records.Record.{Record}
use Rattle.growth.specs.Sheets.{given_by, base_sheet}
use Rattle.growth.specs.Model.{present_of, mesh_of}
use Rattle.growth.specs.Local.{is_there, there}
use Rattle.growth.specs.Hexagons.{centre-in}
use Rattle.table.specs.Slots.{Table, slots_of}
use Rattle.table.specs.Entries.{look_up, holds, records_of}
use Rattle.table.specs.MapLaws.{lookup-point, looked-records}
use Rattle.base.specs.Base.{base_of, centre_at, centres_in, good_centre, listed_in, is_listed}
use Rattle.base.specs.BaseLaws.{base-accepts}
use Rattle.centres.specs.MarkLaws.{good-is, listed_at, listed-is}
use Rattle.base.specs.Vertices.{in_base, base_record}
use Rattle.centres.specs.Centres.{GoodList}
use Rattle.centres.specs.ModelLaws.{list-model}
use Rattle.local.specs.Sheet.{as_option, held-there}
use Rattle.grown.specs.Bases.{list-sheet}
use Rattle.grown.specs.Steps.{sheet-held}
use Rattle.grown.specs.Room.{Among, count-all, count-base}
use Rattle.counts.specs.Counts.{counts_of}
use Rattle.together.specs.GrownFrom.{GrownFrom, copied, from-grown, base-from, list-from, sheet-from, bases-same, history}
use Rattle.together.specs.Counted.{records-fit, faces-fit}

listed-centre : (cs : List ℤ) → GoodList cs → (p : Point) → is_listed cs p ≡ true → (p.m.0 ≡ 0) × (class_of p ≡ 0)
listed-centre cs g p e =
    let (i, l, x) = listed-is cs (centres_in cs) p e in
    (ap (λ (p : Point). p.m.0) (sym x), ap class_of (sym x) ∙ (good-is (centre_at cs i) (g.good i l)).class)

module _ (t : List ℕ) (cs : List ℤ) (S : ℕ) (K : GrownFrom t cs S) where
  pub ground-held : (p : Point) → p.m.0 ≡ 0 → holds t p ≡ given_by (is_listed cs) p
  unfolding mesh_of present_of there
  ground-held p m =
      let h = history t cs S K in
      let H = is_listed cs in
      held-there t refl
      ∙ ap is_there (h.is p)
      ∙ is (present_of H h.c p) _
      ∙ when_true_lem (eqb p.m.0 0) (given_by H p) _ (of-true (eq-eqb p.m.0 0 m))
    where
      is : (a : Bool) (r : Record) → is_there (cond a (Some r) None) ≡ a
      is true r = refl
      is false r = refl

  pub centre-held : (p : Point) → p.m.0 ≡ 0 → class_of p ≡ 0 → holds t p ≡ is_listed cs p
  centre-held p m k = ground-held p m ∙ centre-in (is_listed cs) p k

  -- ---- ds lists the centres that t has, and b is laid of them
  module _ (ds : List ℤ) (g : GoodList ds) (has : (p : Point) → p.m.0 ≡ 0 → class_of p ≡ 0 → is_listed ds p ≡ holds t p) where
    same-listed : (p : Point) → is_listed ds p ≡ is_listed cs p
    same-listed p =
        same_test (is_listed ds p) (is_listed cs p) (λ e. sym (one (listed-centre ds g p e)) ∙ e) (λ e. one (listed-centre cs (list-from t cs S K) p e) ∙ e)
      where
        one : (p.m.0 ≡ 0) × (class_of p ≡ 0) → is_listed ds p ≡ is_listed cs p
        one (m, k) = has p m k ∙ centre-held p m k

    module _ (b : List ℕ) (B : GrownFrom b ds 0) where
      pub base-told : GrownFrom b cs 0
      base-told =
          let (a, A) = base-from t cs S K in
          copied b a cs 0 A (from-grown b ds 0 B).order (bases-same a b cs ds same-listed A B)

      pub hexagons-told : centres_in ds ≡ centres_in cs
      hexagons-told = let e = faces-fit b ds 0 B in let f = faces-fit b cs 0 base-told in omega (arith, e, f)

      pub subdivisions-told : ((counts_of t).vertices - (counts_of b).vertices) / 6 ≡ S
      subdivisions-told = let r = records-fit t cs S K b base-told in omega (arith, r)

-- ---- two histories of one table
module _ (t : List ℕ) (cs ds : List ℤ) (S R : ℕ) (K : GrownFrom t cs S) (L : GrownFrom t ds R) where
  has : (p : Point) → p.m.0 ≡ 0 → class_of p ≡ 0 → is_listed ds p ≡ holds t p
  has p m k = sym (centre-held t ds R L p m k)

  abbrev theirs : GoodList ds
  theirs = list-from t ds R L

  pub hexagons-same : (p : Point) → is_listed ds p ≡ is_listed cs p
  hexagons-same = same-listed t cs S K ds theirs has

  pub hexagons-one : centres_in ds ≡ centres_in cs
  hexagons-one = let (b, B) = base-from t ds R L in hexagons-told t cs S K ds theirs has b B

  pub subdivisions-one : R ≡ S
  subdivisions-one =
      let (b, B) = base-from t ds R L in
      let x = records-fit t ds R L b B in
      let y = records-fit t cs S K b (base-told t cs S K ds theirs has b B) in
      omega (arith, x, y)

-- ---- the centres read off a table
-- the points of depth 0 with a-b divisible by 3 that it has, each once
pub record CentresOf (t : List ℕ) (ds : List ℤ) : Type 0 where
  pub pairs : length ds % 2 ≡ 0
  pub class : (i : ℕ) → i < centres_in ds → class_of (centre_at ds i) ≡ 0
  pub once : (i : ℕ) → i < centres_in ds → listed_in ds i (centre_at ds i) ≡ false
  pub has : (p : Point) → p.m.0 ≡ 0 → class_of p ≡ 0 → is_listed ds p ≡ holds t p

-- every plan has such a list: the one it was laid of
pub centres-from : (t : List ℕ) (cs : List ℤ) (S : ℕ) → GrownFrom t cs S → CentresOf t cs
centres-from t cs S K =
    let l = list-from t cs S K in
    record {
      pairs = eqb-true (length cs % 2) 0 (even (eqb (length cs) 0) (eqb (length cs % 2) 0) l.paired);
      class = λ i h. (good-is (centre_at cs i) (l.good i h)).class;
      once = l.once;
      has = λ p m k. sym (centre-held t cs S K p m k);
    }
  where
    even : (a b : Bool) → a || not b ≡ false → b ≡ true
    even a true e = refl
    even true false e = absurd (not-both refl e)
    even false false e = absurd (not-both refl e)

module _ (t : List ℕ) (cs : List ℤ) (S : ℕ) (K : GrownFrom t cs S) (ds : List ℤ) (C : CentresOf t ds) where
  own : GoodList cs
  own = list-from t cs S K

  same : (p : Point) → p.m.0 ≡ 0 → class_of p ≡ 0 → is_listed ds p ≡ is_listed cs p
  same p m k = C.has p m k ∙ centre-held t cs S K p m k

  some_one : 0 < centres_in ds
  some_one =
      let (p, T) = (list-model cs own).some-centre in
      let e = is_true (is_listed cs p) T in
      let (m, k) = listed-centre cs own p e in
      let (i, l, _) = listed-is ds (centres_in ds) p (same p m k ∙ e) in
      omega (arith, l)

  good-centres : GoodList ds
  good-centres = record { paired = paired; good = good; once = C.once }
    where
      paired : eqb (length ds) 0 || not (eqb (length ds % 2) 0) ≡ false
      paired =
          let l : length ds ≡ 0 → ⊥ = (λ e. let h = some_one in omega arith) in
          λ i. ne_eqb (length ds) 0 l i || not (eq-eqb (length ds % 2) 0 C.pairs i)

      good : (i : ℕ) → i < centres_in ds → good_centre (centre_at ds i) ≡ true
      good i h =
          let p = centre_at ds i in
          let (j, l, e) = listed-is cs (centres_in cs) p (sym (same p refl (C.class i h)) ∙ listed_at ds (centres_in ds) i h) in
          ap good_centre (sym e) ∙ own.good j l

  -- the points of their base stand in the plan's own
  within : (b : List ℕ) → GrownFrom b cs 0 → (p : Point) → in_base ds p ≡ true → Among (records_of b) p
  within b B p e =
      let r = base_record (is_listed ds) p in
      let o = (from-grown b cs 0 B).order in
      let x = sheet-held (look_up b p) r
      (sheet-from b cs 0 refl B p
      ∙ ap (λ (H : Point → Bool). base_sheet H p) (sym (fun_ext (same-listed t cs S K ds good-centres C.has)))
      ∙ sym (list-sheet ds good-centres p)
      ∙ ap (λ (x : Bool). as_option (cond x (Some r) None)) e) in
      (r, looked-records b o p r x, lookup-point b o p r x)

  -- a base of them is accepted in every table with a slot for each vertex of the plan
  pub centres-accepted : (x : List ℕ) → Table x (slots_of x) → (counts_of t).vertices ≤ slots_of x → (base_of x ds).number ≡ 0
  unfolding counts_of
  centres-accepted x w room =
      let (b, B) = base-from t cs S K in
      let points = count-base (records_of b) ds (centres_in ds) (within b B) in
      let all = count-all (records_of b) (in_base ds) in
      let r = records-fit t cs S K b B in
      base-accepts x ds w good-centres (omega (arith, points, all, r, room))
