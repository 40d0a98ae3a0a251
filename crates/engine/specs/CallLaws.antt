-- The calls by cases: the lists judged, and what is then told.
-- `judge-bad`, `judge-long`, `judge-unfit`, `judge-good` the number · `ready_by` what is then known ·
-- `call-refused`, `call-told` the answer.
-- Assumes nothing.
use Rattle.std.specs.Prelude.{◌≡◌, ◌≢◌, Bool, ◌&&◌, List, ℕ, ◌%◌, ◌≤◌, ◌<◌, ltb, ℤ, length}
use Rattle.std.proofs.Math.Path.{refl}
use Rattle.std.proofs.Common.{sym, ◌∙◌, subst, arith, eq-eqb, ne_eqb, lt-ltb, le-ltb}
use Rattle.std.proofs.Math.Bool.{true, false, cond}
use Rattle.lattice.specs.Points.{normal_of}
use Rattle.lattice.specs.Records.{nobody}
use Rattle.lattice.specs.Refusals.{number_of}
use Rattle.lattice.specs.declared.refusals.Refusal.{Refusal}
use Rattle.lattice.specs.declared.refusals.Refusal.TheVariants.{NotInOrder, BadList, NoRecord, NotSix, LastLevel, Torn, NoRoom, NotValid, NotAbove, NotGrown, Redundant, Short, Boundary, BadFinding, AtTheRim, BadOutline, TwoRecords, NotLeft}
use Rattle.growth.specs.Sheets.{CentreSet}
use Rattle.centres.specs.Centres.{centres_in, is_listed, bad_place, unpaired}
use Rattle.centres.specs.Marks.{in_marks}
use Rattle.centres.specs.ModelLaws.{list-model}
use Rattle.engine.specs.Engine.{pairs_in, judged_to, left_by, vertex_after, refusal, tell_of, bad_base, vertex_of}
use Rattle.engine.specs.Scan.{judge_of, Ready}
use Rattle.engine.specs.Ends.{unbad-good}

-- the number by the two tests
abbrev num : Bool → Bool → ℕ
num x y = cond x 2 (cond y 0 21)

module _ (cs ps : List ℤ) where
  by_tests : (x y : Bool) → bad_base cs ≡ x → left_by (is_listed cs) ps ≡ y → num x y ≡ judge_of cs ps
  unfolding judge_of
  by_tests x y e f = λ i. num (sym e i) (sym f i)

  -- ---- the base list
  pub judge-unpaired : unpaired cs ≡ true → 2 ≡ judge_of cs ps
  judge-unpaired h =
      by_tests true (left_by (is_listed cs) ps) (λ i. cond (h i) true (ltb (bad_place cs) (centres_in cs))) refl

  pub judge-bad : unpaired cs ≡ false → bad_place cs < centres_in cs → 2 ≡ judge_of cs ps
  judge-bad h l =
      by_tests true (left_by (is_listed cs) ps)
      ((λ i. cond (h i) true (ltb (bad_place cs) (centres_in cs))) ∙ lt-ltb (bad_place cs) (centres_in cs) l) refl

  pub base-fine : unpaired cs ≡ false → centres_in cs ≤ bad_place cs → bad_base cs ≡ false
  base-fine h l = (λ i. cond (h i) true (ltb (bad_place cs) (centres_in cs))) ∙ le-ltb (bad_place cs) (centres_in cs) l

  -- ---- the pairs
  module _ (g : bad_base cs ≡ false) where
    pub judge-long : length ps % 4 ≢ 0 → 21 ≡ judge_of cs ps
    judge-long n = by_tests false false g (λ i. ne_eqb (length ps % 4) 0 n i && judged_to (is_listed cs) ps (pairs_in ps))

    pub centre-set : CentreSet (is_listed cs)
    centre-set = list-model cs (unbad-good cs g)

    -- the marks are those of the list
    module _ (w : length ps % 4 ≡ 0) (m : List ℕ) (e : in_marks m ≡ is_listed cs) where
      pub marks-set : CentreSet (in_marks m)
      marks-set = subst CentreSet (sym e) centre-set

      left_is : (b : Bool) → judged_to (in_marks m) ps (pairs_in ps) ≡ b → left_by (is_listed cs) ps ≡ b
      left_is b h = (λ i. eq-eqb (length ps % 4) 0 w i && judged_to (sym e i) ps (pairs_in ps)) ∙ h

      pub judge-unfit : judged_to (in_marks m) ps (pairs_in ps) ≡ false → 21 ≡ judge_of cs ps
      judge-unfit h = by_tests false false g (left_is false h)

      pub judge-good : judged_to (in_marks m) ps (pairs_in ps) ≡ true → 0 ≡ judge_of cs ps
      judge-good h = by_tests false true g (left_is true h)

      pub ready_by : judged_to (in_marks m) ps (pairs_in ps) ≡ true → Ready cs ps m
      ready_by h = record { marked = e; base = marks-set; judged = h }

  -- ---- the answer
  module _ (a b : ℤ) (m : ℕ) where
    pub call-refused : judge_of cs ps ≢ 0 → vertex_after (judge_of cs ps) nobody ≡ vertex_of cs ps a b m
    unfolding vertex_of judge_of
    call-refused n = go (bad_base cs) (left_by (is_listed cs) ps) n
      where
        go : (x y : Bool) → (num x y ≡ 0 → ⊥)
            → vertex_after (num x y) nobody ≡ cond x (refusal 2) (cond y (tell_of cs ps (normal_of a b m)) (refusal 21))
        go true y h = refl
        go false true h = absurd (h refl)
        go false false h = refl

    pub call-told : judge_of cs ps ≡ 0 → tell_of cs ps (normal_of a b m) ≡ vertex_of cs ps a b m
    unfolding vertex_of judge_of
    call-told n = go (bad_base cs) (left_by (is_listed cs) ps) n
      where
        go : (x y : Bool) → num x y ≡ 0 → tell_of cs ps (normal_of a b m) ≡ cond x (refusal 2) (cond y (tell_of cs ps (normal_of a b m)) (refusal 21))
        go true y h = absurd (omega arith)
        go false true h = refl
        go false false h = absurd (omega arith)
