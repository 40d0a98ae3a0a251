-- How the call ends, for all lists, over sheets: "21 for a list that no sequence of accepted subdivisions from that base leaves, room aside", both ways.
-- `Spelled` a list of numbers is a list of pairs, whole · `good-unbad`, `unbad-good` "2" exactly where the base list is refused · `traced-told` the record of
-- the sheet that a sequence leaves · `Ends`, `how-it-ends` · `refused-21`, `untraced-21` the two directions · `somebody` no vertex's record is all zeros. That it is so of tables is crate agreed.
-- Assumes nothing.
use Rattle.std.specs.Prelude.{◌≡◌, ◌≢◌, Bool, true, false, ◌&&◌, List, ℕ, ◌+◌, ◌-◌, ◌%◌, eqb, ltb, ℤ, length, Option, Some, None}
use Rattle.std.proofs.Math.Path.{refl}
use Rattle.std.proofs.Common.{sym, ◌∙◌, ap, arith, eq-eqb, ltb-false, le-ltb, eqb-true}
use Rattle.std.proofs.Math.Bool.{cond}
use Rattle.laws.specs.Each.{not-both, both_left, both_right}
use Rattle.laws.specs.Choices.{of-true}
use Rattle.lattice.specs.Points.{normal_of}
use Rattle.lattice.specs.Ranks.{rank_of, birth_of, parent_of}
use Rattle.lattice.specs.Records.{nobody}
use Rattle.lattice.specs.declared.points.Point.{Point}
use Rattle.lattice.specs.declared.records.Record.{Record}
use Rattle.geometry.specs.Forms.{form-normal}
use Rattle.growth.specs.Sheets.{Sheet, vertex}
use Rattle.growth.specs.Model.{internal_of, by_splits, mesh_of}
use Rattle.centres.specs.Centres.{centres_in, is_listed, bad_place, unpaired, GoodList}
use Rattle.centres.specs.MarkLaws.{good-list, none_first}
use Rattle.engine.specs.Engine.{pairs_in, made_at, times_of, present_by, star_by, record_by, judged_to, left_by}
use Rattle.engine.specs.Engine.{VertexAfter, vertex_after, refusal, tell_at, tell_of, bad_base, vertex_of}
use Rattle.engine.specs.Traced.{Division, Traced, Spells, judged-traced, traced-judged, traced-record}

-- the whole list of numbers is these pairs
pub record Spelled (ps : List ℤ) (l : List Division) : Type 0 where
  pub whole : length ps % 4 ≡ 0
  pub pairs : Spells ps (pairs_in ps) l

-- ---- a base list that is judged good
pub good-unbad : (cs : List ℤ) → GoodList cs → bad_base cs ≡ false
good-unbad cs g =
    (λ i. cond (g.paired i) true (ltb (bad_place cs) (centres_in cs))) ∙ le-ltb (bad_place cs) (centres_in cs) (omega (arith, none_first cs g))

pub unbad-good : (cs : List ℤ) → bad_base cs ≡ false → GoodList cs
unbad-good cs h = go (unpaired cs) refl h
  where
    go : (b : Bool) → unpaired cs ≡ b → cond b true (ltb (bad_place cs) (centres_in cs)) ≡ false → GoodList cs
    go true e k = absurd (not-both refl k)
    go false e k = good-list cs e (ltb-false (bad_place cs) (centres_in cs) k)

-- ---- the answer, by cases
module _ (cs ps : List ℤ) (a b : ℤ) (m : ℕ) where
  abbrev H : Point → Bool
  H = is_listed cs

  abbrev p : Point
  p = normal_of a b m

  pub answer-2 : bad_base cs ≡ true → vertex_of cs ps a b m ≡ refusal 2
  unfolding vertex_of
  answer-2 h = (λ i. cond (h i) (refusal 2) (cond (left_by H ps) (tell_of cs ps p) (refusal 21)))

  answer-21 : bad_base cs ≡ false → left_by H ps ≡ false → vertex_of cs ps a b m ≡ refusal 21
  unfolding vertex_of
  answer-21 h k = (λ i. cond (h i) (refusal 2) (cond (k i) (tell_of cs ps p) (refusal 21)))

  answer-told : bad_base cs ≡ false → left_by H ps ≡ true → vertex_of cs ps a b m ≡ tell_of cs ps p
  unfolding vertex_of
  answer-told h k = (λ i. cond (h i) (refusal 2) (cond (k i) (tell_of cs ps p) (refusal 21)))

  left-true : (l : List Division) (R : Sheet) → Traced H l R → Spelled ps l → left_by H ps ≡ true
  left-true l R g s = (λ i. eq-eqb (length ps % 4) 0 s.whole i && (traced-judged H ps (pairs_in ps) l R g s.pairs).judged i)

  -- a good base and a sequence, room aside: the sheet's record
  pub traced-told : GoodList cs → (l : List Division) (R : Sheet) → Traced H l R → Spelled ps l → vertex_of cs ps a b m ≡ tell_at (R p)
  traced-told g l R k s =
      answer-told (good-unbad cs g) (left-true l R k s) ∙ ap tell_at (traced-record H ps (pairs_in ps) l R k s.pairs p (of-true (form-normal a b m)))

  -- ---- "21 for a list that no sequence of accepted subdivisions from that base leaves, room aside"
  pub data Ends : Type 0 where
    bad : (GoodList cs → ⊥) → vertex_of cs ps a b m ≡ refusal 2 → Ends
    unmade : GoodList cs → ((l : List Division) (R : Sheet) → Spelled ps l → Traced H l R → ⊥) → vertex_of cs ps a b m ≡ refusal 21 → Ends
    absent : GoodList cs → (l : List Division) (R : Sheet) → Spelled ps l → Traced H l R → R p ≡ None → vertex_of cs ps a b m ≡ refusal 3 → Ends
    given : GoodList cs → (l : List Division) (R : Sheet) → Spelled ps l → Traced H l R → (r : Record) → R p ≡ Some r
        → vertex_of cs ps a b m ≡ vertex_after 0 r → Ends

  -- what is judged good is left by a sequence
  judged-left : left_by H ps ≡ true → (l : List Division) × (R : Sheet) × Spelled ps l × Traced H l R
  judged-left h =
      let w = eqb-true (length ps % 4) 0 (both_left (eqb (length ps % 4) 0) (judged_to H ps (pairs_in ps)) h) in
      let j = judged-traced H ps (pairs_in ps) (both_right (eqb (length ps % 4) 0) (judged_to H ps (pairs_in ps)) h) in
      (j.list, mesh_of H (times_of ps (pairs_in ps)), record { whole = w; pairs = j.spells }, j.traced)

  pub how-it-ends : Ends
  how-it-ends = go (bad_base cs) refl (left_by H ps) refl
    where
      told-by : GoodList cs → (l : List Division) (R : Sheet) → Spelled ps l → Traced H l R → (o : Option Record) → R p ≡ o → Ends
      told-by g l R s k None e = absent g l R s k e (traced-told g l R k s ∙ ap tell_at e)
      told-by g l R s k (Some r) e = given g l R s k r e (traced-told g l R k s ∙ ap tell_at e)

      go : (x : Bool) → bad_base cs ≡ x → (y : Bool) → left_by H ps ≡ y → Ends
      go true e y f = bad (λ g. not-both e (good-unbad cs g)) (answer-2 e)
      go false e false f = unmade (unbad-good cs e) (λ l R s k. not-both (left-true l R k s) f) (answer-21 e f)
      go false e true f =
          let (l, R, s, k) = judged-left f in
          told-by (unbad-good cs e) l R s k (R p) refl

  pub refused-21 : (vertex_of cs ps a b m).number ≡ 21 → (l : List Division) (R : Sheet) → Spelled ps l → Traced H l R → ⊥
  refused-21 h l R s k = go how-it-ends
    where
      number : {x : VertexAfter} → vertex_of cs ps a b m ≡ x → x.number ≡ 21
      number e = ap (λ (x : VertexAfter). x.number) (sym e) ∙ h

      go : Ends → ⊥
      go (bad n e) = let z = number e in omega arith
      go (unmade g n e) = n l R s k
      go (absent g l' R' s' k' x e) = let z = number e in omega arith
      go (given g l' R' s' k' r x e) = let z = number e in omega arith

  pub untraced-21 : GoodList cs → ((l : List Division) (R : Sheet) → Spelled ps l → Traced H l R → ⊥) → vertex_of cs ps a b m ≡ refusal 21
  untraced-21 g n = go how-it-ends
    where
      go : Ends → vertex_of cs ps a b m ≡ refusal 21
      go (bad x e) = absurd (x g)
      go (unmade g' x e) = e
      go (absent g' l R s k x e) = absurd (n l R s k)
      go (given g' l R s k r x e) = absurd (n l R s k)

-- ---- all zeros is no vertex's record: at [0, 0, 0], a centre, none has degree 0
star-some : (p : Point) (zero first second third : Bool) (i k b n : ℕ) → (cond zero (vertex p 6 i n) (by_splits p first second third k b n)).d ≢ 0
unfolding by_splits
star-some p true x y z i k b n e = omega arith
star-some p false false false false i k b n e = omega arith
star-some p false true false false i k b n e = omega arith
star-some p false false true false i k b n e = omega arith
star-some p false false false true i k b n e = omega arith
star-some p false true true false i k b n e = omega arith
star-some p false true false true i k b n e = omega arith
star-some p false false true true i k b n e = omega arith
star-some p false true true true i k b n e = omega arith

pub somebody : (H : Point → Bool) (ps : List ℤ) (n : ℕ) (p : Point) → record_by H ps n p ≢ Some nobody
unfolding record_by
somebody H ps n p = go (present_by H ps n p) refl (internal_of H p) refl
  where
    level : ℕ
    level = rank_of p + times_of ps n p

    told : Bool → Record
    told i = cond i (star_by ps n p level) (vertex p 0 0 0)

    is : (a : Record) → Some a ≡ Some nobody → a ≡ nobody
    is a e = cc

    -- the hexagon at [0, 0] is listed, or it is not
    centre : present_by H ps n nobody.at ≡ internal_of H nobody.at
    centre = unfold present_by internal_of in refl

    go : (b : Bool) → present_by H ps n p ≡ b → (i : Bool) → internal_of H p ≡ i → cond b (Some (told i)) None ≢ Some nobody
    go false f i g e = let z : ◌≡◌ {A = ℕ} 0 1 = cc in omega arith
    go true f true g e =
        star-some p (eqb (rank_of p) 0) (made_at ps n (parent_of p 0) (rank_of p - 1)) (made_at ps n (parent_of p 1) (rank_of p - 1))
        (made_at ps n (parent_of p 2) (rank_of p - 1)) (level % 2) (birth_of p) (rank_of p - 1) level (ap (λ (r : Record). r.d) (is (told true) e))
    go true f false g e =
        let q : p ≡ nobody.at = ap (λ (r : Record). r.at) (is (told false) e) in
        not-both (sym centre ∙ ap (present_by H ps n) (sym q) ∙ f) (ap (internal_of H) (sym q) ∙ g)
