-- M3: a sheet of valid records that all pass the local test, finite and not empty, is the mesh of the H and c that are read off it; so it is grown.
-- A centre is in range since its six corners are valid, and there is a centre since from any point the way leads down, parent by parent, to depth 0.
-- `Bounded` a list holds all its points · `checked-closed` M3, one half.
-- Assumes nothing.
use Rattle.std.specs.Prelude.{◌≡◌, ◌⊎◌, Bool, ◌&&◌, ℕ, zero, suc, ◌+◌, ◌*◌, ◌-◌, ◌^◌, ◌≤◌, ◌<◌, T, leb, ℤ, pos, negsuc, ◌+ℤ◌, Option, Some, None}
use Rattle.std.proofs.Math.Path.{refl, ap, subst}
use Rattle.std.proofs.Common.{sym, ◌∙◌, inl, inr, true≢false, arith, le→leb}
use Rattle.std.proofs.Math.Bool.{true, false, cond}
use mathlib.Core.List.Memᴰ
use mathlib.Core.List.{List, [], ◌∷◌, Memᴰ}
use Rattle.std.proofs.Math.Decide.{ℕ_discrete}
use Rattle.std.proofs.Math.Dec.{eqb}
use borrow.Author.Tests.{eq-eqb, eqb-true}
use Rattle.std.proofs.Math.IntN.{nat_abs}
use Rattle.laws.specs.Bools.{and_both}
use Rattle.laws.specs.Choices.{is_true, of-true, or_split, or_left, or_right}
use Rattle.laws.specs.Each.{same_test}
use Rattle.laws.specs.Parts.{add_is, abs_is, apart}
use Rattle.laws.specs.Rules.{run, sound, complete}
use Rattle.lattice.specs.PointLaws.{alike, alike-eq}
use Rattle.lattice.specs.Points.{is_normal}
use Rattle.lattice.specs.Patterns.{orient}
use Rattle.lattice.specs.RecordLaws.{inner}
use Rattle.lattice.specs.Points.{class_of}
use Rattle.lattice.specs.Ranks.{rank_of, move_of, parent_of}
use Rattle.geometry.specs.RankLaws.{times-one, sum-a, sum-b, one}
use Rattle.geometry.specs.SideLaws.{Dir}
use Rattle.geometry.specs.SubdivisionLaws.{Sited, sited}
use Rattle.lattice.specs.declared.points.Point.{Point}
use Rattle.lattice.specs.declared.records.Record.{Record}
use Rattle.growth.specs.Sheets.{Sheet, hexagon_round, centre_test, in_list, CentreSet}
use Rattle.growth.specs.Model.{mesh_of, Good, Low}
use Rattle.growth.specs.Normal.{Pt, rank}
use Rattle.growth.specs.Parents.{par, par-rank}
use Rattle.growth.specs.Link.{at, par-is, record_is, record-none, full_is}
use Rattle.growth.specs.Hexagons.{hexagon-centre, corner-ground}
use Rattle.growth.specs.Local.{Here, Local}
use Rattle.growth.specs.LocalTests.{there-some, some-there}
use Rattle.growth.specs.GrownLaws.{Closed}
use Rattle.growth.specs.Checked.{Sound, level6, counts_of, centres, shallower, deeper}
use Rattle.growth.specs.OneStep as One
use Rattle.growth.specs.Checked as K

-- a list holds all points that are there
abbrev pub Bounded : Sheet → Type 0
Bounded R = (l : List Point) × ((p : Point) (r : Record) → R p ≡ Some r → Memᴰ p l)

-- ---- a set of points that a list bounds is listed
sieve : (Point → Bool) → List Point → List Point
sieve f [] = []
sieve f (x ∷ l) = cond (f x) (x ∷ sieve f l) (sieve f l)

alike_self : (p q : Point) → p ≡ q → T (run (alike q p))
alike_self p q e = subst (λ (x : Point). T (run (alike x p))) e (complete (alike p p) (refl, (refl, refl)))

sieve-in : (f : Point → Bool) (l : List Point) (p : Point) → T (f p) → Memᴰ p l → T (in_list (sieve f l) p)
unfolding sieve
sieve-in f [] p t h = absurd (Memᴰ.not-nil h)
sieve-in f (x ∷ l) p t h = go (Memᴰ.cases_cons h) (f x) refl (sieve-in f l p t)
  where
    go : (p ≡ x) ⊎ Memᴰ p l → (b : Bool) → f x ≡ b → (Memᴰ p l → T (in_list (sieve f l) p)) → T (in_list (cond b (x ∷ sieve f l) (sieve f l)) p)
    go (inl e) true z ih = or_left (run (alike x p)) (in_list (sieve f l) p) (alike_self p x e)
    go (inl e) false z ih = absurd (true≢false (sym (is_true (f p) t) ∙ ap f e ∙ z))
    go (inr m) true z ih = or_right (run (alike x p)) (in_list (sieve f l) p) (ih m)
    go (inr m) false z ih = ih m

in-sieve : (f : Point → Bool) (l : List Point) (p : Point) → T (in_list (sieve f l) p) → T (f p)
unfolding sieve
in-sieve f [] p t = absurd t
in-sieve f (x ∷ l) p t = go (f x) refl t (in-sieve f l p)
  where
    go : (b : Bool) → f x ≡ b → T (in_list (cond b (x ∷ sieve f l) (sieve f l)) p) → (T (in_list (sieve f l) p) → T (f p)) → T (f p)
    go false z t ih = ih t
    go true z t ih = by (or_split (run (alike x p)) (in_list (sieve f l) p) t)
      where
        by : T (run (alike x p)) ⊎ T (in_list (sieve f l) p) → T (f p)
        by (inl y) = subst (λ (q : Point). T (f q)) (alike-eq x p (sound (alike x p) y)) (of-true z)
        by (inr y) = ih y

-- ---- a number whose neighbours on both sides are at most 251 in size is at most 250
between : (z : ℤ) → nat_abs (z +ℤ pos 1) ≤ 251 → nat_abs (z +ℤ negsuc 0) ≤ 251 → nat_abs z ≤ 250
between z h k = omega (
  arith,
  add_is z (pos 1),
  add_is z (negsuc 0),
  abs_is z,
  abs_is (z +ℤ pos 1),
  abs_is (z +ℤ negsuc 0),
  apart z,
  apart
      (z +ℤ pos 1),
  apart (z +ℤ negsuc 0),
)

-- a unit step, by its numerators
pub unit-a : (p : Point) (j : ℕ) → p.m.0 ≡ 0 → j < 6 → (move_of p (2 * j) 0).m.0 ≡ 0
    → ((move_of p (2 * j) 0).a ≡ p.a +ℤ (one (2 * j)).a) × ((move_of p (2 * j) 0).b ≡ p.b +ℤ (one (2 * j)).b)
unit-a p j m h z =
    let d : Dir (2 * j) 0 = (omega arith, omega arith) in
    let s = move_of p (2 * j) 0 in (
      sym (times-one s.a (0 - s.m.0) (omega arith)) ∙ sum-a p (2 * j) 0 d (omega arith)
          ∙ ap (λ (x : ℤ). x +ℤ (one (2 * j)).a) (times-one p.a (0 - p.m.0) (omega arith)),
      sym (times-one s.b (0 - s.m.0) (omega arith)) ∙ sum-b p (2 * j) 0 d (omega arith)
          ∙ ap (λ (x : ℤ). x +ℤ (one (2 * j)).b) (times-one p.b (0 - p.m.0) (omega arith)),
    )

module _ (R : Sheet) (good : Sound R) (local : (p : Point) (r : Record) → R p ≡ Some r → Local R r) (bounded : Bounded R) where
  checked-is : (p : Point) → R p ≡ mesh_of (centres R) (counts_of R) p
  checked-is p = go (is_normal p) refl (R p) refl
    where
      go : (b : Bool) → is_normal p ≡ b → (o : Option Record) → R p ≡ o → R p ≡ mesh_of (centres R) (counts_of R) p
      go true e o x = let q : Pt = record { at = p; normal = of-true e } in K.closed_at R good local q ∙ sym (record_is (counts_of R) (centres R) q)
      go false e None x = x ∙ sym (record-none (counts_of R) (centres R) p e)
      go false e (Some r) x =
          let (s, v) = good p r x in
          absurd (true≢false (sym (is_true (is_normal p) (subst (λ (q : Point). T (is_normal q)) s (sited r v).normal)) ∙ e))

  -- what has been subdivided is there, of degree 6
  counted : (q : Point) → 0 < counts_of R q → (r : Record) × (R q ≡ Some r) × (r.d ≡ 6) × (rank_of q + counts_of R q ≡ r.n.0)
  unfolding counts_of
  counted q h = go (R q) refl h
    where
      go : (o : Option Record) → R q ≡ o → 0 < level6 o - rank_of q
          → (r : Record) × (R q ≡ Some r) × (r.d ≡ 6) × (rank_of q + (level6 (R q) - rank_of q) ≡ r.n.0)
      go None x h = absurd (omega arith)
      go (Some r) x h = by (eqb r.d 6) refl h
        where
          by : (b : Bool) → eqb r.d 6 ≡ b → 0 < cond b r.n.0 0 - rank_of q
              → (r : Record) × (R q ≡ Some r) × (r.d ≡ 6) × (rank_of q + (level6 (R q) - rank_of q) ≡ r.n.0)
          by true e h = (r, x, eqb-true r.d 6 e, (let z : level6 (R q) ≡ r.n.0 = ap level6 x ∙ ap (λ (b : Bool). cond b r.n.0 0) e in omega arith))
          by false e h = absurd (omega arith)

  checked-good : Good (centres R) (counts_of R)
  checked-good q h =
      let (r, x, d, _) = counted q h in
      let (s, v) = good q r x in
      let p : Pt = record { at = q; normal = subst (λ (y : Point). T (is_normal y)) s (sited r v).normal } in
      of-true (sym (full_is (counts_of R) (centres R) p) ∙ (One.six (centres R) (at (counts_of R)) p r (sym (K.closed_at R good local p) ∙ x) d).1)

  checked-low : Low (counts_of R)
  checked-low q h =
      let (r, x, d, l) = counted q h in
      let i = inner r (good q r x).1 (omega arith) in
      omega (arith, l, i.level)

  -- ---- the base
  checked-range : (p : Point) → T (centres R p) → T (centre_test p)
  unfolding orient
  checked-range p h =
      let (m, z, t) = K.centre-there R good local p h in
      let (r, x, s, l) = K.found R good local p t in
      let corners : (j : ℕ) → j < 6 → Here R (move_of p (2 * j) 0) =
      λ j hj. subst (λ (q : Point). Here R (move_of q (2 * j) 0)) s ((l.centre (ap (λ (q : Point). q.m.0) s ∙ m) (ap class_of s ∙ z)).1 j hj) in
      and_both (eqb p.m.0 0) (leb (nat_abs p.a) 250 && (leb (nat_abs p.b) 250 && eqb (class_of p) 0)) (of-true (eq-eqb p.m.0 0 m))
      (and_both (leb (nat_abs p.a) 250) (leb (nat_abs p.b) 250 && eqb (class_of p) 0)
      (le→leb (nat_abs p.a) 250 (between p.a (sized m z corners 0 (omega arith)).0 (sized m z corners 3 (omega arith)).0))
      (and_both (leb (nat_abs p.b) 250) (eqb (class_of p) 0)
      (le→leb (nat_abs p.b) 250 (between p.b (sized m z corners 1 (omega arith)).1 (sized m z corners 4 (omega arith)).1))
      (of-true (eq-eqb (class_of p) 0 z))))
    where
      sized : p.m.0 ≡ 0 → class_of p ≡ 0 → ((j : ℕ) → j < 6 → Here R (move_of p (2 * j) 0)) → (j : ℕ) → j < 6
          → (nat_abs (p.a +ℤ (one (2 * j)).a) ≤ 251) × (nat_abs (p.b +ℤ (one (2 * j)).b) ≤ 251)
      sized m z corners j hj =
          let (r, x) = there-some R (move_of p (2 * j) 0) (corners j hj) in
          let (s, v) = good (move_of p (2 * j) 0) r x in
          let g = subst Sited s (sited r v) in
          let d = corner-ground p m z j hj in
          let (a, b) = unit-a p j m hj d in
          let t : 251 * 3 ^ (move_of p (2 * j) 0).m.0 ≡ 251 = ap (λ (k : ℕ). 251 * 3 ^ k) d in (
            subst (λ (w : ℤ). nat_abs w ≤ 251) a (subst (λ (k : ℕ). nat_abs (move_of p (2 * j) 0).a ≤ k) t g.wide),
            subst (λ (w : ℤ). nat_abs w ≤ 251) b
                (subst (λ (k : ℕ). nat_abs (move_of p (2 * j) 0).b ≤ k) t g.high),
          )

  -- from any point that is there, parent by parent, to a centre
  find-low : (p : Point) → p.m.0 ≡ 0 → Here R p → (q : Point) × T (centres R q)
  find-low p m h = by (ℕ_discrete (class_of p) 0)
    where
      by : Dec (class_of p ≡ 0) → (q : Point) × T (centres R q)
      by (yes z) = (p, K.there-centre R good local p m z h)
      by (no z) =
          let (r, x, s, k) = K.found R good local p h in
          let ((t, ht, y), _, _) = k.corner (ap (λ (q : Point). q.m.0) s ∙ m) (λ w. z (ap class_of (sym s) ∙ w)) in
          let (m', z') = hexagon-centre p m z t ht in
          (hexagon_round p t, K.there-centre R good local (hexagon_round p t) m' z' (subst (λ (q : Point). Here R (hexagon_round q t)) s y))

  find : (n : ℕ) (p : Pt) → rank p ≤ suc n → Here R p.at → (q : Point) × T (centres R q)
  find zero p l h = find-low p.at (shallower p l) h
  find (suc n) p l h = go (rank p) refl (find n)
    where
      go : (f : ℕ) → rank p ≡ f → ((q : Pt) → rank q ≤ suc n → Here R q.at → (q : Point) × T (centres R q)) → (q : Point) × T (centres R q)
      go zero e ih = find-low p.at (shallower p (omega arith)) h
      go (suc zero) e ih = find-low p.at (shallower p (omega arith)) h
      go (suc (suc i)) e ih =
          let (r, x, s, k) = K.found R good local p.at h in
          let d = (k.deep (subst (λ (q : Point). 0 < q.m.0) (sym s) (deeper p i e))).1 0 (omega arith) in
          let lp = par-rank p 0 (suc i) (omega arith) e in
          ih (par p 0 (suc i)) (omega arith) (subst (Here R) (ap (λ (q : Point). parent_of q 0) s ∙ sym (par-is p 0 (suc i) e)) d)

  checked-base : (p : Point) (r : Record) → R p ≡ Some r → CentreSet (centres R)
  checked-base p r x =
      let (s, v) = good p r x in
      let q : Pt = record { at = p; normal = subst (λ (y : Point). T (is_normal y)) s (sited r v).normal } in
      record {
        list = sieve (centres R) bounded.0;
        lists = λ y.
            (let cs : List Point = sieve (centres R) bounded.0 in
            same_test (centres R y) (in_list cs y)
            (λ t.
            (let (r, e) = there-some R y (K.centre-there R good local y (of-true t)).2 in
            is_true (in_list cs y) (sieve-in (centres R) bounded.0 y (of-true t) (bounded.1 y r e))))
            (λ t. is_true (centres R y) (in-sieve (centres R) bounded.0 y (of-true t))));
        ranges = checked-range;
        some-centre = find (rank q) q (omega arith) (some-there R p r x);
      }

  -- M3, one half
  pub checked-closed : (p : Point) (r : Record) → R p ≡ Some r → Closed R
  checked-closed p r x =
      record {
        H = centres R;
        c = counts_of R;
        base = checked-base p r x;
        good = checked-good;
        low = checked-low;
        finite = (bounded.0, λ q h. (let (r, y, _, _) = counted q h in bounded.1 q r y));
        is = checked-is;
      }
