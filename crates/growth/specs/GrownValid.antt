-- The records of a grown mesh are valid, each at its point (`grown-sound`), and there is one (`grown-some`). So number 9's validity is no obstacle to
-- what has grown, and no new record is out of range.
-- Why: the corners of a centre within 250 are within 251, and a subdivision makes valid records (the lattice's SubdivisionLaws).
-- Assumes nothing.
use Rattle.std.proofs.lemmas.Option.{none-some, same_Some}
use Rattle.std.specs.Prelude.{◌≡◌, Bool, ◌&&◌, ℕ, ◌*◌, ◌^◌, ◌≤◌, ◌<◌, eqb, leb, ◌+ℤ◌, nat_abs, Some, None}
use Rattle.std.proofs.Math.Path.{refl, ap, subst}
use Rattle.std.proofs.Common.{sym, ◌∙◌, arith, leb→le, eq-eqb}
use Rattle.std.proofs.Math.Bool.{true, false, cond}
use Rattle.std.proofs.Math.Decide.{ℕ_discrete}
use Rattle.std.proofs.Math.Dec.{T, eqb→eq}
use Rattle.laws.specs.Bools.{and_left, and_right, and_both}
use Rattle.laws.specs.Choices.{is_true, of-true, or_left}
use Rattle.laws.specs.Rules.{◌≤?◌, ◌&◌, rule}
use Rattle.laws.specs.Sizes.{abs-add}
use Rattle.lattice.specs.Patterns.{orient}
use Rattle.lattice.specs.Stars.{adjacent_at}
use Rattle.lattice.specs.Records.{valid_of, suits_of}
use Rattle.lattice.specs.Points.{class_of}
use Rattle.geometry.specs.RankLaws.{one}
use Rattle.lattice.specs.Subdivision.{centre_of, new_of, back_of, update_of}
use Rattle.geometry.specs.SubdivisionLaws.{Sited, sited, valid-made, centre-valid, update-valid, new-valid, update-at}
use Rattle.lattice.specs.declared.points.Point.{Point}
use Rattle.lattice.specs.declared.records.Record.{Record}
use Rattle.growth.specs.Sheets.{Sheet, vertex, UntornAt, Step, hexagon_round, given_by, inside_base, base_vertex, base_sheet, centre_test, CentreSet}
use Rattle.growth.specs.Sheets.{GrownSheet, start, grow}
use Rattle.growth.specs.Normal.{point?}
use Rattle.growth.specs.Hexagons.{in-any, centre-in, hexagon-corner}
use Rattle.growth.specs.GrownLaws.{among}
use Rattle.growth.specs.Checked.{Sound}
use Rattle.growth.specs.LocalGrown.{unit-a}

-- ---- the base
small-unit : (j : ℕ) → j < 6 → (nat_abs (one (2 * j)).a ≤ 1) × (nat_abs (one (2 * j)).b ≤ 1)
unfolding orient
small-unit j h = rule 6 (λ j. nat_abs (one (2 * j)).a ≤? 1 & nat_abs (one (2 * j)).b ≤? 1) tt j h

-- a centre's parts
centre-parts : (c : Point) → T (centre_test c) → (c.m.0 ≡ 0) × (nat_abs c.a ≤ 250) × (nat_abs c.b ≤ 250) × (class_of c ≡ 0)
centre-parts c t =
    let u = and_right (eqb c.m.0 0) (leb (nat_abs c.a) 250 && (leb (nat_abs c.b) 250 && eqb (class_of c) 0)) t in
    let v = and_right (leb (nat_abs c.a) 250) (leb (nat_abs c.b) 250 && eqb (class_of c) 0) u in (
      eqb→eq c.m.0 0 (and_left (eqb c.m.0 0) (leb (nat_abs c.a) 250 && (leb (nat_abs c.b) 250 && eqb (class_of c) 0)) t),
      leb→le (nat_abs c.a) 250 (and_left (leb (nat_abs c.a) 250) (leb (nat_abs c.b) 250 && eqb (class_of c) 0) u),
      leb→le (nat_abs c.b) 250 (and_left (leb (nat_abs c.b) 250) (eqb (class_of c) 0) v),
      eqb→eq (class_of c) 0 (and_right (leb (nat_abs c.b) 250) (eqb (class_of c) 0) v),
    )

ground-sited : (p : Point) → p.m.0 ≡ 0 → nat_abs p.a ≤ 251 → nat_abs p.b ≤ 251 → Sited p
ground-sited p m a b =
    let t : 251 ≡ 251 * 3 ^ p.m.0 = sym (ap (λ (k : ℕ). 251 * 3 ^ k) m) in
    record {
      normal = or_left (eqb p.m.0 0) _ (of-true (eq-eqb p.m.0 0 m));
      depth = omega arith;
      wide = subst (λ (k : ℕ). nat_abs p.a ≤ k) t a;
      high = subst (λ (k : ℕ). nat_abs p.b ≤ k) t b;
    }

module _ (H : Point → Bool) (b : CentreSet H) where
  base-sited : (p : Point) → p.m.0 ≡ 0 → T (given_by H p) → Sited p
  base-sited p m h = go (ℕ_discrete (class_of p) 0)
    where
      go : Dec (class_of p ≡ 0) → Sited p
      go (yes z) = let (_, x, y, _) = centre-parts p (b.ranges p (subst T (centre-in H p z) h)) in ground-sited p m (omega arith) (omega arith)
      go (no z) =
          let (t, ht, k) = in-any H p z h in
          let c = hexagon_round p t in
          let (mc, x, y, _) = centre-parts c (b.ranges c k) in
          let (j, hj, e) = hexagon-corner p m z t ht in
          let (u, v) = small-unit j hj in
          let (ea, eb) = unit-a c j mc hj (ap (λ (q : Point). q.m.0) e ∙ m) in
          let fa : nat_abs p.a ≡ nat_abs (c.a +ℤ (one (2 * j)).a) = ap nat_abs (sym (ap (λ (q : Point). q.a) e) ∙ ea) in
          let fb : nat_abs p.b ≡ nat_abs (c.b +ℤ (one (2 * j)).b) = ap nat_abs (sym (ap (λ (q : Point). q.b) e) ∙ eb) in
          ground-sited p m (omega (arith, abs-add c.a (one (2 * j)).a)) (omega (arith, abs-add c.b (one (2 * j)).b))

  base-vertex : (p : Point) → ((base_vertex H p).at ≡ p) × T (suits_of (base_vertex H p).d (base_vertex H p).k (base_vertex H p).n.0)
  base-vertex p = go (inside_base H p) (eqb (class_of p) 0) (eqb (class_of p) 1)
    where
      go : (x y z : Bool) → let w = cond x (cond y (vertex p 3 0 0) (cond z (vertex p 6 0 0) (vertex p 3 2 0))) (vertex p 0 0 0) in
          (w.at ≡ p) × T (suits_of w.d w.k w.n.0)
      go false y z = (refl, tt)
      go true true z = (refl, tt)
      go true false true = (refl, tt)
      go true false false = (refl, tt)

  pub base-sound : Sound (base_sheet H)
  unfolding base_sheet
  base-sound p r x = go (eqb p.m.0 0 && given_by H p) refl x
    where
      go : (t : Bool) → (eqb p.m.0 0 && given_by H p) ≡ t → cond t (Some (base_vertex H p)) None ≡ Some r → (r.at ≡ p) × T (valid_of r)
      go false e y = absurd (none-some r y)
      go true e y =
          let z : base_vertex H p ≡ r = same_Some (base_vertex H p) r y in
          let (a, s) = base-vertex p in
          let m = eqb→eq p.m.0 0 (and_left (eqb p.m.0 0) (given_by H p) (of-true e)) in
          let g = base-sited p m (and_right (eqb p.m.0 0) (given_by H p) (of-true e)) in
          (ap (λ (w : Record). w.at) (sym z) ∙ a, subst (λ (w : Record). T (valid_of w)) z (valid-made (base_vertex H p) (subst Sited (sym a) g) s))

  pub base-some : (p : Point) × ((r : Record) × (base_sheet H p ≡ Some r))
  unfolding base_sheet
  base-some =
      let (p, h) = b.some-centre in
      let (m, _, _, z) = centre-parts p (b.ranges p h) in (
        p,
        (
          base_vertex H p,
          ap (λ (t : Bool). cond t (Some (base_vertex H p)) None) (is_true (eqb p.m.0 0 && given_by H p)
              (and_both (eqb p.m.0 0) (given_by H p) (of-true (eq-eqb p.m.0 0 m)) (subst T (sym (centre-in H p z)) h))),
        ),
      )

-- ---- a subdivision
module _ (R R' : Sheet) (v : Record) (sound : Sound R) (x : R v.at ≡ Some v) (six : v.d ≡ 6) (below : v.n.0 < 12) (w : UntornAt R v)
    (s : Step R v R') where
  valid : T (valid_of v)
  valid = (sound v.at v x).1

  old-sited : (j : ℕ) → j < 6 → Sited (adjacent_at v j)
  old-sited j h = let (u, y, _) = w.there j h in let (a, t) = sound (adjacent_at v j) u y in subst Sited a (sited u t)

  pub step-sound : Sound R'
  step-sound p r y = go (point? p v.at) (among (λ j. (new_of v j).at) p 6) (among (adjacent_at v) p 6)
    where
      -- what is there is the record z
      is : (z : Record) → R' p ≡ Some z → z.at ≡ p → T (valid_of z) → (r.at ≡ p) × T (valid_of r)
      is z e a t = let f : z ≡ r = same_Some z r (sym e ∙ y) in (ap (λ (q : Record). q.at) (sym f) ∙ a, subst (λ (q : Record). T (valid_of q)) f t)

      go : Dec (p ≡ v.at) → Dec ((j : ℕ) × (j < 6) × (p ≡ (new_of v j).at)) → Dec ((j : ℕ) × (j < 6) × (p ≡ adjacent_at v j)) → (r.at ≡ p) × T (valid_of r)
      go (yes e) b c = is (centre_of v) (ap R' e ∙ s.centre) (sym e) (centre-valid v valid six below)
      go (no e) (yes (j, h, f)) c = is (new_of v j) (ap R' f ∙ s.new j h) (sym f) (new-valid v valid six below j h old-sited)
      go (no e) (no b) (yes (j, h, f)) =
          let (u, z, a) = w.there j h in
          let (m, t) = sound (adjacent_at v j) u z in
          is (update_of (back_of v.k j) u) (ap R' f ∙ s.old j h u z) (update-at (back_of v.k j) u ∙ m ∙ sym f)
          (update-valid (back_of v.k j) v.n.0 u below t a)
      go (no e) (no b) (no c) = sound p r (sym (s.rest p e (λ j h f. b (j, h, f)) (λ j h f. c (j, h, f))) ∙ y)

pub grown-sound : (R : Sheet) → GrownSheet R → Sound R
grown-sound R (start H R' b e) = λ p r x. base-sound H b p r (sym (e p) ∙ x)
grown-sound R (grow R₀ v R₁ g x d n w s) = step-sound R₀ R₁ v (grown-sound R₀ g) x d n w s

pub grown-some : (R : Sheet) → GrownSheet R → (p : Point) × ((r : Record) × (R p ≡ Some r))
grown-some R (start H R' b e) = let (p, (r, x)) = base-some H b in (p, (r, e p ∙ x))
grown-some R (grow R₀ v R₁ g x d n w s) = (v.at, (centre_of v, s.centre))
