-- A private device: the model (specs/Model), at a normalised point, is the closed form that the proofs compute with (specs/Closed); at any other point
-- there is no record.
-- `record_is`, `full_is`, `record-none` · `good-in` counts that are good, in the closed form · `more-is` one more subdivision.
-- Assumes nothing.
use Rattle.std.specs.Prelude.{◌≡◌, ◌&&◌, ltb, Some, None}
use Rattle.std.proofs.Math.Path.{refl, sym, ap}
use Rattle.std.proofs.Common.{◌∙◌, true≢false}
use Rattle.std.proofs.Math.Bool.{Bool, true, false, cond}
use Prim.Native.Nat.{ℕ, zero, suc, ◌+◌, ◌*◌, ◌-◌, ◌≤◌}
use native.Mathlib.Omega.{arith}
use Rattle.std.proofs.Math.Dec.{eqb}
use borrow.Author.Tests.{eq-eqb, ne_eqb}
use Rattle.laws.specs.Bools.{and_left}
use Rattle.laws.specs.Choices.{is_true, of-true, when_true_lem, when_false}
use Rattle.lattice.specs.Points.{is_normal}
use Rattle.lattice.specs.Ranks.{rank_of, birth_of, parent_of}
use Rattle.geometry.specs.RankLaws.{rank_between}
use Rattle.lattice.specs.declared.points.Point.{Point}
use Rattle.lattice.specs.declared.records.Record.{Record}
use Rattle.growth.specs.Sheets.{vertex, given_by}
use Rattle.growth.specs.Model.{Counts, subdivided, present_of, internal_of, by_splits, star_record, mesh_of, full_of, more}
use Rattle.growth.specs.Normal.{Pt, rank, birth, move, same?}
use Rattle.growth.specs.Parents.{par, creator_of}
use Rattle.growth.specs.Closed.{look, T, star_at, bump, pres_at, int_at, full_at, rec, Good, rec-at}
use Rattle.std.proofs.Math.Dec as D
use Rattle.lattice.specs.Ranks as L
use Rattle.growth.specs.Model as M

-- the counts at normalised points
abbrev pub at : Counts → Pt → ℕ
at c q = c q.at

-- ---- parents and creators
pub par-is : (p : Pt) (t b : ℕ) → rank p ≡ suc b → (par p t b).at ≡ parent_of p.at t
unfolding par move birth rank parent_of
par-is p t b f = let e : b ≡ rank_of p.at - 1 = omega arith in ap (λ (i : ℕ). L.move_of p.at (birth_of p.at + 4 * t) i) e

pub creator-is : (p : Pt) (i : ℕ) → rank p ≡ suc (suc i) → (creator_of p i).at ≡ L.creator_of p.at
unfolding creator_of L.creator_of rank
creator-is p i f = rw (r 0, r 1) (go (ltb (rank_of (parent_of p.at 0)) (rank_of p.at - 1)) (ltb (rank_of (parent_of p.at 1)) (rank_of p.at - 1)))
  where
    r : (t : ℕ) → ltb (rank_of (par p t (suc i)).at) (suc i) ≡ ltb (rank_of (parent_of p.at t)) (rank_of p.at - 1)
    r t = let e : suc i ≡ rank_of p.at - 1 = omega arith in (λ j. ltb (rank_of (par-is p t (suc i) f j)) (e j))

    go : (x y : Bool) → (cond x (par p 0 (suc i)) (cond y (par p 1 (suc i)) (par p 2 (suc i)))).at ≡ cond x (parent_of p.at 0)
        (cond y (parent_of p.at 1) (parent_of p.at 2))
    go true y = par-is p 0 (suc i) f
    go false true = par-is p 1 (suc i) f
    go false false = par-is p 2 (suc i) f

module _ (c : Counts) where
  T-is : (q : Pt) (i : ℕ) → T (at c) q i ≡ subdivided c q.at i
  unfolding T subdivided rank
  T-is q i = refl

  pub par-split : (p : Pt) (t b : ℕ) → rank p ≡ suc b → T (at c) (par p t b) b ≡ subdivided c (parent_of p.at t) (rank_of p.at - 1)
  unfolding rank
  par-split p t b f = let e : b ≡ rank_of p.at - 1 = omega arith in T-is (par p t b) b ∙ (λ j. subdivided c (par-is p t b f j) (e j))

  star-is : (p : Pt) (f : ℕ) → rank p ≡ f → star_at (at c) p f ≡ star_record c p.at (rank_of p.at - 1) (rank_of p.at + c p.at)
  unfolding star_at rank birth
  star-is p zero f = sym (when_true_lem (eqb (rank_of p.at) 0) _ _ (of-true (eq-eqb (rank_of p.at) 0 f)))
  star-is p (suc b) f =
      let e : b ≡ rank_of p.at - 1 = omega arith in
      (λ j. by_splits p.at (par-split p 0 b f j) (par-split p 1 b f j) (par-split p 2 b f j) (birth_of p.at) (e j) (rank_of p.at + c p.at))
      ∙ sym (when_false (eqb (rank_of p.at) 0) _ _ (λ t. omega (arith, D.eqb→eq (rank_of p.at) 0 t)))

  module _ (H : Point → Bool) where
    pub deep : (p : Pt) (i : ℕ) → rank p ≡ suc (suc i) → eqb p.at.m.0 0 ≡ false
    unfolding rank
    deep p i f = ne_eqb p.at.m.0 0 (λ z. omega (arith, (rank_between p.at p.normal).1))

    pub shallow : (p : Pt) → rank p ≤ 1 → eqb p.at.m.0 0 ≡ true
    unfolding rank
    shallow p l = eq-eqb p.at.m.0 0 (omega (arith, (rank_between p.at p.normal).0))

    pres-is : (p : Pt) (f : ℕ) → rank p ≡ f → pres_at H (at c) p f ≡ present_of H c p.at
    unfolding pres_at present_of rank
    pres-is p zero f = rw (shallow p (omega arith))
    pres-is p (suc zero) f = rw (shallow p (omega arith))
    pres-is p (suc (suc i)) f =
        T-is (creator_of p i) i ∙ (λ j. subdivided c (creator-is p i f j) (less j)) ∙ ap (λ (b : Bool). b && was) (sym (is_true (is_normal p.at) p.normal))
        ∙ ap (λ (b : Bool). cond b (given_by H p.at) (is_normal p.at && was)) (sym (deep p i f))
      where
        was : Bool
        was = subdivided c (L.creator_of p.at) (rank_of p.at - 2)

        less : i ≡ rank_of p.at - 2
        less = below (rank p) f refl
          where
            below : (r : ℕ) → r ≡ suc (suc i) → r ≡ rank_of p.at → i ≡ rank_of p.at - 2
            below r e g = omega arith

    int_is : (p : Pt) (f : ℕ) → rank p ≡ f → int_at H p f ≡ internal_of H p.at
    unfolding int_at internal_of
    int_is p zero f = rw (shallow p (omega arith))
    int_is p (suc zero) f = rw (shallow p (omega arith))
    int_is p (suc (suc i)) f = rw (deep p i f)

    pub look_is : (a i : Bool) (p : Point) (r : Record) → look a i p r ≡ cond a (Some (cond i r (vertex p 0 0 0))) None
    unfolding look
    look_is false i p r = refl
    look_is true false p r = refl
    look_is true true p r = refl

    pub record_is : (p : Pt) → mesh_of H c p.at ≡ rec H (at c) p
    unfolding mesh_of
    record_is p =
        sym (rec-at H (at c) p (rank p) refl ∙ (λ j. look (pres-is p (rank p) refl j) (int_is p (rank p) refl j) p.at (star-is p (rank p) refl j))
        ∙ look_is (present_of H c p.at) (internal_of H p.at) p.at (star_record c p.at (rank_of p.at - 1) (rank_of p.at + c p.at)))

    pub record-none : (p : Point) → is_normal p ≡ false → mesh_of H c p ≡ None
    unfolding mesh_of present_of
    record-none p e =
        ap (λ (b : Bool). cond b (Some (cond (internal_of H p) (star_record c p (rank_of p - 1) (rank_of p + c p)) (vertex p 0 0 0))) None)
        (gone (eqb p.m.0 0) refl)
      where
        gone : (b : Bool) → eqb p.m.0 0 ≡ b → present_of H c p ≡ false
        gone true z = absurd (true≢false (sym (rw z) ∙ e))
        gone false z =
            ap (λ (b : Bool). cond b (given_by H p) (is_normal p && subdivided c (L.creator_of p) (rank_of p - 2))) z
            ∙ ap (λ (b : Bool). b && subdivided c (L.creator_of p) (rank_of p - 2)) e

    -- ---- degree 6
    abbrev three : Point → Bool
    three p = subdivided c (parent_of p 0) (rank_of p - 1) && (subdivided c (parent_of p 1) (rank_of p - 1) && subdivided c (parent_of p 2) (rank_of p - 1))

    full-opened : (p : Pt) → full_of H c p.at ≡ (internal_of H p.at && cond (eqb (rank_of p.at) 0) true (three p.at))
    unfolding full_of
    full-opened p = ap (λ (b : Bool). b && (internal_of H p.at && cond (eqb (rank_of p.at) 0) true (three p.at)))
        (is_true (is_normal p.at) p.normal)

    and-true : (b : Bool) → (b && true) ≡ b
    and-true true = refl
    and-true false = refl

    assoc4 : (w x y z : Bool) → (w && x && y && z) ≡ (w && (x && (y && z)))
    assoc4 true true y z = refl
    assoc4 true false y z = refl
    assoc4 false x y z = refl

    full_at_lem : (p : Pt) (f : ℕ) → rank p ≡ f → full_at H (at c) p f ≡ full_of H c p.at
    unfolding full_at rank
    full_at_lem p zero f =
        unfold int_at in (int_is p zero f)
        ∙ sym (full-opened p ∙ ap (λ (b : Bool). internal_of H p.at && cond b true (three p.at)) (eq-eqb (rank_of p.at) 0 f)
        ∙ and-true (internal_of H p.at))
    full_at_lem p (suc b) f =
        assoc4 (int_at H p (suc b)) (T (at c) (par p 0 b) b) (T (at c) (par p 1 b) b) (T (at c) (par p 2 b) b)
        ∙ (λ j. int_is p (suc b) f j && (par-split p 0 b f j && (par-split p 1 b f j && par-split p 2 b f j)))
        ∙ sym (full-opened p ∙ ap (λ (b : Bool). internal_of H p.at && cond b true (three p.at)) (ne_eqb (rank_of p.at) 0 (omega arith)))

    pub full_is : (p : Pt) → full_at H (at c) p (rank p) ≡ full_of H c p.at
    full_is p = full_at_lem p (rank p) refl

    pub full-normal : (p : Point) → D.T (full_of H c p) → D.T (is_normal p)
    unfolding full_of
    full-normal p t = and_left (is_normal p) (internal_of H p && cond (eqb (rank_of p) 0) true (three p)) t

    pub good-in : M.Good H c → Good H (at c)
    good-in good q l = full_is q ∙ is_true (full_of H c q.at) (good q.at l)

-- ---- one more subdivision of q
pub more-is : (q : Pt) (c : Counts) → at (more q.at c) ≡ bump q (at c)
unfolding more bump same?
more-is q c = refl
