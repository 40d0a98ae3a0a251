-- In a grown mesh every adjacent of an internal vertex is there: no neighbour query is torn.
-- A vertex of degree 3, 4 or 5 has a step to each of its parents that has not been subdivided at its birth level b, and for each parent that has, two
-- steps of level b + 1, beside it (`Slot`,
-- `slots`). The parents are there (specs/GrownLocal); and what lies beside a subdivided parent was made by it (`beside-left`, `beside-right`).
-- `closed-neighbours`.
-- Assumes nothing.
use Rattle.std.specs.Prelude.{◌≡◌, ◌≢◌, Bool, cond, eqb, Some}
use Rattle.std.proofs.Math.Path.{refl, ap}
use Rattle.std.proofs.Common.{sym, ◌∙◌, subst, arith, le_trans}
use Rattle.std.proofs.Math.Bool.{true, false}
use Prim.Native.Nat.{ℕ, zero, suc, ◌+◌, ◌*◌, ◌%◌, ◌≤◌, ◌<◌}
use Rattle.std.proofs.Math.Decide.{ℕ_discrete}
use Rattle.lattice.specs.Records.{orientations_of, valid_of}
use Rattle.lattice.specs.RecordLaws.{Inner, inner}
use Rattle.laws.specs.Choices.{is_true, of-true}
use Rattle.lattice.specs.Stars.{adjacent_at}
use Rattle.geometry.specs.SideLaws.{Dir, turn2, turn10}
use Rattle.geometry.specs.StarSteps.{turn_of, down_of, star-step}
use Rattle.lattice.specs.declared.points.Point.{Point}
use Rattle.lattice.specs.declared.records.Record.{Record}
use Rattle.growth.specs.Sheets.{given_by}
use Rattle.growth.specs.Model.{Counts, by_splits, mesh_of}
use Rattle.growth.specs.Normal.{Pt, rank, birth, move, back, birth-lt, out-rank}
use Rattle.growth.specs.Parents.{par, par-dir, par-back, par-rank, par-move, creator-new, aside-l, aside-r}
use Rattle.growth.specs.BaseLaws.{base-in}
use Rattle.growth.specs.Closed.{T, star_at, pres_at, int_at, rec-at, Good}
use Rattle.growth.specs.Updates.{look-inside}
use Rattle.growth.specs.Subdivide.{closed-adjacent, record-normal}
use Rattle.growth.specs.Link.{at, record_is, good-in}
use Rattle.growth.specs.Local.{Here}
use Rattle.growth.specs.LocalTests.{some-there}
use Rattle.growth.specs.GrownLocal.{parents-there, there-is}
use Rattle.std.proofs.Math.Dec as D
use Rattle.growth.specs.Model as M
use Rattle.growth.specs.OneStep as One

-- ---- the steps of a star of degree 3, 4 or 5: s tells which of the three parents have been subdivided
pub data Slot (s : ℕ → Bool) (k b e i : ℕ) : Type 0 where
  single : (t : ℕ) → t < 3 → s t ≡ false → e ≡ k + 4 * t → i ≡ b → Slot s k b e i
  left : (t : ℕ) → t < 3 → s t ≡ true → e ≡ (k + 4 * t + 1) % 12 → i ≡ suc b → Slot s k b e i
  right : (t : ℕ) → t < 3 → s t ≡ true → e ≡ (k + 4 * t + 11) % 12 → i ≡ suc b → Slot s k b e i

module _ (s : ℕ → Bool) (p : Point) (k b n : ℕ) (small : k < 4) where
  -- at each place one of the three parents answers
  slots : (s0 s1 s2 : Bool) → s 0 ≡ s0 → s 1 ≡ s1 → s 2 ≡ s2 → (j : ℕ) → j < (by_splits p s0 s1 s2 k b n).d → (by_splits p s0 s1 s2 k b n).d ≢ 6
      → Slot s k b (((by_splits p s0 s1 s2 k b n).k + turn_of (by_splits p s0 s1 s2 k b n).d j) % 12)
      ((by_splits p s0 s1 s2 k b n).n.0 + down_of (by_splits p s0 s1 s2 k b n).d j)
  unfolding by_splits turn_of down_of
  slots false false false h0 h1 h2 zero l less = single 0 (omega arith) h0 (omega arith) (omega arith)
  slots false false false h0 h1 h2 (suc zero) l less = single 1 (omega arith) h1 (omega arith) (omega arith)
  slots false false false h0 h1 h2 (suc (suc zero)) l less = single 2 (omega arith) h2 (omega arith) (omega arith)
  slots false false false h0 h1 h2 (suc (suc (suc j))) l less = absurd (omega arith)
  slots false false true h0 h1 h2 zero l less = single 0 (omega arith) h0 (omega arith) (omega arith)
  slots false false true h0 h1 h2 (suc zero) l less = single 1 (omega arith) h1 (omega arith) (omega arith)
  slots false false true h0 h1 h2 (suc (suc zero)) l less = right 2 (omega arith) h2 (omega arith) (omega arith)
  slots false false true h0 h1 h2 (suc (suc (suc zero))) l less = left 2 (omega arith) h2 (omega arith) (omega arith)
  slots false false true h0 h1 h2 (suc (suc (suc (suc j)))) l less = absurd (omega arith)
  slots false true false h0 h1 h2 zero l less = single 2 (omega arith) h2 (omega arith) (omega arith)
  slots false true false h0 h1 h2 (suc zero) l less = single 0 (omega arith) h0 (omega arith) (omega arith)
  slots false true false h0 h1 h2 (suc (suc zero)) l less = right 1 (omega arith) h1 (omega arith) (omega arith)
  slots false true false h0 h1 h2 (suc (suc (suc zero))) l less = left 1 (omega arith) h1 (omega arith) (omega arith)
  slots false true false h0 h1 h2 (suc (suc (suc (suc j)))) l less = absurd (omega arith)
  slots false true true h0 h1 h2 zero l less = single 0 (omega arith) h0 (omega arith) (omega arith)
  slots false true true h0 h1 h2 (suc zero) l less = right 1 (omega arith) h1 (omega arith) (omega arith)
  slots false true true h0 h1 h2 (suc (suc zero)) l less = left 1 (omega arith) h1 (omega arith) (omega arith)
  slots false true true h0 h1 h2 (suc (suc (suc zero))) l less = right 2 (omega arith) h2 (omega arith) (omega arith)
  slots false true true h0 h1 h2 (suc (suc (suc (suc zero)))) l less = left 2 (omega arith) h2 (omega arith) (omega arith)
  slots false true true h0 h1 h2 (suc (suc (suc (suc (suc j))))) l less = absurd (omega arith)
  slots true false false h0 h1 h2 zero l less = single 1 (omega arith) h1 (omega arith) (omega arith)
  slots true false false h0 h1 h2 (suc zero) l less = single 2 (omega arith) h2 (omega arith) (omega arith)
  slots true false false h0 h1 h2 (suc (suc zero)) l less = right 0 (omega arith) h0 (omega arith) (omega arith)
  slots true false false h0 h1 h2 (suc (suc (suc zero))) l less = left 0 (omega arith) h0 (omega arith) (omega arith)
  slots true false false h0 h1 h2 (suc (suc (suc (suc j)))) l less = absurd (omega arith)
  slots true false true h0 h1 h2 zero l less = single 1 (omega arith) h1 (omega arith) (omega arith)
  slots true false true h0 h1 h2 (suc zero) l less = right 2 (omega arith) h2 (omega arith) (omega arith)
  slots true false true h0 h1 h2 (suc (suc zero)) l less = left 2 (omega arith) h2 (omega arith) (omega arith)
  slots true false true h0 h1 h2 (suc (suc (suc zero))) l less = right 0 (omega arith) h0 (omega arith) (omega arith)
  slots true false true h0 h1 h2 (suc (suc (suc (suc zero)))) l less = left 0 (omega arith) h0 (omega arith) (omega arith)
  slots true false true h0 h1 h2 (suc (suc (suc (suc (suc j))))) l less = absurd (omega arith)
  slots true true false h0 h1 h2 zero l less = single 2 (omega arith) h2 (omega arith) (omega arith)
  slots true true false h0 h1 h2 (suc zero) l less = right 0 (omega arith) h0 (omega arith) (omega arith)
  slots true true false h0 h1 h2 (suc (suc zero)) l less = left 0 (omega arith) h0 (omega arith) (omega arith)
  slots true true false h0 h1 h2 (suc (suc (suc zero))) l less = right 1 (omega arith) h1 (omega arith) (omega arith)
  slots true true false h0 h1 h2 (suc (suc (suc (suc zero)))) l less = left 1 (omega arith) h1 (omega arith) (omega arith)
  slots true true false h0 h1 h2 (suc (suc (suc (suc (suc j))))) l less = absurd (omega arith)
  slots true true true h0 h1 h2 j l less = absurd (less refl)

-- ---- beside a parent x of p, in direction a: one direction on or back, a level down, is what x made
module _ (p : Pt) (b t : ℕ) (ht : t < 3) (f : rank p ≡ suc b) where
  abbrev a : ℕ
  a = birth p + 4 * t

  abbrev x : Pt
  x = par p t b

  da : Dir a b
  da = par-dir p t b ht f

  odd : (a s b : ℕ) → s % 2 ≡ 1 → a % 2 ≡ b % 2 → (a + s) % 12 % 2 ≡ suc b % 2
  odd a s b h e = twelve (a + s) ∙ one a s b h e
    where
      twelve : (x : ℕ) → x % 12 % 2 ≡ x % 2
      twelve x = omega arith

      one : (a s b : ℕ) → s % 2 ≡ 1 → a % 2 ≡ b % 2 → (a + s) % 2 ≡ suc b % 2
      one a s b h e = omega arith

  -- x's step in direction a + s ends, after a turn of u, where a step of level b in direction a + 6 does: at p. So from p the way there is direction a + v
  beside : (s u w v : ℕ) → s % 2 ≡ 1 → ((g : ℕ) → Dir g (suc b) → Dir ((g + u) % 12) (suc b))
      → ((g : ℕ) → Dir g (suc b) → move (move x g (suc b)) ((g + u) % 12) (suc b) ≡ move x ((g + w) % 12) b)
      → ((a + s) % 12 + w) % 12 ≡ (a + 6) % 12 → (((a + s) % 12 + u) % 12 + 6) % 12 ≡ (a + v) % 12
      → (g : ℕ) × Dir g (suc b) × (move p ((a + v) % 12) (suc b) ≡ move x g (suc b))
  beside s u w v h turn aside on there =
      let g = (a + s) % 12 in
      let k = (g + u) % 12 in
      let dg : Dir g (suc b) = (omega arith, odd a s b h da.1) in
      let home : move (move x g (suc b)) k (suc b) ≡ p = aside g dg ∙ ap (λ (e : ℕ). move x e b) on ∙ sym (par-back p x t b ht f refl) in (
        g,
        dg,
        ap (λ (e : ℕ). move p e (suc b)) (sym there) ∙ ap (λ (y : Pt). move y ((k + 6) % 12) (suc b)) (sym home)
            ∙ back (move x g (suc b)) k (suc b) (turn g dg),
      )

  beside-left : (g : ℕ) × Dir g (suc b) × (move p ((a + 1) % 12) (suc b) ≡ move x g (suc b))
  beside-left = beside 5 2 1 1 refl (λ g. turn2 g (suc b)) (λ g dg. aside-l x (move x g (suc b)) g b ((g + 2) % 12) dg refl refl) (on a da.0)
      (there a da.0)
    where
      on : (a : ℕ) → a < 12 → ((a + 5) % 12 + 1) % 12 ≡ (a + 6) % 12
      on a l = omega arith

      there : (a : ℕ) → a < 12 → (((a + 5) % 12 + 2) % 12 + 6) % 12 ≡ (a + 1) % 12
      there a l = omega arith

  beside-right : (g : ℕ) × Dir g (suc b) × (move p ((a + 11) % 12) (suc b) ≡ move x g (suc b))
  beside-right = beside 7 10 11 11 refl (λ g. turn10 g (suc b)) (λ g dg. aside-r x (move x g (suc b)) g b ((g + 10) % 12) dg refl refl) (on a da.0)
      (there a da.0)
    where
      on : (a : ℕ) → a < 12 → ((a + 7) % 12 + 11) % 12 ≡ (a + 6) % 12
      on a l = omega arith

      there : (a : ℕ) → a < 12 → (((a + 7) % 12 + 10) % 12 + 6) % 12 ≡ (a + 11) % 12
      there a l = omega arith

-- ---- so each is there
module _ (H : Point → Bool) (c : Pt → ℕ) (good : Good H c) (p : Pt) where
  -- a parent
  pub parent-there : (b t : ℕ) → rank p ≡ suc b → pres_at H c p (suc b) ≡ true → int_at H p (suc b) ≡ true → t < 3
      → pres_at H c (par p t b) (rank (par p t b)) ≡ true
  unfolding pres_at int_at
  parent-there zero t f pr i ht =
      let z : rank (par p t 0) ≡ 0 = (let l = par-rank p t 0 ht f in omega arith) in
      let y = base-in H p t f (of-true i) ht in
      ap (pres_at H c (par p t 0)) z ∙ is_true (given_by H (par p t 0).at) (subst (λ (q : Pt). D.T (given_by H q.at)) (sym (par-move p t 0)) y)
  parent-there (suc i) t f pr int ht = parents-there H c good p i t f pr ht

  -- what a subdivided parent x made
  made : (x : Pt) (g b : ℕ) → Dir g (suc b) → rank x ≤ b → T c x b ≡ true → pres_at H c (move x g (suc b)) (rank (move x g (suc b))) ≡ true
  unfolding pres_at
  made x g b dg l on = ap (pres_at H c (move x g (suc b))) (out-rank x g (suc b) dg (omega arith)) ∙ ap (λ (q : Pt). T c q b) (creator-new x g b dg l) ∙ on

  slot-there : (b e i : ℕ) → rank p ≡ suc b → pres_at H c p (suc b) ≡ true → int_at H p (suc b) ≡ true → Slot (λ t. T c (par p t b) b) (birth p) b e i
      → pres_at H c (move p e i) (rank (move p e i)) ≡ true
  slot-there b e i f pr int (single t ht off x y) =
      let m : move p e i ≡ par p t b = (λ j. move p (x j) (y j)) ∙ sym (par-move p t b) in
      subst (λ (q : Pt). pres_at H c q (rank q) ≡ true) (sym m) (parent-there b t f pr int ht)
  slot-there b e i f pr int (left t ht on x y) =
      let (g, dg, m) = beside-left p b t ht f in
      subst (λ (q : Pt). pres_at H c q (rank q) ≡ true) (sym ((λ j. move p (x j) (y j)) ∙ m)) (made (par p t b) g b dg (par-rank p t b ht f) on)
  slot-there b e i f pr int (right t ht on x y) =
      let (g, dg, m) = beside-right p b t ht f in
      subst (λ (q : Pt). pres_at H c q (rank q) ≡ true) (sym ((λ j. move p (x j) (y j)) ∙ m)) (made (par p t b) g b dg (par-rank p t b ht f) on)

-- ---- at the document's points
module _ (H : Point → Bool) (c : Counts) (good : M.Good H c) where
  twelve-turns : (d k : ℕ) → k < orientations_of d → k < 12
  twelve-turns d k h = le_trans h (go (eqb d 3) (eqb d 4) (eqb d 5) (eqb d 6))
    where
      go : (x y z w : Bool) → cond x 4 (cond y 12 (cond z 12 (cond w 2 0))) ≤ 12
      go true y z w = omega arith
      go false true z w = omega arith
      go false false true w = omega arith
      go false false false true = omega arith
      go false false false false = omega arith

  pub closed-neighbours : (r : Record) → mesh_of H c r.at ≡ Some r → D.T (valid_of r) → r.d ≢ 0 → (j : ℕ) → j < r.d → Here (mesh_of H c) (adjacent_at r j)
  unfolding move star_at
  closed-neighbours r x v n j h = go (ℕ_discrete r.d 6) (rank p) refl
    where
      p : Pt
      p = record { at = r.at; normal = record-normal H c r.at r x }

      i : Inner r
      i = inner r v n

      go : Dec (r.d ≡ 6) → (f : ℕ) → rank p ≡ f → Here (mesh_of H c) (adjacent_at r j)
      go (yes d) f e = let (u, y, _) = closed-adjacent H c good r x d j (omega arith) in some-there (mesh_of H c) (adjacent_at r j) u y
      go (no d) zero e =
          let s = (look-inside (pres_at H (at c) p 0) (int_at H p 0) p.at (star_at (at c) p 0) r
          (sym (rec-at H (at c) p 0 e) ∙ sym (record_is c H p) ∙ x) n).2 in
          absurd (d (ap (λ (w : Record). w.d) s))
      go (no d) (suc b) e =
          let (pr, int, s) = look-inside (pres_at H (at c) p (suc b)) (int_at H p (suc b)) p.at (star_at (at c) p (suc b)) r
          (sym (rec-at H (at c) p (suc b) e) ∙ sym (record_is c H p) ∙ x) n in
          let g = (r.k + turn_of r.d j) % 12 in
          let m = r.n.0 + down_of r.d j in
          let sl : Slot (λ t. T (at c) (par p t b) b) (birth p) b g m =
          subst (λ (w : Record). (j < w.d) → (w.d ≢ 6) → Slot (λ t. T (at c) (par p t b) b) (birth p) b ((w.k + turn_of w.d j) % 12)
          (w.n.0 + down_of w.d j)) (sym s)
          (λ h' d'. slots (λ t. T (at c) (par p t b) b) p.at (birth p) b (rank p + c p.at) (birth-lt p) (T (at c) (par p 0 b) b)
          (T (at c) (par p 1 b) b) (T (at c) (par p 2 b) b) refl refl refl j h' d') h d in
          subst (Here (mesh_of H c)) (sym (star-step r j i.low i.top h (twelve-turns r.d r.k i.turn) i.parity))
          (there-is H c good (move p g m) (slot-there H (at c) (good-in c H good) p b g m e pr int sl))
