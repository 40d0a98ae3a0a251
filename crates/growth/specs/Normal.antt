-- A private device: normalised points as a type of their own, so that the laws of steps and ranks hold of every one of them. Outside this crate nobody sees it.
-- `Pt` · `rank`, `birth`, `move` · `back`, `inj`, `out-rank`, `out-birth`, `in-rank`, `creator`, `side-l`, `side-r`, `fan` the lattice's laws ·
-- `same?` two of them are one.
-- Assumes nothing.
use Rattle.std.specs.Prelude.{◌≡◌, refl, ◌≢◌, Bool, true, false, ℕ, suc, ◌+◌, ◌%◌, ◌≤◌, ◌<◌, T}
use Rattle.std.proofs.Common.{sym, ◌∙◌, ap, true≢false}
use mathlib.Core.HLevel.{is_prop→PathP}
use Rattle.std.proofs.Math.Dec.{T_prop}
use Rattle.laws.specs.Rules.{run, sound, complete}
use Rattle.laws.specs.Choices.{is_true, is_false, of-true}
use Rattle.lattice.specs.PointLaws.{alike, alike-eq}
use Rattle.lattice.specs.Points.{is_normal}
use Rattle.lattice.specs.Ranks.{rank_of, birth_of, move_of}
use Rattle.geometry.specs.GeometryLaws.{move-back, move-inj}
use Rattle.geometry.specs.SideLaws.{Dir, vector}
use Rattle.geometry.specs.SubdivisionLaws.{sum-normal}
use Rattle.geometry.specs.RankLaws.{birth-below, birth-parity}
use Rattle.lattice.specs.declared.points.Point.{Point}
use Rattle.geometry.specs.SideLaws as Side
use Rattle.geometry.specs.RankSteps as Rank

pub record Pt : Type 0 where
  pub at : Point
  pub normal : T (is_normal at)

pub pt-eq : (p q : Pt) → p.at ≡ q.at → p ≡ q
pt-eq p q e = λ i. record { at = e i; normal = is_prop→PathP (λ i. T (is_normal (e i))) (λ i. T_prop (is_normal (e i))) p.normal q.normal i }

-- ---- two points are one, as a test
unfoldable pub same? : Point → Point → Bool
same? p q = run (alike p q)

pub same-eq : (p q : Point) → same? p q ≡ true → p ≡ q
unfolding same?
same-eq p q e = alike-eq p q (sound (alike p q) (of-true e))

pub same_refl : (p : Point) → same? p p ≡ true
unfolding same?
same_refl p = is_true (same? p p) (complete (alike p p) (refl, (refl, refl)))

pub same-ne : (p q : Point) → p ≢ q → same? p q ≡ false
same-ne p q n = is_false (same? p q) (λ t. n (same-eq p q (is_true (same? p q) t)))

pub point? : (p q : Point) → Dec (p ≡ q)
point? p q = go (same? p q) refl
  where
    go : (b : Bool) → same? p q ≡ b → Dec (p ≡ q)
    go true e = yes (same-eq p q e)
    go false e = no (λ x. true≢false (sym (same_refl p) ∙ ap (same? p) x ∙ e))

pub pt? : (p q : Pt) → Dec (p ≡ q)
pt? p q = go (point? p.at q.at)
  where
    go : Dec (p.at ≡ q.at) → Dec (p ≡ q)
    go (yes e) = yes (pt-eq p q e)
    go (no n) = no (λ x. n (ap (λ (p : Pt). p.at) x))

-- ---- ranks and steps
unfoldable pub rank : Pt → ℕ
rank p = rank_of p.at

unfoldable pub birth : Pt → ℕ
birth p = birth_of p.at

unfoldable pub move : Pt → ℕ → ℕ → Pt
move p e i = record { at = move_of p.at e i; normal = sum-normal p.at (vector e i) }

pub back : (p : Pt) (e i : ℕ) → Dir e i → move (move p e i) ((e + 6) % 12) i ≡ p
unfolding move
back p e i d = pt-eq (move (move p e i) ((e + 6) % 12) i) p (move-back p.at e i p.normal d.0)

pub inj : (p : Pt) (e g i : ℕ) → Dir e i → Dir g i → move p e i ≡ move p g i → e ≡ g
unfolding move
inj p e g i d d' h = move-inj p.at e g i d.0 d'.0 (ap (λ (p : Pt). p.at) h)

pub side-l : (q : Pt) (e i : ℕ) → Dir e (suc i) → move (move q e (suc i)) ((e + 2) % 12) (suc i) ≡ move q ((e + 1) % 12) i
unfolding move
side-l q e i d = pt-eq _ _ (Side.side_left q.at e i d)

pub side-r : (q : Pt) (e i : ℕ) → Dir e (suc i) → move (move q e (suc i)) ((e + 10) % 12) (suc i) ≡ move q ((e + 11) % 12) i
unfolding move
side-r q e i d = pt-eq _ _ (Side.side_right q.at e i d)

pub fan : (q : Pt) (e i : ℕ) → Dir e i → move (move q e i) ((e + 4) % 12) i ≡ move q ((e + 2) % 12) i
unfolding move
fan q e i d = pt-eq _ _ (Side.fan q.at e i d.0)

pub birth-lt : (p : Pt) → birth p < 4
unfolding birth
birth-lt p = birth-below p.at p.normal

pub birth-par : (p : Pt) (i : ℕ) → rank p ≡ suc i → birth p % 2 ≡ i % 2
unfolding birth rank
birth-par p i f = birth-parity p.at i p.normal f

pub out-rank : (q : Pt) (e i : ℕ) → Dir e i → rank q ≤ i → rank (move q e i) ≡ suc i
unfolding rank move
out-rank q e i d l = Rank.out-rank q.at e i q.normal d l

pub out-birth : (q : Pt) (e i : ℕ) → Dir e i → rank q ≤ i → birth (move q e i) ≡ (e + 6) % 4
unfolding rank birth move
out-birth q e i d l = Rank.out-birth q.at e i q.normal d l

pub in-rank : (p : Pt) (e i : ℕ) → e < 12 → rank p ≡ suc i → e % 4 ≡ birth p → rank (move p e i) ≤ i
unfolding rank birth move
in-rank p e i h f k = Rank.in-rank p.at e i p.normal h f k

pub creator : (p : Pt) (i : ℕ) → rank p ≡ suc (suc i) → (e : ℕ) × (e < 12) × (e % 4 ≡ birth p) × (rank (move p e (suc i)) ≤ i)
unfolding rank birth move
creator p i f = Rank.creator p.at p.normal i f
