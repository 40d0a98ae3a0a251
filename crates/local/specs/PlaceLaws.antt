-- The tests of a place, as the code decides them: by the parents, which serve two or three tests at once, and by the number of points there in a ring.
-- `first-fails`, `second-fails`, `third-decides` three tests in a row · `centre-boundary`, `centre-by`, `corner-by`, `deep-boundary`, `deep-by` the
-- tests of a place with the star's · `place-deep`, `place-centre`, `place-corner`, `local-place` the whole · `six-other`, `six_low`, `six_high` what
-- degree 6 asks.
-- Assumes nothing.
use Rattle.std.specs.Prelude.{◌≡◌, refl, Bool, true, false, cond, ◌&&◌, ◌||◌, not, List, ℕ, ◌+◌, ◌*◌, ◌≤◌, ◌<◌, eqb}
use Rattle.std.proofs.Common.{sym, ◌∙◌, ap}
use Rattle.std.proofs.Math.Bool.{and-true, and_assoc, and_comm}
use native.Mathlib.Omega.{arith}
use borrow.Author.Tests.{eq-eqb, ne_eqb, le-leb, lt-leb}
use Rattle.laws.specs.Rules.{upto}
use Rattle.lattice.specs.Points.{class_of}
use Rattle.lattice.specs.Ranks.{rank_of, move_of, parent_of}
use Rattle.lattice.specs.Stars.{adjacent_at}
use Rattle.lattice.specs.declared.points.Point.{Point}
use Rattle.lattice.specs.declared.records.Record.{Record}
use Rattle.growth.specs.Sheets.{Sheet}
use Rattle.growth.specs.Local.{there, centre_test, corner_test, deep_test, star_test, six_test, local_test}
use Rattle.local.specs.Sheet.{sheet_of}
use Rattle.local.specs.Rings.{ring_of, ring-all, ringed, ring-corner}
use Rattle.local.specs.Parents.{parents_of, all_there, creator_over, told_in}
use Rattle.local.specs.BornLaws.{rank-deep, rank-centre, parent-corner}
use Rattle.local.specs.ParentLaws.{seen-there, parents-there, parents-creator, parents-star}
use Rattle.local.specs.declared.parents.Parents.{Parents}
use Rattle.local.specs.Places.{starred, place_test, turn_of}

-- ---- three tests in a row: the first that fails ends it
module _ (a b c : Bool) where
  pub first-fails : a ≡ false → false ≡ (a && b) && c
  first-fails e = rw e

  pub second-fails : a ≡ true → b ≡ false → false ≡ (a && b) && c
  second-fails e f = rw (e, f)

  pub third-decides : a ≡ true → b ≡ true → c ≡ (a && b) && c
  third-decides e f = rw (e, f)

-- ---- the tests of a place with the star's
and-swap : (a b c : Bool) → a && (b && c) ≡ b && (a && c)
and-swap true b c = refl
and-swap false true c = refl
and-swap false false c = refl

six-apart : (a b c d e f : Bool) → f && (e && (d && (c && (b && (a && true))))) ≡ ((a && c) && e) && (b && (d && f))
six-apart a b c d e f = simp (and-true, and_assoc, and_comm, and-swap)

module _ (t : List ℕ) (r : Record) where
  abbrev R : Sheet
  R = sheet_of t

  abbrev p : Point
  p = r.at

  abbrev s : Parents
  s = parents_of t r.at

  pub centre-boundary : r.d ≡ 0 → false ≡ starred (centre_test R r) R r
  centre-boundary d = simp (eq-eqb r.d 0 d)

  pub deep-boundary : r.d ≡ 0 → false ≡ starred (deep_test R r) R r
  deep-boundary d = simp (eq-eqb r.d 0 d)

  corners : r.at.m.0 ≡ 0 → class_of r.at ≡ 0 → all_there s && eqb (ring_of R p 2) 3 ≡ upto 6 (λ j. there R (move_of p (2 * j) 0))
  corners m c =
      (λ i. ((seen-there t (parent_of p 0) i && seen-there t (parent_of p 1) i) && seen-there t (parent_of p 2) i)
      && ring-all (there R (move_of p 2 0)) (there R (move_of p 6 0)) (there R (move_of p 10 0)) i)
      ∙ (λ i. ((there R (parent-corner p m c 0 i) && there R (parent-corner p m c 1 i)) && there R (parent-corner p m c 2 i))
      && (there R (move_of p 2 0) && (there R (move_of p 6 0) && there R (move_of p 10 0))))
      ∙ sym (six-apart (there R (move_of p 0 0)) (there R (move_of p 2 0)) (there R (move_of p 4 0))
      (there R (move_of p 6 0)) (there R (move_of p 8 0)) (there R (move_of p 10 0)))

  -- s, the parents as they were looked up, serves the tests of the place and of the star
  module _ (s : Parents) (e : s ≡ parents_of t r.at) (d : r.d ≡ 0 → ⊥) where
    pub centre-by : r.at.m.0 ≡ 0 → class_of r.at ≡ 0 → (all_there s && eqb (ring_of R p 2) 3) && told_in r s ≡ starred (centre_test R r) R r
    centre-by m c =
        let n : rank_of p ≡ 0 → ⊥ = λ z. omega (arith, rank-centre p m c) in
        (λ i. (all_there (e i) && eqb (ring_of R p 2) 3) && told_in r (e i)) ∙ (λ i. corners m c i && parents-star t r n i) ∙ simp (ne_eqb r.d 0 d)

    pub deep-by : 0 < r.at.m.0 → (all_there s && creator_over p s) && told_in r s ≡ starred (deep_test R r) R r
    deep-by m =
        let n : rank_of p ≡ 0 → ⊥ = λ z. omega (arith, rank-deep p m) in
        (λ i. (all_there (e i) && creator_over p (e i)) && told_in r (e i))
        ∙ (λ i. (parents-there t p i && parents-creator t p i) && parents-star t r n i) ∙ simp (ne_eqb r.d 0 d)

  -- a corner's hexagons
  abbrev h : ℕ
  h = ring_of R p (turn_of (class_of p))

  abbrev round : ℕ → Bool
  round e = there R (move_of p e 0)

  corner-ring : ringed h (eqb r.d 0) ≡ corner_test R r
  corner-ring =
      let e = turn_of (class_of p) in
      let z : e ≡ e + 0 = omega arith in
      sym (ring-corner (round e) (round (e + 4)) (round (e + 8)) (eqb r.d 0))
      ∙ (λ i. (round (z i) || (round (e + 4) || round (e + 8)))
      && cond (round (e + 8) && (round (e + 4) && (round (z i) && true))) (not (eqb r.d 0)) (eqb r.d 0))

  pub corner-by : ringed h (eqb r.d 0) && (eqb r.d 0 || star_test R r) ≡ starred (corner_test R r) R r
  corner-by = ap (λ (b : Bool). starred b R r) corner-ring

-- ---- the whole
module _ (R : Sheet) (r : Record) where
  pub place-deep : 0 < r.at.m.0 → starred (deep_test R r) R r ≡ place_test R r
  unfolding place_test
  place-deep m = let n : r.at.m.0 ≡ 0 → ⊥ = λ e. omega arith in simp (ne_eqb r.at.m.0 0 n)

  pub place-centre : r.at.m.0 ≡ 0 → class_of r.at ≡ 0 → starred (centre_test R r) R r ≡ place_test R r
  unfolding place_test
  place-centre m c = simp (eq-eqb r.at.m.0 0 m, eq-eqb (class_of r.at) 0 c)

  pub place-corner : r.at.m.0 ≡ 0 → (class_of r.at ≡ 0 → ⊥) → starred (corner_test R r) R r ≡ place_test R r
  unfolding place_test
  place-corner m c = simp (eq-eqb r.at.m.0 0 m, ne_eqb (class_of r.at) 0 c)

  pub local-place : place_test R r && (not (eqb r.d 6) || six_test R r) ≡ local_test R r
  unfolding place_test local_test
  local-place =
      and_assoc (cond (eqb r.at.m.0 0) (cond (eqb (class_of r.at) 0) (centre_test R r) (corner_test R r)) (deep_test R r))
      (eqb r.d 0 || star_test R r) (not (eqb r.d 6) || six_test R r)

  -- what degree 6 asks
  pub six-other : (r.d ≡ 6 → ⊥) → true ≡ not (eqb r.d 6) || six_test R r
  six-other n = simp (ne_eqb r.d 6 n)

  pub six_low : r.d ≡ 6 → r.n.0 < rank_of r.at → false ≡ not (eqb r.d 6) || six_test R r
  six_low d l = simp (eq-eqb r.d 6 d, lt-leb (rank_of r.at) r.n.0 l)

  pub six_high : r.d ≡ 6 → rank_of r.at ≤ r.n.0 → upto 6 (λ j. there R (adjacent_at r j)) ≡ not (eqb r.d 6) || six_test R r
  six_high d l = simp (eq-eqb r.d 6 d, le-leb (rank_of r.at) r.n.0 l)
