-- What the parents say is what growth's tests ask, and how the code comes by it.
-- `parents-there`, `parents-creator`, `parents-star`, `root-star` the tests of growth, by the parents · `creator-first`, `creator-second`,
-- `creator-third`, `creator-any` · `told-by` what the parents say, by the number of those subdivided.
-- Assumes nothing.
use Rattle.std.specs.Prelude.{◌≡◌, refl, Bool, cond, ◌&&◌, List, ℕ, ◌+◌, ◌*◌, ◌-◌, ◌%◌, ◌≤◌, ◌<◌, eqb, ltb, get_or, Option, Some, None}
use Rattle.std.proofs.Math.Path.{sym, ap}
use Rattle.std.proofs.Common.{◌∙◌, arith}
use Rattle.std.proofs.Math.Bool.{true, false, and-true, and_comm}
use Rattle.std.proofs.Math.Decide.{ℕ_discrete}
use borrow.Author.Tests.{eq-eqb, ne_eqb, lt-ltb, le-ltb, ltb-true}
use Rattle.laws.specs.Rules.{upto}
use Rattle.laws.specs.Each.{both_left, both_right, same_test}
use Rattle.lattice.specs.Ranks.{rank_of, birth_of, parent_of, creator_of}
use Rattle.lattice.specs.declared.points.Point.{Point}
use Rattle.lattice.specs.declared.records.Record.{Record}
use Rattle.growth.specs.Sheets.{vertex}
use Rattle.growth.specs.Model.{by_splits}
use Rattle.growth.specs.Local.{is_there, is_over, there, over, star_test, expected}
use Rattle.table.specs.Entries.{look_up}
use Rattle.local.specs.Sheet.{as_option, sheet_of}
use Rattle.std.specs.Int.{from_bool}
use Rattle.local.specs.Parents.{stand_of, stand_at, parent_at, parents_of, seen, split, all_there, all_split, creator_in, creator_over}
use Rattle.local.specs.Parents.{splits_in, degrees, turns, same_star, like_star, told_in}
use Rattle.local.specs.declared.parents.Parents.{Parents}

-- ---- what is there, and what was subdivided, by its number
seen-is : (l : Option Record) → seen (stand_of l) ≡ is_there (as_option l)
seen-is None = refl
seen-is (Some u) = go (eqb u.d 6)
  where
    go : (b : Bool) → seen (cond b (u.n.0 + 2) 1) ≡ true
    go true = lt-ltb 0 (u.n.0 + 2) (omega arith)
    go false = refl

split-is : (b : ℕ) (l : Option Record) → split b (stand_of l) ≡ is_over b (as_option l)
split-is b None = le-ltb (b + 2) 0 (omega arith)
split-is b (Some u) = go (eqb u.d 6)
  where
    go : (six : Bool) → split b (cond six (u.n.0 + 2) 1) ≡ six && ltb b u.n.0
    go true = same_test (ltb (b + 2) (u.n.0 + 2)) (ltb b u.n.0)
        (λ e. lt-ltb b u.n.0 (let h = ltb-true (b + 2) (u.n.0 + 2) e in omega arith))
        (λ e. lt-ltb (b + 2) (u.n.0 + 2) (let h = ltb-true b u.n.0 e in omega arith))
    go false = le-ltb (b + 2) 1 (omega arith)

module _ (t : List ℕ) (p : Point) where
  pub seen-there : seen (stand_at t p) ≡ there (sheet_of t) p
  unfolding there
  seen-there = seen-is (look_up t p)

  pub split-over : (b : ℕ) → split b (stand_at t p) ≡ over (sheet_of t) p b
  unfolding over
  split-over b = split-is b (look_up t p)

module _ (t : List ℕ) (p : Point) where
  three : (x y z : Bool) → (x && y) && z ≡ z && (y && (x && true))
  three x y z = and_comm (x && y) z ∙ ap (λ (b : Bool). z && b) (and_comm x y ∙ ap (λ (b : Bool). y && b) (sym (and-true x)))

  pub parents-there : all_there (parents_of t p) ≡ upto 3 (λ j. there (sheet_of t) (parent_of p j))
  parents-there =
      (λ i. (seen-there t (parent_of p 0) i && seen-there t (parent_of p 1) i) && seen-there t (parent_of p 2) i)
      ∙ three (there (sheet_of t) (parent_of p 0)) (there (sheet_of t) (parent_of p 1)) (there (sheet_of t) (parent_of p 2))

  chosen : (a b : Bool) (x y z : Point) → cond a (stand_at t x) (cond b (stand_at t y) (stand_at t z)) ≡ stand_at t (cond a x (cond b y z))
  chosen true b x y z = refl
  chosen false true x y z = refl
  chosen false false x y z = refl

  creator-seen : creator_in p (parents_of t p) ≡ stand_at t (creator_of p)
  unfolding creator_in creator_of
  creator-seen =
      chosen (ltb (rank_of (parent_of p 0)) (rank_of p - 1)) (ltb (rank_of (parent_of p 1)) (rank_of p - 1)) (parent_of p 0) (parent_of p 1) (parent_of p 2)

  pub parents-creator : creator_over p (parents_of t p) ≡ over (sheet_of t) (creator_of p) (rank_of p - 2)
  parents-creator = ap (split (rank_of p - 2)) creator-seen ∙ split-over t (creator_of p) (rank_of p - 2)

-- the three tests of a star, where the point has parents
pub parents-star : (t : List ℕ) (r : Record) → (rank_of r.at ≡ 0 → ⊥) → told_in r (parents_of t r.at) ≡ star_test (sheet_of t) r
unfolding told_in expected
parents-star t r h =
    let p = r.at in
    let below = rank_of p - 1 in
    let over-is : (j : ℕ) → split below (parent_at t p j) ≡ over (sheet_of t) (parent_of p j) below = λ j. split-over t (parent_of p j) below in
    (λ i. like_star r (by_splits p (over-is 0 i) (over-is 1 i) (over-is 2 i) (birth_of p) below r.n.0))
    ∙ simp (ne_eqb (rank_of r.at) 0 h)

pub root-star : (t : List ℕ) (r : Record) → rank_of r.at ≡ 0 → same_star r 6 (r.n.0 % 2) r.n.0 ≡ star_test (sheet_of t) r
unfolding expected
root-star t r h = simp (eq-eqb (rank_of r.at) 0 h)

-- ---- the creator, by the tests of ranks
module _ (p : Point) (s : Parents) where
  pub creator-first : rank_of (parent_of p 0) < rank_of p - 1 → s.first ≡ creator_in p s
  unfolding creator_in
  creator-first h = simp (lt-ltb (rank_of (parent_of p 0)) (rank_of p - 1) h)

  pub creator-second : rank_of p - 1 ≤ rank_of (parent_of p 0) → rank_of (parent_of p 1) < rank_of p - 1 → s.second ≡ creator_in p s
  unfolding creator_in
  creator-second g h = simp (le-ltb (rank_of (parent_of p 0)) (rank_of p - 1) g, lt-ltb (rank_of (parent_of p 1)) (rank_of p - 1) h)

  pub creator-third : rank_of p - 1 ≤ rank_of (parent_of p 0) → rank_of p - 1 ≤ rank_of (parent_of p 1) → s.third ≡ creator_in p s
  unfolding creator_in
  creator-third g h = simp (le-ltb (rank_of (parent_of p 0)) (rank_of p - 1) g, le-ltb (rank_of (parent_of p 1)) (rank_of p - 1) h)

  -- it is one of the three
  pub creator-any : (b : ℕ) → all_split s b ≡ true → true ≡ split b (creator_in p s)
  unfolding creator_in
  creator-any b e =
      let f = both_left (split b s.first && split b s.second) (split b s.third) e in
      go (ltb (rank_of (parent_of p 0)) (rank_of p - 1)) (ltb (rank_of (parent_of p 1)) (rank_of p - 1)) (both_left (split b s.first) (split b s.second) f)
      (both_right (split b s.first) (split b s.second) f) (both_right (split b s.first && split b s.second) (split b s.third) e)
    where
      go : (x y : Bool) → split b s.first ≡ true → split b s.second ≡ true → split b s.third ≡ true
          → true ≡ split b (cond x s.first (cond y s.second s.third))
      go true y f g h = sym f
      go false true f g h = sym g
      go false false f g h = sym h

-- ---- what the parents say, by the number of those subdivided
abbrev number : Bool → Bool → Bool → ℕ
number x y z = from_bool x + 2 * from_bool y + 4 * from_bool z

all_split_lem : (p : Point) (k b n : ℕ) (x y z : Bool) → number x y z ≡ 7 → by_splits p x y z k b n ≡ vertex p 6 (n % 2) n
unfolding by_splits
all_split_lem p k b n true true true h = refl
all_split_lem p k b n true true false h = absurd (omega arith)
all_split_lem p k b n true false true h = absurd (omega arith)
all_split_lem p k b n true false false h = absurd (omega arith)
all_split_lem p k b n false true true h = absurd (omega arith)
all_split_lem p k b n false true false h = absurd (omega arith)
all_split_lem p k b n false false true h = absurd (omega arith)
all_split_lem p k b n false false false h = absurd (omega arith)

some-split : (p : Point) (k b n : ℕ) (x y z : Bool) → (number x y z ≡ 7 → ⊥)
    → by_splits p x y z k b n ≡ vertex p (get_or degrees (number x y z) 0) (k + get_or turns (number x y z) 0) b
unfolding by_splits
some-split p k b n true true true h = absurd (h refl)
some-split p k b n true true false h = refl
some-split p k b n true false true h = refl
some-split p k b n true false false h = refl
some-split p k b n false true true h = let e : k ≡ k + 0 = omega arith in λ i. vertex p 5 (e i) b
some-split p k b n false true false h = refl
some-split p k b n false false true h = let e : k ≡ k + 0 = omega arith in λ i. vertex p 4 (e i) b
some-split p k b n false false false h = let e : k ≡ k + 0 = omega arith in λ i. vertex p 3 (e i) b

module _ (r : Record) (s : Parents) where
  abbrev below : ℕ
  below = rank_of r.at - 1

  told-six : splits_in s below ≡ 7 → same_star r 6 (r.n.0 % 2) r.n.0 ≡ told_in r s
  unfolding told_in
  told-six h =
      ap (like_star r) (sym (all_split_lem r.at (birth_of r.at) below r.n.0 (split below s.first) (split below s.second) (split below s.third) h))

  told-fewer : (splits_in s below ≡ 7 → ⊥)
      → same_star r (get_or degrees (splits_in s below) 0) (birth_of r.at + get_or turns (splits_in s below) 0) below ≡ told_in r s
  unfolding told_in
  told-fewer h =
      ap (like_star r) (sym (some-split r.at (birth_of r.at) below r.n.0 (split below s.first) (split below s.second) (split below s.third) h))

  -- both at once, with no question before the comparisons
  pub told-by : (i : ℕ) → splits_in s below ≡ i
      → same_star r (get_or degrees i 0) (cond (eqb i 7) (r.n.0 % 2) (birth_of r.at + get_or turns i 0)) (cond (eqb i 7) r.n.0 below) ≡ told_in r s
  told-by i e = go (ℕ_discrete i 7)
    where
      go : Dec (i ≡ 7)
          → same_star r (get_or degrees i 0) (cond (eqb i 7) (r.n.0 % 2) (birth_of r.at + get_or turns i 0)) (cond (eqb i 7) r.n.0 below) ≡ told_in r s
      go (yes f) =
          ap (λ (i : ℕ). same_star r (get_or degrees i 0) (cond (eqb i 7) (r.n.0 % 2) (birth_of r.at + get_or turns i 0)) (cond (eqb i 7) r.n.0 below)) f
          ∙ told-six (e ∙ f)
      go (no n) =
          simp (ne_eqb i 7 n)
          (ap (λ (i : ℕ). same_star r (get_or degrees i 0) (birth_of r.at + get_or turns i 0) below) (sym e) ∙ told-fewer (λ f. n (sym e ∙ f)))
