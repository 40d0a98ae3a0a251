-- The marks, and the list of centres that they stand for.
-- `Good`, `good-is`, `reach-is` what a good centre has · `raised_is`, `number-below`, `number-one` its place, and that no two have one ·
-- `marks-none`, `marks-more` the marks are the first centres of the list, one after the other · `marked-is`, `unmarked-is`, `listed-marked`,
-- `marked-good`, `bad-range`, `bad-listed` what the code's tests say of a centre · `first-none`, `first-stop`, `first_good` the search for the first
-- bad one · `first_past`, `none-bad`, `not-bad`, `is-good` none is · `listed_at`, `listed-is` what is listed · `list-empty`, `list-odd`, `list-even` the
-- code's tests of the length · `good-list`, `none_first` a list with nothing to refuse.
-- Assumes nothing.
use Rattle.std.specs.Prelude.{◌≡◌, Bool, true, false, ◌&&◌, ◌||◌, not, List, leb, ℤ, pos, nat_abs, ◌+ℤ◌, negsuc, length, replicate}
use Rattle.std.proofs.Math.Path.{refl, sym, ap}
use Rattle.std.proofs.Common.{◌∙◌, subst, eq-eqb, ne_eqb, eqb-true, leb-true, le-leb, lit<}
use Rattle.std.proofs.Math.Bool.{cond}
use Prim.Native.Nat.{ℕ, zero, suc, ◌+◌, ◌*◌, ◌-◌, ◌/◌, ◌%◌, ◌≤◌, ◌<◌}
use native.Mathlib.Omega.{arith}
use Rattle.std.proofs.Math.Decide.{ℕ_discrete, dec_le}
use Rattle.std.proofs.lemmas.Bool.{lt-leb}
use Rattle.std.proofs.Math.Dec.{eqb}
use Rattle.std.specs.Int.Signed.{le_z}
use Rattle.laws.specs.Each.{both_left, both_right, not-both, and-false, among-at, at-among}
use Rattle.laws.specs.Parts.{up, dn, apart, abs_is, add_is, eqℤ}
use Rattle.laws.specs.Residue.{mod_z, left3-parts, left3-minus, mod_below}
use Rattle.lattice.specs.Points.{pt, same_point, class_of}
use Rattle.lattice.specs.PointLaws.{same_refl, same_true}
use Rattle.lattice.specs.declared.points.Point.{Point}
use Rattle.centres.specs.Centres.{centre_at, centres_in, good_centre, listed_in, bad_at, first_bad, bad_place, unpaired, GoodList}
use Rattle.marks.specs.Marks.{marked_at, Marks, marked-none}
use Rattle.centres.specs.Marks.{places, number_of, in_marks, Marked}

-- ---- a good centre

pub record Good (p : Point) : Type 0 where
  pub wide : nat_abs p.a ≤ 250
  pub high : nat_abs p.b ≤ 250
  pub class : class_of p ≡ 0

pub good-is : (p : Point) → good_centre p ≡ true → Good p
good-is p h =
    let k = both_right (leb (nat_abs p.a) 250) (leb (nat_abs p.b) 250 && eqb (class_of p) 0) h in
    record {
      wide = leb-true (nat_abs p.a) 250 (both_left (leb (nat_abs p.a) 250) (leb (nat_abs p.b) 250 && eqb (class_of p) 0) h);
      high = leb-true (nat_abs p.b) 250 (both_left (leb (nat_abs p.b) 250) (eqb (class_of p) 0) k);
      class = eqb-true (class_of p) 0 (both_right (leb (nat_abs p.b) 250) (eqb (class_of p) 0) k);
    }

-- the code's test of a number's range
pub reach-is : (z : ℤ) → le_z (negsuc 249) z && le_z z (pos 250) ≡ leb (nat_abs z) 250
reach-is (pos n) = refl
reach-is (negsuc n) = go (dec_le n 249)
  where
    go : Dec (n ≤ 249) → leb n 249 && true ≡ leb (suc n) 250
    go (yes l) = let k : suc n ≤ 250 = omega arith in ap (λ (b : Bool). b && true) (le-leb n 249 l) ∙ sym (le-leb (suc n) 250 k)
    go (no l) =
        let h : 249 < n = omega arith in
        let k : 250 < suc n = omega arith in
        ap (λ (b : Bool). b && true) (lt-leb n 249 h) ∙ sym (lt-leb (suc n) 250 k)

-- a number in range, raised by 250
abbrev pub raised : ℤ → ℕ
raised z = nat_abs (z +ℤ pos 250)

pub raised_is : (z : ℤ) → nat_abs z ≤ 250 → (raised z + dn z ≡ up z + 250) × (raised z ≤ 500) × (dn (z +ℤ pos 250) ≡ 0)
raised_is z h =
    let a = add_is z (pos 250) in
    let b = abs_is (z +ℤ pos 250) in
    let c = apart (z +ℤ pos 250) in
    let d = abs_is z in
    (omega arith, omega arith, omega arith)

pub number-below : (p : Point) → Good p → number_of p < places
unfolding number_of
number-below p g =
    let a = (raised_is p.a g.wide).1 in
    let b = (raised_is p.b g.high).1 in
    omega arith

raised-left : (z : ℤ) → nat_abs z ≤ 250 → raised z % 3 ≡ (mod_z z 3 + 1) % 3
raised-left z h = plain (raised z) (up z) (dn z) (mod_z z 3) (raised_is z h).0 (left3-parts z)
  where
    plain : (x u d r : ℕ) → x + d ≡ u + 250 → r ≡ (u + 2 * d) % 3 → x % 3 ≡ (r + 1) % 3
    plain x u d r e f = omega arith

-- a and b leave the same
same_left : (p : Point) → Good p → raised p.a % 3 ≡ raised p.b % 3
same_left p g =
    let e = equal (mod_z p.a 3) (mod_z p.b 3) (mod_below p.a 3 (lit< tt)) (mod_below p.b 3 (lit< tt)) (sym (left3-minus p.a p.b) ∙ g.class) in
    raised-left p.a g.wide ∙ ap (λ (r : ℕ). (r + 1) % 3) e ∙ sym (raised-left p.b g.high)
  where
    equal : (r s : ℕ) → r < 3 → s < 3 → (r + 3 - s) % 3 ≡ 0 → r ≡ s
    equal r s h k e = omega arith

raised-one : (x y : ℤ) → nat_abs x ≤ 250 → nat_abs y ≤ 250 → raised x ≡ raised y → x ≡ y
raised-one x y h k e =
    let a = (raised_is x h).0 in
    let b = (raised_is y k).0 in
    eqℤ x y (omega arith)

-- no two good centres have one place
pub number-one : (p q : Point) → Good p → Good q → number_of p ≡ number_of q → (p.a ≡ q.a) × (p.b ≡ q.b)
unfolding number_of
number-one p q g h e =
    let x = apart-at (raised p.a) (raised q.a) (raised p.b) (raised q.b) (raised_is p.b g.high).1 (raised_is q.b h.high).1 e in
    let y = third (raised p.b) (raised q.b) x.1 (sym (same_left p g) ∙ ap (λ (n : ℕ). n % 3) x.0 ∙ same_left q h) in
    (raised-one p.a q.a g.wide h.wide x.0, raised-one p.b q.b g.high h.high y)
  where
    apart-at : (a c b d : ℕ) → b ≤ 500 → d ≤ 500 → a * 167 + b / 3 ≡ c * 167 + d / 3 → (a ≡ c) × (b / 3 ≡ d / 3)
    apart-at a c b d h k e = (omega arith, omega arith)

    third : (b d : ℕ) → b / 3 ≡ d / 3 → b % 3 ≡ d % 3 → b ≡ d
    third b d e f = omega arith

-- ---- the marks are the first centres of the list

pub marks-none : (n : ℕ) (cs : List ℤ) → Marked (replicate n 0) cs 0
unfolding in_marks listed_in
marks-none n cs = λ i p. none p i
  where
    never : (a b : Bool) → a && (b && false) ≡ false
    never true true = refl
    never true false = refl
    never false b = refl

    none : (p : Point) → in_marks (replicate n 0) p ≡ false
    none p = ap (λ (b : Bool). eqb p.m.0 0 && (good_centre p && b)) (marked-none n (number_of p)) ∙ never (eqb p.m.0 0) (good_centre p)

-- of a good centre the marks tell whether it is listed
module _ (m : List ℕ) (p : Point) where
  pub marked-is : p.m.0 ≡ 0 → good_centre p ≡ true → marked_at m (number_of p) ≡ in_marks m p
  unfolding in_marks
  marked-is d g =
      sym (ap (λ (b : Bool). b && (good_centre p && marked_at m (number_of p))) (eq-eqb p.m.0 0 d) ∙ ap (λ (b : Bool). b && marked_at m (number_of p)) g)

  pub unmarked-is : good_centre p ≡ false → false ≡ in_marks m p
  unfolding in_marks
  unmarked-is g = sym (ap (λ (b : Bool). eqb p.m.0 0 && (b && marked_at m (number_of p))) g ∙ and-false (eqb p.m.0 0))

pub listed-marked : (m : List ℕ) (cs : List ℤ) (i : ℕ) (p : Point) → Marked m cs i → p.m.0 ≡ 0 → good_centre p ≡ true
    → marked_at m (number_of p) ≡ listed_in cs i p
listed-marked m cs i p e d g = marked-is m p d g ∙ (λ k. e k p)

-- what is listed is good
pub marked-good : (m : List ℕ) (cs : List ℤ) (i : ℕ) (p : Point) → in_marks m ≡ listed_in cs i → listed_in cs i p ≡ true → (p.m.0 ≡ 0) × (good_centre p ≡ true)
unfolding in_marks
marked-good m cs i p e h =
    let k : eqb p.m.0 0 && (good_centre p && marked_at m (number_of p)) ≡ true = (λ j. e j p) ∙ h in (
      eqb-true p.m.0 0 (both_left (eqb p.m.0 0) (good_centre p && marked_at m (number_of p)) k),
      both_left (good_centre p) (marked_at m (number_of p)) (both_right (eqb p.m.0 0) (good_centre p && marked_at m (number_of p)) k),
    )

pub marks-more : (m u : List ℕ) (cs : List ℤ) (i : ℕ) → Marked m cs i → good_centre (centre_at cs i) ≡ true → Marks m (eqb (number_of (centre_at cs i))) u
    → Marked u cs (i + 1)
unfolding in_marks listed_in
marks-more m u cs i e g a = (λ k p. more p k) ∙ ap (listed_in cs) (let s : suc i ≡ i + 1 = omega arith in s)
  where
    c : Point
    c = centre_at cs i

    at-centre : in_marks u c ≡ true
    at-centre =
        ap (λ (b : Bool). b && marked_at u (number_of c)) g ∙ a.reads (number_of c)
        ∙ ap (λ (b : Bool). b || marked_at m (number_of c)) (eq-eqb (number_of c) (number_of c) refl)

    more : (p : Point) → in_marks u p ≡ same_point c p || listed_in cs i p
    more p = go (same_point c p) refl
      where
        other-number : same_point c p ≡ false → p.m.0 ≡ 0 → good_centre p ≡ true → eqb (number_of c) (number_of p) ≡ false
        other-number ne d h = ne_eqb (number_of c) (number_of p) (λ n.
            let s = number-one c p (good-is c g) (good-is p h) n in
            let q : c ≡ p = λ k. pt (s.0 k) (s.1 k) (sym d k) in
            not-both (ap (same_point c) (sym q) ∙ same_refl c) ne)

        other : same_point c p ≡ false → (d h : Bool) → eqb p.m.0 0 ≡ d → good_centre p ≡ h
            → d && (h && marked_at u (number_of p)) ≡ d && (h && marked_at m (number_of p))
        other ne true true ed eh = a.reads (number_of p) ∙ ap (λ (b : Bool). b || marked_at m (number_of p)) (other-number ne (eqb-true p.m.0 0 ed) eh)
        other ne true false ed eh = refl
        other ne false h ed eh = refl

        go : (s : Bool) → same_point c p ≡ s → in_marks u p ≡ s || listed_in cs i p
        go true es = subst (λ (x : Point). in_marks u x ≡ true) (same_true c p es) at-centre
        go false es = other es (eqb p.m.0 0) (good_centre p) refl refl ∙ (λ k. e k p)

-- ---- the list judged

module _ (cs : List ℤ) (i : ℕ) where
  pub bad-range : good_centre (centre_at cs i) ≡ false → false ≡ not (bad_at cs i)
  bad-range g = sym (ap (λ (b : Bool). not (not b || listed_in cs i (centre_at cs i))) g)

  pub bad-listed : good_centre (centre_at cs i) ≡ true → not (listed_in cs i (centre_at cs i)) ≡ not (bad_at cs i)
  bad-listed g = sym (ap (λ (b : Bool). not (not b || listed_in cs i (centre_at cs i))) g)

  pub first-none : first_bad cs i 0 ≡ i
  unfolding first_bad
  first-none = refl

  pub first-stop : (left : ℕ) → 0 < left → bad_at cs i ≡ true → first_bad cs i left ≡ i
  unfolding first_bad
  first-stop zero l h = absurd (omega arith)
  first-stop (suc n) l h = ap (λ (b : Bool). cond b i (first_bad cs (i + 1) n)) h

  pub first_good : (left : ℕ) → 0 < left → bad_at cs i ≡ false → first_bad cs i left ≡ first_bad cs (i + 1) (left - 1)
  unfolding first_bad
  first_good zero l h = absurd (omega arith)
  first_good (suc n) l h =
      let e : n ≡ suc n - 1 = omega arith in
      ap (λ (b : Bool). cond b i (first_bad cs (i + 1) n)) h ∙ ap (first_bad cs (i + 1)) e

-- where none is bad, the first bad one lies past the last
pub first_past : (cs : List ℤ) (left i : ℕ) → ((k : ℕ) → i ≤ k → k < i + left → bad_at cs k ≡ false) → first_bad cs i left ≡ i + left
unfolding first_bad
first_past cs zero i h = let e : i ≡ i + 0 = omega arith in e
first_past cs (suc n) i h =
    let e : i + 1 + n ≡ i + suc n = omega arith in
    ap (λ (b : Bool). cond b i (first_bad cs (i + 1) n)) (h i (omega arith) (omega arith))
    ∙ first_past cs n (i + 1) (λ k l m. h k (omega arith) (omega arith)) ∙ e

-- where the first bad one lies past the last, none is bad
pub none-bad : (cs : List ℤ) (left i : ℕ) → i + left ≤ first_bad cs i left → (k : ℕ) → i ≤ k → k < i + left → bad_at cs k ≡ false
unfolding first_bad
none-bad cs zero i h k l m = absurd (omega arith)
none-bad cs (suc n) i h k l m = go (bad_at cs i) refl h (λ z. none-bad cs n (i + 1) z)
  where
    go : (b : Bool) → bad_at cs i ≡ b → i + suc n ≤ cond b i (first_bad cs (i + 1) n)
        → (i + 1 + n ≤ first_bad cs (i + 1) n → (j : ℕ) → i + 1 ≤ j → j < i + 1 + n → bad_at cs j ≡ false) → bad_at cs k ≡ false
    go true e h ih = absurd (omega arith)
    go false e h ih = at (ℕ_discrete i k)
      where
        at : Dec (i ≡ k) → bad_at cs k ≡ false
        at (yes q) = ap (bad_at cs) (sym q) ∙ e
        at (no q) = ih (omega arith) k (omega arith) (omega arith)

pub not-bad : (cs : List ℤ) (i : ℕ) → bad_at cs i ≡ false → (good_centre (centre_at cs i) ≡ true) × (listed_in cs i (centre_at cs i) ≡ false)
not-bad cs i h = go (good_centre (centre_at cs i)) refl h
  where
    go : (g : Bool) → good_centre (centre_at cs i) ≡ g → not g || listed_in cs i (centre_at cs i) ≡ false
        → (good_centre (centre_at cs i) ≡ true) × (listed_in cs i (centre_at cs i) ≡ false)
    go true e k = (e, k)
    go false e k = absurd (not-both refl k)

pub is-good : (cs : List ℤ) (i : ℕ) → good_centre (centre_at cs i) ≡ true → listed_in cs i (centre_at cs i) ≡ false → bad_at cs i ≡ false
is-good cs i g l = (λ k. not (g k) || l k)

-- a centre of the list is listed
pub listed_at : (cs : List ℤ) (n i : ℕ) → i < n → listed_in cs n (centre_at cs i) ≡ true
unfolding listed_in
listed_at cs n i h = at-among (λ k. same_point (centre_at cs k) (centre_at cs i)) n i h (same_refl (centre_at cs i))

-- and what is listed is a centre of the list
pub listed-is : (cs : List ℤ) (n : ℕ) (p : Point) → listed_in cs n p ≡ true → (i : ℕ) × (i < n) × (centre_at cs i ≡ p)
unfolding listed_in
listed-is cs n p h = let x = among-at (λ k. same_point (centre_at cs k) p) n h in (x.0, x.1, same_true (centre_at cs x.0) p x.2)

-- ---- the tests of the length
pub list-empty : (cs : List ℤ) → length cs ≡ 0 → unpaired cs ≡ true
list-empty cs e = ap (λ (b : Bool). b || not (eqb (length cs % 2) 0)) (eq-eqb (length cs) 0 e)

module _ (cs : List ℤ) (some : length cs ≡ 0 → ⊥) where
  past : unpaired cs ≡ not (eqb (length cs % 2) 0)
  past = ap (λ (b : Bool). b || not (eqb (length cs % 2) 0)) (ne_eqb (length cs) 0 some)

  pub list-odd : (length cs % 2 ≡ 0 → ⊥) → unpaired cs ≡ true
  list-odd h = past ∙ ap not (ne_eqb (length cs % 2) 0 h)

  pub list-even : length cs % 2 ≡ 0 → unpaired cs ≡ false
  list-even h = past ∙ ap not (eq-eqb (length cs % 2) 0 h)

-- ---- a list with nothing to refuse
module _ (cs : List ℤ) where
  pub good-list : unpaired cs ≡ false → centres_in cs ≤ bad_place cs → GoodList cs
  good-list o b =
      let each : (i : ℕ) → i < centres_in cs → (good_centre (centre_at cs i) ≡ true) × (listed_in cs i (centre_at cs i) ≡ false) =
      λ i h. not-bad cs i (none-bad cs (centres_in cs) 0 (omega arith) i (omega arith) (omega arith)) in
      record { paired = o; good = λ i h. (each i h).0; once = λ i h. (each i h).1 }

  -- and no good list has a bad centre
  pub none_first : GoodList cs → bad_place cs ≡ centres_in cs
  none_first g =
      first_past cs (centres_in cs) 0 (λ k l m. let h : k < centres_in cs = omega arith in is-good cs k (g.good k h) (g.once k h))
      ∙ (let e : 0 + centres_in cs ≡ centres_in cs = omega arith in e)
