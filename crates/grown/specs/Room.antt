-- How many records there can be: points counted over a list of records.
-- `Among` a point of the list · `count` how many of its records have a point that passes a test · `count-all`, `count_less`, `count-more` · `fresh`
-- how many of some points are new, `count-fresh` they are counted, `all-fresh` all are new · `count-base` the points of a base's hexagons ·
-- `Covered`, `count-step` a subdivision has six more.
-- Assumes nothing.
use Rattle.std.specs.Prelude.{◌≡◌, refl, ◌⊎◌, Bool, true, false, cond, ◌||◌, ℕ, zero, suc, ◌+◌, ◌≤◌, ◌<◌, ℤ, length, Some, None}
use Rattle.std.proofs.Common.{sym, ◌∙◌, ap, inl, inr, arith}
use mathlib.Core.List.Memᴰ
use mathlib.Core.List.{List, [], ◌∷◌, Memᴰ}
use Rattle.laws.specs.Each.{not-both, among-at, at-among}
use Rattle.laws.specs.Rules.{among}
use Rattle.laws.specs.Choices.{is_true, of-true}
use Rattle.lattice.specs.Stars.{adjacent_at}
use Rattle.lattice.specs.Subdivision.{centre_of, new_of, back_of, update_of}
use Rattle.geometry.specs.GeometryLaws.{star-distinct}
use Rattle.growth.specs.Sheets.{Sheet, UntornAt, Step}
use Rattle.growth.specs.Local.{is_there, there}
use Rattle.growth.specs.LocalTests.{there-some, some-there}
use Rattle.growth.specs.Normal.{point?}
use Rattle.table.specs.Search.{same_point}
use Rattle.table.specs.MapLaws.{same_refl, same_true}
use Rattle.base.specs.Base.{centre_at}
use Rattle.base.specs.Vertices.{hexagon_point, in_hexagon, in_first, new_points, points_in}
use Rattle.lattice.specs.declared.points.Point.{Point}
use Rattle.lattice.specs.declared.records.Record.{Record}
use Rattle.growth.specs.GrownLaws as growth

-- ---- records counted by their points

-- p is the point of a record of the list
abbrev pub Among : List Record → Point → Type 0
Among rs p = (r : Record) × Memᴰ r rs × (r.at ≡ p)

-- how many records of the list have a point that passes
unfoldable pub count : List Record → (Point → Bool) → ℕ
count [] P = 0
count (r ∷ rs) P = cond (P r.at) 1 0 + count rs P

pub count-all : (rs : List Record) (P : Point → Bool) → count rs P ≤ length rs
unfolding count
count-all [] P = omega arith
count-all (r ∷ rs) P = let a = one (P r.at) in let b = count-all rs P in omega arith
  where
    one : (b : Bool) → cond b 1 0 ≤ 1
    one true = omega arith
    one false = omega arith

pub count_less : (rs : List Record) (P Q : Point → Bool) → ((p : Point) → P p ≡ true → Q p ≡ true) → count rs P ≤ count rs Q
unfolding count
count_less [] P Q h = omega arith
count_less (r ∷ rs) P Q h = let a = one (P r.at) (Q r.at) (h r.at) in let b = count_less rs P Q h in omega arith
  where
    one : (a b : Bool) → (a ≡ true → b ≡ true) → cond a 1 0 ≤ cond b 1 0
    one true true f = omega arith
    one true false f = absurd (not-both (f refl) refl)
    one false b f = omega arith

or-after : (a b : Bool) → b ≡ true → a || b ≡ true
or-after true b h = refl
or-after false b h = h

-- one point more, which the list has
pub count-more : (rs : List Record) (P : Point → Bool) (x : Point) → Among rs x → P x ≡ false → count rs P + 1 ≤ count rs (λ p. same_point x p || P p)
unfolding count
count-more [] P x a f = absurd (Memᴰ.not-nil a.1)
count-more (r ∷ rs) P x a f = go (Memᴰ.cases_cons a.1) (λ m. count-more rs P x (a.0, m, a.2) f)
  where
    more : (s b : Bool) → cond b 1 0 ≤ cond (s || b) 1 0
    more true true = omega arith
    more true false = omega arith
    more false b = omega arith

    go : (a.0 ≡ r) ⊎ Memᴰ a.0 rs → (Memᴰ a.0 rs → count rs P + 1 ≤ count rs (λ p. same_point x p || P p))
        → cond (P r.at) 1 0 + count rs P + 1 ≤ cond (same_point x r.at || P r.at) 1 0 + count rs (λ p. same_point x p || P p)
    go (inl e) ih =
        let q : r.at ≡ x = ap (λ (u : Record). u.at) (sym e) ∙ a.2 in
        let zero : ◌≡◌ {A = ℕ} (cond (P r.at) 1 0) 0 = ap (λ (b : Bool). cond b 1 0) (ap P q ∙ f) in
        let one : ◌≡◌ {A = ℕ} (cond (same_point x r.at || P r.at) 1 0) 1 = ap
        (λ (b : Bool). cond (b || P r.at) 1 0) (ap (same_point x) q ∙ same_refl x) in
        let l = count_less rs P (λ p. same_point x p || P p) (λ p. or-after (same_point x p) (P p)) in
        omega arith
    go (inr m) ih = let l = ih m in let k = more (same_point x r.at) (P r.at) in omega arith

-- ---- points added, one after the other

-- how many of the first k points f are new: none of those before, and not passed already
unfoldable pub fresh : (ℕ → Point) → (Point → Bool) → ℕ → ℕ
fresh f P zero = 0
fresh f P (suc k) = fresh f P k + cond (among k (λ i. same_point (f i) (f k)) || P (f k)) 0 1

-- p passes, or is one of the first k
abbrev pub joined : (ℕ → Point) → ℕ → (Point → Bool) → Point → Bool
joined f k P p = among k (λ i. same_point (f i) p) || P p

joined_at : (f : ℕ → Point) (P : Point → Bool) (k j : ℕ) → j < k → joined f k P (f j) ≡ true
joined_at f P k j l = ap (λ (b : Bool). b || P (f j)) (at-among (λ i. same_point (f i) (f j)) k j l (same_refl (f j)))

or-left-more : (a b c : Bool) → b || c ≡ true → (a || b) || c ≡ true
or-left-more true b c h = refl
or-left-more false b c h = h

or_swap : (a b c : Bool) → a || (b || c) ≡ true → (a || b) || c ≡ true
or_swap true b c h = refl
or_swap false b c h = h

pub count-fresh : (rs : List Record) (f : ℕ → Point) (P : Point → Bool) (k : ℕ) → ((j : ℕ) → j < k → Among rs (f j))
    → count rs P + fresh f P k ≤ count rs (joined f k P)
unfolding fresh
count-fresh rs f P zero h = omega arith
count-fresh rs f P (suc k) h = go (joined f k P (f k)) refl (count-fresh rs f P k (λ j l. h j (omega arith)))
  where
    go : (b : Bool) → joined f k P (f k) ≡ b → count rs P + fresh f P k ≤ count rs (joined f k P)
        → count rs P + (fresh f P k + cond (joined f k P (f k)) 0 1) ≤ count rs (joined f (suc k) P)
    go true e ih =
        let z : ◌≡◌ {A = ℕ} (cond (joined f k P (f k)) 0 1) 0 = ap (λ (b : Bool). cond b 0 1) e in
        let l = count_less rs (joined f k P) (joined f (suc k) P) (λ p. or-left-more (same_point (f k) p) (among k (λ i. same_point (f i) p)) (P p)) in
        omega arith
    go false e ih =
        let z : ◌≡◌ {A = ℕ} (cond (joined f k P (f k)) 0 1) 1 = ap (λ (b : Bool). cond b 0 1) e in
        let m = count-more rs (joined f k P) (f k) (h k (omega arith)) e in
        let l = count_less rs (λ p. same_point (f k) p || joined f k P p) (joined f (suc k) P)
        (λ p. or_swap (same_point (f k) p) (among k (λ i. same_point (f i) p)) (P p)) in
        omega arith

-- different points, none of which passed
pub all-fresh : (f : ℕ → Point) (P : Point → Bool) (k : ℕ) → ((i j : ℕ) → i < j → j < k → f i ≡ f j → ⊥) → ((j : ℕ) → j < k → P (f j) ≡ false) → fresh f P k ≡ k
unfolding fresh
all-fresh f P zero d n = refl
all-fresh f P (suc k) d n =
    let ih = all-fresh f P k (λ i j l m. d i j l (omega arith)) (λ j l. n j (omega arith)) in
    let z : ◌≡◌ {A = ℕ} (cond (joined f k P (f k)) 0 1) 1 = ap (λ (b : Bool). cond b 0 1) (go (among k (λ i. same_point (f i) (f k))) refl) in
    omega arith
  where
    go : (b : Bool) → among k (λ i. same_point (f i) (f k)) ≡ b → joined f k P (f k) ≡ false
    go true e = let x = among-at (λ i. same_point (f i) (f k)) k e in absurd (d x.0 k x.1 (omega arith) (same_true (f x.0) (f k) x.2))
    go false e = ap (λ (b : Bool). b || P (f k)) e ∙ n k (omega arith)

-- ---- the points of a base

new-fresh : (laid : Point → Bool) (c : Point) (k : ℕ) → new_points laid c k ≡ fresh (hexagon_point c) laid k
unfolding new_points fresh in_hexagon
new-fresh laid c zero = refl
new-fresh laid c (suc k) = ap (λ (n : ℕ). n + cond (joined (hexagon_point c) k laid (hexagon_point c k)) 0 1) (new-fresh laid c k)

-- the points of the first n + 1 hexagons are those of the first n, and of one more
first_more : (cs : List ℤ) (n : ℕ) (p : Point) → joined (hexagon_point (centre_at cs n)) 7 (in_first cs n) p ≡ in_first cs (suc n) p
unfolding in_first in_hexagon
first_more cs n p = refl

-- the different points of the first n hexagons, where the list has them all
pub count-base : (rs : List Record) (cs : List ℤ) (n : ℕ) → ((p : Point) → in_first cs n p ≡ true → Among rs p) → points_in cs n ≤ count rs (in_first cs n)
unfolding points_in
count-base rs cs zero h = omega arith
count-base rs cs (suc n) h =
    let c = centre_at cs n in
    let more : (p : Point) → joined (hexagon_point c) 7 (in_first cs n) p ≡ true → in_first cs (suc n) p ≡ true = λ p t. sym (first_more cs n p) ∙ t in
    let a = count-base rs cs n (λ p t. h p (more p (or-after (among 7 (λ i. same_point (hexagon_point c i) p)) (in_first cs n p) t))) in
    let b = new-fresh (in_first cs n) c 7 in
    let d = count-fresh rs (hexagon_point c) (in_first cs n) 7
    (λ k l. h (hexagon_point c k) (more (hexagon_point c k) (joined_at (hexagon_point c) (in_first cs n) 7 k l))) in
    let e = count_less rs (joined (hexagon_point c) 7 (in_first cs n)) (in_first cs (suc n)) more in
    omega arith

-- ---- the points of a sheet

-- the list has the points of the sheet
abbrev pub Covered : Sheet → List Record → Type 0
Covered R rs = (p : Point) (r : Record) → R p ≡ Some r → Among rs p

none-there : (R : Sheet) (p : Point) → R p ≡ None → there R p ≡ false
unfolding there
none-there R p e = ap is_there e

module _ (R : Sheet) (v : Record) (R' : Sheet) (w : UntornAt R v) (s : Step R v R') where
  -- a subdivision keeps every point
  pub step_keeps : (p : Point) (r : Record) → R p ≡ Some r → (u : Record) × (R' p ≡ Some u)
  step_keeps p r x = go (point? p v.at) (growth.among (λ j. (new_of v j).at) p 6) (growth.among (adjacent_at v) p 6)
    where
      go : Dec (p ≡ v.at) → Dec ((j : ℕ) × (j < 6) × (p ≡ (new_of v j).at)) → Dec ((j : ℕ) × (j < 6) × (p ≡ adjacent_at v j)) → (u : Record) × (R' p ≡ Some u)
      go (yes e) b c = (centre_of v, ap R' e ∙ s.centre)
      go (no e) (yes (j, l, f)) c = (new_of v j, ap R' f ∙ s.new j l)
      go (no e) (no b) (yes (j, l, f)) = (update_of (back_of v.k j) r, ap R' f ∙ s.old j l r (ap R (sym f) ∙ x))
      go (no e) (no b) (no c) = (r, s.rest p e (λ j l f. b (j, l, f)) (λ j l f. c (j, l, f)) ∙ x)

  pub covered-before : (rs : List Record) → Covered R' rs → Covered R rs
  covered-before rs h p r x = let (u, y) = step_keeps p r x in h p u y

  -- and six points are new
  pub count-step : v.d ≡ 6 → (rs : List Record) → Covered R' rs → count rs (there R) + 6 ≤ count rs (there R')
  count-step six rs h =
      let f : ℕ → Point = λ j. (new_of v j).at in
      let a = all-fresh f (there R) 6 apart (λ j l. none-there R (new_of v j).at (w.free j l)) in
      let b = count-fresh rs f (there R) 6 (λ j l. h (new_of v j).at (new_of v j) (s.new j l)) in
      let c = count_less rs (joined f 6 (there R)) (there R') (λ p t. stays p (among 6 (λ i. same_point (f i) p)) refl t) in
      omega arith
    where
      apart : (i j : ℕ) → i < j → j < 6 → (new_of v i).at ≡ (new_of v j).at → ⊥
      apart i j l m e = let z : i ≡ j = star-distinct (centre_of v) i j (omega arith) (omega arith) (omega arith) (omega arith) e in omega arith

      stays : (p : Point) (b : Bool) → among 6 (λ i. same_point (new_of v i).at p) ≡ b → b || there R p ≡ true → there R' p ≡ true
      stays p true e t =
          let x = among-at (λ i. same_point (new_of v i).at p) 6 e in
          is_true (there R' p) (some-there R' p (new_of v x.0) (ap R' (sym (same_true (new_of v x.0).at p x.2)) ∙ s.new x.0 x.1))
      stays p false e t =
          let (r, x) = there-some R p (of-true t) in
          let (u, y) = step_keeps p r x in
          is_true (there R' p) (some-there R' p u y)
