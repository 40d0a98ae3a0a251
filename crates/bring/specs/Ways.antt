-- Which neighbours the places without an angle of 60 degrees lead to, in the model: the parents that have not been subdivided at the vertex's birth
-- level, in the order of the star.
-- `open_of` which parents, `open-two` two at most, where one has been subdivided · `Ways`, `open-ways` place by place · `splits-level` the level of a
-- lesser degree · `open-apart`, `open-off`, `open-rest` which they are.
-- Assumes nothing.
use Rattle.std.specs.Prelude.{◌≡◌, refl, ◌≢◌, ◌⊎◌, Bool, ℕ, zero, suc, ◌+◌, ◌*◌, ◌%◌, ◌-◌, ◌≤◌, ◌<◌, length}
use Rattle.std.proofs.Common.{sym, ◌∙◌, subst, inl, inr}
use Rattle.std.proofs.Math.Path.{ap}
use Rattle.std.proofs.Math.Bool.{true, false}
use mathlib.Core.List.Memᴰ
use mathlib.Core.List.{List, [], ◌∷◌, Memᴰ}
use native.Mathlib.Omega.{arith}
use Rattle.lattice.specs.Stars.{adjacent_at}
use Rattle.lattice.specs.Ranks.{move_of}
use Rattle.geometry.specs.StarSteps.{turn_of, down_of, star-step}
use Rattle.growth.specs.Sheets.{vertex}
use Rattle.growth.specs.Model.{by_splits}
use Rattle.growth.specs.Normal.{Pt, rank, birth, move, birth-lt, birth-par}
use Rattle.growth.specs.Parents.{par, par-move}
use Rattle.lattice.specs.declared.points.Point.{Point}
use Rattle.lattice.specs.declared.records.Record.{Record}
use Rattle.bring.specs.Bring.{places_of}
use Rattle.bring.specs.ChainLaws.{run, places-first}

-- the parents that have not been subdivided, in the order of the star
unfoldable pub open_of : Bool → Bool → Bool → List ℕ
open_of false false false = 0 ∷ 1 ∷ 2 ∷ []
open_of true false false = 1 ∷ 2 ∷ []
open_of false true false = 2 ∷ 0 ∷ []
open_of false false true = 0 ∷ 1 ∷ []
open_of true true false = 2 ∷ []
open_of true false true = 1 ∷ []
open_of false true true = 0 ∷ []
open_of true true true = []

-- two, where one of the three has been subdivided
two-0 : (y z : Bool) → length (open_of true y z) ≤ 2
unfolding open_of
two-0 false false = omega arith
two-0 true false = omega arith
two-0 false true = omega arith
two-0 true true = omega arith

two-1 : (x z : Bool) → length (open_of x true z) ≤ 2
unfolding open_of
two-1 false false = omega arith
two-1 true false = omega arith
two-1 false true = omega arith
two-1 true true = omega arith

two-2 : (x y : Bool) → length (open_of x y true) ≤ 2
unfolding open_of
two-2 false false = omega arith
two-2 true false = omega arith
two-2 false true = omega arith
two-2 true true = omega arith

pub open-two : (s : ℕ → Bool) (k : ℕ) → k < 3 → s k ≡ true → length (open_of (s 0) (s 1) (s 2)) ≤ 2
open-two s zero h e = subst (λ (x : Bool). length (open_of x (s 1) (s 2)) ≤ 2) (sym e) (two-0 (s 1) (s 2))
open-two s (suc zero) h e = subst (λ (x : Bool). length (open_of (s 0) x (s 2)) ≤ 2) (sym e) (two-1 (s 0) (s 2))
open-two s (suc (suc zero)) h e = subst (λ (x : Bool). length (open_of (s 0) (s 1) x) ≤ 2) (sym e) (two-2 (s 0) (s 1))
open-two s (suc (suc (suc k))) h e = absurd (omega arith)

-- place j of v leads to parent t of p, place by place
pub data Ways (v : Record) (p : Pt) (b : ℕ) : List ℕ → List ℕ → Type 0 where
  none : Ways v p b [] []
  way : (j t : ℕ) (js ts : List ℕ) → adjacent_at v j ≡ (par p t b).at → Ways v p b js ts → Ways v p b (j ∷ js) (t ∷ ts)

module _ (p : Pt) (b : ℕ) (f : rank p ≡ suc b) where
  one_way : (d k j t : ℕ) → 3 ≤ d → d ≤ 6 → j < d → k < 12 → k % 2 ≡ b % 2 → (k + turn_of d j) % 12 ≡ birth p + 4 * t → down_of d j ≡ 0
      → adjacent_at (vertex p.at d k b) j ≡ (par p t b).at
  unfolding move
  one_way d k j t l h hj hk e x y =
      let z : b + down_of d j ≡ b = omega arith in
      star-step (vertex p.at d k b) j l h hj hk e ∙ (λ i. move_of p.at (x i) (z i)) ∙ ap (λ (q : Pt). q.at) (sym (par-move p t b))

  open-run : (s0 s1 s2 : Bool) (n : ℕ) → (by_splits p.at s0 s1 s2 (birth p) b n).d ≢ 6
      → Ways (by_splits p.at s0 s1 s2 (birth p) b n) p b (run 0 (6 - (by_splits p.at s0 s1 s2 (birth p) b n).d)) (open_of s0 s1 s2)
  unfolding by_splits open_of run turn_of down_of
  open-run false false false n h =
      let l = birth-lt p in let m = birth-par p b f in
      way 0 0 _ _ (one_way 3 (birth p) 0 0 (omega arith) (omega arith) (omega arith) (omega arith) m (omega arith) refl)
      (way 1 1 _ _ (one_way 3 (birth p) 1 1 (omega arith) (omega arith) (omega arith) (omega arith) m (omega arith) refl)
      (way 2 2 _ _ (one_way 3 (birth p) 2 2 (omega arith) (omega arith) (omega arith) (omega arith) m (omega arith) refl) none))
  open-run true false false n h =
      let l = birth-lt p in let m = birth-par p b f in let m' : (birth p + 4) % 2 ≡ b % 2 = omega arith in
      way 0 1 _ _ (one_way 4 (birth p + 4) 0 1 (omega arith) (omega arith) (omega arith) (omega arith) m' (omega arith) refl)
      (way 1 2 _ _ (one_way 4 (birth p + 4) 1 2 (omega arith) (omega arith) (omega arith) (omega arith) m' (omega arith) refl) none)
  open-run false true false n h =
      let l = birth-lt p in let m = birth-par p b f in let m' : (birth p + 8) % 2 ≡ b % 2 = omega arith in
      way 0 2 _ _ (one_way 4 (birth p + 8) 0 2 (omega arith) (omega arith) (omega arith) (omega arith) m' (omega arith) refl)
      (way 1 0 _ _ (one_way 4 (birth p + 8) 1 0 (omega arith) (omega arith) (omega arith) (omega arith) m' (omega arith) refl) none)
  open-run false false true n h =
      let l = birth-lt p in let m = birth-par p b f in
      way 0 0 _ _ (one_way 4 (birth p) 0 0 (omega arith) (omega arith) (omega arith) (omega arith) m (omega arith) refl)
      (way 1 1 _ _ (one_way 4 (birth p) 1 1 (omega arith) (omega arith) (omega arith) (omega arith) m (omega arith) refl) none)
  open-run true true false n h =
      let l = birth-lt p in let m = birth-par p b f in let m' : (birth p + 8) % 2 ≡ b % 2 = omega arith in
      way 0 2 _ _ (one_way 5 (birth p + 8) 0 2 (omega arith) (omega arith) (omega arith) (omega arith) m' (omega arith) refl) none
  open-run true false true n h =
      let l = birth-lt p in let m = birth-par p b f in let m' : (birth p + 4) % 2 ≡ b % 2 = omega arith in
      way 0 1 _ _ (one_way 5 (birth p + 4) 0 1 (omega arith) (omega arith) (omega arith) (omega arith) m' (omega arith) refl) none
  open-run false true true n h =
      let l = birth-lt p in let m = birth-par p b f in
      way 0 0 _ _ (one_way 5 (birth p) 0 0 (omega arith) (omega arith) (omega arith) (omega arith) m (omega arith) refl) none
  open-run true true true n h = absurd (h refl)

-- of a lesser degree: it is 3 to 5, and the level is b
pub splits-level : (p : Point) (x y z : Bool) (k b n : ℕ) → (by_splits p x y z k b n).d ≢ 6
    → ((by_splits p x y z k b n).n.0 ≡ b) × (3 ≤ (by_splits p x y z k b n).d) × ((by_splits p x y z k b n).d ≤ 6)
unfolding by_splits
splits-level p false false false k b n h = (refl, omega arith, omega arith)
splits-level p true false false k b n h = (refl, omega arith, omega arith)
splits-level p false true false k b n h = (refl, omega arith, omega arith)
splits-level p false false true k b n h = (refl, omega arith, omega arith)
splits-level p true true false k b n h = (refl, omega arith, omega arith)
splits-level p true false true k b n h = (refl, omega arith, omega arith)
splits-level p false true true k b n h = (refl, omega arith, omega arith)
splits-level p true true true k b n h = absurd (h refl)

pub open-ways : (p : Pt) (b : ℕ) → rank p ≡ suc b → (v : Record) (s0 s1 s2 : Bool) (n : ℕ) → v ≡ by_splits p.at s0 s1 s2 (birth p) b n → v.d ≢ 6
    → Ways v p b (places_of v.d) (open_of s0 s1 s2)
open-ways p b f v s0 s1 s2 n e h =
    let w = by_splits p.at s0 s1 s2 (birth p) b n in
    let h' : w.d ≢ 6 = λ x. h (ap (λ (r : Record). r.d) e ∙ x) in
    let (x, l, t) = splits-level p.at s0 s1 s2 (birth p) b n h' in
    subst (λ (r : Record). Ways r p b (places_of r.d) (open_of s0 s1 s2)) (sym e)
    (subst (λ (js : List ℕ). Ways w p b js (open_of s0 s1 s2)) (sym (places-first w.d l t)) (open-run p b f s0 s1 s2 n h'))

-- ---- which they are
-- no number of the list stands in it again
pub data Apart : List ℕ → Type 0 where
  nil : Apart []
  cons : (t : ℕ) (ts : List ℕ) → ((u : ℕ) → Memᴰ u ts → u ≢ t) → Apart ts → Apart (t ∷ ts)

not_in : (t : ℕ) → (u : ℕ) → Memᴰ u [] → u ≢ t
not_in t u m = absurd (Memᴰ.not-nil m)

not-one : (t s : ℕ) → s ≢ t → (u : ℕ) → Memᴰ u (s ∷ []) → u ≢ t
not-one t s n u m = go (Memᴰ.cases_cons m)
  where
    go : (u ≡ s) ⊎ Memᴰ u [] → u ≢ t
    go (inl e) z = n (sym e ∙ z)
    go (inr k) z = Memᴰ.not-nil k

not-two : (t s r : ℕ) → s ≢ t → r ≢ t → (u : ℕ) → Memᴰ u (s ∷ r ∷ []) → u ≢ t
not-two t s r n n' u m = go (Memᴰ.cases_cons m)
  where
    go : (u ≡ s) ⊎ Memᴰ u (r ∷ []) → u ≢ t
    go (inl e) z = n (sym e ∙ z)
    go (inr k) z = not-one t r n' u k z

pub open-apart : (s0 s1 s2 : Bool) → Apart (open_of s0 s1 s2)
unfolding open_of
open-apart false false false = cons 0 _ (not-two 0 1 2 (omega arith) (omega arith)) (cons 1 _ (not-one 1 2 (omega arith)) (cons 2 _ (not_in 2) nil))
open-apart true false false = cons 1 _ (not-one 1 2 (omega arith)) (cons 2 _ (not_in 2) nil)
open-apart false true false = cons 2 _ (not-one 2 0 (omega arith)) (cons 0 _ (not_in 0) nil)
open-apart false false true = cons 0 _ (not-one 0 1 (omega arith)) (cons 1 _ (not_in 1) nil)
open-apart true true false = cons 2 _ (not_in 2) nil
open-apart true false true = cons 1 _ (not_in 1) nil
open-apart false true true = cons 0 _ (not_in 0) nil
open-apart true true true = nil

-- all of a list
pub data All (P : ℕ → Type 0) : List ℕ → Type 0 where
  nil : All P []
  cons : (t : ℕ) (ts : List ℕ) → P t → All P ts → All P (t ∷ ts)

pub all_map : (P Q : ℕ → Type 0) (ts : List ℕ) → ((t : ℕ) → Memᴰ t ts → P t → Q t) → All P ts → All Q ts
all_map P Q _ f nil = nil
all_map P Q _ f (cons t ts x xs) = cons t ts (f t (Memᴰ.head refl) x) (all_map P Q ts (λ u m. f u (Memᴰ.tail m)) xs)

-- each is a parent that has not been subdivided, where s tells which have
pub open-off : (s : ℕ → Bool) (s0 s1 s2 : Bool) → s 0 ≡ s0 → s 1 ≡ s1 → s 2 ≡ s2 → All (λ t. (t < 3) × (s t ≡ false)) (open_of s0 s1 s2)
unfolding open_of
open-off s false false false a b c = cons 0 _ (omega arith, a) (cons 1 _ (omega arith, b) (cons 2 _ (omega arith, c) nil))
open-off s true false false a b c = cons 1 _ (omega arith, b) (cons 2 _ (omega arith, c) nil)
open-off s false true false a b c = cons 2 _ (omega arith, c) (cons 0 _ (omega arith, a) nil)
open-off s false false true a b c = cons 0 _ (omega arith, a) (cons 1 _ (omega arith, b) nil)
open-off s true true false a b c = cons 2 _ (omega arith, c) nil
open-off s true false true a b c = cons 1 _ (omega arith, b) nil
open-off s false true true a b c = cons 0 _ (omega arith, a) nil
open-off s true true true a b c = nil

-- and the others have been
pub open-rest : (s : ℕ → Bool) (s0 s1 s2 : Bool) → s 0 ≡ s0 → s 1 ≡ s1 → s 2 ≡ s2 → (t : ℕ) → t < 3 → (s t ≡ true) ⊎ Memᴰ t (open_of s0 s1 s2)
unfolding open_of
open-rest s true s1 s2 a b c zero h = inl a
open-rest s s0 true s2 a b c (suc zero) h = inl b
open-rest s s0 s1 true a b c (suc (suc zero)) h = inl c
open-rest s false false false a b c zero h = inr (Memᴰ.head refl)
open-rest s false true false a b c zero h = inr (Memᴰ.tail (Memᴰ.head refl))
open-rest s false false true a b c zero h = inr (Memᴰ.head refl)
open-rest s false true true a b c zero h = inr (Memᴰ.head refl)
open-rest s false false false a b c (suc zero) h = inr (Memᴰ.tail (Memᴰ.head refl))
open-rest s true false false a b c (suc zero) h = inr (Memᴰ.head refl)
open-rest s false false true a b c (suc zero) h = inr (Memᴰ.tail (Memᴰ.head refl))
open-rest s true false true a b c (suc zero) h = inr (Memᴰ.head refl)
open-rest s false false false a b c (suc (suc zero)) h = inr (Memᴰ.tail (Memᴰ.tail (Memᴰ.head refl)))
open-rest s true false false a b c (suc (suc zero)) h = inr (Memᴰ.tail (Memᴰ.head refl))
open-rest s false true false a b c (suc (suc zero)) h = inr (Memᴰ.head refl)
open-rest s true true false a b c (suc (suc zero)) h = inr (Memᴰ.head refl)
open-rest s s0 s1 s2 a b c (suc (suc (suc t))) h = absurd (omega arith)
