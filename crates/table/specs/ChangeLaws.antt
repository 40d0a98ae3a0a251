-- One slot changed: slots f become g, which differ at slot j only.
-- `Stands` a record stands in some slot · `enter-ordered`, `enter-stands`, `enter-old` a record put into the free slot where the search for its point
-- ended · `replace-ordered`, `replace-seek`, `replace-stands`, `replace-old` one put in place of another of the same point · `count-change`,
-- `count-all`, `free_one`, `some-free`, `none_free` the number of free slots.
-- Why entering keeps order: the search for the new point passed other points' records only, so no slot on its way is free; the slots of old records
-- stay taken, and fewer are free.
-- Assumes nothing.
use Rattle.std.specs.Prelude.{◌≡◌, true, cond, Option, Some, None}
use Rattle.std.proofs.Math.Path.{refl, ap, fun_ext}
use Rattle.std.proofs.Common.{sym, ◌∙◌, subst}
use Prim.Native.Nat.{ℕ, zero, suc, ◌+◌, ◌≤◌, ◌<◌}
use native.Mathlib.Omega.{arith}
use Rattle.std.proofs.Math.Decide.{dec_lt, ℕ_discrete}
use Rattle.lattice.specs.Records.{valid_of}
use Rattle.lattice.specs.declared.points.Point.{Point}
use Rattle.lattice.specs.declared.records.Record.{Record}
use Rattle.table.specs.Slots.{is_free, free_below}
use Rattle.table.specs.Search.{home_of, same_point, meets, search_from, seek}
use Rattle.table.specs.Order.{steps, EachValid, NoneTwice}
use Rattle.table.specs.SearchLaws.{holds-eq, free-holds}
use Rattle.table.specs.OrderLaws.{Gaps, free-at, free-far, Ordered, Far, far, nearer, present}
use Rattle.table.specs.declared.probe.Meet.{Meet}
use Rattle.table.specs.declared.probe.Meet.TheVariants.{Hit, Other}
use Rattle.table.specs.declared.probe.Found.TheVariants as found

-- record r stands in some slot
pub record Stands (n : ℕ) (f : ℕ → Option Record) (r : Record) : Type 0 where
  pub slot : ℕ
  pub below : slot < n
  pub holds : f slot ≡ Some r

module _ (n : ℕ) (some : 0 < n) (f g : ℕ → Option Record) (j : ℕ) (old : (i : ℕ) → (i ≡ j → ⊥) → g i ≡ f i) where
  -- a slot of g: slot j, or one of f's
  data Which (i : ℕ) : Type 0 where
    it : i ≡ j → Which i
    not-it : (i ≡ j → ⊥) → g i ≡ f i → Which i

  which : (i : ℕ) → Which i
  which i = go (ℕ_discrete i j)
    where
      go : Dec (i ≡ j) → Which i
      go (yes e) = it e
      go (no e) = not-it e (old i e)

  module _ (r : Record) (new : g j ≡ Some r) where
    at_j : (i : ℕ) (q : Record) → i ≡ j → g i ≡ Some q → q ≡ r
    at_j i q e h = holds-eq q r (sym h ∙ ap g e ∙ new)

    -- a free slot of g is a free one of f, and not slot j
    free_was : (s : ℕ) → g s ≡ None → f s ≡ None
    free_was s e = go (which s)
      where
        go : Which s → f s ≡ None
        go (it x) = free-holds r (ap g (sym x) ∙ e) new
        go (not-it x z) = sym z ∙ e

    free-not-j : (s : ℕ) → g s ≡ None → s ≡ j → ⊥
    free-not-j s e x = free-holds r (ap g (sym x) ∙ e) new

    valid-kept : EachValid n f → valid_of r ≡ true → EachValid n g
    valid-kept v ok i q hi e = go (which i)
      where
        go : Which i → valid_of q ≡ true
        go (it x) = subst (λ (u : Record). valid_of u ≡ true) (sym (at_j i q x e)) ok
        go (not-it x z) = v i q hi (sym z ∙ e)

    -- ---- a record entered: slot j was free, and the search for its point ended there
    module _ (ord : Ordered n f) (gap : seek n f r.at ≡ found.Free j) where
      G : Gaps n some f r.at j
      G = free-at n some f r.at j gap

      absent : (i : ℕ) (q : Record) → i < n → f i ≡ Some q → q.at ≡ r.at → ⊥
      absent i q hi e same =
          let x : seek n f r.at ≡ found.At i = ap (seek n f) (sym same) ∙ present n some f ord i q hi e in
          let z : ◌≡◌ {A = ℕ} 0 1 = cc in
          omega arith

      once-kept : NoneTwice n g
      once-kept i k a b hi hk ea eb same = go (which i) (which k)
        where
          go : Which i → Which k → i ≡ k
          go (it x) (it y) = x ∙ sym y
          go (it x) (not-it y z) = absurd (absent k b hk (sym z ∙ eb) (sym same ∙ ap (λ (u : Record). u.at) (at_j i a x ea)))
          go (not-it x z) (it y) = absurd (absent i a hi (sym z ∙ ea) (same ∙ ap (λ (u : Record). u.at) (at_j k b y eb)))
          go (not-it x z) (not-it y w) = ord.once i k a b hi hk (sym z ∙ ea) (sym w ∙ eb) same

      far-kept : Far n g
      far-kept i s q hi hs e fr = go (which i)
        where
          go : Which i → steps n (home_of q.at n) i < steps n (home_of q.at n) s
          go (it x) =
              subst (λ (u : Record). steps n (home_of u.at n) i < steps n (home_of u.at n) s) (sym (at_j i q x e))
              (subst (λ (k : ℕ). steps n (home_of r.at n) k < steps n (home_of r.at n) s) (sym x)
              (free-far n some f r.at j s G.below hs G.others (free_was s fr) (free-not-j s fr)))
          go (not-it x z) = far n f ord.reach i s q hi hs (sym z ∙ e) (free_was s fr)

      pub enter-ordered : valid_of r ≡ true → Ordered n g
      enter-ordered ok = record { valid = valid-kept ord.valid ok; once = once-kept; reach = nearer n g far-kept }

      -- what stands then: the new record, and the old ones
      pub enter-new : Stands n g r
      enter-new = record { slot = j; below = G.below; holds = new }

      pub enter-stands : (q : Record) → Stands n f q → Stands n g q
      enter-stands q s = go (which s.slot)
        where
          go : Which s.slot → Stands n g q
          go (it x) = free-holds q G.free (ap f (sym x) ∙ s.holds)
          go (not-it x z) = record { slot = s.slot; below = s.below; holds = z ∙ s.holds }

      pub enter-old : (q : Record) → (q.at ≡ r.at → ⊥) → Stands n g q → Stands n f q
      enter-old q ne s = go (which s.slot)
        where
          go : Which s.slot → Stands n f q
          go (it x) = absurd (ne (ap (λ (u : Record). u.at) (at_j s.slot q x s.holds)))
          go (not-it x z) = record { slot = s.slot; below = s.below; holds = sym z ∙ s.holds }

    -- ---- a record replaced: slot j held one of the same point
    module _ (was : Record) (held : f j ≡ Some was) (same : r.at ≡ was.at) (here : j < n) where
      meets-same : (p : Point) (i : ℕ) → meets (g i) p ≡ meets (f i) p
      meets-same p i = go (which i)
        where
          go : Which i → meets (g i) p ≡ meets (f i) p
          go (it e) =
              ap (λ (x : ℕ). meets (g x) p) e ∙ ap (λ (x : Option Record). meets x p) new ∙ ap (λ (q : Point). cond (same_point q p) Hit Other) same
              ∙ sym (ap (λ (x : Option Record). meets x p) held) ∙ ap (λ (x : ℕ). meets (f x) p) (sym e)
          go (not-it x z) = ap (λ (s : Option Record). meets s p) z

      -- every search ends as before
      pub replace-seek : (p : Point) → seek n g p ≡ seek n f p
      replace-seek p = ap (λ (look : ℕ → Meet). search_from look n (home_of p n) n) (fun_ext (meets-same p))

      -- a held slot of g is one of f, with a record of the same point
      record Back (i : ℕ) (q : Record) : Type 0 where
        rec : Record
        holds : f i ≡ Some rec
        point : q.at ≡ rec.at

      back : (i : ℕ) (q : Record) → g i ≡ Some q → Back i q
      back i q e = go (which i)
        where
          go : Which i → Back i q
          go (it x) = record { rec = was; holds = ap f x ∙ held; point = ap (λ (u : Record). u.at) (at_j i q x e) ∙ same }
          go (not-it x z) = record { rec = q; holds = sym z ∙ e; point = refl }

      pub replace-ordered : Ordered n f → valid_of r ≡ true → Ordered n g
      replace-ordered ord ok = record {
        valid = valid-kept ord.valid ok;
        once =
            λ i k a b hi hk ea eb s. ord.once i k (back i a ea).rec (back k b eb).rec hi hk
            (back i a ea).holds (back k b eb).holds (sym (back i a ea).point ∙ s ∙ (back k b eb).point);
        reach =
            nearer n g (λ i s q hi hs e fr. subst (λ (p : Point). steps n (home_of p n) i < steps n (home_of p n) s)
            (sym (back i q e).point) (far n f ord.reach i s (back i q e).rec hi hs (back i q e).holds (free_was s fr)));
      }

      pub replace-new : Stands n g r
      replace-new = record { slot = j; below = here; holds = new }

      pub replace-stands : (q : Record) → (q.at ≡ r.at → ⊥) → Stands n f q → Stands n g q
      replace-stands q ne s = go (which s.slot)
        where
          go : Which s.slot → Stands n g q
          go (it x) = absurd (ne (ap (λ (u : Record). u.at) (holds-eq q was (sym s.holds ∙ ap f x ∙ held)) ∙ sym same))
          go (not-it x z) = record { slot = s.slot; below = s.below; holds = z ∙ s.holds }

      pub replace-old : (q : Record) → (q.at ≡ r.at → ⊥) → Stands n g q → Stands n f q
      replace-old q ne s = go (which s.slot)
        where
          go : Which s.slot → Stands n f q
          go (it x) = absurd (ne (ap (λ (u : Record). u.at) (at_j s.slot q x s.holds)))
          go (not-it x z) = record { slot = s.slot; below = s.below; holds = sym z ∙ s.holds }

-- ---- the number of free slots

module _ (f g : ℕ → Option Record) (j : ℕ) (old : (i : ℕ) → (i ≡ j → ⊥) → g i ≡ f i) where
  count-before : (n : ℕ) → n ≤ j → free_below g n ≡ free_below f n
  unfolding free_below
  count-before zero h = refl
  count-before (suc n) h =
      let a : free_below g n ≡ free_below f n = count-before n (omega arith) in
      let b : is_free (g n) ≡ is_free (f n) = ap is_free (old n (omega arith)) in
      omega arith

  pub count-change : (n : ℕ) → j < n → free_below g n + is_free (f j) ≡ free_below f n + is_free (g j)
  unfolding free_below
  count-change zero h = absurd (omega arith)
  count-change (suc n) h = go (ℕ_discrete n j) (λ l. count-change n l)
    where
      go : Dec (n ≡ j) → (j < n → free_below g n + is_free (f j) ≡ free_below f n + is_free (g j))
          → free_below g n + is_free (g n) + is_free (f j) ≡ free_below f n + is_free (f n) + is_free (g j)
      go (yes x) ih =
          let a = count-before n (omega arith) in
          let b : is_free (g n) ≡ is_free (g j) = ap (λ (y : ℕ). is_free (g y)) x in
          let c : is_free (f n) ≡ is_free (f j) = ap (λ (y : ℕ). is_free (f y)) x in
          omega arith
      go (no x) ih =
          let a = ih (omega arith) in
          let b : is_free (g n) ≡ is_free (f n) = ap is_free (old n x) in
          omega arith

module _ (f : ℕ → Option Record) where
  -- all free, one free, none free
  pub count-all : (n : ℕ) → ((i : ℕ) → i < n → f i ≡ None) → free_below f n ≡ n
  unfolding free_below
  count-all zero h = refl
  count-all (suc n) h =
      let a = count-all n (λ i l. h i (omega arith)) in
      let b : is_free (f n) ≡ 1 = ap is_free (h n (omega arith)) in
      omega arith

  pub free_one : (n s : ℕ) → s < n → f s ≡ None → 0 < free_below f n
  unfolding free_below
  free_one zero s h e = absurd (omega arith)
  free_one (suc n) s h e = go (ℕ_discrete s n) (λ l. free_one n s l e)
    where
      go : Dec (s ≡ n) → (s < n → 0 < free_below f n) → 0 < free_below f n + is_free (f n)
      go (yes x) ih = let a : is_free (f n) ≡ 1 = ap (λ (y : ℕ). is_free (f y)) (sym x) ∙ ap is_free e in omega arith
      go (no x) ih = let a = ih (omega arith) in omega arith

  pub some-free : (n : ℕ) → 0 < free_below f n → (s : ℕ) × (s < n) × (f s ≡ None)
  unfolding free_below
  some-free zero h = absurd (omega arith)
  some-free (suc n) h = go (f n) refl (λ k. some-free n k)
    where
      go : (c : Option Record) → f n ≡ c → (0 < free_below f n → (s : ℕ) × (s < n) × (f s ≡ None)) → (s : ℕ) × (s < suc n) × (f s ≡ None)
      go None e ih = (n, omega arith, e)
      go (Some r) e ih =
          let z : is_free (f n) ≡ 0 = ap is_free e in
          let w = ih (omega arith) in
          (w.0, omega (arith, w.1), w.2)

  pub none_free : (n : ℕ) → ((s : ℕ) → s < n → f s ≡ None → ⊥) → free_below f n ≡ 0
  none_free n h = go (dec_lt 0 (free_below f n))
    where
      go : Dec (0 < free_below f n) → free_below f n ≡ 0
      go (yes l) = let w = some-free n l in absurd (h w.0 w.1 w.2)
      go (no l) = omega arith
