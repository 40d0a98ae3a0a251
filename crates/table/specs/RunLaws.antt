-- A record near its home, found without a search: where the slots from its home on to it are taken, and none of a group right before it is its point's, each
-- of them holds another point's record, so the search comes to it.
-- `run_none`, `run_more` the taken slots in a row, counted · `near-test`, `run-group` what a group tells.
-- Assumes nothing.
use Rattle.lattice.specs.declared.records.Record.{Record}
use Rattle.std.specs.Prelude.{◌≡◌, Bool, ◌&&◌, List, leb, Option, Some, None}
use Rattle.std.proofs.Math.Path.{refl, ap}
use Rattle.std.proofs.Common.{sym, ◌∙◌, subst, leb-true}
use Rattle.std.proofs.Math.Bool.{true, false, cond}
use Prim.Native.Nat.{ℕ, zero, suc, ◌+◌, ◌-◌, ◌*◌, ◌≤◌, ◌<◌}
use native.Mathlib.Omega.{arith}
use Rattle.std.proofs.Math.Decide.{dec_lt}
use Rattle.laws.specs.Each.{both_left, both_right}
use Rattle.lattice.specs.declared.points.Point.{Point}
use Rattle.table.specs.Slots.{slot_width, Table, free_at, record_at, slots_of, slot_at, is_free}
use Rattle.table.specs.Search.{home_of, meets}
use Rattle.table.specs.Told.{Reaches}
use Rattle.table.specs.Order.{steps}
use Rattle.table.specs.Reading.{reads_as, NoneIn, run_on, run_before}
use Rattle.table.specs.SlotLaws.{table-slots}
use Rattle.table.specs.SearchLaws.{steps-lo, steps-hi, other-another, free-holds}
use Rattle.table.specs.declared.probe.Meet.TheVariants.{Hit, Other}

-- ---- the taken slots in a row

module _ (f : ℕ → Option Record) where
  pub run_none : 0 ≡ run_before f 0
  unfolding run_before
  run_none = refl

  pub run_more : (i run free r : ℕ) → run ≡ run_before f i → free ≡ is_free (f i) → r ≡ run_on run free → r ≡ run_before f (i + 1)
  unfolding run_before
  run_more i run free r a b e =
      let x : suc i ≡ i + 1 = omega arith in
      e ∙ (λ k. run_on (a k) (b k)) ∙ ap (run_before f) x

  -- no more than there are
  pub run-most : (i : ℕ) → run_before f i ≤ i
  unfolding run_before
  run-most zero = omega arith
  run-most (suc i) = go (f i) (run-most i)
    where
      go : (s : Option Record) → run_before f i ≤ i → run_on (run_before f i) (is_free s) ≤ suc i
      go None l = omega arith
      go (Some r) l = omega arith

  -- none of them is free
  run-taken : (i s : ℕ) → s < i → i ≤ s + run_before f i → f s ≡ None → ⊥
  unfolding run_before
  run-taken zero s l m e = omega arith
  run-taken (suc i) s l m e = go (f i) refl (dec_lt s i) (λ h k. run-taken i s h k e)
    where
      go : (c : Option Record) → f i ≡ c → Dec (s < i) → (s < i → i ≤ s + run_before f i → ⊥) → ⊥
      go None a d k = let z : run_on (run_before f i) (is_free (f i)) ≡ 0 = ap (λ (x : Option Record). run_on (run_before f i) (is_free x)) a in omega arith
      go (Some r) a (yes h) k =
          let z : run_on (run_before f i) (is_free (f i)) ≡ run_before f i + 1 = ap (λ (x : Option Record). run_on (run_before f i) (is_free x)) a in
          k h (omega arith)
      go (Some r) a (no h) k = let q : i ≡ s = omega arith in free-holds r e (ap f (sym q) ∙ a)

-- ---- what a group tells

-- slot i lies no farther from slot h than `run` slots, nor than the k slots before it
abbrev pub Near : ℕ → ℕ → ℕ → ℕ → Type 0
Near h i run k = (h ≤ i) × (i ≤ h + run) × (i ≤ h + k) × (k ≤ i)

pub near-test : (h i run k : ℕ) → ((leb h i && leb i (h + run)) && leb i (h + k)) && leb k i ≡ true → Near h i run k
near-test h i run k e =
    let abc = both_left ((leb h i && leb i (h + run)) && leb i (h + k)) (leb k i) e in
    let ab = both_left (leb h i && leb i (h + run)) (leb i (h + k)) abc in (
      leb-true h i (both_left (leb h i) (leb i (h + run)) ab),
      leb-true i (h + run) (both_right (leb h i) (leb i (h + run)) ab),
      leb-true i (h + k) (both_right (leb h i && leb i (h + run)) (leb i (h + k)) abc),
      leb-true k i (both_right ((leb h i && leb i (h + run)) && leb i (h + k)) (leb k i) e),
    )

module _ (t : List ℕ) (p : Point) where
  -- a taken slot that does not read as p's record holds another's
  read-other : (i : ℕ) → reads_as t p i ≡ false → (slot_at t i ≡ None → ⊥) → meets (slot_at t i) p ≡ Other
  unfolding slot_at
  read-other i e n = go (free_at t (slot_width * i)) refl
    where
      go : (b : Bool) → free_at t (slot_width * i) ≡ b → meets (slot_at t i) p ≡ Other
      go true f = absurd (n (ap (λ (b : Bool). cond b None (Some (record_at t (slot_width * i)))) f))
      go false f = ap (λ (b : Bool). meets (cond b None (Some (record_at t (slot_width * i)))) p) f ∙ ap (λ (b : Bool). cond b Hit Other) e

  -- so does each slot from home on to slot i, which is near it
  pub run-group : (n : ℕ) → Table t n → (h i k : ℕ) → i < n → h ≡ home_of p n → Near h i (run_before (slot_at t) i) k
      → NoneIn t p.a p.b (i - k) k → Reaches t p i
  run-group n w h i k l e near none =
      record { below = omega (arith, table-slots t n w); before = λ s b m. other-another (slot_at t s) p (between s b m) }
    where
      hi : h ≤ i
      hi = near.0

      home : h ≡ home_of p (slots_of t)
      home = e ∙ ap (home_of p) (sym (table-slots t n w))

      between : (s : ℕ) → s < slots_of t → steps (slots_of t) (home_of p (slots_of t)) s < steps (slots_of t) (home_of p (slots_of t)) i → meets (slot_at t s) p ≡ Other
      between s b m = go (dec_lt s h)
        where
          nearer : steps (slots_of t) h s < steps (slots_of t) h i
          nearer = subst (λ (x : ℕ). steps (slots_of t) x s < steps (slots_of t) x i) (sym home) m

          go : Dec (s < h) → meets (slot_at t s) p ≡ Other
          go (yes a) = absurd (omega (arith, nearer, steps-hi (slots_of t) h s a, steps-lo (slots_of t) h i hi, table-slots t n w))
          go (no a) =
              let c : h ≤ s = omega arith in
              let d : s < i = omega (arith, nearer, steps-lo (slots_of t) h s c, steps-lo (slots_of t) h i hi) in
              let at : i - k + (s - (i - k)) ≡ s = omega arith in
              let out : reads_as t p s ≡ false = ap (reads_as t p) (sym at) ∙ none p.m.0 (s - (i - k)) (omega arith) in
              read-other s out (run-taken (slot_at t) i s d (omega arith))
