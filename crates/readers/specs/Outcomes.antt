-- How a reader comes to 0, and to 12: what was read, restored and judged on the way. Each way there and back.
-- `full-ends`, `full-zero`, `full-grown` what is accepted is grown · `reduced-ends`, `reduced-zero`, `reduced-twelve` · `restored-completed` it ends by the
-- judgement that salvage has too.
-- Assumes nothing.
use Rattle.std.specs.Prelude.{◌≡◌, Bool, ℕ, ◌≤◌, length, None}
use Rattle.std.proofs.Math.Path.{refl, ap}
use Rattle.std.proofs.Common.{◌∙◌}
use Rattle.std.proofs.Math.Bool.{true, false, cond}
use mathlib.Core.List.{List}
use native.Mathlib.Omega.{arith}
use Rattle.laws.specs.Some.{some_of}
use Rattle.lattice.specs.declared.records.Record.{Record}
use Rattle.table.specs.Slots.{lengths_fit, cleared_of}
use Rattle.writers.specs.Files.{redundant}
use Rattle.grown.specs.Grown.{is_grown}
use Rattle.readers.specs.Readers.{Lines, Read, Fault, read_lines, Restored, With, Stopped, restore_all, TablesAfter, tables_after, refused, accepted}
use Rattle.readers.specs.Readers.{completed}
use Rattle.readers.specs.Readers.{end_full, end_restored, end_reduced, read_full_of, read_reduced_of}
use Rattle.readers.specs.FaultLaws.{fault-number, stop-number}

module _ (t s f : List ℕ) where
  -- ---- the full reader
  pub full-ends : (rs : List Record) (u : List ℕ) → lengths_fit t s ≡ true → read_lines f (cleared_of t) ≡ Read rs u
      → read_full_of t s f ≡ cond (is_grown u) (accepted u s) (refused 11 0 t s)
  unfolding read_full_of
  full-ends rs u fit e = λ i. cond (fit i) (end_full t s (e i)) (tables_after 1 0 t s)

  pub record FullRead : Type 0 where
    pub fit : lengths_fit t s ≡ true
    pub records : List Record
    pub table : List ℕ
    pub lines : read_lines f (cleared_of t) ≡ Read records table
    pub grown : is_grown table ≡ true
    pub is : read_full_of t s f ≡ accepted table s

  pub full-zero : (read_full_of t s f).number ≡ 0 → FullRead
  unfolding read_full_of
  full-zero = go (lengths_fit t s) refl (read_lines f (cleared_of t)) refl
    where
      judged : lengths_fit t s ≡ true → (rs : List Record) (u : List ℕ) → read_lines f (cleared_of t) ≡ Read rs u → (b : Bool) → is_grown u ≡ b
          → (cond b (accepted u s) (refused 11 0 t s)).number ≡ 0 → FullRead
      judged fit rs u e true g z = record {
        fit = fit;
        records = rs;
        table = u;
        lines = e;
        grown = g;
        is = full-ends rs u fit e
            ∙ ap (λ (b : Bool). cond b (accepted u s) (refused 11 0 t s)) g;
      }
      judged fit rs u e false g z = absurd (omega arith)

      go : (b : Bool) → lengths_fit t s ≡ b → (x : Lines) → read_lines f (cleared_of t) ≡ x → (cond b (end_full t s x) (tables_after 1 0 t s)).number ≡ 0 → FullRead
      go false fit x e z = absurd (omega arith)
      go true fit (Fault number line) e z = absurd (let l = fault-number f (length f) 0 1 None (cleared_of t) number line e in omega arith)
      go true fit (Read rs u) e z = judged fit rs u e (is_grown u) refl z

  -- "11: not a grown mesh"
  pub full-grown : (read_full_of t s f).number ≡ 0 → is_grown (read_full_of t s f).table ≡ true
  full-grown z = let w = full-zero z in ap (λ (o : TablesAfter). is_grown o.table) w.is ∙ w.grown

  -- ---- the reduced reader
  abbrev pub ended : List Record → List ℕ → TablesAfter
  ended rs w = cond (is_grown w) (cond (some_of (redundant w) rs) (refused 12 0 t s) (accepted w s)) (refused 11 0 t s)

  pub reduced-ends : (rs : List Record) (u w : List ℕ) → lengths_fit t s ≡ true → read_lines f (cleared_of t) ≡ Read rs u → restore_all rs (With u) ≡ With w
      → read_reduced_of t s f ≡ ended rs w
  unfolding read_reduced_of
  reduced-ends rs u w fit e k = (λ i. cond (fit i) (end_reduced t s (e i)) (tables_after 1 0 t s)) ∙ ap (end_restored t s rs) k

  -- its lines are read, what they leave out is restored, and the whole is grown; whether a redundant record was kept
  pub record ReducedRead (kept : Bool) : Type 0 where
    pub fit : lengths_fit t s ≡ true
    pub records : List Record
    pub lined : List ℕ
    pub table : List ℕ
    pub lines : read_lines f (cleared_of t) ≡ Read records lined
    pub restored : restore_all records (With lined) ≡ With table
    pub grown : is_grown table ≡ true
    pub redundants : some_of (redundant table) records ≡ kept
    pub is : read_reduced_of t s f ≡ cond kept (refused 12 0 t s) (accepted table s)

  reduced-way : (kept : Bool) → (read_reduced_of t s f).number ≡ cond kept 12 0 → ReducedRead kept
  unfolding read_reduced_of
  reduced-way kept = go (lengths_fit t s) refl (read_lines f (cleared_of t)) refl
    where
      other : {A : Type 0} (number : ℕ) → 1 ≤ number → number ≤ 11 → number ≡ cond kept 12 0 → A
      other number l h z = absurd (at kept z)
        where
          at : (b : Bool) → number ≡ cond b 12 0 → ⊥
          at true e = omega arith
          at false e = omega arith

      same : (k b : Bool) (w : List ℕ) → (cond k (refused 12 0 t s) (accepted w s)).number ≡ cond b 12 0 → k ≡ b
      same true true w z = refl
      same false false w z = refl
      same true false w z = absurd (omega arith)
      same false true w z = absurd (omega arith)

      judged : lengths_fit t s ≡ true → (rs : List Record) (u w : List ℕ) → read_lines f (cleared_of t) ≡ Read rs u → restore_all rs (With u) ≡ With w
          → (b : Bool) → is_grown w ≡ b
          → (cond b (cond (some_of (redundant w) rs) (refused 12 0 t s) (accepted w s)) (refused 11 0 t s)).number ≡ cond kept 12 0 → ReducedRead kept
      judged fit rs u w e k true g z =
          let r : some_of (redundant w) rs ≡ kept = same (some_of (redundant w) rs) kept w z in
          record {
            fit = fit;
            records = rs;
            lined = u;
            table = w;
            lines = e;
            restored = k;
            grown = g;
            redundants = r;
            is = reduced-ends rs u w fit e k ∙ (λ i. cond (g i) (cond (r i) (refused 12 0 t s) (accepted w s)) (refused 11 0 t s));
          }
      judged fit rs u w e k false g z = other 11 (omega arith) (omega arith) z

      back : lengths_fit t s ≡ true → (rs : List Record) (u : List ℕ) → read_lines f (cleared_of t) ≡ Read rs u → (x : Restored)
          → restore_all rs (With u) ≡ x → (end_restored t s rs x).number ≡ cond kept 12 0 → ReducedRead kept
      back fit rs u e (Stopped number) k z = let (l, h) = stop-number rs u number k in other number (omega arith) h z
      back fit rs u e (With w) k z = judged fit rs u w e k (is_grown w) refl z

      go : (b : Bool) → lengths_fit t s ≡ b → (x : Lines) → read_lines f (cleared_of t) ≡ x
          → (cond b (end_reduced t s x) (tables_after 1 0 t s)).number ≡ cond kept 12 0 → ReducedRead kept
      go false fit x e z = other 1 (omega arith) (omega arith) z
      go true fit (Fault number line) e z =
          let (l, h) = fault-number f (length f) 0 1 None (cleared_of t) number line e in other number (omega arith) (omega arith) z
      go true fit (Read rs u) e z = back fit rs u e (restore_all rs (With u)) refl z

  pub reduced-zero : (read_reduced_of t s f).number ≡ 0 → ReducedRead false
  reduced-zero z = reduced-way false z

  pub reduced-twelve : (read_reduced_of t s f).number ≡ 12 → ReducedRead true
  reduced-twelve z = reduced-way true z

pub restored-completed : (t s : List ℕ) (rs : List Record) (x : Restored)
    → end_restored t s rs x ≡ completed (λ number. refused number 0 t s) (λ u. cond (some_of (redundant u) rs) (refused 12 0 t s) (accepted u s)) x
restored-completed t s rs (Stopped number) = refl
restored-completed t s rs (With u) = refl
