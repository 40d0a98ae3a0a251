-- How both readers begin, by cases: `Prepared` the length test, and both tables cleared, `slots_told` the number that it tells:
-- `none-unfit`, `other-unfit`, `both-fit` and back, `prepared-unfit`, `prepared-fit`, `lengths-same` · `Begun` that, and the lines: `begun-unfit`,
-- `begun-fault`, `begun-read` and back, `begun-filled` · `full-unfit` lengths refused · `fault-full`, `fault-reduced` a fault is what both answer.
-- Assumes nothing.
use Rattle.std.specs.Prelude.{◌≡◌, refl, Bool, true, false, List, ℕ, eqb, length, Option, Some, None}
use Rattle.std.proofs.Math.Path.{sym, ap}
use Rattle.std.proofs.Common.{◌∙◌, arith, eqb-true}
use Rattle.std.proofs.Math.Bool.{cond}
use Rattle.laws.specs.Each.{both_right}
use Rattle.lattice.specs.declared.records.Record.{Record}
use Rattle.table.specs.Slots.{Table, fits_length, lengths_fit, slots_of, cleared_of}
use Rattle.table.specs.MapLaws.{table_of}
use Rattle.table.specs.SlotLaws.{slots-table, table-lengths, lengths_none, lengths-other}
use Rattle.readers.specs.Readers.{Lines, Read, Fault, read_lines, tables_after, refused, end_full, end_reduced, read_full_of, read_reduced_of}
use Rattle.readers.specs.ReadLaws.{Lined, read-lines}
use Rattle.readers.specs.LineSteps.{EndsAs, ends_read, ends-fault}

-- ---- the length test

-- the number of slots told, 0 where the lengths don't fit
abbrev pub slots_told : Option ℕ → ℕ
slots_told None = 0
slots_told (Some n) = n

-- t and s are the tables found, t' and s' those left, n the answer
pub data Prepared (t s t' s' : List ℕ) (n : ℕ) : Type 0 where
  unfit : n ≡ 0 → lengths_fit t s ≡ false → t' ≡ t → s' ≡ s → Prepared t s t' s' n
  fit : (n ≡ 0 → ⊥) → lengths_fit t s ≡ true → t' ≡ cleared_of t → s' ≡ cleared_of s → Table t n → Prepared t s t' s' n

module _ (t s : List ℕ) where
  pub none-unfit : slots_of t ≡ 0 → Prepared t s t s 0
  none-unfit e = unfit refl (lengths_none t s e) refl refl

  pub other-unfit : (length s ≡ length t → ⊥) → Prepared t s t s 0
  other-unfit e = unfit refl (lengths-other t s e) refl refl

  pub both-fit : (n : ℕ) → n ≡ slots_of t → (n ≡ 0 → ⊥) → length s ≡ length t → (t' s' : List ℕ) → t' ≡ cleared_of t → s' ≡ cleared_of s → Prepared t s t' s' n
  both-fit n e some l t' s' f g =
      let w = slots-table t n e some in
      fit some (table-lengths t s n w l) f g w

  pub lengths-same : lengths_fit t s ≡ true → length s ≡ length t
  lengths-same h = eqb-true (length s) (length t) (both_right (fits_length (length t)) (eqb (length s) (length t)) h)

  -- the two cases, by the answer
  pub prepared-unfit : {t' s' : List ℕ} {n : ℕ} → Prepared t s t' s' n → n ≡ 0 → (lengths_fit t s ≡ false) × (t' ≡ t) × (s' ≡ s)
  prepared-unfit (unfit e a b c) h = (a, b, c)
  prepared-unfit (fit e a b c w) h = absurd (e h)

  pub prepared-fit : {t' s' : List ℕ} {n : ℕ} → Prepared t s t' s' n → (n ≡ 0 → ⊥)
      → (lengths_fit t s ≡ true) × (t' ≡ cleared_of t) × (s' ≡ cleared_of s) × Table t n
  prepared-fit (unfit e a b c) h = absurd (h e)
  prepared-fit (fit e a b c w) h = (a, b, c, w)

-- ---- and the lines

-- number and line are the answer
pub data Begun (t s f : List ℕ) (number line : ℕ) (t' s' : List ℕ) : Type 0 where
  short : number ≡ 1 → line ≡ 0 → lengths_fit t s ≡ false → t' ≡ t → s' ≡ s → Begun t s f number line t' s'
  fault : (number ≡ 0 → ⊥) → lengths_fit t s ≡ true → read_lines f (cleared_of t) ≡ Fault number line → t' ≡ cleared_of t → s' ≡ cleared_of s
      → Begun t s f number line t' s'
  filled : number ≡ 0 → line ≡ 0 → lengths_fit t s ≡ true → s' ≡ cleared_of s → (rs : List Record) → read_lines f (cleared_of t) ≡ Read rs t'
      → Lined f (slots_of t) rs t' → Begun t s f number line t' s'

module _ (t s f : List ℕ) where
  module _ {t' s' : List ℕ} {n : ℕ} (p : Prepared t s t' s' n) where
    pub begun-unfit : n ≡ 0 → (number line : ℕ) → number ≡ 1 → line ≡ 0 → Begun t s f number line t' s'
    begun-unfit h number line a b = let x = prepared-unfit t s p h in short a b x.0 x.1 x.2

    module _ (h : n ≡ 0 → ⊥) {number line : ℕ} {u : List ℕ} (e : EndsAs (read_lines f (cleared_of t)) number line u) where
      pub begun-fault : (number ≡ 0 → ⊥) → (a b : ℕ) (v : List ℕ) → a ≡ number → b ≡ line → v ≡ cleared_of t → Begun t s f a b v s'
      begun-fault z a b v ea eb ev =
          let x = prepared-fit t s p h in
          fault (λ k. z (sym ea ∙ k)) x.0 (ends-fault (read_lines f (cleared_of t)) e z ∙ (λ i. Fault (sym ea i) (sym eb i))) ev x.2

      pub begun-read : number ≡ 0 → Begun t s f number line u s'
      begun-read z =
          let x = prepared-fit t s p h in
          let (rs, r, l) = ends_read (read_lines f (cleared_of t)) e z in
          filled z l x.0 x.2 rs r (read-lines t (slots_of t) (table_of t n x.3) f rs u r)

  -- ---- both calls by their lines

  pub full-unfit : lengths_fit t s ≡ false → read_full_of t s f ≡ tables_after 1 0 t s
  unfolding read_full_of
  full-unfit e = ap (λ (b : Bool). cond b (end_full t s (read_lines f (cleared_of t))) (tables_after 1 0 t s)) e

  reduced-unfit : lengths_fit t s ≡ false → read_reduced_of t s f ≡ tables_after 1 0 t s
  unfolding read_reduced_of
  reduced-unfit e = ap (λ (b : Bool). cond b (end_reduced t s (read_lines f (cleared_of t))) (tables_after 1 0 t s)) e

  pub full-lines : lengths_fit t s ≡ true → (x : Lines) → read_lines f (cleared_of t) ≡ x → end_full t s x ≡ read_full_of t s f
  unfolding read_full_of
  full-lines fits x e = sym (λ i. cond (fits i) (end_full t s (e i)) (tables_after 1 0 t s))

  pub reduced-lines : lengths_fit t s ≡ true → (x : Lines) → read_lines f (cleared_of t) ≡ x → end_reduced t s x ≡ read_reduced_of t s f
  unfolding read_reduced_of
  reduced-lines fits x e = sym (λ i. cond (fits i) (end_reduced t s (e i)) (tables_after 1 0 t s))

  module _ {number line : ℕ} {t' s' : List ℕ} where
    -- refused here, both calls answer so
    pub fault-full : Begun t s f number line t' s' → (number ≡ 0 → ⊥) → tables_after number line t' s' ≡ read_full_of t s f
    fault-full (short a b c d e) z = (λ i. tables_after (a i) (b i) (d i) (e i)) ∙ sym (full-unfit c)
    fault-full (fault a b c d e) z = (λ i. tables_after number line (d i) (e i)) ∙ full-lines b (Fault number line) c
    fault-full (filled a b c d rs e w) z = absurd (z a)

    pub fault-reduced : Begun t s f number line t' s' → (number ≡ 0 → ⊥) → tables_after number line t' s' ≡ read_reduced_of t s f
    fault-reduced (short a b c d e) z = (λ i. tables_after (a i) (b i) (d i) (e i)) ∙ sym (reduced-unfit c)
    fault-reduced (fault a b c d e) z = (λ i. tables_after number line (d i) (e i)) ∙ reduced-lines b (Fault number line) c
    fault-reduced (filled a b c d rs e w) z = absurd (z a)

  -- the table holds the records of the file
  pub record Filled (number line : ℕ) (t' s' : List ℕ) : Type 0 where
    pub first : line ≡ 0
    pub fits : lengths_fit t s ≡ true
    pub scratch : s' ≡ cleared_of s
    pub records : List Record
    pub lines : read_lines f (cleared_of t) ≡ Read records t'
    pub lined : Lined f (slots_of t) records t'

  pub begun-filled : {number line : ℕ} {t' s' : List ℕ} → Begun t s f number line t' s' → number ≡ 0 → Filled number line t' s'
  begun-filled (short a b c d e) z = absurd (let k : ◌≡◌ {A = ℕ} 1 0 = sym a ∙ z in omega arith)
  begun-filled (fault a b c d e) z = absurd (a z)
  begun-filled (filled a b c d rs e w) z = record { first = b; fits = c; scratch = d; records = rs; lines = e; lined = w }
