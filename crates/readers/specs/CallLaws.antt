-- How the readers end, by cases: `full-judged` what `read_full` answers past the lines · `Closes` how a call ends past the lines of a reduced file:
-- `restored-order`, `restored-slots`, `restored-kept` what restoring leaves, `end-stopped`, `end-judged`, `mended-closes` · `lined-again` and `reduced-refused`,
-- `reduced-read`: what `read_reduced` answers then.
-- Assumes nothing.
use Rattle.std.specs.Prelude.{◌≡◌, refl, Bool, cond, List, ℕ, eqb}
use Rattle.std.proofs.Common.{sym, ap, ◌∙◌, subst, eq-eqb, ne_eqb}
use Rattle.laws.specs.Some.{some_of}
use Rattle.lattice.specs.declared.records.Record.{Record}
use Rattle.table.specs.Slots.{slots_of, cleared_of}
use Rattle.table.specs.Order.{InOrder}
use Rattle.writers.specs.Files.{redundant}
use Rattle.local.specs.Sheet.{passes_all}
use Rattle.grown.specs.Grown.{grown-passes}
use Rattle.readers.specs.Readers.{Read, TablesAfter, refused, accepted, read_full_of, Restored, With, Stopped, restore_all, end_restored, read_reduced_of}
use Rattle.readers.specs.Additions.{Adds, adds-as, adds-slots}
use Rattle.readers.specs.ReadLaws.{Lined}
use Rattle.readers.specs.RestoreLaws.{RestoredOf, restore-all}
use Rattle.readers.specs.RestoreSteps.{file_records, read-records, Mends}
use Rattle.readers.specs.Keeps.{record_keeps, keeps-redundant, since-start}
use Rattle.readers.specs.BeginLaws.{Filled, full-lines, reduced-lines}

-- ---- the full reader

module _ (t s f : List ℕ) {number line : ℕ} (u : List ℕ) {s' : List ℕ} (w : Filled t s f number line u s') where
  pub full-judged : (b : Bool) → passes_all u ≡ b → cond b (accepted u s) (refused 11 0 t s) ≡ read_full_of t s f
  full-judged b h =
      ap (λ (x : Bool). cond x (accepted u s) (refused 11 0 t s)) (sym (grown-passes u w.lined.order ∙ h))
      ∙ full-lines t s f w.fits (Read w.records u) w.lines

-- ---- past the lines of a reduced file

-- a number, and a table where it is 0, as the end of a call
abbrev pub closed_by : List ℕ → List ℕ → ℕ → List ℕ → TablesAfter
closed_by t s number u = cond (eqb number 0) (accepted u s) (refused number 0 t s)

-- so the call ends that restores records rs in table v, whatever tables t and s it was lent
abbrev pub Closes : List Record → List ℕ → ℕ → List ℕ → Type 0
Closes rs v number u = (t s : List ℕ) → closed_by t s number u ≡ end_restored t s rs (restore_all rs (With v))

-- records rs restored in table t to u: every record that was entered has degree 3
module _ (f : List ℕ) (n : ℕ) (rs : List Record) (t u : List ℕ) (w : Lined f n rs t) (e : restore_all rs (With t) ≡ With u) where
  adds : Adds (λ r. r.d ≡ 3) t u
  adds =
      adds-as (RestoredOf rs) (λ r. r.d ≡ 3) t u
      (λ r (v, m, d, j, l, k). ap (λ (x : Record). x.d) k)
      (restore-all rs t u w.order e).adds

  pub restored-order : InOrder u
  restored-order = adds.order

  pub restored-slots : n ≡ slots_of u
  restored-slots = sym (adds-slots (λ r. r.d ≡ 3) t u adds ∙ w.slots)

  pub restored-kept : some_of (record_keeps t) rs ≡ some_of (redundant u) rs
  restored-kept = keeps-redundant f n rs t u w adds

module _ (t s : List ℕ) (rs : List Record) (x : Restored) where
  pub end-stopped : (number : ℕ) (u : List ℕ) → (number ≡ 0 → ⊥) → x ≡ Stopped number → closed_by t s number u ≡ end_restored t s rs x
  end-stopped number u z e = ap (λ (b : Bool). cond b (accepted u s) (refused number 0 t s)) (ne_eqb number 0 z) ∙ ap (end_restored t s rs) (sym e)

  pub end-judged : (u : List ℕ) → x ≡ With u → InOrder u → (g k : Bool) → passes_all u ≡ g → some_of (redundant u) rs ≡ k
      → cond g (cond k (refused 12 0 t s) (accepted u s)) (refused 11 0 t s) ≡ end_restored t s rs x
  end-judged u e o g k h i =
      sym (ap (end_restored t s rs) e ∙ (λ j. cond ((grown-passes u o ∙ h) j) (cond (i j) (refused 12 0 t s) (accepted u s)) (refused 11 0 t s)))

-- restored to the end, by the two judgements
pub mended-closes : (f : List ℕ) (n : ℕ) (rs : List Record) (t u : List ℕ) → Lined f n rs t → {kept : Bool}
    → Mends t t (restore_all rs (With t)) (some_of (record_keeps t) rs) 0 kept u → (g k : Bool) → passes_all u ≡ g → kept ≡ k → (x y : List ℕ)
    → cond g (cond k (refused 12 0 x y) (accepted u y)) (refused 11 0 x y) ≡ end_restored x y rs (restore_all rs (With t))
mended-closes f n rs t u w m g k h i x y =
    let whole : restore_all rs (With t) ≡ With u = sym m.is in
    let told = m.keeps (since-start t w.order) refl ∙ restored-kept f n rs t u w whole in
    end-judged x y rs (restore_all rs (With t)) u whole (restored-order f n rs t u w whole) g k h (sym told ∙ i)

-- ---- the reduced reader

module _ (t s f : List ℕ) {x line : ℕ} (u : List ℕ) {s' : List ℕ} (w : Filled t s f x line u s') where
  -- the file's records, read again
  read_again : file_records f ≡ w.records
  read_again = read-records f (cleared_of t) w.records u w.lines

  pub lined-again : (n : ℕ) → n ≡ slots_of u → Lined f n (file_records f) u
  lined-again n e =
      subst (λ (rs : List Record). Lined f n rs u) (sym read_again) (subst (λ (k : ℕ). Lined f k w.records u) (sym (e ∙ w.lined.slots)) w.lined)

  module _ (number : ℕ) (v : List ℕ) (h : Closes (file_records f) u number v) where
    closed : closed_by t s number v ≡ read_reduced_of t s f
    closed =
        h t s ∙ ap (λ (qs : List Record). end_restored t s qs (restore_all qs (With u))) read_again
        ∙ reduced-lines t s f w.fits (Read w.records u) w.lines

    pub reduced-refused : (number ≡ 0 → ⊥) → refused number 0 t s ≡ read_reduced_of t s f
    reduced-refused z = ap (λ (b : Bool). cond b (accepted v s) (refused number 0 t s)) (sym (ne_eqb number 0 z)) ∙ closed

    pub reduced-read : number ≡ 0 → accepted v s ≡ read_reduced_of t s f
    reduced-read z = ap (λ (b : Bool). cond b (accepted v s) (refused number 0 t s)) (sym (eq-eqb number 0 z)) ∙ closed
