-- Demand 1, the readers' numbers: "Readers 1; then per line 9, 10, 8; then restoring, at the first point met, 11 if the new record is not valid, else
-- 8 if no slot is free; then 11, 12." Which line and which point of a whole file it is: Faults.
-- `full-number`, `reduced-number`, `census-number` the order · `line_refused`, `line-passed` the order at one line, and that the line given is its
-- own · `restore-number` that at one point · `not-grown` 11 is said of records that are not grown · `full-empty`, `reduced-empty` an empty file is 11.
-- Assumes nothing.
use Rattle.std.specs.Prelude.{◌≡◌, ◌≢◌, Bool, not, List, [], ◌∷◌, ℕ, suc, ◌+◌, ltb, length, Option, Some, None}
use Rattle.std.proofs.Math.Path.{refl}
use Rattle.std.proofs.Common.{sym, ◌∙◌, ap, arith}
use Rattle.std.proofs.Math.Bool.{true, false, cond}
use Rattle.laws.specs.Choices.{is_false, is_true}
use Rattle.laws.specs.Each.{not-both}
use Rattle.laws.specs.Some.{some_of}
use Rattle.lattice.specs.Records.{valid_of}
use Rattle.lattice.specs.declared.records.Record.{Record}
use Rattle.table.specs.Slots.{lengths_fit, cleared_of}
use Rattle.table.specs.SlotLaws.{lengths-table}
use Rattle.table.specs.Search.{find_of}
use Rattle.table.specs.Entries.{enter_of, look_up}
use Rattle.table.specs.MapLaws.{clear-absent}
use Rattle.table.specs.declared.probe.Found.{Found}
use Rattle.table.specs.declared.probe.Found.TheVariants as found
use Rattle.text.specs.Line.{line_at}
use Rattle.text.specs.declared.line.Line.{Line}
use Rattle.text.specs.declared.line.Line.TheVariants.{Good, Bad, End}
use Rattle.writers.specs.Files.{redundant}
use Rattle.mesh.specs.Grown.{Grown}
use Rattle.growth.specs.Growth.{grown-some}
use Rattle.local.specs.Sheet.{as_option, sheet_of}
use Rattle.grown.specs.Tables.{grown-sheet}
use Rattle.grown.specs.Grown.{is_grown, is-grown, grown-is}
use Rattle.readers.specs.Readers.{Lines, Read, Fault, after, above, no_slot, line_read, lines_from, read_lines}
use Rattle.readers.specs.Readers.{Restored, With, Stopped, restore_at, restore, restore_all}
use Rattle.readers.specs.Readers.{end_full, end_reduced, end_restored, read_full_of, read_reduced_of}
use Rattle.readers.specs.Readers as read
use Rattle.census_text.specs.Census.{read_input_of, most_input}
use Rattle.demands.specs.Numbers.{Rule, ◌⇒◌, first_of}

-- ---- one line
abbrev pub is_bad : Line → Bool
is_bad End = false
is_bad Bad = true
is_bad (Good r next) = false

-- a condition on the record of a good line
abbrev pub of_good : (Record → Bool) → Line → Bool
of_good f End = false
of_good f Bad = false
of_good f (Good r next) = f r

abbrev pub number_in : Lines → ℕ
number_in (Read rs t) = 0
number_in (Fault n i) = n

-- "per line 9, 10, 8": what is wrong with the line l, q being the line before and t the table so far
abbrev pub line_rules : Option Record → List ℕ → Line → List Rule
line_rules q t l = is_bad l ⇒ 9 ∷ of_good (λ r. not (above q r)) l ⇒ 10 ∷ of_good (λ r. no_slot (find_of t r.at)) l ⇒ 8 ∷ []

module _ (f : List ℕ) (left p i : ℕ) (q : Option Record) (t : List ℕ) where
  abbrev rest : Record → ℕ → Lines
  rest r next = lines_from f left next (i + 1) (Some r) (enter_of t r)

  -- a line that is refused ends the reading, with its number and its own line
  pub line_refused : first_of (line_rules q t (line_at f p)) ≢ 0 → lines_from f (suc left) p i q t ≡ Fault (first_of (line_rules q t (line_at f p))) i
  unfolding lines_from
  line_refused = go (line_at f p)
    where
      good : (a n : Bool) (x : Lines) → first_of (not a ⇒ 10 ∷ n ⇒ 8 ∷ []) ≢ 0
          → cond a (cond n (Fault 8 i) x) (Fault 10 i) ≡ Fault (first_of (not a ⇒ 10 ∷ n ⇒ 8 ∷ [])) i
      good false n x z = refl
      good true true x z = refl
      good true false x z = absurd (z refl)

      go : (l : Line) → first_of (line_rules q t l) ≢ 0 → line_read i q t rest l ≡ Fault (first_of (line_rules q t l)) i
      go End z = absurd (z refl)
      go Bad z = refl
      go (Good r next) z = good (above q r) (no_slot (find_of t r.at)) (after r (rest r next)) z

  -- one that is not enters, and the next line has the next number
  pub line-passed : (r : Record) (next : ℕ) → line_at f p ≡ Good r next → first_of (line_rules q t (line_at f p)) ≡ 0
      → lines_from f (suc left) p i q t ≡ after r (lines_from f left next (i + 1) (Some r) (enter_of t r))
  unfolding lines_from
  line-passed r next e = go (line_at f p) e
    where
      good : (a n : Bool) (x : Lines) → first_of (not a ⇒ 10 ∷ n ⇒ 8 ∷ []) ≡ 0 → cond a (cond n (Fault 8 i) x) (Fault 10 i) ≡ x
      good false n x z = absurd (omega arith)
      good true true x z = absurd (omega arith)
      good true false x z = refl

      go : (l : Line) → l ≡ Good r next → first_of (line_rules q t l) ≡ 0 → line_read i q t rest l ≡ after r (rest r next)
      go l e z =
          ap (line_read i q t rest) e
          ∙ good (above q r) (no_slot (find_of t r.at)) (after r (rest r next)) (sym (ap (λ (x : Line). first_of (line_rules q t x)) e) ∙ z)

-- ---- one point restored
abbrev pub stop_number : Restored → ℕ
stop_number (With t) = 0
stop_number (Stopped n) = n

abbrev pub is_absent : Found → Bool
is_absent (found.At i) = false
is_absent (found.Free i) = true
is_absent found.Full = true

-- of an absent point: "11 if the new record is not valid, else 8 if no slot is free"
pub restore-number : (t : List ℕ) (r : Record) → is_absent (find_of t r.at) ≡ true
    → stop_number (restore (With t) r) ≡ first_of (not (valid_of r) ⇒ 11 ∷ no_slot (find_of t r.at) ⇒ 8 ∷ [])
restore-number t r = go (find_of t r.at)
  where
    free : (v : Bool) → stop_number (cond v (With (enter_of t r)) (Stopped 11)) ≡ first_of (not v ⇒ 11 ∷ false ⇒ 8 ∷ [])
    free true = refl
    free false = refl

    full : (v : Bool) → cond v 8 11 ≡ first_of (not v ⇒ 11 ∷ true ⇒ 8 ∷ [])
    full true = refl
    full false = refl

    go : (f : Found) → is_absent f ≡ true → stop_number (restore_at t r f) ≡ first_of (not (valid_of r) ⇒ 11 ∷ no_slot f ⇒ 8 ∷ [])
    go (found.At i) e = absurd (not-both e refl)
    go (found.Free i) e = free (valid_of r)
    go found.Full e = full (valid_of r)

-- ---- the whole file
abbrev pub is_fault : Lines → Bool
is_fault (Read rs t) = false
is_fault (Fault n i) = true

-- a condition on the lines that were read, where none was refused
abbrev pub of_read : (List Record → List ℕ → Bool) → Lines → Bool
of_read f (Read rs t) = f rs t
of_read f (Fault n i) = false

abbrev pub is_stopped : Restored → Bool
is_stopped (With t) = false
is_stopped (Stopped n) = true

abbrev pub of_with : (List ℕ → Bool) → Restored → Bool
of_with f (With t) = f t
of_with f (Stopped n) = false

abbrev pub full_rules : List ℕ → List ℕ → Lines → List Rule
full_rules t s x = not (lengths_fit t s) ⇒ 1 ∷ is_fault x ⇒ number_in x ∷ of_read (λ rs u. not (is_grown u)) x ⇒ 11 ∷ []

pub full-number : (t s f : List ℕ) → (read_full_of t s f).number ≡ first_of (full_rules t s (read_lines f (cleared_of t)))
unfolding read_full_of
full-number t s f = go (lengths_fit t s) (read_lines f (cleared_of t))
  where
    judged : (u : List ℕ) (g : Bool) → (cond g (read.accepted u s) (read.refused 11 0 t s)).number ≡ first_of (not g ⇒ 11 ∷ [])
    judged u true = refl
    judged u false = refl

    go : (b : Bool) (x : Lines) → (cond b (end_full t s x) (read.tables_after 1 0 t s)).number
        ≡ first_of (not b ⇒ 1 ∷ is_fault x ⇒ number_in x ∷ of_read (λ rs u. not (is_grown u)) x ⇒ 11 ∷ [])
    go false x = refl
    go true (Fault n i) = refl
    go true (Read rs u) = judged u (is_grown u)

-- the census reads its input so, once it is not too long: "Longer input gives `refused`, 8, 0."
pub census-number : (t s input : List ℕ)
    → (read_input_of t s input).number
    ≡ first_of (not (lengths_fit t s) ⇒ 1 ∷ ltb most_input (length input) ⇒ 8 ∷ full_rules t s (read_lines input (cleared_of t)))
unfolding read_input_of
census-number t s input = go (lengths_fit t s) (ltb most_input (length input))
  where
    go : (b long : Bool) → (cond b (cond long (read.refused 8 0 t s) (read_full_of t s input)) (read.tables_after 1 0 t s)).number
        ≡ first_of (not b ⇒ 1 ∷ long ⇒ 8 ∷ full_rules t s (read_lines input (cleared_of t)))
    go false long = refl
    go true true = refl
    go true false = full-number t s input

-- what restoring ends with, of the lines that were read
abbrev pub restored_from : Lines → Restored
restored_from (Read rs u) = restore_all rs (With u)
restored_from (Fault n i) = Stopped n

-- "12 .. grown, but a redundant record was kept"
abbrev pub kept_in : Lines → List ℕ → Bool
kept_in x u = of_read (λ rs t. some_of (redundant u) rs) x

abbrev pub reduced_rules : List ℕ → List ℕ → Lines → Restored → List Rule
reduced_rules t s x w =
    not (lengths_fit t s) ⇒ 1 ∷ is_fault x ⇒ number_in x ∷ is_stopped w ⇒ stop_number w ∷ of_with (λ u. not (is_grown u)) w ⇒ 11 ∷ of_with (kept_in x) w ⇒ 12 ∷ []

pub reduced-number : (t s f : List ℕ)
    → (read_reduced_of t s f).number ≡ first_of (reduced_rules t s (read_lines f (cleared_of t)) (restored_from (read_lines f (cleared_of t))))
unfolding read_reduced_of
reduced-number t s f = go (lengths_fit t s) (read_lines f (cleared_of t))
  where
    judged : (u : List ℕ) (g k : Bool) → (cond g (cond k (read.refused 12 0 t s) (read.accepted u s)) (read.refused 11 0 t s)).number
        ≡ first_of (not g ⇒ 11 ∷ k ⇒ 12 ∷ [])
    judged u true true = refl
    judged u true false = refl
    judged u false k = refl

    ended : (rs : List Record) (u : List ℕ) (w : Restored) → (end_restored t s rs w).number
        ≡ first_of (is_stopped w ⇒ stop_number w ∷ of_with (λ v. not (is_grown v)) w ⇒ 11 ∷ of_with (kept_in (Read rs u)) w ⇒ 12 ∷ [])
    ended rs u (Stopped n) = refl
    ended rs u (With v) = judged v (is_grown v) (some_of (redundant v) rs)

    go : (b : Bool) (x : Lines) → (cond b (end_reduced t s x) (read.tables_after 1 0 t s)).number
        ≡ first_of
        (not b ⇒ 1
        ∷ is_fault x ⇒ number_in x
        ∷ is_stopped (restored_from x) ⇒ stop_number (restored_from x)
        ∷ of_with (λ u. not (is_grown u)) (restored_from x) ⇒ 11
        ∷ of_with (kept_in x) (restored_from x) ⇒ 12
        ∷ [])
    go false x = refl
    go true (Fault n i) = refl
    go true (Read rs u) = ended rs u (restore_all rs (With u))

-- a cleared table has no record, and a grown one has some
none-held : (l : Option Record) (r : Record) → l ≡ None → as_option l ≡ Some r → ⊥
none-held None r e x = let z : ◌≡◌ {A = ℕ} 0 1 = cc in omega arith
none-held (Some q) r e x = let z : ◌≡◌ {A = ℕ} 0 1 = cc in omega arith

empty-not : (t s : List ℕ) → lengths_fit t s ≡ true → is_grown (cleared_of t) ≡ false
empty-not t s h =
    is_false (is_grown (cleared_of t)) (λ g.
    let grown = is-grown (cleared_of t) (is_true (is_grown (cleared_of t)) g) in
    let (p, (r, x)) = grown-some (sheet_of (cleared_of t)) (grown-sheet (cleared_of t) grown) in
    none-held (look_up (cleared_of t) p) r (clear-absent t (lengths-table t s h) p) x)

-- "An empty file is 11."
pub full-empty : (t s : List ℕ) → lengths_fit t s ≡ true → read_full_of t s [] ≡ read.refused 11 0 t s
unfolding read_full_of lines_from
full-empty t s h =
    ap (λ (b : Bool). cond b (end_full t s (Read [] (cleared_of t))) (read.tables_after 1 0 t s)) h
    ∙ ap (λ (g : Bool). cond g (read.accepted (cleared_of t) s) (read.refused 11 0 t s)) (empty-not t s h)

pub reduced-empty : (t s : List ℕ) → lengths_fit t s ≡ true → read_reduced_of t s [] ≡ read.refused 11 0 t s
unfolding read_reduced_of lines_from restore_all
reduced-empty t s h =
    ap (λ (b : Bool). cond b (end_restored t s [] (With (cleared_of t))) (read.tables_after 1 0 t s)) h
    ∙ ap (λ (g : Bool). cond g (read.accepted (cleared_of t) s) (read.refused 11 0 t s)) (empty-not t s h)

-- `is_grown` is the decision of document 01's "grown": where it fails, the records are not
pub not-grown : (u : List ℕ) → is_grown u ≡ false → Grown u → ⊥
not-grown u e g = not-both (grown-is u g) e
