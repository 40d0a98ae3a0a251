-- The input, read: `input-long`, `long-unfit`, `long-fit`, `input-read` the ways of reading it · `input-line` no line at fault is past the input's
-- bytes · `counted-grown`, `input-grown` what is read is grown · `census-refused`, `census-counted` the text that follows, `refused-most`, `counted-most` of
-- at most 128 bytes.
-- Assumes nothing.
use Rattle.std.specs.Prelude.{◌≡◌, ℕ, zero, suc, ◌+◌, ◌≤◌, ◌<◌, length, Option, Some, None}
use Rattle.std.proofs.Math.Path.{refl, ap}
use Rattle.std.proofs.Common.{sym, ◌∙◌, subst, ltb-false, lt-ltb, le-ltb, eq-eqb, ne_eqb}
use Rattle.std.proofs.Math.Bool.{Bool, true, false, cond}
use mathlib.Core.List.{List}
use native.Mathlib.Omega.{arith}
use Rattle.std.proofs.Math.Dec.{ltb}
use Rattle.lattice.specs.declared.records.Record.{Record}
use Rattle.table.specs.Slots.{lengths_fit, cleared_of}
use Rattle.table.specs.Search.{find_of}
use Rattle.table.specs.Entries.{enter_of}
use Rattle.text.specs.Line.{line_at}
use Rattle.text.specs.declared.line.Line.{Line}
use Rattle.text.specs.declared.line.Line.TheVariants.{Good, Bad, End}
use Rattle.grown.specs.Grown.{is_grown}
use Rattle.readers.specs.Readers.{Lines, Read, Fault, after, above, no_slot, line_read, lines_from, read_lines, TablesAfter, tables_after, refused, accepted}
use Rattle.readers.specs.Readers.{end_full, read_full_of}
use Rattle.readers.specs.BeginLaws.{Prepared, prepared-unfit, prepared-fit, full-unfit}
use Rattle.readers.specs.Outcomes.{full-grown}
use Rattle.counts.specs.Counts.{counts_of}
use Rattle.census_text.specs.Census.{counts_text, refused_text, text_of, most_input, read_input_of, Put, put_text, result, result_from, census_of}

-- ---- the ways of reading

-- too long an input, once it is known that the lengths fit
abbrev pub long_of : List ℕ → List ℕ → TablesAfter
long_of t s = cond (lengths_fit t s) (refused 8 0 t s) (tables_after 1 0 t s)

pub input-long : (t s input : List ℕ) → most_input < length input → long_of t s ≡ read_input_of t s input
unfolding read_input_of
input-long t s input h =
    ap (λ (b : Bool). cond (lengths_fit t s) (cond b (refused 8 0 t s) (read_full_of t s input)) (tables_after 1 0 t s)) (sym (lt-ltb most_input (length input) h))

pub input-read : (t s input : List ℕ) → length input ≤ most_input → read_full_of t s input ≡ read_input_of t s input
unfolding read_input_of
input-read t s input h = go (lengths_fit t s) refl
  where
    short : ltb most_input (length input) ≡ false
    short = le-ltb most_input (length input) h

    go : (b : Bool) → lengths_fit t s ≡ b
        → read_full_of t s input ≡ cond b (cond (ltb most_input (length input)) (refused 8 0 t s) (read_full_of t s input)) (tables_after 1 0 t s)
    go true e = ap (λ (x : Bool). cond x (refused 8 0 t s) (read_full_of t s input)) (sym short)
    go false e = full-unfit t s input e

-- both tables cleared, or untouched
pub long-unfit : (t s t' s' : List ℕ) (n : ℕ) → Prepared t s t' s' n → n ≡ 0 → tables_after 1 0 t' s' ≡ long_of t s
long-unfit t s t' s' n p h =
    let x = prepared-unfit t s p h in
    (λ i. tables_after 1 0 (x.1 i) (x.2 i)) ∙ ap (λ (b : Bool). cond b (refused 8 0 t s) (tables_after 1 0 t s)) (sym x.0)

pub long-fit : (t s t' s' : List ℕ) (n : ℕ) → Prepared t s t' s' n → (n ≡ 0 → ⊥) → tables_after 8 0 t' s' ≡ long_of t s
long-fit t s t' s' n p h =
    let x = prepared-fit t s p h in
    (λ i. tables_after 8 0 (x.1 i) (x.2 i)) ∙ ap (λ (b : Bool). cond b (refused 8 0 t s) (tables_after 1 0 t s)) (sym x.0)

-- ---- what has been read

-- a line at fault is one of the first so many
abbrev LineBelow : ℕ → Lines → Type 0
LineBelow m (Read rs t) = Unit
LineBelow m (Fault number line) = line < m

line-below : (f : List ℕ) (left p i : ℕ) (q : Option Record) (t : List ℕ) → LineBelow (i + left) (lines_from f left p i q t)
unfolding lines_from
line-below f zero p i q t = tt
line-below f (suc left) p i q t = go (line_at f p) (λ r next. line-below f left next (i + 1) (Some r) (enter_of t r))
  where
    rest : Record → ℕ → Lines
    rest r next = lines_from f left next (i + 1) (Some r) (enter_of t r)

    later : (r : Record) (x : Lines) → LineBelow (i + 1 + left) x → LineBelow (i + suc left) (after r x)
    later r (Read rs u) h = tt
    later r (Fault number line) h = omega arith

    by : (a b : Bool) (r : Record) (x : Lines) → LineBelow (i + 1 + left) x → LineBelow (i + suc left) (cond a (cond b (Fault 8 i) (after r x)) (Fault 10 i))
    by true true r x h = omega arith
    by true false r x h = later r x h
    by false b r x h = omega arith

    go : (l : Line) → ((r : Record) (next : ℕ) → LineBelow (i + 1 + left) (rest r next)) → LineBelow (i + suc left) (line_read i q t rest l)
    go End ih = tt
    go Bad ih = omega arith
    go (Good r next) ih = by (above q r) (no_slot (find_of t r.at)) r (rest r next) (ih r next)

module _ (t s input : List ℕ) where
  ended-low : length input ≤ most_input → (x : Lines) → read_lines input (cleared_of t) ≡ x → (end_full t s x).line ≤ most_input
  ended-low short (Fault number line) e =
      let l : line < 1 + length input = subst (LineBelow (1 + length input)) e (line-below input (length input) 0 1 None (cleared_of t)) in
      omega arith
  ended-low short (Read rs u) e = go (is_grown u)
    where
      go : (b : Bool) → (cond b (accepted u s) (refused 11 0 t s)).line ≤ most_input
      go true = omega arith
      go false = omega arith

  line_low : (read_input_of t s input).line ≤ most_input
  unfolding read_input_of read_full_of
  line_low = go (lengths_fit t s) (ltb most_input (length input)) refl
    where
      go : (a b : Bool) → ltb most_input (length input) ≡ b
          → (cond a (cond b (refused 8 0 t s) (cond a (end_full t s (read_lines input (cleared_of t))) (tables_after 1 0 t s))) (tables_after 1 0 t s)).line
          ≤ most_input
      go false b h = omega arith
      go true true h = omega arith
      go true false h = ended-low (ltb-false most_input (length input) h) (read_lines input (cleared_of t)) refl

  pub counted-grown : (read_input_of t s input).number ≡ 0 → is_grown (read_input_of t s input).table ≡ true
  unfolding read_input_of
  counted-grown = go (lengths_fit t s) (ltb most_input (length input))
    where
      read : Bool → Bool → TablesAfter
      read a b = cond a (cond b (refused 8 0 t s) (read_full_of t s input)) (tables_after 1 0 t s)

      go : (a b : Bool) → (read a b).number ≡ 0 → is_grown (read a b).table ≡ true
      go false b z = absurd (omega arith)
      go true true z = absurd (omega arith)
      go true false z = full-grown t s input z

  -- the same of what the reader gave back
  module _ (number line : ℕ) (t' s' : List ℕ) (e : tables_after number line t' s' ≡ read_input_of t s input) where
    pub input-line : line ≤ most_input
    input-line = subst (λ (r : TablesAfter). r.line ≤ most_input) (sym e) line_low

    pub input-grown : number ≡ 0 → is_grown t' ≡ true
    input-grown = subst (λ (r : TablesAfter). r.number ≡ 0 → is_grown r.table ≡ true) (sym e) counted-grown

    -- the text that follows
    module _ (ne : number ≡ 0 → ⊥) where
      text-refused : refused_text number line ≡ text_of (tables_after number line t' s')
      unfolding text_of
      text-refused = ap (λ (b : Bool). cond b (counts_text (counts_of t')) (refused_text number line)) (sym (ne_eqb number 0 ne))

      pub census-refused : (out : List ℕ) (p : Put) → p ≡ put_text number (refused_text number line) out → result p t' s' ≡ census_of input t s out
      unfolding census_of
      census-refused out p h = (λ i. result ((h ∙ ap (λ (x : List ℕ). put_text number x out) text-refused) i) t' s')
          ∙ ap (λ (r : TablesAfter). result_from r out) e

      pub refused-most : length (refused_text number line) ≤ 128 → length (text_of (read_input_of t s input)) ≤ 128
      refused-most h = subst (λ (x : List ℕ). length x ≤ 128) (text-refused ∙ ap text_of e) h

    module _ (z : number ≡ 0) where
      text-counted : counts_text (counts_of t') ≡ text_of (tables_after number line t' s')
      unfolding text_of
      text-counted = ap (λ (b : Bool). cond b (counts_text (counts_of t')) (refused_text number line)) (sym (eq-eqb number 0 z))

      pub census-counted : (out : List ℕ) (p : Put) → p ≡ put_text 0 (counts_text (counts_of t')) out → result p t' s' ≡ census_of input t s out
      unfolding census_of
      census-counted out p h =
          (λ i. result ((h ∙ (λ k. put_text (sym z k) (text-counted k) out)) i) t' s') ∙ ap (λ (r : TablesAfter). result_from r out) e

      pub counted-most : length (counts_text (counts_of t')) ≤ 128 → length (text_of (read_input_of t s input)) ≤ 128
      counted-most h = subst (λ (x : List ℕ). length x ≤ 128) (text-counted ∙ ap text_of e) h
