-- The lines of a file, step by step as the code reads them.
-- `line_before` the record of the line before · `step_at` what becomes of a line, `table_after` and of the table · `EndsAs` what reading ends with ·
-- `Underway` so far: `underway-start`, `underway-ended`, `underway-fault`, `underway-more`.
-- Assumes nothing.
use Rattle.std.specs.Prelude.{◌≡◌, Bool, true, false, List, [], ◌∷◌, eqb, length, Result, Ok, Err, Option, Some, None}
use Rattle.std.specs.Prelude as std
use Rattle.std.proofs.Math.Path.{refl, sym, ap}
use Rattle.std.proofs.Common.{◌∙◌, subst, ne_eqb}
use Rattle.std.proofs.Math.Bool.{cond}
use Prim.Native.Nat.{ℕ, zero, suc, ◌+◌, ◌*◌, ◌-◌, ◌≤◌}
use native.Mathlib.Omega.{arith}
use Rattle.lattice.specs.Refusals.{number_of}
use Rattle.lattice.specs.declared.records.Record.{Record}
use Rattle.lattice.specs.declared.refusals.Refusal.{Refusal}
use Rattle.lattice.specs.declared.refusals.Refusal.TheVariants.{NoRoom, NotValid, NotAbove}
use Rattle.lattice.specs.declared.refusals.Fault as refusals
use Rattle.table.specs.Search.{find_of}
use Rattle.table.specs.Entries.{enter_at, enter_of}
use Rattle.table.specs.MapLaws.{enter-length}
use Rattle.table.specs.declared.probe.Found.{Found}
use Rattle.table.specs.declared.probe.Found.TheVariants as found
use Rattle.text.specs.Line.{line_at}
use Rattle.text.specs.LineLaws.{line-end, line-next}
use Rattle.text.specs.declared.line.Line.{Line}
use Rattle.text.specs.declared.line.Line.TheVariants.{Good, Bad, End}
use Rattle.reader.specs.Met.{numbered, met_at}
use Rattle.reader.specs.declared.Met.{Met}
use Rattle.reader.specs.declared.Met.TheVariants as met
use Rattle.readers.specs.Readers.{Lines, Read, Fault, after, above, no_slot, line_read, lines_from, read_lines}
use Rattle.readers.specs.FaultLaws.{fault-number}
use Rattle.readers.specs.declared.lines.Entry.{Entry}

-- line 1 has none before it
abbrev pub line_before : ℕ → Record → Option Record
line_before i last = cond (eqb i 1) None (Some last)

-- a line at fault, refused
abbrev pub fault_at : Refusal → ℕ → refusals.Fault
fault_at why i = record { why = why; line = i }

-- what became of a line: an entry, none at the end of the file, or it is at fault
abbrev pub Step : Type 0
Step = Result (std.Option Entry) refusals.Fault

-- what becomes of line i where it rises
unfoldable pub entered_step : List ℕ → ℕ → Entry → Step
entered_step t i e = cond (no_slot (find_of t e.vertex.at)) (Err (fault_at NoRoom i)) (Ok (std.Some e))

-- what becomes of line i, with q the line before and t the table so far
abbrev pub step_at : Option Record → List ℕ → ℕ → Met → Step
step_at q t i met.Over = Ok std.None
step_at q t i (met.Fault j) = Err (fault_at NotValid j)
step_at q t i (met.Entry r next j) = cond (above q r) (entered_step t i (record { vertex = r; next = next; after = j })) (Err (fault_at NotAbove i))

-- the table with the line
abbrev pub table_after : List ℕ → Step → List ℕ
table_after t (Ok (std.Some e)) = enter_of t e.vertex
table_after t (Ok std.None) = t
table_after t (Err fault) = t

-- ---- one line

module _ (t : List ℕ) (i : ℕ) (x : Entry) where
  entered_by : (f : Found) → find_of t x.vertex.at ≡ f → cond (no_slot f) (Err (fault_at NoRoom i)) (Ok (std.Some x)) ≡ entered_step t i x
  unfolding entered_step
  entered_by f e = sym (ap (λ (y : Found). cond {A = Step} (no_slot y) (Err (fault_at NoRoom i)) (Ok (std.Some x))) e)

  pub entered-there : (k : ℕ) → find_of t x.vertex.at ≡ found.At k → Ok (std.Some x) ≡ entered_step t i x
  entered-there k e = entered_by (found.At k) e

  pub entered-free : (k : ℕ) → find_of t x.vertex.at ≡ found.Free k → Ok (std.Some x) ≡ entered_step t i x
  entered-free k e = entered_by (found.Free k) e

  pub entered-full : find_of t x.vertex.at ≡ found.Full → Err (fault_at NoRoom i) ≡ entered_step t i x
  entered-full e = entered_by found.Full e

  -- where no slot is free nothing is entered
  pub full-stays : find_of t x.vertex.at ≡ found.Full → enter_of t x.vertex ≡ t
  unfolding enter_of
  full-stays e = ap (enter_at t x.vertex) e

-- what a step makes of the lines, `rest` being those that follow
abbrev follow : List ℕ → (Record → ℕ → Lines) → Step → Lines
follow t rest (Ok (std.Some e)) = after e.vertex (rest e.vertex e.next)
follow t rest (Ok std.None) = Read [] t
follow t rest (Err fault) = Fault (number_of fault.why) fault.line

step-follow : (i : ℕ) (q : Option Record) (t : List ℕ) (rest : Record → ℕ → Lines) (l : Line)
    → line_read i q t rest l ≡ follow t rest (step_at q t i (numbered i l))
unfolding entered_step
step-follow i q t rest End = refl
step-follow i q t rest Bad = refl
step-follow i q t rest (Good r next) = go (above q r) (no_slot (find_of t r.at))
  where
    go : (a b : Bool)
        → cond a (cond b (Fault 8 i) (after r (rest r next))) (Fault 10 i)
        ≡ follow t rest (cond a (cond b (Err (fault_at NoRoom i)) (Ok (std.Some (record { vertex = r; next = next; after = i + 1 }))))
        (Err (fault_at NotAbove i)))
    go true true = refl
    go true false = refl
    go false b = refl

module _ (f : List ℕ) (p i : ℕ) (q : Option Record) (t : List ℕ) where
  -- those that follow, of which no more than so many are left
  abbrev onward : ℕ → Record → ℕ → Lines
  onward left r next = lines_from f left next (i + 1) (Some r) (enter_of t r)

  lines_step : (left : ℕ) → length f ≤ p + left → (s : Step) → s ≡ step_at q t i (met_at f p i) → lines_from f left p i q t ≡ follow t (onward (left - 1)) s
  unfolding lines_from
  lines_step zero h s e = ap (follow t (onward 0)) (sym (e ∙ ap (λ (l : Line). step_at q t i (numbered i l)) (line-end f p (omega arith))))
  lines_step (suc left) h s e =
      let d : suc left - 1 ≡ left = omega arith in
      step-follow i q t (onward left) (line_at f p) ∙ ap (follow t (onward left)) (sym e) ∙ ap (λ (k : ℕ). follow t (onward k) s) (sym d)

  -- a line that was entered is a good one, and the next number follows its own
  pub step-good : (x : Entry) → Ok (std.Some x) ≡ step_at q t i (met_at f p i) → (line_at f p ≡ Good x.vertex x.next) × (x.after ≡ i + 1)
  unfolding entered_step
  step-good x = go (line_at f p) refl
    where
      same : (s : Record) (m : ℕ) → ◌≡◌ {A = Step} (Ok (std.Some x)) (Ok (std.Some (record { vertex = s; next = m; after = i + 1 })))
          → (Good s m ≡ Good x.vertex x.next) × (x.after ≡ i + 1)
      same s m e =
          let h : x ≡ record { vertex = s; next = m; after = i + 1 } = cc in (
            sym (ap (λ (y : Entry). Good y.vertex y.next) h),
            ap (λ (y : Entry). y.after) h,
          )

      never : {A : Type 0} {fault : refusals.Fault} → ◌≡◌ {A = Step} (Ok (std.Some x)) (Err fault) → A
      never e = absurd (let z : ◌≡◌ {A = ℕ} 0 1 = cc in omega arith)

      over : {A : Type 0} → ◌≡◌ {A = Step} (Ok (std.Some x)) (Ok std.None) → A
      over e = absurd (let z : ◌≡◌ {A = ℕ} 0 1 = cc in omega arith)

      good : (s : Record) (m : ℕ) (a b : Bool)
          → Ok (std.Some x) ≡ cond a (cond b (Err (fault_at NoRoom i)) (Ok (std.Some (record { vertex = s; next = m; after = i + 1 }))))
          (Err (fault_at NotAbove i))
          → (Good s m ≡ Good x.vertex x.next) × (x.after ≡ i + 1)
      good s m true true e = never e
      good s m true false e = same s m e
      good s m false b e = never e

      go : (l : Line) → line_at f p ≡ l → Ok (std.Some x) ≡ step_at q t i (numbered i l) → (line_at f p ≡ Good x.vertex x.next) × (x.after ≡ i + 1)
      go End h e = over e
      go Bad h e = never e
      go (Good s m) h e = let g = good s m (above q s) (no_slot (find_of t s.at)) e in (h ∙ g.0, g.1)

-- ---- all lines

-- what reading ends with: the table with all records, or a fault
pub data EndsAs (x : Lines) (number line : ℕ) (t : List ℕ) : Type 0 where
  all_read : (rs : List Record) → x ≡ Read rs t → number ≡ 0 → line ≡ 0 → EndsAs x number line t
  at-fault : x ≡ Fault number line → (number ≡ 0 → ⊥) → EndsAs x number line t

-- the two cases, by the number
pub ends_read : (x : Lines) {number line : ℕ} {t : List ℕ} → EndsAs x number line t → number ≡ 0 → (rs : List Record) × (x ≡ Read rs t) × (line ≡ 0)
ends_read x (all_read rs e a b) h = (rs, e, b)
ends_read x (at-fault e a) h = absurd (a h)

pub ends-fault : (x : Lines) {number line : ℕ} {t : List ℕ} → EndsAs x number line t → (number ≡ 0 → ⊥) → x ≡ Fault number line
ends-fault x (all_read rs e a b) h = absurd (h a)
ends-fault x (at-fault e a) h = e

ends-after : (r : Record) (x : Lines) {number line : ℕ} {t : List ℕ} → EndsAs x number line t → EndsAs (after r x) number line t
ends-after r x (all_read rs e a b) = all_read (r ∷ rs) (ap (after r) e) a b
ends-after r x (at-fault e a) = at-fault (ap (after r) e) a

-- line i stands at p, and what is read from there on is what is read of the whole
pub record Underway (f t₀ : List ℕ) (p i : ℕ) (q : Option Record) (t : List ℕ) : Type 0 where
  pub left : ℕ
  pub enough : length f ≤ p + left
  pub whole : (number line : ℕ) (u : List ℕ) → EndsAs (lines_from f left p i q t) number line u → EndsAs (read_lines f t₀) number line u
  pub within : p ≤ length f
  pub first : 1 ≤ i
  pub count : 12 * i ≤ p + 12
  pub long : length t ≡ length t₀

pub underway-start : (f t : List ℕ) → Underway f t 0 1 None t
underway-start f t = record {
  left = length f;
  enough = let h : length f ≤ 0 + length f = omega arith in h;
  whole = λ number line u e. e;
  within = let h : 0 ≤ length f = omega arith in h;
  first = let h : 1 ≤ 1 = omega arith in h;
  count = let h : 12 * 1 ≤ 0 + 12 = omega arith in h;
  long = refl;
}

module _ (f t₀ : List ℕ) (p i : ℕ) (q : Option Record) (t : List ℕ) (w : Underway f t₀ p i q t) where
  step : (s : Step) → s ≡ step_at q t i (met_at f p i) → lines_from f w.left p i q t ≡ follow t (onward f p i q t (w.left - 1)) s
  step s e = lines_step f p i q t w.left w.enough s e

  underway-over : Ok std.None ≡ step_at q t i (met_at f p i) → EndsAs (read_lines f t₀) 0 0 t
  underway-over e = w.whole 0 0 t (all_read [] (step (Ok std.None) e) refl refl)

  pub underway-ended : (o : std.Option Entry) → Ok o ≡ step_at q t i (met_at f p i) → ((x : Entry) → o ≡ std.Some x → ⊥) → (u : List ℕ)
      → u ≡ table_after t (Ok o) → EndsAs (read_lines f t₀) 0 0 u
  underway-ended std.None e other u h = subst (λ (y : List ℕ). EndsAs (read_lines f t₀) 0 0 y) (sym h) (underway-over e)
  underway-ended (std.Some x) e other u h = absurd (other x refl)

  pub underway-fault : (fault : refusals.Fault) (u : List ℕ) → Err fault ≡ step_at q t i (met_at f p i)
      → EndsAs (read_lines f t₀) (number_of fault.why) fault.line u
  underway-fault fault u e =
      let h = step (Err fault) e in
      let l = fault-number f w.left p i q t (number_of fault.why) fault.line h in
      w.whole (number_of fault.why) fault.line u (at-fault h (λ z. omega arith))

  module _ (x : Entry) (e : Ok (std.Some x) ≡ step_at q t i (met_at f p i)) where
    -- the next line stands further on
    pub underway-next : (p + 12 ≤ x.next) × (x.next ≤ length f)
    underway-next = line-next f p x.next x.vertex (step-good f p i q t x e).0

    pub underway-more : Underway f t₀ x.next x.after (line_before x.after x.vertex) (enter_of t x.vertex)
    underway-more =
        let n = underway-next in
        let h = w.enough in
        let c = w.count in
        let o : line_before (i + 1) x.vertex ≡ Some x.vertex = ap (λ (b : Bool). cond b None (Some x.vertex)) (ne_eqb (i + 1) 1 (omega (arith, w.first))) in
        subst (λ (k : ℕ). Underway f t₀ x.next k (line_before k x.vertex) (enter_of t x.vertex)) (sym (step-good f p i q t x e).1)
        (subst (λ (y : Option Record). Underway f t₀ x.next (i + 1) y (enter_of t x.vertex)) (sym o)
        (record {
          left = w.left - 1;
          enough = omega (arith, n.0);
          whole = λ number line u d. w.whole number line u (subst (λ (y : Lines). EndsAs y number line u) (sym (step (Ok (std.Some x)) e))
              (ends-after x.vertex (onward f p i q t (w.left - 1) x.vertex x.next) d));
          within = n.1;
          first = omega (arith, w.first);
          count = omega (arith, n.0);
          long = enter-length t x.vertex ∙ w.long;
        }))
