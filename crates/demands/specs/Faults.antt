-- Demand 1, where a reader finds fault, of whole files: "Readers give the line at fault for 9, 10 and 8 met on a line, else 0", and restoring "at the
-- first point met, 11 if the new record is not valid, else 8 if no slot is free".
-- `Passes` a reader goes from one line to a later one, each line between them passed · `FaultAt` a line at fault: those before it passed, it is refused ·
-- `fault-line`, `line-fault` reading ends with a number and a line exactly where that line is at fault with that number · `full-line`,
-- `reduced-line` the line given back is that one, else 0 · `met_in` the points restored, in the order met · `FirstMet` the first of them that is
-- refused · `restore-first`, `first-restore` restoring stops with a number exactly where there is one · `met-number` 8 or 11.
-- Assumes nothing.
use Rattle.std.specs.Prelude.{◌≡◌, ◌≢◌, ◌⊎◌, Bool, cond, not, ℕ, zero, suc, ◌+◌, ◌≤◌, ◌<◌, eqb, length, Option, Some, None}
use Rattle.std.proofs.Math.Path.{refl, ap}
use Rattle.std.proofs.Common.{sym, ◌∙◌, subst, inl, inr, arith}
use Rattle.std.proofs.Math.Bool.{true, false}
use mathlib.Core.List.{List, [], ◌∷◌, ◌++◌}
use Rattle.std.proofs.Math.Decide.{dec_lt}
use Rattle.laws.specs.Each.{not-both}
use Rattle.laws.specs.Some.{some_of}
use Rattle.lattice.specs.Records.{valid_of}
use Rattle.lattice.specs.Subdivision.{born_of}
use Rattle.lattice.specs.declared.records.Record.{Record}
use Rattle.table.specs.Slots.{lengths_fit, cleared_of}
use Rattle.table.specs.Search.{find_of}
use Rattle.table.specs.Entries.{enter_of}
use Rattle.table.specs.declared.probe.Found.{Found}
use Rattle.table.specs.declared.probe.Found.TheVariants as found
use Rattle.text.specs.Line.{line_at}
use Rattle.text.specs.LineLaws.{line-next, line-end}
use Rattle.text.specs.declared.line.Line.{Line}
use Rattle.text.specs.declared.line.Line.TheVariants.{Good, Bad, End}
use Rattle.grown.specs.Grown.{is_grown}
use Rattle.writers.specs.Files.{redundant}
use Rattle.readers.specs.Readers.{Lines, Read, Fault, after, no_slot, line_read, lines_from, read_lines}
use Rattle.readers.specs.Readers.{Restored, With, Stopped, restore_at, restore, restore_to, restore_all}
use Rattle.readers.specs.Readers.{end_full, end_reduced, end_restored, read_full_of, read_reduced_of}
use Rattle.readers.specs.Readers as read
use Rattle.demands.specs.Numbers.{Rule, ◌⇒◌, first_of}
use Rattle.demands.specs.ReadNumbers.{line_rules, line_refused, line-passed, number_in, is_fault, stop_number, is_stopped, is_absent, restore-number}

-- ---- the lines: where a reader is
pub record Stand : Type 0 where
  pub line : ℕ
  pub position : ℕ
  pub behind : Option Record
  pub table : List ℕ

-- "first line 1"
abbrev pub begin : List ℕ → Stand
begin t = record { line = 1; position = 0; behind = None; table = t }

-- a line with record r passed, the next one begins at `next`
abbrev pub onward : Stand → Record → ℕ → Stand
onward x r next = record { line = x.line + 1; position = next; behind = Some r; table = enter_of x.table r }

-- the number with which the line there is refused, 0 where it passes
abbrev pub refusal : List ℕ → Stand → ℕ
refusal f x = first_of (line_rules x.behind x.table (line_at f x.position))

-- by the lines of the records rs the reader comes from x to y
abbrev pub Passes : List ℕ → Stand → List Record → Stand → Type 0
Passes f x [] y = x ≡ y
Passes f x (r ∷ rs) y = (next : ℕ) × (line_at f x.position ≡ Good r next) × (refusal f x ≡ 0) × Passes f (onward x r next) rs y

-- the line at fault, with its number: all before it passed
pub record FaultAt (f : List ℕ) (x : Stand) (number line : ℕ) : Type 0 where
  pub before : List Record
  pub there : Stand
  pub passes : Passes f x before there
  pub is : there.line ≡ line
  pub gives : refusal f there ≡ number

abbrev pub line_in : Lines → ℕ
line_in (Read rs t) = 0
line_in (Fault n i) = i

fault-after : (r : Record) (x : Lines) (n i : ℕ) → after r x ≡ Fault n i → x ≡ Fault n i
fault-after r (Read rs t) n i e = absurd (not-both (ap is_fault e) refl)
fault-after r (Fault k j) n i e = e

module _ (f : List ℕ) where
  abbrev lines_at : ℕ → Stand → Lines
  lines_at left x = lines_from f left x.position x.line x.behind x.table

  ended : (left : ℕ) (x : Stand) → line_at f x.position ≡ End → is_fault (lines_at (suc left) x) ≡ false
  unfolding lines_from
  ended left x e =
      ap (λ (l : Line). is_fault (line_read x.line x.behind x.table (λ r next. lines_from f left next (x.line + 1) (Some r) (enter_of x.table r)) l)) e

  nothing : (x : Stand) → is_fault (lines_at 0 x) ≡ false
  unfolding lines_from
  nothing x = refl

  fault-found : (left : ℕ) (x : Stand) (n i : ℕ) → lines_at left x ≡ Fault n i → FaultAt f x n i
  fault-found zero x n i e = absurd (not-both (ap is_fault e) (nothing x))
  fault-found (suc left) x n i e = go (λ y h. fault-found left y n i h) (dec_lt 0 (refusal f x))
    where
      there : ((y : Stand) → lines_at left y ≡ Fault n i → FaultAt f y n i) → refusal f x ≡ 0 → (l : Line) → line_at f x.position ≡ l → FaultAt f x n i
      there ih z End h = absurd (not-both (ap is_fault e) (ended left x h))
      there ih z Bad h = absurd (let w : 9 ≡ 0 = sym (ap (λ (l : Line). first_of (line_rules x.behind x.table l)) h) ∙ z in omega arith)
      there ih z (Good r next) h =
          let p = line-passed f left x.position x.line x.behind x.table r next h z in
          let w = ih (onward x r next) (fault-after r (lines_at left (onward x r next)) n i (sym p ∙ e)) in
          record { before = r ∷ w.before; there = w.there; passes = (next, h, z, w.passes); is = w.is; gives = w.gives }

      go : ((y : Stand) → lines_at left y ≡ Fault n i → FaultAt f y n i) → Dec (0 < refusal f x) → FaultAt f x n i
      go ih (yes l) =
          let h : Fault (refusal f x) x.line ≡ Fault n i = sym (line_refused f left x.position x.line x.behind x.table (λ z. omega arith)) ∙ e in
          record { before = []; there = x; passes = refl; is = ap line_in h; gives = ap number_in h }
      go ih (no l) = let z : refusal f x ≡ 0 = omega arith in there ih z (line_at f x.position) refl

  fault-given : (left : ℕ) (x : Stand) (rs : List Record) (y : Stand) → Passes f x rs y → refusal f y ≢ 0 → length rs < left
      → lines_at left x ≡ Fault (refusal f y) y.line
  fault-given zero x rs y p z l = absurd (omega arith)
  fault-given (suc left) x [] y p z l =
      subst (λ (w : Stand). refusal f w ≢ 0 → lines_at (suc left) x ≡ Fault (refusal f w) w.line) p
      (line_refused f left x.position x.line x.behind x.table) z
  fault-given (suc left) x (r ∷ rs) y (next, h, g, p) z l =
      line-passed f left x.position x.line x.behind x.table r next h g ∙ ap (after r) (fault-given left (onward x r next) rs y p z (omega arith))

  -- a line has a byte at least
  passes-far : (x : Stand) (rs : List Record) (y : Stand) → Passes f x rs y → x.position + length rs ≤ y.position
  passes-far x [] y p = let e : x.position ≡ y.position = ap (λ (w : Stand). w.position) p in omega arith
  passes-far x (r ∷ rs) y (next, h, g, p) =
      let a = line-next f x.position next r h in
      let b = passes-far (onward x r next) rs y p in
      omega (arith, a.0)

  refused-within : (y : Stand) → refusal f y ≢ 0 → y.position < length f
  refused-within y z = go (dec_lt y.position (length f))
    where
      go : Dec (y.position < length f) → y.position < length f
      go (yes l) = l
      go (no l) = absurd (z (ap (λ (k : Line). first_of (line_rules y.behind y.table k)) (line-end f y.position (omega arith))))

module _ (f t : List ℕ) (n i : ℕ) where
  pub fault-line : read_lines f t ≡ Fault n i → FaultAt f (begin t) n i
  fault-line e = fault-found f (length f) (begin t) n i e

  pub line-fault : FaultAt f (begin t) n i → n ≢ 0 → read_lines f t ≡ Fault n i
  line-fault w z =
      let y = w.there in
      let r : refusal f y ≢ 0 = λ e. z (sym w.gives ∙ e) in
      let a = passes-far f (begin t) w.before y w.passes in
      let b = refused-within f y r in
      fault-given f (length f) (begin t) w.before y w.passes r (omega arith) ∙ (λ j. Fault (w.gives j) (w.is j))

-- "Readers give the line at fault for 9, 10 and 8 met on a line, else 0."
module _ (t s f : List ℕ) where
  pub full-line : (read_full_of t s f).line ≡ cond (lengths_fit t s) (line_in (read_lines f (cleared_of t))) 0
  unfolding read_full_of
  full-line = go (lengths_fit t s) (read_lines f (cleared_of t))
    where
      judged : (u : List ℕ) (g : Bool) → (cond g (read.accepted u s) (read.refused 11 0 t s)).line ≡ 0
      judged u true = refl
      judged u false = refl

      go : (b : Bool) (x : Lines) → (cond b (end_full t s x) (read.tables_after 1 0 t s)).line ≡ cond b (line_in x) 0
      go false x = refl
      go true (Fault n i) = refl
      go true (Read rs u) = judged u (is_grown u)

  pub reduced-line : (read_reduced_of t s f).line ≡ cond (lengths_fit t s) (line_in (read_lines f (cleared_of t))) 0
  unfolding read_reduced_of
  reduced-line = go (lengths_fit t s) (read_lines f (cleared_of t))
    where
      judged : (u : List ℕ) (g k : Bool) → (cond g (cond k (read.refused 12 0 t s) (read.accepted u s)) (read.refused 11 0 t s)).line ≡ 0
      judged u true true = refl
      judged u true false = refl
      judged u false k = refl

      restored : (rs : List Record) (w : Restored) → (end_restored t s rs w).line ≡ 0
      restored rs (Stopped n) = refl
      restored rs (With u) = judged u (is_grown u) (some_of (redundant u) rs)

      go : (b : Bool) (x : Lines) → (cond b (end_reduced t s x) (read.tables_after 1 0 t s)).line ≡ cond b (line_in x) 0
      go false x = refl
      go true (Fault n i) = refl
      go true (Read rs u) = restored rs (restore_all rs (With u))

-- ---- restoring: "takes the degree 6 records in file order and enters each absent adjacent point, j rising"
abbrev pub met_at : Record → List Record
met_at v = born_of v 0 ∷ born_of v 1 ∷ born_of v 2 ∷ born_of v 3 ∷ born_of v 4 ∷ born_of v 5 ∷ []

abbrev pub met_in : List Record → List Record
met_in [] = []
met_in (v ∷ vs) = cond (eqb v.d 6) (met_at v ++ met_in vs) (met_in vs)

abbrev pub restore_each : List Record → Restored → Restored
restore_each [] x = x
restore_each (r ∷ rs) x = restore_each rs (restore x r)

-- so restoring is one point after the other
pub met_all : (vs : List Record) (x : Restored) → restore_all vs x ≡ restore_each (met_in vs) x
unfolding restore_all restore_to
met_all [] x = refl
met_all (v ∷ vs) x = go (eqb v.d 6) (λ y. met_all vs y)
  where
    go : (b : Bool) → ((y : Restored) → restore_all vs y ≡ restore_each (met_in vs) y)
        → restore_all vs (cond b (restore_to v 6 x) x) ≡ restore_each (cond b (met_at v ++ met_in vs) (met_in vs)) x
    go true ih = ih (restore_to v 6 x)
    go false ih = ih x

-- "11 if the new record is not valid, else 8 if no slot is free", of an absent point
abbrev pub point_rules : List ℕ → Record → List Rule
point_rules t r = not (valid_of r) ⇒ 11 ∷ no_slot (find_of t r.at) ⇒ 8 ∷ []

-- the first point that is refused: those met before it are there, or were entered
pub record FirstMet (points : List Record) (t : List ℕ) (number : ℕ) : Type 0 where
  pub before : List Record
  pub point : Record
  pub rest : List Record
  pub among : points ≡ before ++ point ∷ rest
  pub table : List ℕ
  pub entered : restore_each before (With t) ≡ With table
  pub absent : is_absent (find_of table point.at) ≡ true
  pub gives : first_of (point_rules table point) ≡ number

stays : (rs : List Record) (k : ℕ) → restore_each rs (Stopped k) ≡ Stopped k
stays [] k = refl
stays (r ∷ rs) k = stays rs k

stop-absent : (t : List ℕ) (r : Record) (o : Found) (k : ℕ) → restore_at t r o ≡ Stopped k → is_absent o ≡ true
stop-absent t r (found.At i) k e = absurd (not-both (ap is_stopped e) refl)
stop-absent t r (found.Free i) k e = refl
stop-absent t r found.Full k e = refl

stop-first : (rs : List Record) (t : List ℕ) (n : ℕ) → restore_each rs (With t) ≡ Stopped n → FirstMet rs t n
stop-first [] t n e = absurd (not-both (ap is_stopped e) refl)
stop-first (r ∷ rs) t n e = go (restore (With t) r) refl (λ u h. stop-first rs u n h)
  where
    go : (x : Restored) → restore (With t) r ≡ x → ((u : List ℕ) → restore_each rs (With u) ≡ Stopped n → FirstMet rs u n) → FirstMet (r ∷ rs) t n
    go (With u) h ih =
        let w = ih u (sym (ap (restore_each rs) h) ∙ e) in
        record {
          before = r ∷ w.before;
          point = w.point;
          rest = w.rest;
          among = ap (λ (xs : List Record). r ∷ xs) w.among;
          table = w.table;
          entered = ap (restore_each w.before) h ∙ w.entered;
          absent = w.absent;
          gives = w.gives;
        }
    go (Stopped k) h ih =
        let a = stop-absent t r (find_of t r.at) k h in
        let s : Stopped k ≡ Stopped n = sym (ap (restore_each rs) h ∙ stays rs k) ∙ e in
        record {
          before = [];
          point = r;
          rest = rs;
          among = refl;
          table = t;
          entered = refl;
          absent = a;
          gives = sym (restore-number t r a) ∙ ap stop_number h ∙ ap stop_number s;
        }

each_append : (xs ys : List Record) (x : Restored) → restore_each (xs ++ ys) x ≡ restore_each ys (restore_each xs x)
each_append [] ys x = refl
each_append (r ∷ xs) ys x = each_append xs ys (restore x r)

stops : (t : List ℕ) (r : Record) (n : ℕ) → n ≢ 0 → (o : Found) → is_absent o ≡ true
    → first_of (not (valid_of r) ⇒ 11 ∷ no_slot o ⇒ 8 ∷ []) ≡ n → restore_at t r o ≡ Stopped n
stops t r n z (found.At i) a e = absurd (not-both a refl)
stops t r n z (found.Free i) a e = go (valid_of r) e
  where
    go : (v : Bool) → first_of (not v ⇒ 11 ∷ false ⇒ 8 ∷ []) ≡ n → cond v (With (enter_of t r)) (Stopped 11) ≡ Stopped n
    go true e = absurd (z (sym e))
    go false e = ap Stopped e
stops t r n z found.Full a e = go (valid_of r) e
  where
    go : (v : Bool) → first_of (not v ⇒ 11 ∷ true ⇒ 8 ∷ []) ≡ n → Stopped (cond v 8 11) ≡ Stopped n
    go true e = ap Stopped e
    go false e = ap Stopped e

module _ (rs : List Record) (t : List ℕ) (n : ℕ) where
  pub restore-first : restore_all rs (With t) ≡ Stopped n → FirstMet (met_in rs) t n
  restore-first e = stop-first (met_in rs) t n (sym (met_all rs (With t)) ∙ e)

  pub first-restore : FirstMet (met_in rs) t n → n ≢ 0 → restore_all rs (With t) ≡ Stopped n
  first-restore w z =
      met_all rs (With t)
      ∙ ap (λ (ps : List Record). restore_each ps (With t)) w.among
      ∙ each_append w.before (w.point ∷ w.rest) (With t)
      ∙ ap (restore_each (w.point ∷ w.rest)) w.entered
      ∙ ap (restore_each w.rest) (stops w.table w.point n z (find_of w.table w.point.at) w.absent w.gives)
      ∙ stays w.rest n

pub met-number : (points : List Record) (t : List ℕ) (n : ℕ) → FirstMet points t n → n ≢ 0 → (n ≡ 8) ⊎ (n ≡ 11)
met-number points t n w z = go (valid_of w.point) (no_slot (find_of w.table w.point.at)) w.gives
  where
    go : (v s : Bool) → first_of (not v ⇒ 11 ∷ s ⇒ 8 ∷ []) ≡ n → (n ≡ 8) ⊎ (n ≡ 11)
    go false s e = inr (sym e)
    go true true e = inl (sym e)
    go true false e = absurd (z (sym e))
