-- The numbers with which lines and restoring are refused: `fault-number` 8, 9 or 10 · `stop-number` 8 or 11. So neither is taken for 0, 1 or 12. ·
-- `handed-on` what a `?` hands on.
-- Assumes nothing.
use Rattle.std.specs.Prelude.{◌≡◌, Bool, true, false, cond, List, [], ◌∷◌, ℕ, zero, suc, ◌+◌, ◌≤◌, eqb, Result, Ok, Err, IsErrAnd, Option, Some}
use Rattle.std.proofs.Common.{ap, subst, arith}
use Rattle.lattice.specs.Records.{valid_of}
use Rattle.lattice.specs.declared.records.Record.{Record}
use Rattle.lattice.specs.Refusals.{number_of}
use Rattle.lattice.specs.declared.refusals.Refusal.{Refusal}
use Rattle.lattice.specs.declared.refusals.Refusal.TheVariants as refusal
use Rattle.table.specs.Search.{find_of}
use Rattle.table.specs.Entries.{enter_of}
use Rattle.table.specs.declared.probe.Found.{Found}
use Rattle.text.specs.Line.{line_at}
use Rattle.text.specs.declared.line.Line.{Line}
use Rattle.text.specs.declared.line.Line.TheVariants.{Good, Bad, End}
use Rattle.lattice.specs.Subdivision.{born_of}
use Rattle.readers.specs.Readers.{Lines, Read, Fault, after, above, no_slot, line_read, lines_from, Restored, With, Stopped, restore_at, restore}
use Rattle.readers.specs.Readers.{restore_to, restore_all}
use Rattle.table.specs.declared.probe.Found.TheVariants as found

-- "per line 9, 10, 8"
abbrev OfLine : Lines → Type 0
OfLine (Read rs t) = Unit
OfLine (Fault number line) = (8 ≤ number) × (number ≤ 10)

of-line : (f : List ℕ) (left p i : ℕ) (q : Option Record) (t : List ℕ) → OfLine (lines_from f left p i q t)
unfolding lines_from
of-line f zero p i q t = tt
of-line f (suc left) p i q t = go (line_at f p) (λ r next. of-line f left next (i + 1) (Some r) (enter_of t r))
  where
    with_it : (r : Record) (x : Lines) → OfLine x → OfLine (after r x)
    with_it r (Read rs u) h = tt
    with_it r (Fault number line) h = h

    judge : (r : Record) (x : Lines) → OfLine x → (a b : Bool) → OfLine (cond a (cond b (Fault 8 i) (after r x)) (Fault 10 i))
    judge r x h false b = (omega arith, omega arith)
    judge r x h true true = (omega arith, omega arith)
    judge r x h true false = with_it r x h

    go : (l : Line) → ((r : Record) (next : ℕ) → OfLine (lines_from f left next (i + 1) (Some r) (enter_of t r)))
        → OfLine (line_read i q t (λ r next. lines_from f left next (i + 1) (Some r) (enter_of t r)) l)
    go End ih = tt
    go Bad ih = (omega arith, omega arith)
    go (Good r next) ih = judge r (lines_from f left next (i + 1) (Some r) (enter_of t r)) (ih r next) (above q r) (no_slot (find_of t r.at))

pub fault-number : (f : List ℕ) (left p i : ℕ) (q : Option Record) (t : List ℕ) (number line : ℕ) → lines_from f left p i q t ≡ Fault number line
    → (8 ≤ number) × (number ≤ 10)
fault-number f left p i q t number line e = subst OfLine e (of-line f left p i q t)

-- "at the first point met, 11 if the new record is not valid, else 8 if no slot is free"
abbrev OfRestoring : Restored → Type 0
OfRestoring (With t) = Unit
OfRestoring (Stopped number) = (8 ≤ number) × (number ≤ 11)

of-restore : (x : Restored) (r : Record) → OfRestoring x → OfRestoring (restore x r)
of-restore (Stopped number) r h = h
of-restore (With t) r h = go (find_of t r.at)
  where
    free : (b : Bool) → OfRestoring (cond b (With (enter_of t r)) (Stopped 11))
    free true = tt
    free false = (omega arith, omega arith)

    full : (b : Bool) → OfRestoring (Stopped (cond b 8 11))
    full true = (omega arith, omega arith)
    full false = (omega arith, omega arith)

    go : (o : Found) → OfRestoring (restore_at t r o)
    go (found.At i) = tt
    go (found.Free i) = free (valid_of r)
    go found.Full = full (valid_of r)

of-to : (v : Record) (j : ℕ) (x : Restored) → OfRestoring x → OfRestoring (restore_to v j x)
unfolding restore_to
of-to v zero x h = h
of-to v (suc j) x h = of-restore (restore_to v j x) (born_of v j) (of-to v j x h)

of-all : (rs : List Record) (x : Restored) → OfRestoring x → OfRestoring (restore_all rs x)
unfolding restore_all
of-all [] x h = h
of-all (v ∷ rs) x h = of-all rs (cond (eqb v.d 6) (restore_to v 6 x) x) (star (eqb v.d 6))
  where
    star : (b : Bool) → OfRestoring (cond b (restore_to v 6 x) x)
    star true = of-to v 6 x h
    star false = h

pub stop-number : (rs : List Record) (t : List ℕ) (number : ℕ) → restore_all rs (With t) ≡ Stopped number → (8 ≤ number) × (number ≤ 11)
stop-number rs t number e = subst OfRestoring e (of-all rs (With t) tt)

-- what a `?` hands on
pub handed-on : {A E : Type 0} {r : Result A E} {e : E} → IsErrAnd r (λ y. y ≡ e) → r ≡ Err e
handed-on {r = Ok x} h = absurd h
handed-on {r = Err y} h = ap Err h
