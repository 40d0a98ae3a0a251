-- What is restored of a file, line by line, whatever it kept.
-- `Restoring` so far: `restoring-start`, `restoring-end`, `restoring-bad`, `restoring-more`, `restoring-stopped`.
-- Assumes nothing.
use Rattle.std.specs.Prelude.{◌≡◌, refl, List, ℕ, ◌+◌, ◌-◌, ◌≤◌, length}
use Rattle.std.proofs.Common.{sym, ap, ◌∙◌, arith}
use Rattle.lattice.specs.declared.records.Record.{Record}
use Rattle.text.specs.Line.{line_at}
use Rattle.text.specs.LineLaws.{line-next}
use Rattle.text.specs.declared.line.Line.{Line}
use Rattle.text.specs.declared.line.Line.TheVariants.{Good, Bad, End}
use Rattle.readers.specs.Readers.{Restored, With, Stopped, restore_star, restore_all}
use Rattle.readers.specs.RestoreLaws.{stopped-stays}
use Rattle.readers.specs.RestoreSteps.{line_record, records_at, file_records, records-step}

-- what is restored from position p on, into t, is what is restored of the whole file, into t₀
pub record Restoring (f t₀ : List ℕ) (p : ℕ) (t : List ℕ) : Type 0 where
  pub left : ℕ
  pub enough : length f ≤ p + left
  pub whole : restore_all (file_records f) (With t₀) ≡ restore_all (records_at f left p) (With t)
  pub long : length t ≡ length t₀

pub restoring-start : (f t : List ℕ) → Restoring f t 0 t
restoring-start f t = record { left = length f; enough = let h : length f ≤ 0 + length f = omega arith in h; whole = refl; long = refl }

module _ (f t₀ : List ℕ) (p : ℕ) (t : List ℕ) (w : Restoring f t₀ p t) where
  step : (l : Line) → line_at f p ≡ l → restore_all (file_records f) (With t₀) ≡ restore_all (line_record (λ r next. records_at f (w.left - 1) next) l) (With t)
  step l e = w.whole ∙ ap (λ (rs : List Record). restore_all rs (With t)) (records-step f w.left p w.enough l e)

  pub restoring-end : line_at f p ≡ End → With t ≡ restore_all (file_records f) (With t₀)
  unfolding restore_all
  restoring-end e = sym (step End e)

  pub restoring-bad : line_at f p ≡ Bad → With t ≡ restore_all (file_records f) (With t₀)
  unfolding restore_all
  restoring-bad e = sym (step Bad e)

  module _ (v : Record) (next : ℕ) (good : line_at f p ≡ Good v next) where
    through : (x : Restored) → restore_star v (With t) ≡ x → restore_all (file_records f) (With t₀) ≡ restore_all (records_at f (w.left - 1) next) x
    unfolding restore_all
    through x e = step (Good v next) good ∙ ap (restore_all (records_at f (w.left - 1) next)) e

    pub restoring-stopped : (number : ℕ) → restore_star v (With t) ≡ Stopped number → Stopped number ≡ restore_all (file_records f) (With t₀)
    restoring-stopped number e = sym (through (Stopped number) e ∙ stopped-stays (records_at f (w.left - 1) next) number)

    pub restoring-more : (u : List ℕ) → length u ≡ length t → restore_star v (With t) ≡ With u → Restoring f t₀ next u
    restoring-more u l e =
        let h = w.enough in
        let n = line-next f p next v good in
        record { left = w.left - 1; enough = omega (arith, n.0); whole = through (With u) e; long = l ∙ w.long }
