-- "left as by the reduced reader given the sorted lines, its 12 aside": `reader_of`, `reader-is` one equation.
-- Assumes nothing.
use Rattle.std.specs.Prelude.{◌≡◌, refl, Bool, true, false, cond, List, ℕ}
use Rattle.std.proofs.Common.{sym, ap, ◌∙◌}
use Rattle.laws.specs.Some.{some_of}
use Rattle.lattice.specs.declared.records.Record.{Record}
use Rattle.table.specs.Slots.{lengths_fit, slots_of, cleared_of}
use Rattle.table.specs.SlotLaws.{lengths-table}
use Rattle.text.specs.Line.{lines}
use Rattle.sorting.specs.SortLaws.{Rising}
use Rattle.writers.specs.Files.{redundant}
use Rattle.writers.specs.FileLaws.{Before}
use Rattle.grown.specs.Grown.{is_grown}
use Rattle.readers.specs.Readers.{Lines, Read, Fault, read_lines, Restored, With, Stopped, restore_all, TablesAfter, tables_after, refused, accepted}
use Rattle.readers.specs.Readers.{end_restored, end_reduced, read_reduced_of}
use Rattle.readers.specs.ReadLaws.{Valid}
use Rattle.readers.specs.RestoreLaws.{stopped-stays}
use Rattle.salvage.specs.Salvage.{enter_all, filled}
use Rattle.salvage.specs.KeyLaws.{judged_of}
use Rattle.salvage.specs.EnterLaws.{EndsAlike, reader-agrees}

-- ---- the reader

-- what the reduced reader answers, by what was judged: a refusal, on a line or on none; else 12 where a redundant record was kept, or the table
abbrev pub reader_of : List ℕ → List ℕ → List Record → ℕ → Restored → TablesAfter
reader_of t s rs line (Stopped number) = refused number line t s
reader_of t s rs line (With u) = cond (some_of (redundant u) rs) (refused 12 0 t s) (accepted u s)

pub reader-is : (t s : List ℕ) → lengths_fit t s ≡ true → (rs : List Record) → Rising Before rs → Valid rs
    → (line : ℕ) × (read_reduced_of t s (lines rs) ≡ reader_of t s rs line (judged_of (filled rs (cleared_of t))))
unfolding read_reduced_of filled
reader-is t s fit rs rises v =
    let (line, e) = go (read_lines (lines rs) (cleared_of t)) (reader-agrees t (slots_of t) (lengths-table t s fit) rs rises v) in
    (line, ap (λ (b : Bool). cond b (end_reduced t s (read_lines (lines rs) (cleared_of t))) (tables_after 1 0 t s)) fit ∙ e)
  where
    grown : (u : List ℕ) (g : Bool)
        → cond g (cond (some_of (redundant u) rs) (refused 12 0 t s) (accepted u s)) (refused 11 0 t s) ≡ reader_of t s rs 0 (cond g (With u) (Stopped 11))
    grown u true = refl
    grown u false = refl

    ends : (x : Restored) → end_restored t s rs x ≡ reader_of t s rs 0 (judged_of x)
    ends (Stopped number) = refl
    ends (With u) = grown u (is_grown u)

    go : (x : Lines) → EndsAlike rs (enter_all rs (With (cleared_of t))) x
        → (line : ℕ) × (end_reduced t s x ≡ reader_of t s rs line (judged_of (restore_all rs (enter_all rs (With (cleared_of t))))))
    go (Fault number line) (e, h) = (
      line,
      ap (λ (n : ℕ). refused n line t s) e ∙ ap (λ (x : Restored). reader_of t s rs line (judged_of x))
          (sym (ap (restore_all rs) h ∙ stopped-stays rs 8)),
    )
    go (Read qs u) (e, h) = (
      0,
      ap (λ (x : List Record). end_restored t s x (restore_all x (With u))) e ∙ ends (restore_all rs (With u))
          ∙ ap (λ (x : Restored). reader_of t s rs 0 (judged_of (restore_all rs x))) (sym h),
    )
