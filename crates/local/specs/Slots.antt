-- The records of a table judged slot by slot.
-- `judged_at` a slot judged · `has_any` there is one · `some_more`, `pass-more` one slot more · `passes-failed`, `passes-all` the two ends.
-- Assumes nothing.
use Rattle.std.specs.Prelude.{◌≡◌, refl, Bool, true, false, ◌&&◌, ◌||◌, Option, Some, None, is_some, unwrap_or, List, [], ◌∷◌, ◌++◌}
use Rattle.std.specs.Prelude.{ℕ, zero, suc, ◌+◌, ◌-◌, ◌<◌}
use Rattle.std.proofs.Math.Path.{sym, ap}
use Rattle.std.proofs.Common.{◌∙◌, arith}
use Rattle.std.proofs.Math.Bool.{and_assoc, and-true}
use Rattle.laws.specs.Each.{and-false}
use Rattle.lattice.specs.declared.records.Record.{Record}
use Rattle.growth.specs.Sheets.{Sheet}
use Rattle.growth.specs.Local.{local_test}
use Rattle.growth.specs.Growth.{all_pass, grown_test}
use Rattle.table.specs.Slots.{slot_at, slots_of}
use Rattle.table.specs.Entries.{listed, records_below, records_of}
use Rattle.table.specs.MapLaws.{records-none, records-more}
use Rattle.local.specs.Sheet.{sheet_of, passes_all}

abbrev pub judged_slot : List ℕ → Option Record → Option Bool
judged_slot t None = None
judged_slot t (Some r) = Some (local_test (sheet_of t) r)

-- slot i: whether its record passes, if it holds one
unfoldable pub judged_at : List ℕ → ℕ → Option Bool
judged_at t i = judged_slot t (slot_at t i)

abbrev pub has_any : List Record → Bool
has_any [] = false
has_any (r ∷ rs) = true

some-append : (xs ys : List Record) → has_any (xs ++ ys) ≡ has_any xs || has_any ys
some-append [] ys = refl
some-append (x ∷ xs) ys = refl

pass-append : (R : Sheet) (xs ys : List Record) → all_pass R (xs ++ ys) ≡ all_pass R xs && all_pass R ys
pass-append R [] ys = refl
pass-append R (x ∷ xs) ys = ap (λ (b : Bool). local_test R x && b) (pass-append R xs ys) ∙ sym (and_assoc (local_test R x) (all_pass R xs) (all_pass R ys))

module _ (t : List ℕ) where
  -- every record of the first k slots passes
  abbrev pub pass_below : ℕ → Bool
  pass_below k = all_pass (sheet_of t) (records_below t k)

  judged-some : (s : Option Record) → has_any (listed s) ≡ is_some (judged_slot t s)
  judged-some None = refl
  judged-some (Some r) = refl

  judged-pass : (s : Option Record) → all_pass (sheet_of t) (listed s) ≡ unwrap_or (judged_slot t s) true
  judged-pass None = refl
  judged-pass (Some r) = and-true (local_test (sheet_of t) r)

  pub some-none : has_any (records_below t 0) ≡ false
  some-none = ap has_any (records-none t)

  pub pass-none : pass_below 0 ≡ true
  pass-none = ap (all_pass (sheet_of t)) (records-none t)

  pub some_more : (i : ℕ) → has_any (records_below t i) || is_some (judged_at t i) ≡ has_any (records_below t (i + 1))
  unfolding judged_at
  some_more i =
      sym (ap has_any (records-more t i) ∙ some-append (records_below t i) (listed (slot_at t i))
      ∙ ap (λ (b : Bool). has_any (records_below t i) || b) (judged-some (slot_at t i)))

  pub pass-more : (i : ℕ) → pass_below i && unwrap_or (judged_at t i) true ≡ pass_below (i + 1)
  unfolding judged_at
  pass-more i =
      sym (ap (all_pass (sheet_of t)) (records-more t i)
      ∙ pass-append (sheet_of t) (records_below t i) (listed (slot_at t i)) ∙ ap (λ (b : Bool). pass_below i && b) (judged-pass (slot_at t i)))

  -- a slot that fails, whatever comes after it
  later : (i k : ℕ) → unwrap_or (judged_at t i) true ≡ false → pass_below (i + 1 + k) ≡ false
  later i zero e =
      let z : i + 1 + 0 ≡ i + 1 = omega arith in
      ap pass_below z ∙ sym (pass-more i) ∙ ap (λ (b : Bool). pass_below i && b) e ∙ and-false (pass_below i)
  later i (suc k) e =
      let z : i + 1 + suc k ≡ i + 1 + k + 1 = omega arith in
      ap pass_below z ∙ sym (pass-more (i + 1 + k)) ∙ ap (λ (b : Bool). b && unwrap_or (judged_at t (i + 1 + k)) true) (later i k e)

  passed : (rs : List Record) → has_any rs && all_pass (sheet_of t) rs ≡ grown_test (sheet_of t) rs
  passed [] = refl
  passed (r ∷ rs) = refl

  all-passed : has_any (records_of t) && pass_below (slots_of t) ≡ passes_all t
  unfolding passes_all
  all-passed = passed (records_of t)

  -- so ends the pass over the slots: at one that fails, or after the last
  pub passes-failed : (i : ℕ) → i < slots_of t → unwrap_or (judged_at t i) true ≡ false → false ≡ passes_all t
  passes-failed i h e =
      let z : slots_of t ≡ i + 1 + (slots_of t - (i + 1)) = omega arith in
      sym (and-false (has_any (records_of t)))
      ∙ ap (λ (b : Bool). has_any (records_of t) && b) (sym (ap pass_below z ∙ later i (slots_of t - (i + 1)) e)) ∙ all-passed

  pub passes-all : (k : ℕ) → k ≡ slots_of t → pass_below k ≡ true → has_any (records_below t k) ≡ passes_all t
  passes-all k e h =
      sym (and-true (has_any (records_below t k)))
      ∙ ap (λ (b : Bool). has_any (records_below t k) && b) (sym h) ∙ ap (λ (k : ℕ). has_any (records_below t k) && pass_below k) e ∙ all-passed
