-- Records entered from keys, and what they leave out restored: `records_of_keys` the records of the first k keys · `Filling` the records of the first i keys have
-- passed: `filling-start`, `filling-more`, `filling-stopped`, `filling-end`, over any way that a record changes the table.
-- Assumes nothing.
use Rattle.std.specs.Prelude.{◌≡◌, refl, Bool, false, cond, length}
use Rattle.std.proofs.Math.Path.{sym, ap}
use Rattle.std.proofs.Common.{◌∙◌}
use mathlib.Core.List.{List, [], ◌∷◌, ◌++◌, map, map-append}
use Prim.Native.Nat.{ℕ, zero, suc, ◌+◌, ◌-◌, ◌≤◌, ◌<◌}
use native.Mathlib.Omega.{arith}
use Rattle.lattice.specs.declared.records.Record.{Record}
use Rattle.table.specs.Search.{find_of}
use Rattle.table.specs.Entries.{enter_of}
use Rattle.table.specs.declared.probe.Found.{Found}
use Rattle.table.specs.declared.probe.Found.TheVariants as found
use Rattle.sorting.specs.Sorting.{key_in, firsts, keys_in}
use Rattle.writers.specs.Kept.{record_for}
use Rattle.readers.specs.Readers.{no_slot, With, Stopped, restore_star, restore_all}
use Rattle.readers.specs.RestoreLaws.{stopped-stays}
use Rattle.readers.specs.RestoreSteps.{restored_by, by-none, by-stopped}
use Rattle.salvage.specs.Salvage.{entering, enter_all}

-- the records of the keys from i on, so many of them
unfoldable pub records_from : List ℕ → ℕ → ℕ → List Record
records_from o i zero = []
records_from o i (suc left) = record_for (key_in o i) ∷ records_from o (i + 1) left

abbrev pub records_of_keys : List ℕ → ℕ → List Record
records_of_keys o k = records_from o 0 k

-- ---- one record

module _ (t : List ℕ) (r : Record) (u : List ℕ) (e : u ≡ enter_of t r) where
  pub entering-room : (f : Found) → find_of t r.at ≡ f → no_slot f ≡ false → With u ≡ entering (With t) r
  entering-room f h b = ap With e ∙ sym (ap (λ (x : Bool). cond x (Stopped 8) (With (enter_of t r))) (ap no_slot h ∙ b))

  pub entering-full : find_of t r.at ≡ found.Full → Stopped 8 ≡ entering (With t) r
  entering-full h = sym (ap (λ (x : Bool). cond x (Stopped 8) (With (enter_of t r))) (ap no_slot h))

-- ---- all of them, by a step that each record makes

pub enter-stopped : (rs : List Record) (number : ℕ) → enter_all rs (Stopped number) ≡ Stopped number
unfolding enter_all
enter-stopped [] number = refl
enter-stopped (r ∷ rs) number = enter-stopped rs number

module _ (o t₀ : List ℕ) (k : ℕ) where
  -- the first i records have passed and left t: by entering, and by restoring
  pub record Entering (i : ℕ) (t : List ℕ) : Type 0 where
    pub most : i ≤ k
    pub whole : enter_all (records_of_keys o k) (With t₀) ≡ enter_all (records_from o i (k - i)) (With t)
    pub long : length t ≡ length t₀

  pub record Restoring (i : ℕ) (t : List ℕ) : Type 0 where
    pub most : i ≤ k
    pub whole : restore_all (records_of_keys o k) (With t₀) ≡ restore_all (records_from o i (k - i)) (With t)
    pub long : length t ≡ length t₀

  pub entering-start : Entering 0 t₀
  entering-start =
      let e : k ≡ k - 0 = omega arith in
      record { most = omega arith; whole = ap (λ (n : ℕ). enter_all (records_from o 0 n) (With t₀)) e; long = refl }

  pub restoring-start : Restoring 0 t₀
  restoring-start =
      let e : k ≡ k - 0 = omega arith in
      record { most = omega arith; whole = ap (λ (n : ℕ). restore_all (records_from o 0 n) (With t₀)) e; long = refl }

  -- the next one
  next : (i : ℕ) → i < k → records_from o i (k - i) ≡ record_for (key_in o i) ∷ records_from o (i + 1) (k - (i + 1))
  unfolding records_from
  next i h = let e : k - i ≡ suc (k - (i + 1)) = omega arith in ap (records_from o i) e

  none : (i : ℕ) → (i < k → ⊥) → records_from o i (k - i) ≡ []
  unfolding records_from
  none i h = let e : k - i ≡ 0 = omega arith in ap (records_from o i) e

  module _ (i : ℕ) (t : List ℕ) (w : Entering i t) where
    entering-step : i < k → enter_all (records_of_keys o k) (With t₀) ≡ enter_all (records_from o (i + 1) (k - (i + 1))) (entering (With t) (record_for (key_in o i)))
    unfolding enter_all
    entering-step h = w.whole ∙ ap (λ (l : List Record). enter_all l (With t)) (next i h)

    pub entering-end : (i < k → ⊥) → With t ≡ enter_all (records_of_keys o k) (With t₀)
    unfolding enter_all
    entering-end h = sym (w.whole ∙ ap (λ (l : List Record). enter_all l (With t)) (none i h))

    module _ (h : i < k) (x : ℕ) (u : List ℕ) (e : restored_by x u ≡ entering (With t) (record_for (key_in o i))) where
      pub entering-stops : (x ≡ 0 → ⊥) → restored_by x u ≡ enter_all (records_of_keys o k) (With t₀)
      entering-stops n =
          by-stopped x u n ∙ sym (enter-stopped (records_from o (i + 1) (k - (i + 1))) x)
          ∙ ap (enter_all (records_from o (i + 1) (k - (i + 1)))) (sym (by-stopped x u n) ∙ e) ∙ sym (entering-step h)

      pub entering-more : x ≡ 0 → length u ≡ length t → Entering (i + 1) u
      entering-more z l = record {
        most = omega arith;
        whole = entering-step h ∙ ap (enter_all (records_from o (i + 1) (k - (i + 1)))) (sym e ∙ by-none x u z);
        long = l ∙ w.long;
      }

  module _ (i : ℕ) (t : List ℕ) (w : Restoring i t) where
    restoring_step : i < k → restore_all (records_of_keys o k) (With t₀)
        ≡ restore_all (records_from o (i + 1) (k - (i + 1))) (restore_star (record_for (key_in o i)) (With t))
    unfolding restore_all
    restoring_step h = w.whole ∙ ap (λ (l : List Record). restore_all l (With t)) (next i h)

    pub restoring-end : (i < k → ⊥) → With t ≡ restore_all (records_of_keys o k) (With t₀)
    unfolding restore_all
    restoring-end h = sym (w.whole ∙ ap (λ (l : List Record). restore_all l (With t)) (none i h))

    module _ (h : i < k) (x : ℕ) (u : List ℕ) (e : restored_by x u ≡ restore_star (record_for (key_in o i)) (With t)) where
      pub restoring-stops : (x ≡ 0 → ⊥) → restored_by x u ≡ restore_all (records_of_keys o k) (With t₀)
      restoring-stops n =
          by-stopped x u n ∙ sym (stopped-stays (records_from o (i + 1) (k - (i + 1))) x)
          ∙ ap (restore_all (records_from o (i + 1) (k - (i + 1)))) (sym (by-stopped x u n) ∙ e) ∙ sym (restoring_step h)

      pub restoring-more : x ≡ 0 → length u ≡ length t → Restoring (i + 1) u
      restoring-more z l = record {
        most = omega arith;
        whole = restoring_step h ∙ ap (restore_all (records_from o (i + 1) (k - (i + 1)))) (sym e ∙ by-none x u z);
        long = l ∙ w.long;
      }

-- ---- the records of the keys, as a list of their own
one_more : (o : List ℕ) (i left : ℕ) → records_from o i (suc left) ≡ records_from o i left ++ record_for (key_in o (i + left)) ∷ []
unfolding records_from
one_more o i zero = let e : i ≡ i + 0 = omega arith in ap (λ (n : ℕ). record_for (key_in o n) ∷ []) e
one_more o i (suc left) =
    let e : i + 1 + left ≡ i + suc left = omega arith in
    ap (λ (l : List Record). record_for (key_in o i) ∷ l)
    (one_more o (i + 1) left ∙ ap (λ (n : ℕ). records_from o (i + 1) left ++ record_for (key_in o n) ∷ []) e)

pub records-of-keys : (o : List ℕ) (k : ℕ) → records_of_keys o k ≡ map record_for (keys_in o k)
unfolding firsts records_from
records-of-keys o zero = refl
records-of-keys o (suc k) =
    let e : 0 + k ≡ k = omega arith in
    one_more o 0 k ∙ ap (λ (n : ℕ). records_from o 0 k ++ record_for (key_in o n) ∷ []) e
    ∙ ap (λ (l : List Record). l ++ record_for (key_in o k) ∷ []) (records-of-keys o k) ∙ sym (map-append record_for (keys_in o k) (key_in o k ∷ []))
