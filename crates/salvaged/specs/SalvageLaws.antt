-- Any file. `filled-number` which numbers filling can refuse with · `Ends`, `done-ends`, `ends-judged` how a call comes to 0 · `line-stands` every line is
-- dropped, or its record stands in the output · `record-told` each record of it is that of a line, or restored · `Alike`, `alike-judged` files whose lines
-- are the same records after normalising.
-- Assumes nothing.
use Rattle.std.specs.Prelude.{◌≡◌, ◌⊎◌, true, false, ◌&&◌, ℕ, ◌≤◌, length, Some}
use Rattle.std.proofs.Math.Path.{refl}
use Rattle.std.proofs.Common.{sym, ap, ◌∙◌, inl, inr, arith}
use Rattle.std.proofs.Math.Bool.{Bool, cond}
use mathlib.Core.List.Memᴰ
use mathlib.Core.List.{List, [], ◌∷◌, ◌++◌, Memᴰ}
use Rattle.laws.specs.Each.{same_test}
use Rattle.lattice.specs.declared.records.Record.{Record}
use Rattle.table.specs.Slots.{lengths_fit, slots_of, cleared_of}
use Rattle.table.specs.SlotLaws.{lengths-table}
use Rattle.table.specs.Search.{find_of}
use Rattle.table.specs.Entries.{look_up, enter_of, records_of}
use Rattle.table.specs.MapLaws.{records-looked, looked-records}
use Rattle.writers.specs.Files.{sorted, full_file}
use Rattle.writers.specs.FileLaws.{sorted-holds, holds-sorted}
use Rattle.mesh.specs.Grown.{Grown}
use Rattle.grown.specs.Grown.{is_grown, is-grown, grown-is}
use Rattle.readers.specs.Readers.{no_slot, Restored, With, Stopped, restore_all}
use Rattle.readers.specs.FaultLaws.{stop-number}
use Rattle.readers.specs.RestoreLaws.{stopped-stays, RestoredOf}
use Rattle.salvage_lines.specs.OldLines.{OldLine, Dropped, Kept, salvaged, record_in, kept, clashes}
use Rattle.salvage_lines.specs.ClashLaws.{Agree, none-agree, clashes-pair, pair-clashes}
use Rattle.salvage.specs.Salvage.{sorted_lines, enter_all, filled, changes}
use Rattle.salvage.specs.Salvage.{SalvageAfter, salvage_after, refusal, over, room_for, write_both, closing, salvage_of}
use Rattle.salvage.specs.MendLaws.{mended-rises, mended-valid, mended-mem, mem-mended, mended-same}
use Rattle.salvage.specs.FillLaws.{enter-stopped}
use Rattle.salvage.specs.KeyLaws.{judged_of}
use Rattle.salvage.specs.FilledLaws.{Mends, mends, mends-order}
use Rattle.salvage.specs.JudgeLaws.{records-valid, judged_file}

stopped-is : (a b : ℕ) → Stopped a ≡ Stopped b → a ≡ b
stopped-is a b e = cc

-- entering stops with 8 only, restoring with 8 or 11
enter-number : (rs : List Record) (t : List ℕ) (k : ℕ) → enter_all rs (With t) ≡ Stopped k → 8 ≤ k
unfolding enter_all
enter-number [] t k e = absurd (let z : ◌≡◌ {A = ℕ} 0 1 = cc in omega arith)
enter-number (r ∷ rs) t k h = go (no_slot (find_of t r.at)) (λ e. enter-number rs (enter_of t r) k e) h
  where
    go : (b : Bool) → (enter_all rs (With (enter_of t r)) ≡ Stopped k → 8 ≤ k) → enter_all rs (cond b (Stopped 8) (With (enter_of t r))) ≡ Stopped k → 8 ≤ k
    go true ih e = let x = stopped-is 8 k (sym (enter-stopped rs 8) ∙ e) in omega arith
    go false ih e = ih e

pub filled-number : (rs : List Record) (t : List ℕ) (k : ℕ) → filled rs t ≡ Stopped k → 8 ≤ k
unfolding filled
filled-number rs t k = go (enter_all rs (With t)) refl
  where
    go : (x : Restored) → enter_all rs (With t) ≡ x → restore_all rs x ≡ Stopped k → 8 ≤ k
    go (With u) e h = (stop-number rs u k h).0
    go (Stopped j) e h = let x = stopped-is j k (sym (stopped-stays rs j) ∙ h) in let y = enter-number rs t j e in omega arith

-- how a call comes to 0
pub record Ends (t s f o l : List ℕ) : Type 0 where
  pub table : List ℕ
  pub fit : lengths_fit t s ≡ true
  pub none : clashes (kept (salvaged f)) ≡ false
  pub filled-to : filled (sorted_lines (salvaged f)) (cleared_of t) ≡ With table
  pub grown : Grown table
  pub is : salvage_of t s f o l ≡ salvage_after 0 (length (full_file table)) (length (changes (salvaged f) table)) table (cleared_of s) (over (full_file table) o)
      (over (changes (salvaged f) table) l)

pub done-ends : (t s f o l : List ℕ) → (salvage_of t s f o l).number ≡ 0 → Ends t s f o l
unfolding salvage_of
done-ends t s f o l = fits (lengths_fit t s) refl (clashes (kept (salvaged f))) refl (filled (sorted_lines (salvaged f)) (cleared_of t)) refl
  where
    ms : List OldLine
    ms = salvaged f

    answer : (a b : Bool) → Restored → SalvageAfter
    answer a b x = cond a (cond b (refusal 20 t s o l) (closing t s o l ms x)) (salvage_after 1 0 0 t s o l)

    full : (u : List ℕ) → lengths_fit t s ≡ true → clashes (kept ms) ≡ false → filled (sorted_lines ms) (cleared_of t) ≡ With u → is_grown u ≡ true
        → (r : Bool) → (room_for (full_file u) o && room_for (changes ms u) l) ≡ r
        → (cond r (salvage_after 0 (length (full_file u)) (length (changes ms u)) u (cleared_of s) (over (full_file u) o) (over (changes ms u) l))
        (refusal 13 t s o l)).number ≡ 0
        → Ends t s f o l
    full u a b c g false e z = absurd (omega arith)
    full u a b c g true e z = record {
      table = u;
      fit = a;
      none = b;
      filled-to = c;
      grown = is-grown u g;
      is = (λ i. answer (a i) (b i) (c i)) ∙ (λ i. cond (g i) (cond (e i)
          (salvage_after 0 (length (full_file u)) (length (changes ms u)) u (cleared_of s) (over (full_file u) o) (over (changes ms u) l)) (refusal 13 t s o l))
          (refusal 11 t s o l));
    }

    judged : (u : List ℕ) → lengths_fit t s ≡ true → clashes (kept ms) ≡ false → filled (sorted_lines ms) (cleared_of t) ≡ With u → (g : Bool) → is_grown u ≡ g
        → (cond g (write_both t s o l u (full_file u) (changes ms u)) (refusal 11 t s o l)).number ≡ 0 → Ends t s f o l
    judged u a b c false e z = absurd (omega arith)
    judged u a b c true e z = full u a b c e (room_for (full_file u) o && room_for (changes ms u) l) refl z

    fits : (a : Bool) → lengths_fit t s ≡ a → (b : Bool) → clashes (kept ms) ≡ b → (x : Restored) → filled (sorted_lines ms) (cleared_of t) ≡ x
        → (answer a b x).number ≡ 0
        → Ends t s f o l
    fits false a b c x e z = absurd (omega arith)
    fits true a true c x e z = absurd (omega arith)
    fits true a false c (Stopped number) e z = absurd (let k = filled-number (sorted_lines ms) (cleared_of t) number e in omega arith)
    fits true a false c (With u) e z = judged u a c e (is_grown u) refl z

-- what was judged then
pub ends-judged : (t s f o l : List ℕ) (e : Ends t s f o l) → judged_file t f ≡ With e.table
unfolding judged_file
ends-judged t s f o l e =
    (λ i. cond (e.none i) (Stopped 20) (judged_of (e.filled-to i))) ∙ ap (λ (g : Bool). cond g (With e.table) (Stopped 11)) (grown-is e.table e.grown)

-- ---- what stands in the output

-- the records of the lines that are not dropped
pub kept-mem : (ms : List OldLine) (r : Record) (changed : Bool) → Memᴰ (Kept r changed) ms → Memᴰ r (kept ms)
unfolding kept
kept-mem [] r changed m = absurd (Memᴰ.not-nil m)
kept-mem (x ∷ ms) r changed m = go x (Memᴰ.cases_cons m) (λ k. kept-mem ms r changed k)
  where
    record_is : (q : Record) (c : Bool) → Kept r changed ≡ Kept q c → r ≡ q
    record_is q c e = cc

    go : (x : OldLine) → (Kept r changed ≡ x) ⊎ Memᴰ (Kept r changed) ms → (Memᴰ (Kept r changed) ms → Memᴰ r (kept ms))
        → Memᴰ r (record_in x ++ kept ms)
    go Dropped (inl e) ih = absurd (let z : ◌≡◌ {A = ℕ} 0 1 = cc in omega arith)
    go Dropped (inr k) ih = ih k
    go (Kept q c) (inl e) ih = Memᴰ.head (record_is q c e)
    go (Kept q c) (inr k) ih = Memᴰ.tail (ih k)

module _ (t s f o l : List ℕ) (e : Ends t s f o l) where
  agree : Agree (kept (salvaged f))
  agree = none-agree (kept (salvaged f)) e.none

  mended : Mends (sorted_lines (salvaged f)) (slots_of t) e.table
  mended =
      mends t (slots_of t) (lengths-table t s e.fit) (sorted_lines (salvaged f)) (mended-rises (kept (salvaged f)) agree (records-valid f))
      (mended-valid (kept (salvaged f)) agree (records-valid f)) e.table e.filled-to

  -- every input line is accounted for: it is dropped, or its record stands in the table, and so in the output
  pub line-stands : (r : Record) (changed : Bool) → Memᴰ (Kept r changed) (salvaged f)
      → (look_up e.table r.at ≡ Some r) × Memᴰ r (sorted (records_of e.table))
  line-stands r changed m =
      let k = mem-mended (kept (salvaged f)) agree (records-valid f) r (kept-mem (salvaged f) r changed m) in
      let h = mended.restores.adds.keeps r.at r (mended.lined.held r k) in
      (h, holds-sorted e.table r (looked-records e.table (mends-order mended) r.at r h))

  -- and each record of the output is that of a line, or restored beside one of degree 6
  pub record-told : (r : Record) → Memᴰ r (sorted (records_of e.table)) → Memᴰ r (kept (salvaged f)) ⊎ RestoredOf (sorted_lines (salvaged f)) r
  record-told r m = go (mended.restores.adds.only r.at r (records-looked e.table (mends-order mended) r (sorted-holds e.table r m)))
    where
      go : (look_up mended.first r.at ≡ Some r) ⊎ RestoredOf (sorted_lines (salvaged f)) r → Memᴰ r (kept (salvaged f))
          ⊎ RestoredOf (sorted_lines (salvaged f)) r
      go (inl h) = inl (mended-mem (kept (salvaged f)) agree (records-valid f) r (mended.lined.only r.at r h))
      go (inr h) = inr h

-- ---- files that differ only in spellings, in the order of their lines, or in repeats

-- after normalising their lines are the same records
abbrev pub Alike : List ℕ → List ℕ → Type 0
Alike f g = ((r : Record) → Memᴰ r (kept (salvaged f)) → Memᴰ r (kept (salvaged g)))
    × ((r : Record) → Memᴰ r (kept (salvaged g)) → Memᴰ r (kept (salvaged f)))

module _ (f g : List ℕ) (w : Alike f g) where
  clash-into : (xs ys : List Record) → ((r : Record) → Memᴰ r xs → Memᴰ r ys) → clashes xs ≡ true → clashes ys ≡ true
  clash-into xs ys h e =
      let p = clashes-pair xs e in
      pair-clashes ys p.one p.other (h p.one p.one_in) (h p.other p.other-in) p.point p.differ

  alike-clashes : clashes (kept (salvaged f)) ≡ clashes (kept (salvaged g))
  alike-clashes =
      same_test (clashes (kept (salvaged f))) (clashes (kept (salvaged g))) (clash-into (kept (salvaged f)) (kept (salvaged g)) w.0)
      (clash-into (kept (salvaged g)) (kept (salvaged f)) w.1)

  -- they are judged alike: the same table, or the same number
  pub alike-judged : (t : List ℕ) → judged_file t f ≡ judged_file t g
  unfolding judged_file
  alike-judged t = go (clashes (kept (salvaged f))) refl
    where
      answer : Bool → List Record → Restored
      answer b rs = cond b (Stopped 20) (judged_of (filled rs (cleared_of t)))

      go : (b : Bool) → clashes (kept (salvaged f)) ≡ b
          → answer (clashes (kept (salvaged f))) (sorted_lines (salvaged f)) ≡ answer (clashes (kept (salvaged g))) (sorted_lines (salvaged g))
      go true e = ap (λ (b : Bool). answer b (sorted_lines (salvaged f))) e ∙ ap (λ (b : Bool). answer b (sorted_lines (salvaged g))) (sym e ∙ alike-clashes)
      go false e =
          let a = none-agree (kept (salvaged f)) e in
          let b = none-agree (kept (salvaged g)) (sym alike-clashes ∙ e) in
          λ i. answer (alike-clashes i) (mended-same (kept (salvaged f)) (kept (salvaged g)) a b (records-valid f) (records-valid g) w.0 w.1 i)
