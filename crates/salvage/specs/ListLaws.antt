-- The list of changes, with a mark a slot for the records that have had a line. `marked_where` the mark of a point's slot · `slot_note` what is listed of a
-- slot · `Marked` the marks of the lines passed: `marked_start`, `marked_more`, `marked-told`.
-- Assumes nothing.
use Rattle.std.specs.Prelude.{◌≡◌, refl, Bool, true, false, ◌||◌, not, ℕ, zero, suc, ◌<◌, eqb, replicate, Option, Some, None}
use Rattle.std.proofs.Common.{sym, ap, ◌∙◌, eq-eqb, ne_eqb}
use mathlib.Core.List.{List, [], ◌∷◌, ◌++◌, Memᴰ}
use Rattle.std.proofs.Math.Decide.{ℕ_discrete}
use Rattle.laws.specs.Some.{some_of}
use Rattle.lattice.specs.declared.records.Record.{Record}
use Rattle.marks.specs.Marks.{marked_at, Marks, marked-none}
use Rattle.table.specs.Slots.{slots_of, slot_at}
use Rattle.table.specs.Search.{find_of}
use Rattle.table.specs.SearchLaws.{holds-eq}
use Rattle.table.specs.Order.{InOrder, is_at}
use Rattle.table.specs.Entries.{look_up}
use Rattle.table.specs.MapLaws.{find-held, at_held}
use Rattle.table.specs.declared.probe.Found.{Found}
use Rattle.table.specs.declared.probe.Found.TheVariants as found
use Rattle.writers.specs.Kept.{mark_bytes}
use Rattle.salvage_lines.specs.OldLines.{same_record, salvaged, kept}
use Rattle.salvage.specs.Salvage.{restored_word, change_if, changes_from}
use Rattle.salvage.specs.NoteLaws.{Puts}
use Rattle.salvage_lines.specs.ClashLaws.{same-record, record_same}

-- the mark where a search has ended
abbrev pub marked_where : Found → List ℕ → Bool
marked_where (found.At i) m = marked_at m i
marked_where (found.Free i) m = false
marked_where found.Full m = false

-- what is listed of a slot: a line where it holds a record that is not marked
abbrev pub note_of : Bool → Option Record → List ℕ
note_of b None = []
note_of b (Some r) = change_if (not b) 0 restored_word

unfoldable pub slot_note : List ℕ → List ℕ → ℕ → List ℕ
slot_note t m i = note_of (marked_at m i) (slot_at t i)

-- of the first i slots
unfoldable pub notes_below : List ℕ → List ℕ → ℕ → List ℕ
notes_below t m zero = []
notes_below t m (suc i) = notes_below t m i ++ slot_note t m i

-- the table holds the record of every line that is kept
abbrev pub AllHeld : List ℕ → List ℕ → Type 0
AllHeld t f = (r : Record) → Memᴰ r (kept (salvaged f)) → look_up t r.at ≡ Some r

-- ---- the marks

-- the records of `seen`, of those that table t holds, are marked
abbrev pub Marked : List ℕ → List Record → List ℕ → Type 0
Marked t seen m = (r : Record) → look_up t r.at ≡ Some r → marked_where (find_of t r.at) m ≡ some_of (same_record r) seen

-- what is listed of all lines is put, and their records are marked
pub record Listed (t f o : List ℕ) (room : ℕ) (o' m : List ℕ) (r : ℕ) : Type 0 where
  pub puts : Puts o 0 room (changes_from 1 [] (salvaged f)) o' r
  pub marks : Marked t (kept (salvaged f)) m

pub marked_start : (t : List ℕ) → InOrder t → Marked t [] (replicate mark_bytes 0)
marked_start t o r h =
    let (i, e, s) = find-held t o.fits r.at r h in
    ap (λ (x : Found). marked_where x (replicate mark_bytes 0)) e ∙ marked-none mark_bytes i

pub marked_more : (t : List ℕ) → InOrder t → (seen : List Record) (m u : List ℕ) (q : Record) → look_up t q.at ≡ Some q → Marked t seen m
    → Marks m (is_at (find_of t q.at)) u → Marked t (q ∷ seen) u
marked_more t o seen m u q hq w k r hr =
    let (i, e, s) = find-held t o.fits r.at r hr in
    let (j, f, z) = find-held t o.fits q.at q hq in
    let old : marked_at m i ≡ some_of (same_record r) seen = sym (ap (λ (x : Found). marked_where x m) e) ∙ w r hr in
    ap (λ (x : Found). marked_where x u) e ∙ k.reads i ∙ (λ a. is_at (f a) i || old a)
    ∙ ap (λ (b : Bool). b || some_of (same_record r) seen)
    (met i j (at_held t o.fits r.at i e).below (at_held t o.fits q.at j f).below s z (ℕ_discrete j i))
  where
    met : (i j : ℕ) → i < slots_of t → j < slots_of t → slot_at t i ≡ Some r → slot_at t j ≡ Some q → Dec (j ≡ i) → eqb j i ≡ same_record r q
    met i j a b s z (yes e) =
        let x : r ≡ q = holds-eq r q (sym s ∙ ap (slot_at t) (sym e) ∙ z) in
        eq-eqb j i e ∙ sym (sym (ap (same_record r) x) ∙ same-record r)
    met i j a b s z (no e) = ne_eqb j i e ∙ sym (differ (same_record r q) refl)
      where
        differ : (c : Bool) → same_record r q ≡ c → same_record r q ≡ false
        differ false h = h
        differ true h = absurd (e (o.once j i q r b a z s (ap (λ (x : Record). x.at) (sym (record_same r q h)))))
