-- The list of changes, put line by line and slot by slot. `Listing` the lines up to a position are listed: `listing_start`, `listing-over`, `listing-dropped`,
-- `listing-kept` · `notes-restored` what is listed of the slots is a line for each record that no line has · `listed-all` the whole list.
-- Assumes nothing.
use Rattle.std.specs.Prelude.{◌≡◌, Bool, cond, ◌||◌, not, length, replicate, Option, Some, None}
use Rattle.std.proofs.Math.Path.{refl, sym, ap}
use Rattle.std.proofs.Common.{◌∙◌, subst, arith}
use Rattle.std.proofs.Math.Bool.{true, false}
use mathlib.Core.List.{List, [], ◌∷◌, ◌++◌, append_assoc, append-nil, Memᴰ}
use Prim.Native.Nat.{ℕ, zero, suc, ◌+◌, ◌≤◌, ◌<◌}
use Rattle.laws.specs.Each.{same_test}
use Rattle.laws.specs.Some.{some_of, some_at, at_some}
use Rattle.lattice.specs.declared.records.Record.{Record}
use Rattle.marks.specs.Marks.{marked_at, Marks}
use Rattle.table.specs.Slots.{slots_of, slot_at}
use Rattle.table.specs.Search.{same_point, find_of}
use Rattle.table.specs.Order.{InOrder, is_at}
use Rattle.table.specs.Entries.{look_up, listed, records_below, records_of}
use Rattle.table.specs.MapLaws.{find-held, at_held, slot-looked, same_refl, same_true}
use Rattle.table.specs.declared.probe.Found.{Found}
use Rattle.sorting.specs.Sorting.{insert_by, sort_by}
use Rattle.writers.specs.Files.{before, sorted, leave_out}
use Rattle.writers.specs.Kept.{mark_bytes}
use Rattle.readers.specs.Additions.{held_same}
use Rattle.salvage_lines.specs.OldLines.{same_record, piece_at, OldLine, salvaged, kept}
use Rattle.salvage.specs.Salvage.{dropped_word, normalised_word, repeat_word, restored_word, change, change_if}
use Rattle.salvage.specs.Salvage.{changes_at, changes_from, restored_in, restored_changes, changes}
use Rattle.salvage_lines.specs.LinesOn.{salvaged_on, salvaged-on, records_on, on-over, on-dropped, on-kept, records-over, records-dropped}
use Rattle.salvage_lines.specs.LinesOn.{records-kept, kept_next, dropped-next}
use Rattle.salvage_lines.specs.ClashLaws.{same-record, record_same}
use Rattle.salvage.specs.NoteLaws.{Puts, puts_none, puts_then, puts-same}
use Rattle.salvage.specs.ListLaws.{marked_where, note_of, slot_note, notes_below, AllHeld, Marked, Listed, marked_start, marked_more}
use Rattle.salvage_lines.specs.declared.line.Piece.TheVariants as piece

or_nil : (b : Bool) → (b || false) ≡ b
or_nil true = refl
or_nil false = refl

or_turn : (a s y : Bool) → (s || (a || y)) ≡ ((a || s) || y)
or_turn true true y = refl
or_turn true false y = refl
or_turn false true y = refl
or_turn false false y = refl

-- ---- line by line

pub record Listing (t f o₀ : List ℕ) (room p line at : ℕ) (o m : List ℕ) : Type 0 where
  pub text : List ℕ
  pub seen : List Record
  pub puts : Puts o₀ 0 room text o at
  pub whole : changes_from 1 [] (salvaged f) ≡ text ++ changes_from line seen (salvaged_on f p)
  pub marks : Marked t seen m
  pub rest : (r : Record) → Memᴰ r (records_on f p) → look_up t r.at ≡ Some r
  pub all : (r : Record) → (some_of (same_record r) seen || some_of (same_record r) (records_on f p)) ≡ some_of (same_record r) (kept (salvaged f))
  pub few : line ≤ p + 1
  pub within : p ≤ length f

pub listing_start : (t f o : List ℕ) (room : ℕ) (m : List ℕ) → InOrder t → AllHeld t f → m ≡ replicate mark_bytes 0 → Listing t f o room 0 1 0 o m
listing_start t f o room m w h e = record {
  text = [];
  seen = [];
  puts = puts_none o 0 room (omega arith);
  whole = ap (changes_from 1 []) (salvaged-on f);
  marks = subst (Marked t []) (sym e) (marked_start t w);
  rest = λ r k. h r (subst (λ (x : List OldLine). Memᴰ r (kept x)) (sym (salvaged-on f)) k);
  all = λ r. ap (λ (x : List OldLine). some_of (same_record r) (kept x)) (sym (salvaged-on f));
  few = omega arith;
  within = omega arith;
}

module _ (t f o₀ : List ℕ) (room p line at : ℕ) (o m : List ℕ) (g : Listing t f o₀ room p line at o m) where
  pub listing-over : piece_at f p ≡ piece.Over → Listed t f o₀ room o m at
  unfolding changes_from
  listing-over e = record {
    puts = puts-same (sym (g.whole ∙ ap (λ (x : List OldLine). g.text ++ changes_from line g.seen x) (on-over f p e) ∙ append-nil g.text)) g.puts;
    marks = λ r h.
        g.marks r h ∙ sym (or_nil (some_of (same_record r) g.seen))
        ∙ ap (λ (x : List Record). some_of (same_record r) g.seen || some_of (same_record r) x) (sym (records-over f p e)) ∙ g.all r;
  }

  pub listing-dropped : (next : ℕ) → piece_at f p ≡ piece.Dropped next → (o' : List ℕ) (r : ℕ) → Puts o at room (change line dropped_word) o' r
      → Listing t f o₀ room next (line + 1) r o' m
  unfolding changes_from changes_at
  listing-dropped next e o' r w =
      let mv = dropped-next f p next e in
      record {
        text = g.text ++ change line dropped_word;
        seen = g.seen;
        puts = puts_then g.puts w;
        whole =
            g.whole ∙ ap (λ (x : List OldLine). g.text ++ changes_from line g.seen x) (on-dropped f p next e)
            ∙ sym (append_assoc g.text (change line dropped_word) (changes_from (line + 1) g.seen (salvaged_on f next)));
        marks = g.marks;
        rest = λ q k. g.rest q (subst (Memᴰ q) (sym (records-dropped f p next e)) k);
        all = λ q. ap (λ (x : List Record). some_of (same_record q) g.seen || some_of (same_record q) x) (sym (records-dropped f p next e)) ∙ g.all q;
        few = omega (arith, g.few, mv.0);
        within = mv.1;
      }

  module _ (q : Record) (changed : Bool) (next : ℕ) (e : piece_at f p ≡ piece.Kept q changed next) where
    stands : look_up t q.at ≡ Some q
    stands = g.rest q (subst (Memᴰ q) (sym (records-kept f p q changed next e)) (Memᴰ.head refl))

    pub listing-kept : InOrder t → (again : Bool) (m' : List ℕ) → again ≡ marked_where (find_of t q.at) m → Marks m (is_at (find_of t q.at)) m'
        → (o' : List ℕ) (r : ℕ) → Puts o at room (change_if changed line normalised_word ++ change_if again line repeat_word) o' r
        → Listing t f o₀ room next (line + 1) r o' m'
    unfolding changes_from changes_at
    listing-kept ord again m' a k o' r w =
        let mv = (kept_next f p q changed next e).0 in
        let had : again ≡ some_of (same_record q) g.seen = a ∙ g.marks q stands in
        let here = change_if changed line normalised_word ++ change_if (some_of (same_record q) g.seen) line repeat_word in
        record {
          text = g.text ++ here;
          seen = q ∷ g.seen;
          puts = puts_then g.puts (puts-same (ap (λ (b : Bool). change_if changed line normalised_word ++ change_if b line repeat_word) had) w);
          whole =
              g.whole ∙ ap (λ (x : List OldLine). g.text ++ changes_from line g.seen x) (on-kept f p q changed next e)
              ∙ sym (append_assoc g.text here (changes_from (line + 1) (q ∷ g.seen) (salvaged_on f next)));
          marks = marked_more t ord g.seen m m' q stands g.marks k;
          rest = λ x l. g.rest x (subst (Memᴰ x) (sym (records-kept f p q changed next e)) (Memᴰ.tail l));
          all = λ x.
              sym (or_turn (same_record x q) (some_of (same_record x) g.seen) (some_of (same_record x) (records_on f next)))
              ∙ ap (λ (l : List Record). some_of (same_record x) g.seen || some_of (same_record x) l) (sym (records-kept f p q changed next e)) ∙ g.all x;
          few = omega (arith, g.few, mv.0);
          within = mv.1;
        }

-- ---- slot by slot

restored-join : (xs ys : List Record) → restored_changes (xs ++ ys) ≡ restored_changes xs ++ restored_changes ys
unfolding restored_changes
restored-join [] ys = refl
restored-join (x ∷ xs) ys = ap (λ (l : List ℕ). change 0 restored_word ++ l) (restored-join xs ys)
    ∙ sym (append_assoc (change 0 restored_word) (restored_changes xs) (restored_changes ys))

leave-join : (f : Record → Bool) (xs ys : List Record) → leave_out f (xs ++ ys) ≡ leave_out f xs ++ leave_out f ys
unfolding leave_out
leave-join f [] ys = refl
leave-join f (x ∷ xs) ys = go (f x) (leave-join f xs ys)
  where
    go : (b : Bool) → leave_out f (xs ++ ys) ≡ leave_out f xs ++ leave_out f ys
        → cond b (leave_out f (xs ++ ys)) (x ∷ leave_out f (xs ++ ys)) ≡ cond b (leave_out f xs) (x ∷ leave_out f xs) ++ leave_out f ys
    go true e = e
    go false e = ap (λ (l : List Record). x ∷ l) e

-- as many are left of a sorted list
insert-left : (f : Record → Bool) (x : Record) (ys : List Record) → length (leave_out f (insert_by before x ys)) ≡ length (leave_out f (x ∷ ys))
unfolding insert_by leave_out
insert-left f x [] = refl
insert-left f x (y ∷ ys) = go (before x y) (f x) (f y) refl refl (insert-left f x ys)
  where
    go : (b c d : Bool) → f x ≡ c → f y ≡ d → length (leave_out f (insert_by before x ys)) ≡ length (cond (f x) (leave_out f ys) (x ∷ leave_out f ys))
        → length (leave_out f (cond b (x ∷ y ∷ ys) (y ∷ insert_by before x ys))) ≡ length (cond (f x) (leave_out f (y ∷ ys)) (x ∷ leave_out f (y ∷ ys)))
    go true c d e h ih = refl
    go false true true e h ih = rw (e, h) (subst (λ (z : Bool). length (leave_out f (insert_by before x ys))
        ≡ length (cond z (leave_out f ys) (x ∷ leave_out f ys))) e ih)
    go false true false e h ih =
        rw (e, h) (ap suc (subst (λ (z : Bool). length (leave_out f (insert_by before x ys)) ≡ length (cond z (leave_out f ys) (x ∷ leave_out f ys))) e ih))
    go false false true e h ih =
        rw (e, h) (subst (λ (z : Bool). length (leave_out f (insert_by before x ys)) ≡ length (cond z (leave_out f ys) (x ∷ leave_out f ys))) e ih)
    go false false false e h ih =
        rw (e, h) (ap suc (subst (λ (z : Bool). length (leave_out f (insert_by before x ys)) ≡ length (cond z (leave_out f ys) (x ∷ leave_out f ys))) e ih))

sort-left : (f : Record → Bool) (xs : List Record) → length (leave_out f (sorted xs)) ≡ length (leave_out f xs)
unfolding sort_by leave_out
sort-left f [] = refl
sort-left f (x ∷ xs) = insert-left f x (sorted xs) ∙ go (f x) (sort-left f xs)
  where
    go : (b : Bool) → length (leave_out f (sorted xs)) ≡ length (leave_out f xs)
        → length (cond b (leave_out f (sorted xs)) (x ∷ leave_out f (sorted xs))) ≡ length (cond b (leave_out f xs) (x ∷ leave_out f xs))
    go true e = e
    go false e = ap suc e

-- the lines of restored records are alike
restored-count : (xs ys : List Record) → length xs ≡ length ys → restored_changes xs ≡ restored_changes ys
unfolding restored_changes
restored-count [] [] e = refl
restored-count [] (y ∷ ys) e = absurd (omega arith)
restored-count (x ∷ xs) [] e = absurd (omega arith)
restored-count (x ∷ xs) (y ∷ ys) e = ap (λ (l : List ℕ). change 0 restored_word ++ l) (restored-count xs ys (omega arith))

module _ (t : List ℕ) (o : InOrder t) (rs : List Record) (held : (r : Record) → Memᴰ r rs → look_up t r.at ≡ Some r) (m : List ℕ) (w : Marked t rs m)
  where
    -- some line has the record
    abbrev lined : Record → Bool
    lined r = some_of (λ q. same_point q.at r.at) rs

    lined-same : (r : Record) → look_up t r.at ≡ Some r → some_of (same_record r) rs ≡ lined r
    lined-same r h = same_test (some_of (same_record r) rs) (lined r) forth back
      where
        forth : some_of (same_record r) rs ≡ true → lined r ≡ true
        forth e =
            let (q, k, s) = some_at (same_record r) rs e in
            at_some (λ x. same_point x.at r.at) rs q k (ap (λ (x : Record). same_point q.at x.at) (record_same r q s) ∙ same_refl q.at)

        back : lined r ≡ true → some_of (same_record r) rs ≡ true
        back e =
            let (q, k, s) = some_at (λ x. same_point x.at r.at) rs e in
            let z : q ≡ r = held_same (ap (look_up t) (sym (same_true q.at r.at s)) ∙ held q k) h in
            at_some (same_record r) rs q k (ap (same_record r) z ∙ same-record r)

    slot-marked : (i : ℕ) (r : Record) → i < slots_of t → slot_at t i ≡ Some r → marked_at m i ≡ lined r
    slot-marked i r l s =
        let h = slot-looked t o i r l s in
        let (j, e, z) = find-held t o.fits r.at r h in
        let same : j ≡ i = o.once j i r r (at_held t o.fits r.at j e).below l z s refl in
        ap (marked_at m) (sym same) ∙ sym (ap (λ (x : Found). marked_where x m) e) ∙ w r h ∙ lined-same r h

    notes-below : (i : ℕ) → i ≤ slots_of t → notes_below t m i ≡ restored_changes (leave_out lined (records_below t i))
    unfolding notes_below records_below leave_out restored_changes slot_note
    notes-below zero l = refl
    notes-below (suc i) l =
        (λ a. notes-below i (omega arith) a ++ slot (slot_at t i) refl a)
        ∙ sym (restored-join (leave_out lined (records_below t i)) (leave_out lined (listed (slot_at t i))))
        ∙ ap restored_changes (sym (leave-join lined (records_below t i) (listed (slot_at t i))))
      where
        one : (r : Record) (b : Bool) → lined r ≡ b → change_if (not b) 0 restored_word ≡ restored_changes (cond b [] (r ∷ []))
        one r true e = refl
        one r false e = sym (append-nil (change 0 restored_word))

        slot : (s : Option Record) → slot_at t i ≡ s → note_of (marked_at m i) s ≡ restored_changes (leave_out lined (listed s))
        slot None e = refl
        slot (Some r) e = ap (λ (b : Bool). change_if (not b) 0 restored_word) (slot-marked i r (omega arith) e) ∙ one r (lined r) refl

    -- a line for each record that no line has
    pub notes-restored : notes_below t m (slots_of t) ≡ restored_changes (restored_in rs t)
    notes-restored =
        notes-below (slots_of t) (omega arith)
        ∙ restored-count (leave_out lined (records_of t)) (leave_out lined (sorted (records_of t))) (sym (sort-left lined (records_of t)))

-- ---- the whole list
pub listed-all : (t f o : List ℕ) → InOrder t → AllHeld t f → (room : ℕ) (o₁ m o₂ : List ℕ) (r x n : ℕ) → n ≡ slots_of t → Listed t f o room o₁ m r
    → Puts o₁ r room (notes_below t m n) o₂ x → Puts o 0 room (changes (salvaged f) t) o₂ x
unfolding changes
listed-all t f o w h room o₁ m o₂ r x n e l p =
    puts_then l.puts (puts-same (ap (notes_below t m) e ∙ notes-restored t w (kept (salvaged f)) h m l.marks) p)
