-- Document 02, ticket 12, "Salvage of old files": what the call gives back, over the definition that its promise cites. Of a file's lines, `salvaged f`,
-- each is dropped, or kept: its record normalised, and whether that changed a number of it. `salvage-number`, `salvage-untouched`, `salvage-refused` the
-- refusals · `clashes-pair`, `pair-clashes` 20, exactly · `as-reader` 8, 11 and the table are the reduced reader's · `full-itself`, `shuffled-itself`,
-- `reduced-full` what comes of a grown mesh's files · `read_back`, `again-itself` the output, read and salvaged again · `list-told`, `list-rises`,
-- `list-numbers` the list, `line-told`, `repeat-listed`, `line-ends`, `kept-written` every line is accounted for, `record-from` and every record of the
-- output · `one-output`, `one_number`, `spellings-output` files that differ only in spellings.
-- Assumes nothing.
use Rattle.std.specs.Prelude.{◌≡◌, ◌≢◌, ◌⊎◌, Bool, cond, ◌&&◌, not, ℕ, ◌+◌, ◌≤◌, length, take, drop}
use Rattle.std.proofs.Math.Path.{refl, sym, ap}
use Rattle.std.proofs.Common.{◌∙◌, subst, le-leb}
use Rattle.std.proofs.Math.Bool.{true, false}
use mathlib.Core.List.{List, [], ◌∷◌, ◌++◌, map, Memᴰ}
use native.Mathlib.Omega.{arith}
use Rattle.std.proofs.Math.Seq.{take-append_seam}
use Rattle.laws.specs.Some.{some_of}
use Rattle.lattice.specs.declared.points.Point.{Point}
use Rattle.lattice.specs.declared.records.Record.{Record}
use Rattle.table.specs.Slots.{lengths_fit, slots_of, cleared_of}
use Rattle.table.specs.Order.{InOrder}
use Rattle.table.specs.MapLaws.{Apart}
use Rattle.table.specs.Entries.{look_up, records_of}
use Rattle.text.specs.Line.{lines}
use Rattle.sorting.specs.SortLaws.{Rising}
use Rattle.writers.specs.Files.{sorted, redundant, leave_out, full_file, reduced_file}
use Rattle.mesh.specs.Grown.{Grown}
use Rattle.grown.specs.Grown.{is_grown}
use Rattle.readers.specs.Readers.{Restored, With, Stopped, read_full_of, read_reduced_of}
use Rattle.readers.specs.RestoreLaws.{RestoredOf}
use Rattle.archive.specs.Returns.{Returns}
use Rattle.archive.specs.Full.{full-returns}
use Rattle.salvage_lines.specs.OldLines.{same_record, OldLine, Kept, salvaged, kept, clashes}
use Rattle.salvage_lines.specs.ClashLaws.{none-agree}
use Rattle.salvage.specs.Salvage.{sorted_lines, filled, repeat_word, restored_in, restored_changes, changes}
use Rattle.salvage.specs.Salvage.{SalvageAfter, salvage_after, refusal, over, room_for, write_both, closing, salvage_of}
use Rattle.salvage.specs.MendLaws.{mended-rises, mended-valid}
use Rattle.salvage.specs.KeyLaws.{judged_of}
use Rattle.salvage.specs.JudgeLaws.{judged_file, records-valid}
use Rattle.salvage.specs.CallLaws.{answer_of, call-unfit, call-judged}
use Rattle.salvaged.specs.Undamaged.{Salvages, full-salvaged, shuffled-salvaged, reduced-salvaged}
use Rattle.salvaged.specs.SalvageLaws.{filled-number, Ends, done-ends, ends-judged, record-told, Alike, alike-judged}
use Rattle.salvaged.specs.Told.{Told, told, told_from, told_restored, text_of, changes-told, Precedes, told-rises, told-numbers}
use Rattle.salvaged.specs.Told.{seen_after, line-accounted, repeat-told}
use Rattle.salvaged.specs.Spelled.{respelled-alike}
use Rattle.salvaged.specs.ReaderLaws.{reader_of, reader-is}
use Rattle.demands.specs.Numbers.{Rule, ◌⇒◌, first_of}
use Rattle.demands.specs.ReadNumbers.{is_stopped, stop_number, of_with}
pub use Rattle.salvage_lines.specs.ClashLaws.{Pair, clashes-pair, pair-clashes}
pub use Rattle.salvage_lines.specs.LineEnds.{line-ends, kept-written}
pub use Rattle.salvaged.specs.Told.{Accounted}
pub use Rattle.salvaged.specs.Spelled.{Respelled, Spelt, AllSpelt, Spelling}

-- ---- "Refusals: 1; 20 for one point with two different records; then 8 and 11 as that reader has them; 13 for either output"

module _ (t s f o l : List ℕ) where
  -- the sorted lines entered, and what they leave out restored
  abbrev pub restored : Restored
  restored = filled (sorted_lines (salvaged f)) (cleared_of t)

  -- "13 for either output"
  abbrev pub too_short : List ℕ → Bool
  too_short u = not (room_for (full_file u) o && room_for (changes (salvaged f) u) l)

  abbrev pub salvage_rules : List Rule
  salvage_rules =
      not (lengths_fit t s) ⇒ 1
      ∷ clashes (kept (salvaged f)) ⇒ 20
      ∷ is_stopped restored ⇒ stop_number restored
      ∷ of_with (λ u. not (is_grown u)) restored ⇒ 11
      ∷ of_with too_short restored ⇒ 13
      ∷ []

  -- the call by its tests
  abbrev written : List ℕ → Bool → SalvageAfter
  written u b =
      cond b (salvage_after 0 (length (full_file u)) (length (changes (salvaged f) u)) u (cleared_of s) (over (full_file u) o) (over (changes (salvaged f) u) l))
      (refusal 13 t s o l)

  abbrev judged : List ℕ → Bool → SalvageAfter
  judged u g = cond g (write_both t s o l u (full_file u) (changes (salvaged f) u)) (refusal 11 t s o l)

  abbrev by_tests : Bool → Bool → Restored → SalvageAfter
  by_tests a b x = cond a (cond b (refusal 20 t s o l) (closing t s o l (salvaged f) x)) (salvage_after 1 0 0 t s o l)

  pub salvage-number : (salvage_of t s f o l).number ≡ first_of salvage_rules
  unfolding salvage_of
  salvage-number = go (lengths_fit t s) (clashes (kept (salvaged f))) restored
    where
      room : (u : List ℕ) (b : Bool) → (written u b).number ≡ first_of (not b ⇒ 13 ∷ [])
      room u true = refl
      room u false = refl

      grown : (u : List ℕ) (g : Bool) → (judged u g).number ≡ first_of (not g ⇒ 11 ∷ too_short u ⇒ 13 ∷ [])
      grown u true = room u (room_for (full_file u) o && room_for (changes (salvaged f) u) l)
      grown u false = refl

      go : (a b : Bool) (x : Restored) → (by_tests a b x).number
          ≡ first_of
          (not a ⇒ 1
          ∷ b ⇒ 20
          ∷ is_stopped x ⇒ stop_number x
          ∷ of_with (λ u. not (is_grown u)) x ⇒ 11
          ∷ of_with too_short x ⇒ 13
          ∷ [])
      go false b x = refl
      go true true x = refl
      go true false (Stopped n) = refl
      go true false (With u) = grown u (is_grown u)

  -- with 1 every byte is as found
  pub salvage-untouched : (salvage_of t s f o l).number ≡ 1 → salvage_of t s f o l ≡ salvage_after 1 0 0 t s o l
  unfolding salvage_of
  salvage-untouched = go (lengths_fit t s) (clashes (kept (salvaged f))) restored refl
    where
      room : (u : List ℕ) (b : Bool) → (written u b).number ≡ 1 → written u b ≡ salvage_after 1 0 0 t s o l
      room u true n = absurd (omega arith)
      room u false n = absurd (omega arith)

      grown : (u : List ℕ) (g : Bool) → (judged u g).number ≡ 1 → judged u g ≡ salvage_after 1 0 0 t s o l
      grown u true n = room u (room_for (full_file u) o && room_for (changes (salvaged f) u) l) n
      grown u false n = absurd (omega arith)

      go : (a b : Bool) (x : Restored) → restored ≡ x → (by_tests a b x).number ≡ 1 → by_tests a b x ≡ salvage_after 1 0 0 t s o l
      go false b x e n = refl
      go true true x e n = absurd (omega arith)
      go true false (Stopped k) e n = absurd (let h = filled-number (sorted_lines (salvaged f)) (cleared_of t) k e in omega arith)
      go true false (With u) e n = grown u (is_grown u) n

  -- "a refusal after 1 leaves the table all 255, and gives no line number"; "no output on refusal"
  pub salvage-refused : (salvage_of t s f o l).number ≢ 0 → (salvage_of t s f o l).number ≢ 1
      → salvage_of t s f o l ≡ salvage_after (salvage_of t s f o l).number 0 0 (cleared_of t) (cleared_of s) o l
  unfolding salvage_of
  salvage-refused = go (lengths_fit t s) (clashes (kept (salvaged f))) restored
    where
      room : (u : List ℕ) (b : Bool) → (written u b).number ≢ 0 → written u b ≡ refusal (written u b).number t s o l
      room u true z = absurd (z refl)
      room u false z = refl

      grown : (u : List ℕ) (g : Bool) → (judged u g).number ≢ 0 → judged u g ≡ refusal (judged u g).number t s o l
      grown u true z = room u (room_for (full_file u) o && room_for (changes (salvaged f) u) l) z
      grown u false z = refl

      go : (a b : Bool) (x : Restored) → (by_tests a b x).number ≢ 0 → (by_tests a b x).number ≢ 1 → by_tests a b x ≡ refusal (by_tests a b x).number t s o l
      go false b x z n = absurd (n refl)
      go true true x z n = refl
      go true false (Stopped k) z n = refl
      go true false (With u) z n = grown u (is_grown u) z

  -- no refusal is below 8 but 1
  pub salvage-least : (salvage_of t s f o l).number ≢ 0 → (salvage_of t s f o l).number ≢ 1 → 8 ≤ (salvage_of t s f o l).number
  unfolding salvage_of
  salvage-least = go (lengths_fit t s) (clashes (kept (salvaged f))) restored refl
    where
      room : (u : List ℕ) (b : Bool) → (written u b).number ≢ 0 → 8 ≤ (written u b).number
      room u true z = absurd (z refl)
      room u false z = omega arith

      grown : (u : List ℕ) (g : Bool) → (judged u g).number ≢ 0 → 8 ≤ (judged u g).number
      grown u true z = room u (room_for (full_file u) o && room_for (changes (salvaged f) u) l) z
      grown u false z = omega arith

      go : (a b : Bool) (x : Restored) → restored ≡ x → (by_tests a b x).number ≢ 0 → (by_tests a b x).number ≢ 1 → 8 ≤ (by_tests a b x).number
      go false b x e z n = absurd (n refl)
      go true true x e z n = omega arith
      go true false (Stopped k) e z n = filled-number (sorted_lines (salvaged f)) (cleared_of t) k e
      go true false (With u) e z n = grown u (is_grown u) z

  -- "Table and scratch are lent and left as by the reduced reader given the sorted lines, its 12 aside": what is judged, by the call and by the reader
  pub as-reader : lengths_fit t s ≡ true → clashes (kept (salvaged f)) ≡ false
      → (salvage_of t s f o l ≡ answer_of t s f o l (judged_file t f))
      × ((line : ℕ) × (read_reduced_of t s (lines (sorted_lines (salvaged f))) ≡ reader_of t s (sorted_lines (salvaged f)) line (judged_file t f)))
  unfolding judged_file
  as-reader fit none =
      let rs = kept (salvaged f) in
      let a = none-agree rs none in
      let (line, e) = reader-is t s fit (sorted_lines (salvaged f)) (mended-rises rs a (records-valid f)) (mended-valid rs a (records-valid f)) in (
        sym (call-judged t s f o l fit),
        (
          line,
          e ∙ ap (λ (b : Bool). reader_of t s (sorted_lines (salvaged f)) line (cond b (Stopped 20) (judged_of restored)))
              (sym none),
        ),
      )

-- ---- files of a grown mesh

-- the call is done: the table has the mesh's records, the outputs are its full file and this list
pub record Gives (m f list t s o l : List ℕ) : Type 0 where
  pub table : List ℕ
  pub order : InOrder table
  pub same : (p : Point) → look_up table p ≡ look_up m p
  pub is : salvage_of t s f o l ≡ salvage_after 0 (length (full_file m)) (length list) table (cleared_of s) (over (full_file m) o) (over list l)

gives : (m f list t s o l : List ℕ) → length (full_file m) ≤ length o → length list ≤ length l → Salvages m f list t s o l → Gives m f list t s o l
gives m f list t s o l a b w = record {
  table = w.table;
  order = w.order;
  same = w.same;
  is =
      w.is
      ∙ (λ i. cond (le-leb (length (full_file m)) (length o) a i && le-leb (length list) (length l) b i)
      (salvage_after 0 (length (full_file m)) (length list) w.table (cleared_of s) (over (full_file m) o) (over list l)) (refusal 13 t s o l));
}

-- into any table with slots for it, any output that it fits in
module _ (m : List ℕ) (g : Grown m) (t s o l : List ℕ) (fit : lengths_fit t s ≡ true) (slots : length (records_of m) ≤ slots_of t)
    (room : length (full_file m) ≤ length o) where
  -- "An undamaged full file gives an empty list and itself."
  pub full-itself : Gives m (full_file m) [] t s o l
  full-itself = gives m (full_file m) [] t s o l room (omega arith) (full-salvaged m g t s o l fit slots)

  -- so does one whose lines stand in another order
  pub shuffled-itself : (rs : List Record) → Apart rs → ((r : Record) → Memᴰ r rs → Memᴰ r (records_of m))
      → ((r : Record) → Memᴰ r (records_of m) → Memᴰ r rs) → Gives m (lines rs) [] t s o l
  shuffled-itself rs a only all = gives m (lines rs) [] t s o l room (omega arith) (shuffled-salvaged m g t s o l fit slots rs a only all)

  -- of the reduced file comes the full one, and a line for each record that it leaves out
  abbrev pub left_out : List Record
  left_out = restored_in (sorted (leave_out (redundant m) (records_of m))) m

  pub reduced-full : length (restored_changes left_out) ≤ length l → Gives m (reduced_file m) (restored_changes left_out) t s o l
  reduced-full h = gives m (reduced_file m) (restored_changes left_out) t s o l room h (reduced-salvaged m g t s o l fit slots)

-- ---- the outputs of any file that is salvaged

-- what the call leaves: as many bytes of each output as it tells
abbrev pub file_by : SalvageAfter → List ℕ
file_by x = take x.written x.out

abbrev pub list_by : SalvageAfter → List ℕ
list_by x = take x.changed x.list

module _ (t s f o l : List ℕ) (z : (salvage_of t s f o l).number ≡ 0) where
  abbrev after : SalvageAfter
  after = salvage_of t s f o l

  ends : Ends t s f o l
  ends = done-ends t s f o l z

  table_is : after.table ≡ ends.table
  table_is = ap (λ (x : SalvageAfter). x.table) ends.is

  -- "writes the full file": that of the table, a grown mesh
  pub file-is : file_by after ≡ full_file after.table
  file-is =
      ap file_by ends.is ∙ take-append_seam (full_file ends.table) (drop (length (full_file ends.table)) o) ∙ ap full_file (sym table_is)

  pub table-grown : Grown after.table
  table-grown = subst Grown (sym table_is) ends.grown

  -- it is read back by the full reader, to the same records, into any table with slots for them
  pub read_back : (table scratch : List ℕ) → lengths_fit table scratch ≡ true → length (records_of after.table) ≤ slots_of table
      → Returns after.table (read_full_of table scratch (file_by after))
  read_back table scratch fit room =
      subst (λ (x : List ℕ). Returns after.table (read_full_of table scratch x)) (sym file-is) (full-returns after.table table scratch table-grown fit room)

  -- and salvaged again it gives itself, and an empty list
  pub again-itself : (t' s' o' l' : List ℕ) → lengths_fit t' s' ≡ true → length (records_of after.table) ≤ slots_of t'
      → length (full_file after.table) ≤ length o' → Gives after.table (file_by after) [] t' s' o' l'
  again-itself t' s' o' l' fit slots room =
      subst (λ (x : List ℕ). Gives after.table x [] t' s' o' l') (sym file-is) (full-itself after.table table-grown t' s' o' l' fit slots room)

  -- "With it comes a list, one line a change: the input line number (0 for a restored record) and one of `dropped`, `normalised`, `repeat`, `restored` ..,
  -- restored ones last": what is told of the lines, and then of each record restored
  pub list-told : list_by after ≡ text_of (told_from 1 [] (salvaged f) ++ told_restored (restored_in (kept (salvaged f)) after.table))
  list-told =
      let list = changes (salvaged f) ends.table in
      ap list_by ends.is ∙ take-append_seam list (drop (length list) l) ∙ changes-told (salvaged f) ends.table
      ∙ ap (λ (u : List ℕ). text_of (told_from 1 [] (salvaged f) ++ told_restored (restored_in (kept (salvaged f)) u))) (sym table_is)

  -- every line is accounted for, the one after those of `first`: a dropped one by its word; a kept one by its record, which stands in the output, and by its
  -- word where a number of it changed
  pub line-told : (first : List OldLine) (m : OldLine) (rest : List OldLine) → salvaged f ≡ first ++ m ∷ rest
      → Accounted (told_from 1 [] (salvaged f)) (sorted (records_of after.table)) (1 + length first) m
  line-told first m rest w =
      subst (λ (u : List ℕ). Accounted (told_from 1 [] (salvaged f)) (sorted (records_of u)) (1 + length first) m) (sym table_is)
      (line-accounted t s f o l ends first m rest w)

  -- and by `repeat` where an earlier one says the same
  pub repeat-listed : (first : List OldLine) (r : Record) (changed : Bool) (rest : List OldLine) → salvaged f ≡ first ++ Kept r changed ∷ rest
      → some_of (same_record r) (seen_after [] first) ≡ true → Memᴰ (told (1 + length first) repeat_word) (told_from 1 [] (salvaged f))
  repeat-listed first r changed rest w = repeat-told t s f o l ends first (Kept r changed) rest w r changed refl

  -- each record of the output is that of a line, or restored beside one of degree 6
  pub record-from : (r : Record) → Memᴰ r (sorted (records_of after.table))
      → Memᴰ r (kept (salvaged f)) ⊎ RestoredOf (sorted_lines (salvaged f)) r
  record-from r m = record-told t s f o l ends r (subst (λ (u : List ℕ). Memᴰ r (sorted (records_of u))) table_is m)

-- "by rising number ..; a line both normalised and repeated has both lines, in that order"
pub list-rises : (f : List ℕ) → Rising Precedes (told_from 1 [] (salvaged f))
list-rises f = told-rises 1 [] (salvaged f)

-- the numbers are those of the file's lines, the first being 1
pub list-numbers : (f : List ℕ) (x : Told) → Memᴰ x (told_from 1 [] (salvaged f)) → (1 ≤ x.line) × (x.line ≤ length (salvaged f))
list-numbers f x m = let (a, b) = told-numbers 1 [] (salvaged f) x m in (a, omega arith)

-- ---- one written form

-- files whose lines are the same records once they are normalised, however they are spelled, in whatever order and however often: one output
module _ (t s f g o l k : List ℕ) (w : Alike f g) where
  abbrev one : SalvageAfter
  one = salvage_of t s f o l

  abbrev other : SalvageAfter
  other = salvage_of t s g o k

  pub one-output : one.number ≡ 0 → other.number ≡ 0
      → (one.written ≡ other.written) × (one.table ≡ other.table) × (one.scratch ≡ other.scratch) × (one.out ≡ other.out)
  one-output z z' =
      let e = done-ends t s f o l z in
      let d = done-ends t s g o k z' in
      let same : e.table ≡ d.table = with-is e.table d.table (sym (ends-judged t s f o l e) ∙ alike-judged f g w t ∙ ends-judged t s g o k d) in (
        ap (λ (x : SalvageAfter). x.written) e.is ∙ ap (λ (u : List ℕ). length (full_file u)) same ∙ sym (ap (λ (x : SalvageAfter). x.written) d.is),
        ap (λ (x : SalvageAfter). x.table) e.is ∙ same ∙ sym (ap (λ (x : SalvageAfter). x.table) d.is),
        ap (λ (x : SalvageAfter). x.scratch) e.is ∙ sym (ap (λ (x : SalvageAfter). x.scratch) d.is),
        ap (λ (x : SalvageAfter). x.out) e.is ∙ ap (λ (u : List ℕ). over (full_file u) o) same ∙ sym (ap (λ (x : SalvageAfter). x.out) d.is),
      )
    where
      with-is : (a b : List ℕ) → With a ≡ With b → a ≡ b
      with-is a b e = cc

  -- and one number, but where a list of changes has no room
  pub one_number : one.number ≢ 13 → other.number ≢ 13 → one.number ≡ other.number
  one_number = go (lengths_fit t s) refl
    where
      told : (f l : List ℕ) → Restored → ℕ
      told f l x = (answer_of t s f o l x).number

      written-number : (f l u : List ℕ) → told f l (With u) ≢ 13 → told f l (With u) ≡ 0
      written-number f l u = by (room_for (full_file u) o && room_for (changes (salvaged f) u) l)
        where
          by : (b : Bool) → (cond b (salvage_after 0 (length (full_file u)) (length (changes (salvaged f) u)) u (cleared_of s) (over (full_file u) o)
              (over (changes (salvaged f) u) l)) (refusal 13 t s o l)).number ≢ 13
              → (cond b (salvage_after 0 (length (full_file u)) (length (changes (salvaged f) u)) u (cleared_of s) (over (full_file u) o)
              (over (changes (salvaged f) u) l)) (refusal 13 t s o l)).number ≡ 0
          by true n = refl
          by false n = absurd (n refl)

      alike : (x : Restored) → told f l x ≢ 13 → told g k x ≢ 13 → told f l x ≡ told g k x
      alike (Stopped n) a b = refl
      alike (With u) a b = written-number f l u a ∙ sym (written-number g k u b)

      go : (b : Bool) → lengths_fit t s ≡ b → one.number ≢ 13 → other.number ≢ 13 → one.number ≡ other.number
      go false e a b = sym (ap (λ (x : SalvageAfter). x.number) (call-unfit t s f o l e)) ∙ ap (λ (x : SalvageAfter). x.number) (call-unfit t s g o k e)
      go true e a b =
          let p : told f l (judged_file t f) ≡ one.number = ap (λ (x : SalvageAfter). x.number) (call-judged t s f o l e) in
          let q : told g k (judged_file t f) ≡ other.number
          = ap (told g k) (alike-judged f g w t) ∙ ap (λ (x : SalvageAfter). x.number) (call-judged t s g o k e) in
          sym p ∙ alike (judged_file t f) (λ n. a (sym p ∙ n)) (λ n. b (sym q ∙ n)) ∙ q

-- two files written line by line from spellings of the same records, each within the limits: one table and one output
pub spellings-output : (t s o l k : List ℕ) (xs : List Spelling) → ((x : Spelling) → Memᴰ x xs → Respelled x.0 x.1)
    → AllSpelt (map (λ (x : Spelling). x.0) xs) → AllSpelt (map (λ (x : Spelling). x.1) xs)
    → (salvage_of t s (lines (map (λ (x : Spelling). x.0) xs)) o l).number ≡ 0 → (salvage_of t s (lines (map (λ (x : Spelling). x.1) xs)) o k).number ≡ 0
    → ((salvage_of t s (lines (map (λ (x : Spelling). x.0) xs)) o l).table ≡ (salvage_of t s (lines (map (λ (x : Spelling). x.1) xs)) o k).table)
    × ((salvage_of t s (lines (map (λ (x : Spelling). x.0) xs)) o l).out ≡ (salvage_of t s (lines (map (λ (x : Spelling). x.1) xs)) o k).out)
spellings-output t s o l k xs h v w z z' =
    let same = one-output t s (lines (map (λ (x : Spelling). x.0) xs)) (lines (map (λ (x : Spelling). x.1) xs)) o l k (respelled-alike xs h v w) z z' in
    (same.1, same.3)
