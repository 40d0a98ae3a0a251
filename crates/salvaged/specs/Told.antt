-- What the list of changes says, line by line. `Told` the number of an input line and its word · `told_from`, `changes-told` the list is what is told of the
-- lines, and then of each record restored · `told-rises` numbers rise, `normalised` before `repeat` · `told-numbers` they are those of the file's lines ·
-- `told_at_lem` what is told of a line stands in the list · `Accounted`, `line-accounted`, `repeat-told` every line is accounted for.
-- Assumes nothing.
use Rattle.std.specs.Prelude.{◌≡◌, refl, ◌⊎◌, Bool, true, false, cond, ℕ, suc, ◌+◌, ◌≤◌, ◌<◌, length}
use Rattle.std.proofs.Common.{sym, ap, ◌∙◌, subst, inl, inr, arith}
use mathlib.Core.List.Memᴰ
use mathlib.Core.List.{List, [], ◌∷◌, ◌++◌, append_assoc, append-nil, Memᴰ}
use Rattle.laws.specs.Some.{some_of}
use Rattle.lattice.specs.declared.records.Record.{Record}
use Rattle.table.specs.Entries.{records_of}
use Rattle.sorting.specs.SortLaws.{Rising, rising-join}
use Rattle.writers.specs.Files.{sorted}
use Rattle.salvage_lines.specs.OldLines.{same_record, OldLine, Dropped, Kept, salvaged, record_in, kept}
use Rattle.salvage.specs.Salvage.{dropped_word, normalised_word, repeat_word, restored_word, change, change_if, changes_at, changes_from}
use Rattle.salvage.specs.Salvage.{restored_in, restored_changes, changes}
use Rattle.salvaged.specs.SalvageLaws.{Ends, line-stands}

-- a line of the list
pub record Told : Type 0 where
  pub line : ℕ
  pub word : List ℕ

abbrev pub told : ℕ → List ℕ → Told
told line word = record { line = line; word = word }

abbrev told_if : Bool → ℕ → List ℕ → List Told
told_if b line word = cond b (told line word ∷ []) []

-- of a line of the file; `seen` the records of earlier ones
abbrev pub told_at : ℕ → List Record → OldLine → List Told
told_at line seen Dropped = told line dropped_word ∷ []
told_at line seen (Kept r changed) = told_if changed line normalised_word ++ told_if (some_of (same_record r) seen) line repeat_word

unfoldable pub told_from : ℕ → List Record → List OldLine → List Told
told_from line seen [] = []
told_from line seen (m ∷ ms) = told_at line seen m ++ told_from (line + 1) (record_in m ++ seen) ms

-- of each record restored
abbrev pub told_restored : List Record → List Told
told_restored [] = []
told_restored (r ∷ rs) = told 0 restored_word ∷ told_restored rs

abbrev pub text_of : List Told → List ℕ
text_of [] = []
text_of (x ∷ xs) = change x.line x.word ++ text_of xs

-- ---- the list is their text

text-append : (xs ys : List Told) → text_of (xs ++ ys) ≡ text_of xs ++ text_of ys
text-append [] ys = refl
text-append (x ∷ xs) ys =
    ap (λ (z : List ℕ). change x.line x.word ++ z) (text-append xs ys) ∙ sym (append_assoc (change x.line x.word) (text_of xs) (text_of ys))

text-if : (b : Bool) (line : ℕ) (word : List ℕ) → change_if b line word ≡ text_of (told_if b line word)
text-if true line word = sym (append-nil (change line word))
text-if false line word = refl

text_at : (line : ℕ) (seen : List Record) (m : OldLine) → changes_at line seen m ≡ text_of (told_at line seen m)
unfolding changes_at
text_at line seen Dropped = sym (append-nil (change line dropped_word))
text_at line seen (Kept r c) =
    let again = some_of (same_record r) seen in
    (λ i. text-if c line normalised_word i ++ text-if again line repeat_word i)
    ∙ sym (text-append (told_if c line normalised_word) (told_if again line repeat_word))

text-from : (line : ℕ) (seen : List Record) (ms : List OldLine) → changes_from line seen ms ≡ text_of (told_from line seen ms)
unfolding changes_from told_from
text-from line seen [] = refl
text-from line seen (m ∷ ms) =
    (λ i. text_at line seen m i ++ text-from (line + 1) (record_in m ++ seen) ms i)
    ∙ sym (text-append (told_at line seen m) (told_from (line + 1) (record_in m ++ seen) ms))

text-restored : (rs : List Record) → restored_changes rs ≡ text_of (told_restored rs)
unfolding restored_changes
text-restored [] = refl
text-restored (r ∷ rs) = ap (λ (z : List ℕ). change 0 restored_word ++ z) (text-restored rs)

pub changes-told : (ms : List OldLine) (u : List ℕ) → changes ms u ≡ text_of (told_from 1 [] ms ++ told_restored (restored_in (kept ms) u))
unfolding changes
changes-told ms u =
    (λ i. text-from 1 [] ms i ++ text-restored (restored_in (kept ms) u) i) ∙ sym (text-append (told_from 1 [] ms) (told_restored (restored_in (kept ms) u)))

-- ---- its lines rise

-- "by rising number ..; a line both normalised and repeated has both lines, in that order"
abbrev pub Precedes : Told → Told → Type 0
Precedes x y = (x.line < y.line) ⊎ ((x.line ≡ y.line) × (x.word ≡ normalised_word) × (y.word ≡ repeat_word))

if-told : (b : Bool) (line : ℕ) (word : List ℕ) (x : Told) → Memᴰ x (told_if b line word) → x ≡ told line word
if-told false line word x m = absurd (Memᴰ.not-nil m)
if-told true line word x m = go (Memᴰ.cases_cons m)
  where
    go : (x ≡ told line word) ⊎ Memᴰ x [] → x ≡ told line word
    go (inl e) = e
    go (inr k) = absurd (Memᴰ.not-nil k)

if-rises : (b : Bool) (line : ℕ) (word : List ℕ) → Rising Precedes (told_if b line word)
if-rises false line word = tt
if-rises true line word = ((λ y m. absurd (Memᴰ.not-nil m)), tt)

at-line : (line : ℕ) (seen : List Record) (m : OldLine) (x : Told) → Memᴰ x (told_at line seen m) → x.line ≡ line
at-line line seen Dropped x k = ap (λ (z : Told). z.line) (if-told true line dropped_word x k)
at-line line seen (Kept r c) x k = go (Memᴰ.append_cases (told_if c line normalised_word) k)
  where
    go : Memᴰ x (told_if c line normalised_word) ⊎ Memᴰ x (told_if (some_of (same_record r) seen) line repeat_word) → x.line ≡ line
    go (inl j) = ap (λ (z : Told). z.line) (if-told c line normalised_word x j)
    go (inr j) = ap (λ (z : Told). z.line) (if-told (some_of (same_record r) seen) line repeat_word x j)

at-rises : (line : ℕ) (seen : List Record) (m : OldLine) → Rising Precedes (told_at line seen m)
at-rises line seen Dropped = if-rises true line dropped_word
at-rises line seen (Kept r c) =
    let again = some_of (same_record r) seen in
    rising-join Precedes (told_if c line normalised_word) (told_if again line repeat_word) (if-rises c line normalised_word) (if-rises again line repeat_word)
    (λ x y m n.
    let a = if-told c line normalised_word x m in
    let b = if-told again line repeat_word y n in
    inr (ap (λ (z : Told). z.line) a ∙ sym (ap (λ (z : Told). z.line) b), ap (λ (z : Told). z.word) a, ap (λ (z : Told). z.word) b))

-- the numbers are those of the lines
pub told-numbers : (line : ℕ) (seen : List Record) (ms : List OldLine) (x : Told) → Memᴰ x (told_from line seen ms)
    → (line ≤ x.line) × (x.line < line + length ms)
unfolding told_from
told-numbers line seen [] x k = absurd (Memᴰ.not-nil k)
told-numbers line seen (m ∷ ms) x k = go (Memᴰ.append_cases (told_at line seen m) k) (λ j. told-numbers (line + 1) (record_in m ++ seen) ms x j)
  where
    go : Memᴰ x (told_at line seen m) ⊎ Memᴰ x (told_from (line + 1) (record_in m ++ seen) ms)
        → (Memᴰ x (told_from (line + 1) (record_in m ++ seen) ms) → (line + 1 ≤ x.line) × (x.line < line + 1 + length ms))
        → (line ≤ x.line) × (x.line < line + suc (length ms))
    go (inl j) ih = let e = at-line line seen m x j in (omega arith, omega arith)
    go (inr j) ih = let (a, b) = ih j in (omega arith, omega arith)

pub told-rises : (line : ℕ) (seen : List Record) (ms : List OldLine) → Rising Precedes (told_from line seen ms)
unfolding told_from
told-rises line seen [] = tt
told-rises line seen (m ∷ ms) =
    rising-join Precedes (told_at line seen m) (told_from (line + 1) (record_in m ++ seen) ms) (at-rises line seen m)
    (told-rises (line + 1) (record_in m ++ seen) ms)
    (λ x y a b. inl (let e = at-line line seen m x a in let l = (told-numbers (line + 1) (record_in m ++ seen) ms y b).0 in omega arith))

-- ---- every line is accounted for

-- the records of the lines before one
abbrev pub seen_after : List Record → List OldLine → List Record
seen_after seen [] = seen
seen_after seen (m ∷ ms) = seen_after (record_in m ++ seen) ms

pub told_at_lem : (line : ℕ) (seen : List Record) (first : List OldLine) (m : OldLine) (rest : List OldLine) (x : Told)
    → Memᴰ x (told_at (line + length first) (seen_after seen first) m) → Memᴰ x (told_from line seen (first ++ m ∷ rest))
unfolding told_from
told_at_lem line seen [] m rest x k =
    let e : line + 0 ≡ line = omega arith in
    Memᴰ.append_left (told_from (line + 1) (record_in m ++ seen) rest) (subst (λ (n : ℕ). Memᴰ x (told_at n seen m)) e k)
told_at_lem line seen (z ∷ zs) m rest x k =
    let e : line + suc (length zs) ≡ line + 1 + length zs = omega arith in
    Memᴰ.append_right (told_at line seen z) (told_at_lem (line + 1) (record_in z ++ seen) zs m rest x
    (subst (λ (n : ℕ). Memᴰ x (told_at n (seen_after (record_in z ++ seen) zs) m)) e k))

-- a line of the file has its word in the list; its record, where it is not dropped, stands in the output
abbrev pub Accounted : List Told → List Record → ℕ → OldLine → Type 0
Accounted xs rs line Dropped = Memᴰ (told line dropped_word) xs
Accounted xs rs line (Kept r true) = Memᴰ (told line normalised_word) xs × Memᴰ r rs
Accounted xs rs line (Kept r false) = Memᴰ r rs

module _ (t s f o l : List ℕ) (e : Ends t s f o l) (first : List OldLine) (m : OldLine) (rest : List OldLine) (w : salvaged f ≡ first ++ m ∷ rest) where
  here : (x : Told) → Memᴰ x (told_at (1 + length first) (seen_after [] first) m) → Memᴰ x (told_from 1 [] (salvaged f))
  here x k = subst (λ (ms : List OldLine). Memᴰ x (told_from 1 [] ms)) (sym w) (told_at_lem 1 [] first m rest x k)

  among : Memᴰ m (salvaged f)
  among = subst (Memᴰ m) (sym w) (Memᴰ.append_right first (Memᴰ.head refl))

  pub line-accounted : Accounted (told_from 1 [] (salvaged f)) (sorted (records_of e.table)) (1 + length first) m
  line-accounted = go m refl
    where
      line : ℕ
      line = 1 + length first

      word : (n : OldLine) (x : Told) → m ≡ n → Memᴰ x (told_at line (seen_after [] first) n) → Memᴰ x (told_from 1 [] (salvaged f))
      word n x k h = here x (subst (λ (q : OldLine). Memᴰ x (told_at line (seen_after [] first) q)) (sym k) h)

      stands : (r : Record) (changed : Bool) → m ≡ Kept r changed → Memᴰ r (sorted (records_of e.table))
      stands r changed k = (line-stands t s f o l e r changed (subst (λ (q : OldLine). Memᴰ q (salvaged f)) k among)).1

      go : (n : OldLine) → m ≡ n → Accounted (told_from 1 [] (salvaged f)) (sorted (records_of e.table)) line n
      go Dropped k = word Dropped (told line dropped_word) k (Memᴰ.head refl)
      go (Kept r true) k = (word (Kept r true) (told line normalised_word) k (Memᴰ.head refl), stands r true k)
      go (Kept r false) k = stands r false k

  pub repeat-told : (r : Record) (changed : Bool) → m ≡ Kept r changed → some_of (same_record r) (seen_after [] first) ≡ true
      → Memᴰ (told (1 + length first) repeat_word) (told_from 1 [] (salvaged f))
  repeat-told r changed k b =
      let line = 1 + length first in
      here (told line repeat_word) (subst (λ (n : OldLine). Memᴰ (told line repeat_word) (told_at line (seen_after [] first) n)) (sym k)
      (Memᴰ.append_right (told_if changed line normalised_word)
      (subst (λ (x : Bool). Memᴰ (told line repeat_word) (told_if x line repeat_word)) (sym b) (Memᴰ.head refl))))
