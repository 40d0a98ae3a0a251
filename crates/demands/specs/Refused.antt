-- Demand 1, the bytes: "A refused request leaves the mesh untouched; a refused base or read leaves an empty table, or an untouched one where its
-- length was the fault."
-- `subdivide-untouched`, `all-untouched`, `write-untouched` · `base-untouched`, `base-cleared` · `Ending`, `full-ending`, `reduced-ending` how a reader
-- ends, `read-untouched`, `read-cleared`, `scratch-cleared` · `census-put`, `census-read`, `census-long`, `program-is` the census.
-- Queries and the star call are lent nothing to write: `star-refused`, `neighbours-refused`, `faces-refused` "Refused, count 0 and all zeros."
-- Assumes nothing.
use Rattle.std.specs.Prelude.{◌≡◌, ◌≢◌, ◌⊎◌, Bool, cond, ◌&&◌, ℕ, ◌≤◌, eqb, ltb, ℤ, length, drop, Option, Some, None}
use Rattle.std.proofs.Math.Path.{refl}
use Rattle.std.proofs.Common.{sym, ◌∙◌, ap, inl, inr, arith}
use Rattle.std.proofs.Math.Bool.{true, false}
use mathlib.Core.List.{List, ◌++◌}
use Rattle.laws.specs.Some.{some_of}
use Rattle.lattice.specs.Points.{normal_of}
use Rattle.lattice.specs.Records.{valid_of}
use Rattle.lattice.specs.Stars.{star_of, given}
use Rattle.lattice.specs.Stars as stars
use Rattle.lattice.specs.declared.records.Record.{Record}
use Rattle.lattice.specs.declared.stars.Answer.{Answer}
use Rattle.table.specs.Entries.{look_up}
use Rattle.queries.specs.Queries.{neighbours_of, faces_of, faces_given, query_looked, adjacents_there, corners_there}
use Rattle.table.specs.Slots.{fits_length, lengths_fit, cleared_of}
use Rattle.table.specs.Order.{in_order_of}
use Rattle.base.specs.Base.{Laid, Room, NoRoom, base_of, unpaired, bad_place, centres_in, laid_of, from_laid}
use Rattle.base.specs.Base as laid
use Rattle.mesh.specs.Subdivide.{MeshAfter, subdivide_of, subdivide_all_of}
use Rattle.mesh.specs.CaseLaws.{Subdivision, subdivision}
use Rattle.mesh.specs.CaseLaws as cases
use Rattle.writers.specs.Files.{write_of, put_of, redundant}
use Rattle.writers.specs.Files as written
use Rattle.grown.specs.Grown.{is_grown}
use Rattle.readers.specs.Readers.{Lines, Read, Fault, read_lines, Restored, With, Stopped, restore_all}
use Rattle.readers.specs.Readers.{end_full, end_reduced, end_restored, read_full_of, read_reduced_of}
use Rattle.readers.specs.FaultLaws.{fault-number, stop-number}
use Rattle.readers.specs.Readers as read
use Rattle.census_text.specs.Census.{put_text, text_of, read_input_of, most_input, free_table, program_text}
use Rattle.census_text.specs.ProgramLaws.{text-put}
use Rattle.census_text.specs.Census as counted
use Rattle.demands.specs.Faults.{FaultAt, begin, fault-line, met_in, restore-first, met-number}

-- ---- subdivision
pub subdivide-untouched : (t : List ℕ) (a b : ℤ) (m : ℕ) → (subdivide_of t a b m).number ≢ 0 → (subdivide_of t a b m).bytes ≡ t
subdivide-untouched t a b m n = go (subdivision t a b m)
  where
    go : Subdivision t a b m → (subdivide_of t a b m).bytes ≡ t
    go (cases.refused x k e) = sym (ap (λ (o : MeshAfter). o.bytes) e)
    go (cases.made v h l w e) = absurd (n (sym (ap (λ (o : MeshAfter). o.number) e)))

-- of a list, those before the refused one stand; none do where the table is not in order
pub all-untouched : (t : List ℕ) (ps : List ℤ) → in_order_of t ≡ false → subdivide_all_of t ps ≡ record { number = 1; done = 0; bytes = t }
all-untouched t ps h = sym (cases.many-1 t ps h)

-- ---- the star call and queries
abbrev zeros : ℕ → Answer
zeros n = stars.refused n

pub star-refused : (r : Record) → (star_of r).number ≢ 0 → star_of r ≡ zeros (star_of r).number
unfolding star_of
star-refused r = go (valid_of r) (eqb r.d 0)
  where
    go : (v z : Bool) → (cond v (cond z (zeros 14) (given r)) (zeros 9)).number ≢ 0
        → cond v (cond z (zeros 14) (given r)) (zeros 9) ≡ zeros (cond v (cond z (zeros 14) (given r)) (zeros 9)).number
    go true true n = refl
    go true false n = absurd (n refl)
    go false z n = refl

query-refused : (t : List ℕ) (l : Option Record) (whole : Record → Bool) (found : Record → Answer) → ((v : Record) → (found v).number ≡ 0)
    → (x : Answer) → x ≡ cond (in_order_of t) (query_looked (λ v. cond (whole v) (found v) (zeros 7)) l) (zeros 1) → x.number ≢ 0 → x ≡ zeros x.number
query-refused t l whole found zero x e n = go (in_order_of t) l e
  where
    is : (k : ℕ) → x ≡ zeros k → x ≡ zeros x.number
    is k h = h ∙ ap zeros (sym (ap (λ (y : Answer). y.number) h))

    at : (v : Record) (z w : Bool) → x ≡ cond z (zeros 14) (cond w (found v) (zeros 7)) → x ≡ zeros x.number
    at v true w h = is 14 h
    at v false true h = absurd (n (ap (λ (y : Answer). y.number) h ∙ zero v))
    at v false false h = is 7 h

    go : (o : Bool) (l : Option Record) → x ≡ cond o (query_looked (λ v. cond (whole v) (found v) (zeros 7)) l) (zeros 1) → x ≡ zeros x.number
    go false l h = is 1 h
    go true None h = is 3 h
    go true (Some v) h = at v (eqb v.d 0) (whole v) h

pub neighbours-refused : (t : List ℕ) (a b : ℤ) (m : ℕ) → (neighbours_of t a b m).number ≢ 0 → neighbours_of t a b m ≡ zeros (neighbours_of t a b m).number
unfolding neighbours_of
neighbours-refused t a b m = query-refused t (look_up t (normal_of a b m)) (adjacents_there t) given (λ v. refl) (neighbours_of t a b m) refl

pub faces-refused : (t : List ℕ) (a b : ℤ) (m : ℕ) → (faces_of t a b m).number ≢ 0 → faces_of t a b m ≡ zeros (faces_of t a b m).number
unfolding faces_of
faces-refused t a b m =
    query-refused t (look_up t (normal_of a b m)) (λ v. adjacents_there t v && corners_there t v) (faces_given t) (λ v. refl) (faces_of t a b m) refl

-- ---- writers
module _ (file t out : List ℕ) where
  abbrev put : Bool → Bool → written.OutputAfter
  put o s = cond o (cond s (written.output_after 13 0 out) (written.output_after 0 (length file) (file ++ drop (length file) out))) (written.output_after 1 0 out)

  pub write-untouched : (write_of file t out).number ≢ 0 → ((write_of file t out).out ≡ out) × ((write_of file t out).bytes ≡ 0)
  unfolding write_of put_of
  write-untouched = go (in_order_of t) (ltb (length out) (length file))
    where
      go : (o s : Bool) → (put o s).number ≢ 0 → ((put o s).out ≡ out) × ((put o s).bytes ≡ 0)
      go false s n = (refl, refl)
      go true true n = (refl, refl)
      go true false n = absurd (n refl)

-- ---- base
module _ (t : List ℕ) (cs : List ℤ) where
  abbrev based : Bool → Bool → Bool → Laid → laid.BaseAfter
  based f o b l = cond f (cond o (laid.base_after 2 0 (cleared_of t)) (cond b (laid.base_after 2 (bad_place cs) (cleared_of t)) (from_laid t l)))
      (laid.base_after 1 0 t)

  pub base-untouched : (base_of t cs).number ≡ 1 → base_of t cs ≡ laid.base_after 1 0 t
  unfolding base_of
  base-untouched = go (fits_length (length t)) (unpaired cs) (ltb (bad_place cs) (centres_in cs)) (laid_of t cs)
    where
      go : (f o b : Bool) (l : Laid) → (based f o b l).number ≡ 1 → based f o b l ≡ laid.base_after 1 0 t
      go false o b l e = refl
      go true true b l e = absurd (omega arith)
      go true false true l e = absurd (omega arith)
      go true false false (Room u) e = absurd (omega arith)
      go true false false NoRoom e = absurd (omega arith)

  pub base-cleared : (base_of t cs).number ≢ 0 → (base_of t cs).number ≢ 1 → (base_of t cs).bytes ≡ cleared_of t
  unfolding base_of
  base-cleared = go (fits_length (length t)) (unpaired cs) (ltb (bad_place cs) (centres_in cs)) (laid_of t cs)
    where
      go : (f o b : Bool) (l : Laid) → (based f o b l).number ≢ 0 → (based f o b l).number ≢ 1 → (based f o b l).bytes ≡ cleared_of t
      go false o b l z e = absurd (e refl)
      go true true b l z e = refl
      go true false true l z e = refl
      go true false false (Room u) z e = absurd (z refl)
      go true false false NoRoom z e = refl

-- ---- readers
-- how a reader ends: its lengths don't fit; refused on a line of the file, with 8, 9 or 10 and that line; refused after the lines, with 8, 11 or 12
-- and line 0; done
abbrev pub Late : ℕ → Type 0
Late n = (n ≡ 8) ⊎ ((n ≡ 11) ⊎ (n ≡ 12))

pub data Ending (t s f : List ℕ) (o : read.TablesAfter) : Type 0 where
  unfit : o ≡ read.tables_after 1 0 t s → Ending t s f o
  on_line : (n i : ℕ) → 8 ≤ n → n ≤ 10 → FaultAt f (begin (cleared_of t)) n i → o ≡ read.refused n i t s → Ending t s f o
  after-lines : (n : ℕ) → Late n → o ≡ read.refused n 0 t s → Ending t s f o
  done : (u : List ℕ) → o ≡ read.accepted u s → Ending t s f o

late-many : (n : ℕ) → Late n → 8 ≤ n
late-many n (inl e) = omega arith
late-many n (inr (inl e)) = omega arith
late-many n (inr (inr e)) = omega arith

module _ (t s f : List ℕ) where
  met-late : (n : ℕ) → (n ≡ 8) ⊎ (n ≡ 11) → Late n
  met-late n (inl e) = inl e
  met-late n (inr e) = inr (inl e)

  faulty : (n i : ℕ) → read_lines f (cleared_of t) ≡ Fault n i → Ending t s f (read.refused n i t s)
  faulty n i e =
      let h = fault-number f (length f) 0 1 None (cleared_of t) n i e in
      on_line n i h.0 h.1 (fault-line f (cleared_of t) n i e) refl

  pub full-ending : Ending t s f (read_full_of t s f)
  unfolding read_full_of
  full-ending = go (lengths_fit t s) (read_lines f (cleared_of t)) refl
    where
      judged : (u : List ℕ) (g : Bool) → Ending t s f (cond g (read.accepted u s) (read.refused 11 0 t s))
      judged u true = done u refl
      judged u false = after-lines 11 (inr (inl refl)) refl

      go : (b : Bool) (x : Lines) → read_lines f (cleared_of t) ≡ x → Ending t s f (cond b (end_full t s x) (read.tables_after 1 0 t s))
      go false x e = unfit refl
      go true (Fault n i) e = faulty n i e
      go true (Read rs u) e = judged u (is_grown u)

  pub reduced-ending : Ending t s f (read_reduced_of t s f)
  unfolding read_reduced_of
  reduced-ending = go (lengths_fit t s) (read_lines f (cleared_of t)) refl
    where
      judged : (u : List ℕ) (g r : Bool) → Ending t s f (cond g (cond r (read.refused 12 0 t s) (read.accepted u s)) (read.refused 11 0 t s))
      judged u true true = after-lines 12 (inr (inr refl)) refl
      judged u true false = done u refl
      judged u false r = after-lines 11 (inr (inl refl)) refl

      restored : (rs : List Record) (u : List ℕ) (x : Restored) → restore_all rs (With u) ≡ x → Ending t s f (end_restored t s rs x)
      restored rs u (Stopped n) e =
          let l = (stop-number rs u n e).0 in
          let z : n ≢ 0 = λ k. omega arith in
          after-lines n (met-late n (met-number (met_in rs) u n (restore-first rs u n e) z)) refl
      restored rs u (With w) e = judged w (is_grown w) (some_of (redundant w) rs)

      go : (b : Bool) (x : Lines) → read_lines f (cleared_of t) ≡ x → Ending t s f (cond b (end_reduced t s x) (read.tables_after 1 0 t s))
      go false x e = unfit refl
      go true (Fault n i) e = faulty n i e
      go true (Read rs u) e = restored rs u (restore_all rs (With u)) refl

module _ (t s f : List ℕ) (o : read.TablesAfter) where
  number_is : (x : read.TablesAfter) → o ≡ x → o.number ≡ x.number
  number_is x e = ap (λ (y : read.TablesAfter). y.number) e

  pub read-untouched : Ending t s f o → o.number ≡ 1 → o ≡ read.tables_after 1 0 t s
  read-untouched (unfit e) h = e
  read-untouched (on_line n i l m w e) h = let k : o.number ≡ n = number_is (read.refused n i t s) e in absurd (omega arith)
  read-untouched (after-lines n l e) h =
      let m = late-many n l in let k : o.number ≡ n = number_is (read.refused n 0 t s) e in absurd (omega arith)
  read-untouched (done u e) h = let k : o.number ≡ 0 = number_is (read.accepted u s) e in absurd (omega arith)

  pub read-cleared : Ending t s f o → o.number ≢ 0 → o.number ≢ 1 → o.table ≡ cleared_of t
  read-cleared (unfit e) z h = absurd (h (number_is (read.tables_after 1 0 t s) e))
  read-cleared (on_line n i l m w e) z h = ap (λ (x : read.TablesAfter). x.table) e
  read-cleared (after-lines n l e) z h = ap (λ (x : read.TablesAfter). x.table) e
  read-cleared (done u e) z h = absurd (z (number_is (read.accepted u s) e))

  pub scratch-cleared : Ending t s f o → o.number ≢ 1 → o.scratch ≡ cleared_of s
  scratch-cleared (unfit e) h = absurd (h (number_is (read.tables_after 1 0 t s) e))
  scratch-cleared (on_line n i l m w e) h = ap (λ (x : read.TablesAfter). x.scratch) e
  scratch-cleared (after-lines n l e) h = ap (λ (x : read.TablesAfter). x.scratch) e
  scratch-cleared (done u e) h = ap (λ (x : read.TablesAfter). x.scratch) e

-- ---- the census
module _ (number : ℕ) (text out : List ℕ) where
  -- 13 where the output is shorter than the text, which is then as found; else the number of the text
  pub census-put : put_text number text out
      ≡ cond (ltb (length out) (length text)) (counted.put 13 0 out) (counted.put number (length text) (text ++ drop (length text) out))
  unfolding put_text
  census-put = refl

-- the number in the text is the reader's, and both tables are as it leaves them
pub census-read : (i t s out : List ℕ)
    → ((counted.census_of i t s out).table ≡ (read_input_of t s i).table) × ((counted.census_of i t s out).scratch ≡ (read_input_of t s i).scratch)
    × ((counted.census_of i t s out).put ≡ put_text (read_input_of t s i).number (text_of (read_input_of t s i)) out)
unfolding counted.census_of
census-read i t s out = (refl, refl, refl)

-- "Longer input gives `refused`, 8, 0", and both tables all 255
pub census-long : (i t s : List ℕ) → lengths_fit t s ≡ true → ltb most_input (length i) ≡ true → read_input_of t s i ≡ read.refused 8 0 t s
unfolding read_input_of
census-long i t s f l = rw (f, l) refl

-- the program's text is what the call leaves, lent tables of 5,461 free slots and an output in which the text has room
pub program-is : (i out : List ℕ) → length (program_text i) ≤ length out
    → (counted.census_of i free_table free_table out).put
    ≡ counted.put (read_input_of free_table free_table i).number (length (program_text i)) (program_text i ++ drop (length (program_text i)) out)
unfolding counted.census_of program_text
program-is i out h = text-put (read_input_of free_table free_table i).number (text_of (read_input_of free_table free_table i)) out h
