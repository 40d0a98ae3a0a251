-- Lines written from the last back, while the keys of those still to come stand sorted at the output's beginning.
-- `file_of` the file of what is kept · `Keyed` the keys stand there, no line does · `Left` k keys are left, the lines of the others stand from `at` on:
-- `left-start`, `left-top` the next key is the last of those left, `left_step`, `left_end` · `file-most` the longest line for each record suffices.
-- Assumes nothing.
use Rattle.std.specs.Prelude.{◌≡◌, Bool, List, [], ◌∷◌, ◌++◌, map, ltb, length, take}
use Rattle.std.proofs.Common.{sym, ◌∙◌, subst, append_assoc, lt-ltb, le-ltb, length-append, drop-cons, take-suc, length-take-le, ext_get_or}
use Rattle.std.proofs.Math.Path.{ap}
use Rattle.std.proofs.Math.Bool.{cond}
use Rattle.std.proofs.lemmas.List.{map-append, length-map}
use Prim.Native.Nat.{ℕ, suc, ◌+◌, ◌*◌, ◌≤◌, ◌<◌}
use native.Mathlib.Omega.{arith}
use Rattle.std.proofs.Math.ListN.{drop}
use Rattle.std.proofs.Math.Seq.{drop-length, take-length, length-sets}
use Rattle.laws.specs.Stores.{Wrote, drop-stored}
use Rattle.lattice.specs.declared.records.Record.{Record}
use Rattle.table.specs.Slots.{slots_of, free_slots}
use Rattle.table.specs.Order.{InOrder}
use Rattle.text.specs.Line.{line_of, lines}
use Rattle.text.specs.LineLaws.{lines_join}
use Rattle.text.specs.LineLengths.{shortest, longest, lines-least}
use Rattle.sorting.specs.Sorting.{sort_by, key_in, keys_in, Sorts}
use Rattle.sorting.specs.Tally.{nth}
use Rattle.sorting.specs.Keys.{key-before}
use Rattle.sorting.specs.KeyLaws.{firsts-length, firsts_at}
use Rattle.writers.specs.Files.{before, sorted, output_after, put_of}
use Rattle.writers.specs.Kept.{kept_at, standing, key_for, record_for}
use Rattle.writers.specs.KeptLaws.{lines-sorted, kept-part, Filled, standing-most}
use Rattle.writers.specs.FileKeys.{file-records}

-- the file of the records that are not marked
abbrev pub file_of : List ℕ → List ℕ → List ℕ
file_of t m = lines (sorted (standing (kept_at t m) (slots_of t)))

-- the keys of what is kept, and these in their order
abbrev pub keys_of : List ℕ → List ℕ → List ℕ
keys_of t m = map key_for (standing (kept_at t m) (slots_of t))

abbrev pub ordered : List ℕ → List ℕ → List ℕ
ordered t m = sort_by ltb (keys_of t m)

abbrev pub lines_of : List ℕ → List ℕ
lines_of K = lines (map record_for K)

-- the keys K stand at the output's beginning, and their lines have room
pub record Keyed (K o : List ℕ) (k total : ℕ) : Type 0 where
  pub keys : keys_in o k ≡ K
  pub long : total ≡ length (lines_of K)
  pub room : total ≤ length o

-- of the keys K, in their order, the first k are left; the lines of the others stand at `at`, and the bytes `rest` past them
pub record Left (K rest o : List ℕ) (k at : ℕ) : Type 0 where
  pub count : k ≤ length K
  pub place : at ≡ length (lines_of (take k K))
  pub done : drop at o ≡ lines_of (drop k K) ++ rest
  pub room : at ≤ length o
  pub keys : (i : ℕ) → i < k → key_in o i ≡ nth K i

pub left-start : (K o : List ℕ) (k total : ℕ) → Keyed K o k total → Left K (drop total o) o k total
unfolding lines
left-start K o k total r =
    let e : k ≡ length K = sym (firsts-length (key_in o) k) ∙ ap length r.keys in
    let a : take k K ≡ K = ap (λ (n : ℕ). take n K) e ∙ take-length K in
    let b : drop k K ≡ [] = ap (λ (n : ℕ). drop n K) e ∙ drop-length K in
    record {
      count = omega arith;
      place = r.long ∙ ap (λ (l : List ℕ). length (lines_of l)) (sym a);
      done = ap (λ (l : List ℕ). lines_of l ++ drop total o) (sym b);
      room = r.room;
      keys = λ i h. sym (firsts_at (key_in o) k i h) ∙ ap (λ (l : List ℕ). nth l i) r.keys;
    }

module _ (K rest o : List ℕ) (k at : ℕ) (l : Left K rest o (k + 1) at) where
  -- the next key is the last of those left
  pub left-top : key_in o k ≡ nth K k
  left-top = l.keys k (omega arith)

  abbrev top : Record
  top = record_for (nth K k)

  split : lines_of (take (k + 1) K) ≡ lines_of (take k K) ++ (line_of top ++ [])
  unfolding lines
  split =
      let e : k + 1 ≡ suc k = omega arith in
      ap (λ (n : ℕ). lines_of (take n K)) e ∙ ap lines_of (take-suc K k 0 (omega (arith, l.count)))
      ∙ ap lines (map-append (record_for) (take k K) (nth K k ∷ [])) ∙ lines_join (map (record_for) (take k K)) (top ∷ [])

  -- its line ends at `at`
  pub left-place : at ≡ length (lines_of (take k K)) + length (line_of top)
  left-place =
      let a = l.place in
      let b = ap length split in
      let c = length-append (lines_of (take k K)) (line_of top ++ []) in
      let d = length-append (line_of top) [] in
      omega arith

  behind : lines_of (drop k K) ≡ line_of top ++ lines_of (drop (k + 1) K)
  unfolding lines
  behind =
      let e : suc k ≡ k + 1 = omega arith in
      ap lines_of (drop-cons K k 0 (omega (arith, l.count))) ∙ ap (λ (n : ℕ). line_of top ++ lines_of (drop n K)) e

  -- the keys left end before the lines
  keys-end : (j : ℕ) → j ≤ length K → shortest * j ≤ length (lines_of (take j K))
  keys-end j h =
      let a = lines-least (map (record_for) (take j K)) in
      let b = length-map (take j K) (record_for) in
      let c = length-take-le j K h in
      omega arith

  pub left_step : (o' : List ℕ) (at' past : ℕ) → at ≡ at' + length (line_of top) → Wrote o at' (line_of top) o' past → Left K rest o' k at'
  left_step o' at' past e w =
      let c = l.count in
      let s = left-place in
      let f = keys-end k (omega arith) in
      let room = l.room in
      record {
        count = omega arith;
        place = omega arith;
        done =
            ap (drop at') w.bytes ∙ drop-stored o at' (line_of top) (omega arith)
            ∙ ap (λ (n : ℕ). line_of top ++ drop n o) (sym e) ∙ ap (λ (x : List ℕ). line_of top ++ x) l.done
            ∙ sym (append_assoc (line_of top) (lines_of (drop (k + 1) K)) rest) ∙ ap (λ (x : List ℕ). x ++ rest) (sym behind);
        room = let x : length o' ≡ length o = ap length w.bytes ∙ length-sets o at' (line_of top) in omega arith;
        keys = λ i h.
            ap (λ (x : List ℕ). key_in x i) w.bytes ∙ key-before (line_of top) o at' i (omega arith)
            ∙ l.keys i (omega arith);
      }

pub left_end : (K rest o : List ℕ) (at : ℕ) → Left K rest o 0 at → o ≡ lines_of K ++ rest
unfolding lines
left_end K rest o at l = ap (λ (n : ℕ). drop n o) (sym l.place) ∙ l.done

-- the keys left end where the lines begin, or before
pub left-room : (K rest o : List ℕ) (k at : ℕ) → Left K rest o k at → shortest * k ≤ at
left-room K rest o k at l =
    let a = lines-least (map (record_for) (take k K)) in
    let b = length-map (take k K) (record_for) in
    let c = length-take-le k K l.count in
    omega (arith, l.place)

-- ---- the whole call

pub file-long : (t m : List ℕ) → length (lines (standing (kept_at t m) (slots_of t))) ≡ length (file_of t m)
file-long t m = sym (lines-sorted before (standing (kept_at t m) (slots_of t)))

-- the keys take no more room than the file
pub keys-fit : (t m : List ℕ) → shortest * length (standing (kept_at t m) (slots_of t)) ≤ length (file_of t m)
keys-fit t m = omega (arith, file-long t m, lines-least (standing (kept_at t m) (slots_of t)))

-- the longest line for each record suffices
pub file-most : (t : List ℕ) → InOrder t → (m : List ℕ) → length (file_of t m) + longest * free_slots t ≤ longest * slots_of t
file-most t o m = omega (arith, file-long t m, standing-most t o m (slots_of t) (omega arith))

pub filled-all : (t m o : List ℕ) (n : ℕ) → n ≡ slots_of t → {o₁ : List ℕ} {k : ℕ} → Filled o (map key_for (standing (kept_at t m) n)) o₁ k
    → Filled o (keys_of t m) o₁ k
filled-all t m o n e {o₁} {k} f = subst (λ (x : ℕ). Filled o (map key_for (standing (kept_at t m) x)) o₁ k) e f

pub counted-all : (t m : List ℕ) (n : ℕ) → n ≡ slots_of t → {w : ℕ} → w ≡ length (lines (standing (kept_at t m) n)) → w ≡ length (file_of t m)
counted-all t m n e h = h ∙ ap (λ (x : ℕ). length (lines (standing (kept_at t m) x))) e ∙ file-long t m

pub keys-all : (t m : List ℕ) (n : ℕ) → n ≡ slots_of t → shortest * length (standing (kept_at t m) n) ≤ length (file_of t m)
keys-all t m n e = subst (λ (x : ℕ). shortest * length (standing (kept_at t m) x) ≤ length (file_of t m)) (sym e) (keys-fit t m)

-- the lines of the sorted keys are the file
pub ordered-file : (t : List ℕ) → InOrder t → (m : List ℕ) → lines_of (ordered t m) ≡ file_of t m
ordered-file t o m = ap lines (file-records t o (kept_at t m) (kept-part t m))

module _ (t m o : List ℕ) (total : ℕ) (long : total ≡ length (file_of t m)) where
  pub put-short : length o < total → output_after 13 0 o ≡ put_of (file_of t m) o
  unfolding put_of
  put-short h =
      ap (λ (b : Bool). cond b (output_after 13 0 o) (output_after 0 (length (file_of t m)) (file_of t m ++ drop (length (file_of t m)) o)))
      (sym (lt-ltb (length o) (length (file_of t m)) (omega arith)))

  pub put-done : (o' : List ℕ) → total ≤ length o → o' ≡ file_of t m ++ drop total o → output_after 0 total o' ≡ put_of (file_of t m) o
  unfolding put_of
  put-done o' h e =
      (λ i. output_after 0 (long i) (e i)) ∙ ap (λ (n : ℕ). output_after 0 (length (file_of t m)) (file_of t m ++ drop n o)) long
      ∙ ap (λ (b : Bool). cond b (output_after 13 0 o) (output_after 0 (length (file_of t m)) (file_of t m ++ drop (length (file_of t m)) o)))
      (sym (le-ltb (length o) (length (file_of t m)) (omega arith)))

  module _ (o₁ o₂ : List ℕ) (k : ℕ) (room : total ≤ length o) (f : Filled o (keys_of t m) o₁ k) (s : Sorts o₁ k o₂) where
    filled-keys : keys_in o₁ k ≡ keys_of t m
    filled-keys =
        let n = firsts-length (key_in o₁) k in
        ext_get_or 0 (keys_in o₁ k) (keys_of t m) (n ∙ f.count)
        (λ i l. let h : i < k = omega arith in firsts_at (key_in o₁) k i h ∙ f.keys i (omega (arith, f.count)))

    pub ready : InOrder t → Keyed (ordered t m) o₂ k total
    ready i =
        record {
          keys = s.keys ∙ ap (sort_by ltb) filled-keys;
          long = long ∙ ap length (sym (ordered-file t i m));
          room = omega (arith, s.long, f.long);
        }

    pub ready-past : drop total o₂ ≡ drop total o
    ready-past =
        let a = keys-fit t m in
        let b = length-map (standing (kept_at t m) (slots_of t)) key_for in
        let c = f.count in
        s.past total (omega arith) ∙ f.past total (omega arith)
