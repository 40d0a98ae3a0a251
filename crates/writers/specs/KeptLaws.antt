-- The records that are kept, and their keys.
-- `standing-more`, `standing-grow` slot by slot · `tail-order` keys that differ in their orders · `lines-sorted` as many bytes in any order ·
-- `Filled` the keys in the output: `filled_none`, `filled-same`, `filled_put` · `kept-part`, `kept-valid`, `kept_near` what is kept stands in the table
-- and is valid · `standing-most` the longest line for each record suffices.
-- Assumes nothing.
use Rattle.std.specs.Prelude.{◌≡◌, refl, Bool, true, false, cond, ◌&&◌, List, [], ◌∷◌, ◌++◌, eqb, ltb, drop, Option, Some, None}
use Rattle.std.proofs.Math.Path.{sym}
use Rattle.std.proofs.Common.{ap, ◌∙◌, subst, append-nil, lt-ltb, le-ltb, length-append}
use Prim.Native.Nat.{ℕ, zero, suc, ◌+◌, ◌*◌, ◌≤◌, ◌<◌}
use native.Mathlib.Omega.{arith}
use Rattle.std.proofs.Math.Decide.{ℕ_discrete, dec_lt, dec_le}
use Rattle.std.proofs.Math.ListN.{length}
use Rattle.std.proofs.Math.Seq.{get_or-append_seam}
use Rattle.lattice.specs.Records.{valid_of}
use Rattle.lattice.specs.declared.records.Record.{Record}
use Rattle.table.specs.Slots.{slot_width, slots_of, slot_at, is_free, free_below}
use Rattle.table.specs.Order.{InOrder}
use Rattle.table.specs.Entries.{listed}
use Rattle.text.specs.Line.{line_of, lines}
use Rattle.text.specs.LineLaws.{lines_join}
use Rattle.text.specs.LineLengths.{longest, line-most}
use Rattle.text.specs.Near.{Near, valid-near}
use Rattle.marks.specs.Marks.{marked_at}
use Rattle.sorting.specs.Sorting.{insert_by, sort_by, key_width, key_in}
use Rattle.sorting.specs.Tally.{nth}
use Rattle.sorting.specs.Keys.{Put}
use Rattle.writers.specs.Kept.{places, kept_of, kept_at, standing}

-- ---- slot by slot

pub standing-more : (f : ℕ → Option Record) (i : ℕ) → standing f (i + 1) ≡ standing f i ++ listed (f i)
unfolding standing
standing-more f i = let e : i + 1 ≡ suc i = omega arith in ap (standing f) e

pub standing-grow : (f : ℕ → Option Record) (i n : ℕ) → i ≤ n → length (standing f i) ≤ length (standing f n)
unfolding standing
standing-grow f i zero h = let e : i ≡ 0 = omega arith in subst (λ (k : ℕ). length (standing f k) ≤ 0) (sym e) (omega arith)
standing-grow f i (suc n) h = go (dec_le i n) (λ l. standing-grow f i n l)
  where
    go : Dec (i ≤ n) → (i ≤ n → length (standing f i) ≤ length (standing f n)) → length (standing f i) ≤ length (standing f n ++ listed (f n))
    go (yes l) ih = let a = ih l in omega (arith, length-append (standing f n) (listed (f n)))
    go (no l) ih = let e : i ≡ suc n = omega arith in subst (λ (k : ℕ). length (standing f k) ≤ length (standing f (suc n))) (sym e) (omega arith)

-- keys of different orders are compared by them, whatever their tails
pub tail-order : (x y i j : ℕ) → i < places → j < places → (x ≡ y → i ≡ j) → ltb (x * places + i) (y * places + j) ≡ ltb x y
tail-order x y i j hi hj one = go (dec_lt x y) (dec_lt y x)
  where
    go : Dec (x < y) → Dec (y < x) → ltb (x * places + i) (y * places + j) ≡ ltb x y
    go (yes l) m = lt-ltb (x * places + i) (y * places + j) (omega arith) ∙ sym (lt-ltb x y l)
    go (no l) (yes m) = le-ltb (x * places + i) (y * places + j) (omega arith) ∙ sym (le-ltb x y (omega arith))
    go (no l) (no m) =
        let e : x ≡ y = omega arith in
        let q = one e in
        le-ltb (x * places + i) (y * places + j) (omega arith) ∙ sym (le-ltb x y (omega arith))

-- ---- as many bytes in any order

lines-insert : (lt : Record → Record → Bool) (r : Record) (rs : List Record) → length (lines (insert_by lt r rs)) ≡ length (line_of r) + length (lines rs)
unfolding insert_by lines
lines-insert lt r [] = length-append (line_of r) []
lines-insert lt r (s ∷ rs) = go (lt r s) (lines-insert lt r rs)
  where
    go : (b : Bool) → length (lines (insert_by lt r rs)) ≡ length (line_of r) + length (lines rs)
        → length (lines (cond b (r ∷ s ∷ rs) (s ∷ insert_by lt r rs))) ≡ length (line_of r) + length (line_of s ++ lines rs)
    go true e = length-append (line_of r) (line_of s ++ lines rs)
    go false e =
        let a = length-append (line_of s) (lines (insert_by lt r rs)) in
        let b = length-append (line_of s) (lines rs) in
        omega arith

pub lines-sorted : (lt : Record → Record → Bool) (rs : List Record) → length (lines (sort_by lt rs)) ≡ length (lines rs)
unfolding sort_by lines
lines-sorted lt [] = refl
lines-sorted lt (r ∷ rs) =
    let a = lines-insert lt r (sort_by lt rs) in
    let b = lines-sorted lt rs in
    let c = length-append (line_of r) (lines rs) in
    omega arith

-- ---- the keys in the output

-- the keys ks were stored, k of them
pub record Filled (o ks o' : List ℕ) (k : ℕ) : Type 0 where
  pub count : k ≡ length ks
  pub keys : (j : ℕ) → j < length ks → key_in o' j ≡ nth ks j
  pub long : length o' ≡ length o
  pub past : (n : ℕ) → key_width * length ks ≤ n → drop n o' ≡ drop n o

pub filled_none : (o : List ℕ) → Filled o [] o 0
filled_none o = record { count = refl; keys = λ j l. absurd (omega arith); long = refl; past = λ n h. refl }

nth_left : (xs ys : List ℕ) (j : ℕ) → j < length xs → nth (xs ++ ys) j ≡ nth xs j
nth_left [] ys j h = absurd (omega arith)
nth_left (x ∷ xs) ys zero h = refl
nth_left (x ∷ xs) ys (suc j) h = nth_left xs ys j (omega arith)

pub filled_put : (o ks o₁ o₂ : List ℕ) (k v : ℕ) → Filled o ks o₁ k → Put o₁ k v o₂ → Filled o (ks ++ v ∷ []) o₂ (k + 1)
filled_put o ks o₁ o₂ k v f p = record {
  count = omega (arith, f.count, length-append ks (v ∷ []));
  keys = λ j l. go j (omega (arith, length-append ks (v ∷ []))) (ℕ_discrete j (length ks));
  long = p.long ∙ f.long;
  past = λ n h. p.past n (omega (arith, f.count, length-append ks (v ∷ []))) ∙ f.past n (omega (arith, length-append ks (v ∷ [])));
}
  where
    go : (j : ℕ) → j < length ks + 1 → Dec (j ≡ length ks) → key_in o₂ j ≡ nth (ks ++ v ∷ []) j
    go j l (yes e) = ap (key_in o₂) (e ∙ sym f.count) ∙ p.here ∙ sym (get_or-append_seam ks v [] 0) ∙ ap (nth (ks ++ v ∷ [])) (sym e)
    go j l (no e) = let c = f.count in p.others j (λ q. e (q ∙ c)) ∙ f.keys j (omega arith) ∙ sym (nth_left ks (v ∷ []) j (omega arith))

pub filled-same : (o ks o₁ o₂ : List ℕ) (k k₂ : ℕ) → Filled o ks o₁ k → (o₂ ≡ o₁) × (k₂ ≡ k) → Filled o (ks ++ []) o₂ k₂
filled-same o ks o₁ o₂ k k₂ w e =
    subst (λ (x : List ℕ). Filled o x o₂ k₂) (sym (append-nil ks))
    (subst (λ (x : List ℕ). Filled o ks x k₂) (sym e.0) (subst (Filled o ks o₁) (sym e.1) w))

-- ---- what the code's steps say

pub kept-at : (t m : List ℕ) (i : ℕ) (s : Option Record) → slot_at t i ≡ s → kept_of (marked_at m i) s ≡ kept_at t m i
unfolding kept_at
kept-at t m i s e = ap (kept_of (marked_at m i)) (sym e)

pub kept-gone : (t m : List ℕ) (i : ℕ) (r : Record) (b : Bool) → slot_at t i ≡ Some r → b ≡ marked_at m i → b && eqb r.d 3 ≡ true → None ≡ kept_at t m i
kept-gone t m i r b e f h = sym (ap (λ (x : Bool). cond x None (Some r)) (ap (λ (x : Bool). x && eqb r.d 3) (sym f) ∙ h)) ∙ kept-at t m i (Some r) e

pub kept-stays : (t m : List ℕ) (i : ℕ) (r : Record) (b : Bool) → slot_at t i ≡ Some r → b ≡ marked_at m i → b && eqb r.d 3 ≡ false → Some r ≡ kept_at t m i
kept-stays t m i r b e f h = sym (ap (λ (x : Bool). cond x None (Some r)) (ap (λ (x : Bool). x && eqb r.d 3) (sym f) ∙ h)) ∙ kept-at t m i (Some r) e

-- what is kept stands in the table
pub kept-part : (t m : List ℕ) (i : ℕ) (r : Record) → kept_at t m i ≡ Some r → slot_at t i ≡ Some r
unfolding kept_at
kept-part t m i r = go (slot_at t i) (marked_at m i)
  where
    free : None ≡ Some r → ⊥
    free e = let z : ◌≡◌ {A = ℕ} 0 1 = cc in omega arith

    held : (q : Record) (b : Bool) → cond b None (Some q) ≡ Some r → Some q ≡ Some r
    held q true e = absurd (free e)
    held q false e = e

    go : (s : Option Record) (b : Bool) → kept_of b s ≡ Some r → s ≡ Some r
    go None b e = absurd (free e)
    go (Some q) b e = held q (b && eqb q.d 3) e

pub kept-valid : (t : List ℕ) → InOrder t → (m : List ℕ) (i : ℕ) (r : Record) → i < slots_of t → kept_at t m i ≡ Some r → valid_of r ≡ true
kept-valid t o m i r l e = o.valid i r l (kept-part t m i r e)

pub kept_near : (t : List ℕ) → InOrder t → (m : List ℕ) (i : ℕ) (r : Record) → i < slots_of t → kept_at t m i ≡ Some r → Near r
kept_near t o m i r l e = valid-near r (kept-valid t o m i r l e)

pub slot-room : (t : List ℕ) → InOrder t → (i : ℕ) → i < slots_of t → (slot_width * i + slot_width ≤ length t) × (i < places)
slot-room t o i l = (omega (arith, o.fits.long), omega (arith, o.fits.most))

pub written_none : (s : Option Record) → s ≡ None → 0 ≡ length (lines (listed s))
unfolding lines
written_none s e = ap (λ (x : Option Record). length (lines (listed x))) (sym e)

pub written_one : (s : Option Record) (r : Record) → s ≡ Some r → length (line_of r) ≡ length (lines (listed s))
unfolding lines
written_one s r e =
    let a = length-append (line_of r) [] in let b : length (line_of r) ≡ length (line_of r ++ []) = omega arith in b
    ∙ ap (λ (x : Option Record). length (lines (listed x))) (sym e)

pub standing-start : (f : ℕ → Option Record) → 0 ≡ length (lines (standing f 0))
unfolding standing lines
standing-start f = refl

pub standing-length : (f : ℕ → Option Record) (i : ℕ) → length (lines (standing f (i + 1))) ≡ length (lines (standing f i)) + length (lines (listed (f i)))
standing-length f i =
    ap (λ (x : List Record). length (lines x)) (standing-more f i) ∙ ap length (lines_join (standing f i) (listed (f i)))
    ∙ length-append (lines (standing f i)) (lines (listed (f i)))

-- ---- the longest line for each record suffices

free-most : (s : Option Record) → is_free s ≤ 1
free-most None = omega arith
free-most (Some r) = omega arith

module _ (t : List ℕ) (o : InOrder t) (m : List ℕ) where
  slot-most : (i : ℕ) → i < slots_of t → length (lines (listed (kept_at t m i))) + longest * is_free (slot_at t i) ≤ longest
  slot-most i l = go (kept_at t m i) refl
    where
      go : (s : Option Record) → kept_at t m i ≡ s → length (lines (listed (kept_at t m i))) + longest * is_free (slot_at t i) ≤ longest
      go None e = let none = written_none (kept_at t m i) e in omega (arith, free-most (slot_at t i))
      go (Some r) e =
          let one = written_one (kept_at t m i) r e in
          let taken = ap is_free (kept-part t m i r e) in
          omega (arith, line-most r (kept-valid t o m i r l e))

  pub standing-most : (k : ℕ) → k ≤ slots_of t → length (lines (standing (kept_at t m) k)) + longest * free_below (slot_at t) k ≤ longest * k
  unfolding free_below
  standing-most zero h = omega (arith, standing-start (kept_at t m))
  standing-most (suc k) h =
      let e : k + 1 ≡ suc k = omega arith in
      let more = sym (ap (λ (n : ℕ). length (lines (standing (kept_at t m) n))) e) ∙ standing-length (kept_at t m) k in
      omega (arith, standing-most k (omega arith), slot-most k (omega arith))
