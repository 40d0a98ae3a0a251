-- Why the marked records are the redundant ones: a search ends at a record's slot exactly where it is for that record's point.
-- `found-same` · `finds-redundant` a record's slot is named exactly where the record is named · `marked-file` with these marked the file is the reduced one.
-- Assumes nothing.
use Rattle.std.specs.Prelude.{◌≡◌, Bool, ◌&&◌, ◌||◌, replicate, Option, Some, None}
use Rattle.std.proofs.Math.Path.{refl, sym, ap}
use Rattle.std.proofs.Common.{◌∙◌, arith, eq-eqb, eqb-true}
use Rattle.std.proofs.Math.Bool.{true, false, cond, or_comm}
use mathlib.Core.List.{List, [], ◌∷◌, ◌++◌}
use Prim.Native.Nat.{ℕ, zero, suc, ◌≤◌, ◌<◌}
use Rattle.std.proofs.Math.Dec.{eqb}
use Rattle.laws.specs.Each.{same_test, not-both}
use Rattle.laws.specs.Rules.{among}
use Rattle.laws.specs.Some.{some_of, some-append}
use Rattle.lattice.specs.Stars.{adjacent_at}
use Rattle.lattice.specs.declared.points.Point.{Point}
use Rattle.lattice.specs.declared.records.Record.{Record}
use Rattle.table.specs.Slots.{slots_of, slot_at}
use Rattle.table.specs.Search.{same_point, find_of}
use Rattle.table.specs.Order.{InOrder, is_at}
use Rattle.table.specs.Entries.{listed, records_below, records_of}
use Rattle.table.specs.MapLaws.{same_refl, same_true, at_held, find-held, slot-looked}
use Rattle.table.specs.declared.probe.Found.{Found}
use Rattle.table.specs.declared.probe.Found.TheVariants as found
use Rattle.text.specs.Line.{lines}
use Rattle.marks.specs.Marks.{marked_at, Marks, marked-none}
use Rattle.writers.specs.Files.{sorted, six_names, redundant, leave_out, reduced_file}
use Rattle.writers.specs.Kept.{mark_bytes, kept_of, kept_at, standing}
use Rattle.writers.specs.Named.{slot_finds, table_finds}
use Rattle.writers.specs.LeftLaws.{file_of}

holds-eq : (a b : Record) → Some a ≡ Some b → a ≡ b
holds-eq a b e = cc

at-is : (f : Found) (k : ℕ) → is_at f k ≡ true → f ≡ found.At k
at-is (found.At j) k h = ap found.At (eqb-true j k h)
at-is (found.Free j) k h = absurd (not-both h refl)
at-is found.Full k h = absurd (not-both h refl)

among_same : (n : ℕ) (P Q : ℕ → Bool) → ((j : ℕ) → P j ≡ Q j) → among n P ≡ among n Q
among_same zero P Q h = refl
among_same (suc n) P Q h = λ i. h n i || among_same n P Q h i

some-later : (f : Record → Bool) (rs qs : List Record) → some_of f (rs ++ qs) ≡ some_of f qs || some_of f rs
some-later f rs qs = some-append f rs qs ∙ or_comm (some_of f rs) (some_of f qs)

leave-append : (f : Record → Bool) (rs qs : List Record) → leave_out f (rs ++ qs) ≡ leave_out f rs ++ leave_out f qs
unfolding leave_out
leave-append f [] qs = refl
leave-append f (r ∷ rs) qs = go (f r) (leave-append f rs qs)
  where
    go : (b : Bool) → leave_out f (rs ++ qs) ≡ leave_out f rs ++ leave_out f qs
        → cond b (leave_out f (rs ++ qs)) (r ∷ leave_out f (rs ++ qs)) ≡ cond b (leave_out f rs) (r ∷ leave_out f rs) ++ leave_out f qs
    go true e = e
    go false e = ap (λ (l : List Record). r ∷ l) e

module _ (t : List ℕ) (o : InOrder t) (k : ℕ) (in_table : k < slots_of t) (r : Record) (held : slot_at t k ≡ Some r) where
  -- a search ends at a record's slot exactly where it is for that record's point
  pub found-same : (p : Point) → is_at (find_of t p) k ≡ same_point p r.at
  found-same p = same_test (is_at (find_of t p) k) (same_point p r.at) there back
    where
      there : is_at (find_of t p) k ≡ true → same_point p r.at ≡ true
      there h =
          let a = at_held t o.fits p k (at-is (find_of t p) k h) in
          let e : r ≡ a.rec = holds-eq r a.rec (sym held ∙ a.holds) in
          let q : r.at ≡ p = ap (λ (x : Record). x.at) e ∙ a.point in
          ap (same_point p) q ∙ same_refl p

      back : same_point p r.at ≡ true → is_at (find_of t p) k ≡ true
      back h =
          let q : p ≡ r.at = same_true p r.at h in
          let w = find-held t o.fits r.at r (slot-looked t o k r in_table held) in
          let b = at_held t o.fits r.at w.0 w.1 in
          let s : w.0 ≡ k = o.once w.0 k r r b.below in_table w.2 held refl in
          ap (λ (x : Point). is_at (find_of t x) k) q ∙ ap (λ (f : Found). is_at f k) w.1 ∙ eq-eqb w.0 k s

  slot-names : (s : Option Record) → slot_finds t s k ≡ some_of (six_names r.at) (listed s)
  slot-names None = refl
  slot-names (Some v) =
      ap (λ (b : Bool). eqb v.d 6 && b) (among_same 6 (λ j. is_at (find_of t (adjacent_at v j)) k) (λ j. same_point (adjacent_at v j) r.at)
      (λ j. found-same (adjacent_at v j))) ∙ or-none (six_names r.at v)
    where
      or-none : (b : Bool) → b ≡ b || false
      or-none true = refl
      or-none false = refl

  -- its slot is named exactly where the record is named
  pub finds-names : (n : ℕ) → table_finds t n k ≡ some_of (six_names r.at) (records_below t n)
  unfolding records_below
  finds-names zero = refl
  finds-names (suc n) = (λ i. slot-names (slot_at t n) i || finds-names n i) ∙ sym (some-later (six_names r.at) (records_below t n) (listed (slot_at t n)))

  pub finds-redundant : table_finds t (slots_of t) k && eqb r.d 3 ≡ redundant t r
  unfolding redundant
  finds-redundant = ap (λ (b : Bool). b && eqb r.d 3) (finds-names (slots_of t)) ∙ and-swap (some_of (six_names r.at) (records_of t)) (eqb r.d 3)
    where
      and-swap : (a b : Bool) → a && b ≡ b && a
      and-swap true true = refl
      and-swap true false = refl
      and-swap false true = refl
      and-swap false false = refl

module _ (t : List ℕ) (o : InOrder t) (m : List ℕ) (are : (i : ℕ) → marked_at m i ≡ table_finds t (slots_of t) i) where
  kept-left : (k : ℕ) → k < slots_of t → listed (kept_at t m k) ≡ leave_out (redundant t) (listed (slot_at t k))
  unfolding kept_at leave_out
  kept-left k l = go (slot_at t k) refl
    where
      one : (r : Record) (b : Bool) → listed (cond b None (Some r)) ≡ cond b [] (r ∷ [])
      one r true = refl
      one r false = refl

      go : (s : Option Record) → slot_at t k ≡ s → listed (kept_of (marked_at m k) s) ≡ leave_out (redundant t) (listed s)
      go None e = refl
      go (Some r) e =
          one r (marked_at m k && eqb r.d 3)
          ∙ ap (λ (b : Bool). cond b [] (r ∷ [])) (ap (λ (b : Bool). b && eqb r.d 3) (are k) ∙ finds-redundant t o k l r e)

  standing-left : (k : ℕ) → k ≤ slots_of t → standing (kept_at t m) k ≡ leave_out (redundant t) (records_below t k)
  unfolding standing records_below leave_out
  standing-left zero h = refl
  standing-left (suc k) h =
      (λ i. standing-left k (omega arith) i ++ kept-left k (omega arith) i) ∙ sym (leave-append (redundant t) (records_below t k) (listed (slot_at t k)))

  pub marked-file : file_of t m ≡ reduced_file t
  marked-file = ap (λ (rs : List Record). lines (sorted rs)) (standing-left (slots_of t) (omega arith))

-- the marks made in bytes that mark nothing
pub marks-are : (t m : List ℕ) (n : ℕ) → n ≡ slots_of t → Marks (replicate mark_bytes 0) (table_finds t n) m
    → (i : ℕ) → marked_at m i ≡ table_finds t (slots_of t) i
marks-are t m n e w i =
    w.reads i ∙ ap (λ (b : Bool). table_finds t n i || b) (marked-none mark_bytes i) ∙ or-false (table_finds t n i) ∙ ap (λ (x : ℕ). table_finds t x i) e
  where
    or-false : (b : Bool) → b || false ≡ b
    or-false true = refl
    or-false false = refl
