-- The laws of the slots. What stands above cites these and never opens a byte.
-- `table-slots`, `slots-table`, `test_table` the fit of a length, `lengths-..` of two · `free-byte`, `free-first`, `free-words`, `slot-free`,
-- `slot_held` a slot read word by word ·
-- `slot-written` one written in three parts · `put_same`, `put_other`, `put-length` a slot written and read back · `free-none`, `free_more` a count of
-- free slots · `cleared-free` · `home_below` · `slot_same` equal bytes, equal slots.
-- Assumes nothing.
use Rattle.std.specs.Prelude.{◌≡◌, Bool, true, false, ◌&&◌, List, [], ◌∷◌, ◌++◌, ℕ, suc, ◌+◌, ◌*◌, ◌/◌, ◌%◌, ◌≤◌, ◌<◌, leb, length, replicate, ℤ, Option, Some, None}
use Rattle.std.proofs.Math.Path.{refl, sym, ap}
use Rattle.std.proofs.Common.{◌∙◌, arith, eq-eqb, ne_eqb, eqb-true, le-leb, leb-true, of_z}
use Rattle.std.proofs.Math.Bool.{cond}
use Rattle.std.proofs.Math.Decide.{dec_lt}
use Rattle.std.proofs.Math.Dec.{eqb}
use Rattle.std.proofs.Math.ListN.{get_or}
use Rattle.std.proofs.lemmas.List.{get_or-replicate}
use Rattle.std.proofs.lemmas.List.Edits.{sets}
use Rattle.std.proofs.Math.Seq.{length-sets}
use mir.Syntax.{w32}
use Rattle.std.proofs.Math.Facts.{to_z-of_z, Fits-of_z}
use Rattle.laws.specs.Words.{word_at, word_bytes, word_back, word_of}
use Rattle.laws.specs.Sets.{sets-append, get_d-sets-below, get_d-sets-above, get_d-sets-in}
use Rattle.laws.specs.Residue.{mod_below}
use Rattle.laws.specs.Each.{and-false, both_left, both_right, upto-each, upto-fails, same_test}
use Rattle.lattice.specs.Points.{pt}
use Rattle.lattice.specs.declared.points.Point.{Point}
use Rattle.lattice.specs.declared.records.Record.{Record}
use Rattle.table.specs.Slots.{slot_width, Table, fits_length, lengths_fit, slots_in, slots_of, free_at, signed, record_at, slot_at, record_bytes}
use Rattle.table.specs.Slots.{put_slot, is_free, free_below}
use Rattle.table.specs.Reading.{Word, all_ones}
use Rattle.table.specs.Ranges.{Writes}
use Rattle.table.specs.Search.{weight_of, home_of}

-- ---- the fit of a length

pub table-test : (t : List ℕ) (n : ℕ) → Table t n → fits_length (length t) ≡ true
table-test t n w =
    let l = length t in
    let a : l % slot_width ≡ 0 = omega (arith, w.long) in
    let b : 16 ≤ l / slot_width = omega (arith, w.long, w.least) in
    let c : l / slot_width ≤ 65536 = omega (arith, w.long, w.most) in
    rw (eq-eqb (l % slot_width) 0 a, le-leb 16 (l / slot_width) b, le-leb (l / slot_width) 65536 c)

pub table-slots : (t : List ℕ) (n : ℕ) → Table t n → slots_of t ≡ n
unfolding slots_in
table-slots t n w = ap (λ (b : Bool). cond b (length t / slot_width) 0) (table-test t n w) ∙ omega (arith, w.long)

pub test_table : (t : List ℕ) → fits_length (length t) ≡ true → Table t (slots_of t)
unfolding slots_in
test_table t h =
    let l = length t in
    let a : l % slot_width ≡ 0 = eqb-true (l % slot_width) 0 (both_left (eqb (l % slot_width) 0) (leb 16 (l / slot_width) && leb (l / slot_width) 65536) h) in
    let k = both_right (eqb (l % slot_width) 0) (leb 16 (l / slot_width) && leb (l / slot_width) 65536) h in
    let b : 16 ≤ l / slot_width = leb-true 16 (l / slot_width) (both_left (leb 16 (l / slot_width)) (leb (l / slot_width) 65536) k) in
    let c : l / slot_width ≤ 65536 = leb-true (l / slot_width) 65536 (both_right (leb 16 (l / slot_width)) (leb (l / slot_width) 65536) k) in
    rw h (record { long = omega arith; least = b; most = c })

-- a number of slots that is not 0 is the number of a length that fits
pub slots-table : (t : List ℕ) (n : ℕ) → n ≡ slots_of t → (n ≡ 0 → ⊥) → Table t n
unfolding slots_in
slots-table t n e h = go (fits_length (length t)) refl
  where
    go : (b : Bool) → fits_length (length t) ≡ b → Table t n
    go true x = rw e (test_table t x)
    go false x = absurd (h (e ∙ ap (λ (b : Bool). cond b (length t / slot_width) 0) x))

pub no-slots : (t : List ℕ) → slots_of t ≡ 0 → fits_length (length t) ≡ false
no-slots t z = go (fits_length (length t)) refl
  where
    go : (b : Bool) → fits_length (length t) ≡ b → fits_length (length t) ≡ false
    go true x = absurd (omega (arith, (test_table t x).least))
    go false x = x

-- a table and a scratch table
module _ (t s : List ℕ) where
  pub lengths-table : lengths_fit t s ≡ true → Table t (slots_of t)
  lengths-table h = test_table t (both_left (fits_length (length t)) (eqb (length s) (length t)) h)

  pub table-lengths : (n : ℕ) → Table t n → length s ≡ length t → lengths_fit t s ≡ true
  table-lengths n w e = λ i. table-test t n w i && eq-eqb (length s) (length t) e i

  pub lengths_none : slots_of t ≡ 0 → lengths_fit t s ≡ false
  lengths_none e = ap (λ (b : Bool). b && eqb (length s) (length t)) (no-slots t e)

  pub lengths-other : (length s ≡ length t → ⊥) → lengths_fit t s ≡ false
  lengths-other e = ap (λ (b : Bool). fits_length (length t) && b) (ne_eqb (length s) (length t) e) ∙ and-false (fits_length (length t))

pub table_same : (t u : List ℕ) (n : ℕ) → length u ≡ length t → Table t n → Table u n
table_same t u n e w = record { long = e ∙ w.long; least = w.least; most = w.most }

pub home_below : (n : ℕ) → 0 < n → (p : Point) → home_of p n < n
unfolding home_of
home_below n h p = mod_below (weight_of p.a p.b p.m.0) n h

-- ---- a slot that is read word by word

module _ (t : List ℕ) (p w : ℕ) (W : Word t p w) where
  -- the bytes of a word
  word-bytes : w ≡ get_or t p 0 + 256 * get_or t (p + 1) 0 + 65536 * get_or t (p + 2) 0 + 16777216 * get_or t (p + 3) 0
  unfolding word_at
  word-bytes = W.is

  ones-bytes : w ≡ 4294967295 → (get_or t p 0 ≡ 255) × (get_or t (p + 1) 0 ≡ 255) × (get_or t (p + 2) 0 ≡ 255) × (get_or t (p + 3) 0 ≡ 255)
  ones-bytes e = all (get_or t p 0) (get_or t (p + 1) 0) (get_or t (p + 2) 0) (get_or t (p + 3) 0) W.byte0 W.byte1 W.byte2 W.byte3 (sym word-bytes ∙ e)
    where
      all : (a b c d : ℕ) → a < 256 → b < 256 → c < 256 → d < 256 → a + 256 * b + 65536 * c + 16777216 * d ≡ 4294967295
          → (a ≡ 255) × (b ≡ 255) × (c ≡ 255) × (d ≡ 255)
      all a b c d ha hb hc hd e = omega arith

  bytes-ones : get_or t p 0 ≡ 255 → get_or t (p + 1) 0 ≡ 255 → get_or t (p + 2) 0 ≡ 255 → get_or t (p + 3) 0 ≡ 255 → w ≡ 4294967295
  bytes-ones e0 e1 e2 e3 = word-bytes ∙ rw (e0, e1, e2, e3)

pub free-byte : (t : List ℕ) (p : ℕ) → free_at t p ≡ true → (x k : ℕ) → x ≡ p + k → k < slot_width → ◌≡◌ {A = ℕ} (get_or t x 0) 255
unfolding free_at
free-byte t p h x k e l =
    ap (λ (y : ℕ). get_or t y 0) e ∙ eqb-true (get_or t (p + k) 0) 255 (upto-each (λ j. eqb (get_or t (p + j) 0) 255) slot_width k h l)

-- a free slot begins with two words of ones
pub free-first : (t : List ℕ) (p a b : ℕ) → Word t p a → Word t (p + 4) b → free_at t p ≡ true → (a ≡ 4294967295) × (b ≡ 4294967295)
free-first t p a b A B h =
    let e = free-byte t p h in (
      bytes-ones t p a A (e p 0 (omega arith) (omega arith)) (e (p + 1) 1 refl (omega arith)) (e (p + 2) 2 refl (omega arith)) (e (p + 3) 3 refl (omega arith)),
      bytes-ones t (p + 4) b B (e (p + 4) 4 refl (omega arith)) (e (p + 4 + 1) 5 (omega arith) (omega arith))
          (e (p + 4 + 2) 6 (omega arith) (omega arith)) (e (p + 4 + 3) 7 (omega arith) (omega arith)),
    )

module _ (t : List ℕ) (p a b c : ℕ) (A : Word t p a) (B : Word t (p + 4) b) (C : Word t (p + 8) c) where
  at : (x k : ℕ) → x ≡ p + k → get_or t x 0 ≡ get_or t (p + k) 0
  at x k e = ap (λ (y : ℕ). get_or t y 0) e

  words-free : all_ones a b c ≡ true → free_at t p ≡ true
  unfolding free_at
  words-free h =
      let ab = both_left (eqb a 4294967295 && eqb b 4294967295) (eqb c 4294967295) h in
      let A' = ones-bytes t p a A (eqb-true a 4294967295 (both_left (eqb a 4294967295) (eqb b 4294967295) ab)) in
      let B' = ones-bytes t (p + 4) b B (eqb-true b 4294967295 (both_right (eqb a 4294967295) (eqb b 4294967295) ab)) in
      let C' = ones-bytes t (p + 8) c C (eqb-true c 4294967295 (both_right (eqb a 4294967295 && eqb b 4294967295) (eqb c 4294967295) h)) in
      rw (
        sym (at p 0 (omega arith)) ∙ A'.0,
        A'.1,
        A'.2,
        A'.3,
        B'.0,
        sym (at (p + 4 + 1) 5 (omega arith)) ∙ B'.1,
        sym (at (p + 4 + 2) 6 (omega arith)) ∙ B'.2,
        sym (at (p + 4 + 3) 7 (omega arith)) ∙ B'.3,
        C'.0,
        sym (at (p + 8 + 1) 9 (omega arith)) ∙ C'.1,
        sym (at (p + 8 + 2) 10 (omega arith)) ∙ C'.2,
        sym (at (p + 8 + 3) 11 (omega arith)) ∙ C'.3,
      )

  free_all : free_at t p ≡ true → all_ones a b c ≡ true
  free_all h =
      let ab = free-first t p a b A B h in
      let ec = bytes-ones t (p + 8) c C (free-byte t p h (p + 8) 8 refl (omega arith)) (free-byte t p h (p + 8 + 1) 9 (omega arith) (omega arith))
      (free-byte t p h (p + 8 + 2) 10 (omega arith) (omega arith)) (free-byte t p h (p + 8 + 3) 11 (omega arith) (omega arith)) in
      rw (ab.0, ab.1, ec)

  -- twelve bytes of 255 are three words of ones
  pub free-words : free_at t p ≡ all_ones a b c
  free-words = same_test (free_at t p) (all_ones a b c) free_all words-free

module _ (t : List ℕ) (i a b c : ℕ) (A : Word t (slot_width * i) a) (B : Word t (slot_width * i + 4) b) (C : Word t (slot_width * i + 8) c) where
  pub slot-free : all_ones a b c ≡ true → None ≡ slot_at t i
  unfolding slot_at
  slot-free h = sym (ap (λ (x : Bool). cond x None (Some (record_at t (slot_width * i)))) (free-words t (slot_width * i) a b c A B C ∙ h))

  pub slot_held : (x y : ℤ) → x ≡ signed a → y ≡ signed b → all_ones a b c ≡ false
      → Some (record {
        at = pt x y (get_or t (slot_width * i + 8) 0);
        d = get_or t
            (slot_width * i + 9) 0;
        k = get_or t (slot_width * i + 10) 0;
        n = record { 0 = get_or t (slot_width * i + 11) 0 };
      }) ≡ slot_at t i
  unfolding slot_at record_at
  slot_held x y ea eb h =
      let e : cond (free_at t (slot_width * i)) None (Some (record_at t (slot_width * i))) ≡ Some (record_at t (slot_width * i)) = ap
      (λ (z : Bool). cond z None (Some (record_at t (slot_width * i)))) (free-words t (slot_width * i) a b c A B C ∙ h) in
      rw (ea, eb, A.is, B.is) (sym e)

-- ---- a record that is written in three parts

pub slot-written : (t t1 t2 t3 : List ℕ) (i : ℕ) (r : Record) → t1 ≡ sets t (slot_width * i) (word_bytes (of_z w32 r.at.a))
    → t2 ≡ sets t1 (slot_width * i + 4) (word_bytes (of_z w32 r.at.b))
    → t3 ≡ sets t2 (slot_width * i + 8) (r.at.m.0 ∷ r.d ∷ r.k ∷ r.n.0 ∷ []) → t3 ≡ put_slot t i r
unfolding put_slot record_bytes
slot-written t t1 t2 t3 i r e1 e2 e3 =
    let xs = word_bytes (of_z w32 r.at.a) in
    let ys = word_bytes (of_z w32 r.at.b) in
    let zs = r.at.m.0 ∷ r.d ∷ r.k ∷ r.n.0 ∷ [] in
    let e : t2 ≡ sets t (slot_width * i) (xs ++ ys) = e2 ∙ ap (λ (l : List ℕ). sets l (slot_width * i + 4) ys) e1 ∙ sets-append xs ys t (slot_width * i) in
    e3 ∙ ap (λ (l : List ℕ). sets l (slot_width * i + 8) zs) e ∙ sets-append (xs ++ ys) zs t (slot_width * i)

-- ---- one slot and another

-- two tables that agree on a slot's bytes have the same slot
pub slot_same : (t u : List ℕ) (i : ℕ) → ((x : ℕ) → slot_width * i ≤ x → x < slot_width * i + slot_width → get_or t x 0 ≡ get_or u x 0) → slot_at t i ≡ slot_at u i
unfolding slot_at free_at record_at word_at
slot_same t u i h =
    let g : (c : ℕ) → c < slot_width → get_or t (slot_width * i + c) 0 ≡ get_or u (slot_width * i + c) 0 = λ c l. h (slot_width * i + c) (omega arith) (omega arith) in
    rw (
      h (slot_width * i) (omega arith) (omega arith),
      g 0 (omega arith),
      g 1 (omega arith),
      g 2 (omega arith),
      g 3 (omega arith),
      g 4 (omega arith),
      g 5 (omega arith),
      g 6 (omega arith),
      g 7 (omega arith),
      g 8 (omega arith),
      g 9 (omega arith),
      g 10 (omega arith),
      g 11 (omega arith),
      h (slot_width * i + 4 + 1) (omega arith) (omega arith),
      h (slot_width * i + 4 + 2) (omega arith) (omega arith),
      h (slot_width * i + 4 + 3) (omega arith) (omega arith),
    )

pub put-length : (t : List ℕ) (i : ℕ) (r : Record) → length (put_slot t i r) ≡ length t
unfolding put_slot
put-length t i r = length-sets t (slot_width * i) (record_bytes r)

module _ (t : List ℕ) (i : ℕ) (r : Record) (room : slot_width * i + slot_width ≤ length t) where
  pub put_other : (j : ℕ) → (j ≡ i → ⊥) → slot_at (put_slot t i r) j ≡ slot_at t j
  unfolding put_slot record_bytes
  put_other j ne = slot_same (put_slot t i r) t j (λ x lo hi. go x lo hi (dec_lt j i))
    where
      go : (x : ℕ) → slot_width * j ≤ x → x < slot_width * j + slot_width → Dec (j < i) → get_or (put_slot t i r) x 0 ≡ get_or t x 0
      go x lo hi (yes l) = get_d-sets-below (record_bytes r) t (slot_width * i) x (omega arith)
      go x lo hi (no l) = get_d-sets-above (record_bytes r) t (slot_width * i) x (omega arith)

  -- byte c of the slot that was written
  put_byte : (x c : ℕ) → x ≡ slot_width * i + c → c < slot_width → get_or (put_slot t i r) x 0 ≡ get_or (record_bytes r) c 0
  unfolding put_slot record_bytes
  put_byte x c e h = ap (λ (k : ℕ). get_or (sets t (slot_width * i) (record_bytes r)) k 0) e ∙ get_d-sets-in (record_bytes r) t (slot_width * i) c h room

  module _ (w : Writes r.at) where
    -- it is not free: the depth is not 255
    put-taken : free_at (put_slot t i r) (slot_width * i) ≡ false
    unfolding free_at record_bytes
    put-taken =
        let e : get_or (put_slot t i r) (slot_width * i + 8) 0 ≡ r.at.m.0 = put_byte (slot_width * i + 8) 8 refl (omega arith) in
        upto-fails (λ c. eqb (get_or (put_slot t i r) (slot_width * i + c) 0) 255) 8 slot_width (omega arith)
        (ne_eqb (get_or (put_slot t i r) (slot_width * i + 8) 0) 255 (λ q. omega (arith, w.depth)))

    put_a : word_at (put_slot t i r) (slot_width * i) ≡ of_z w32 r.at.a
    unfolding record_bytes
    put_a =
        word_of (put_slot t i r) (slot_width * i) _ _ _ _
        (put_byte (slot_width * i) 0 (omega arith) (omega arith))
        (put_byte (slot_width * i + 1) 1 refl (omega arith))
        (put_byte (slot_width * i + 2) 2 refl (omega arith))
        (put_byte (slot_width * i + 3) 3 refl (omega arith))
        ∙ word_back (of_z w32 r.at.a) (Fits-of_z {w = w32} {z = r.at.a} w.a-fits).fits

    put_b : word_at (put_slot t i r) (slot_width * i + 4) ≡ of_z w32 r.at.b
    unfolding record_bytes
    put_b =
        word_of (put_slot t i r) (slot_width * i + 4) _ _ _ _
        (put_byte (slot_width * i + 4) 4 refl (omega arith))
        (put_byte (slot_width * i + 4 + 1) 5 (omega arith) (omega arith))
        (put_byte (slot_width * i + 4 + 2) 6 (omega arith) (omega arith))
        (put_byte (slot_width * i + 4 + 3) 7 (omega arith) (omega arith))
        ∙ word_back (of_z w32 r.at.b) (Fits-of_z {w = w32} {z = r.at.b} w.b-fits).fits

    pub put_same : slot_at (put_slot t i r) i ≡ Some r
    unfolding slot_at record_at record_bytes
    put_same =
        let u = put_slot t i r in
        let ea : signed (word_at u (slot_width * i)) ≡ r.at.a = ap signed put_a ∙ to_z-of_z {w = w32} {z = r.at.a} w.a-fits in
        let eb : signed (word_at u (slot_width * i + 4)) ≡ r.at.b = ap signed put_b ∙ to_z-of_z {w = w32} {z = r.at.b} w.b-fits in
        ap (λ (x : Bool). cond x None (Some (record_at u (slot_width * i)))) put-taken
        ∙ ap Some (λ k. record {
          at = pt (ea k) (eb k) (put_byte (slot_width * i + 8) 8 refl (omega arith) k);
          d = put_byte (slot_width * i + 9) 9 refl (omega arith) k;
          k = put_byte (slot_width * i + 10) 10 refl (omega arith) k;
          n = record { 0 = put_byte (slot_width * i + 11) 11 refl (omega arith) k };
        })

-- ---- the count of free slots, slot by slot

pub free-none : (f : ℕ → Option Record) → 0 ≡ free_below f 0
unfolding free_below
free-none f = refl

pub free_more : (f : ℕ → Option Record) (i : ℕ) {k b : ℕ} → k ≡ free_below f i → b ≡ is_free (f i) → k + b ≡ free_below f (i + 1)
unfolding free_below
free_more f i {k} {b} a c = let e : suc i ≡ i + 1 = omega arith in rw (a, c) (ap (free_below f) e)

-- ---- a cleared table

pub cleared-free : (l i : ℕ) → slot_width * i + slot_width ≤ l → slot_at (replicate l 255) i ≡ None
unfolding slot_at free_at
cleared-free l i h =
    let b : (c : ℕ) → c < slot_width
    → ◌≡◌ {A = ℕ} (get_or (replicate l 255) (slot_width * i + c) 0) 255 = λ c k. get_or-replicate l (slot_width * i + c) 255 0 (omega arith) in
    rw (
      b 0 (omega arith),
      b 1 (omega arith),
      b 2 (omega arith),
      b 3 (omega arith),
      b 4 (omega arith),
      b 5 (omega arith),
      b 6 (omega arith),
      b 7 (omega arith),
      b 8 (omega arith),
      b 9 (omega arith),
      b 10 (omega arith),
      b 11 (omega arith),
    )
