-- The texts of a census, part by part: `header_is` the bytes of the header, `refused-is` the line of a refusal · `Rowed`, `rowed-start`,
-- `rowed-room`, `rowed-more`, `rowed-all` numbers written one by one · `Measured`, `measured-start`, `measured-more`, `measured-all` their width ·
-- `put-short`, `put-done` a text refused with 13, or written.
-- Assumes nothing.
use Rattle.std.specs.Prelude.{◌≡◌, refl, Bool, List, [], ◌∷◌, ◌++◌, ℕ, zero, suc, ◌+◌, ◌*◌, ◌≤◌, ◌<◌, eqb, get_or}
use Rattle.std.proofs.Common.{sym, ◌∙◌, append_assoc, append-nil, lt-ltb, le-ltb, eq-eqb, ne_eqb, length-append}
use Rattle.std.proofs.Math.Path.{ap}
use Rattle.std.proofs.Math.Bool.{cond}
use native.Mathlib.Omega.{arith}
use Rattle.std.proofs.Math.Decide.{ℕ_discrete}
use Rattle.std.proofs.Math.ListN.{length, drop}
use Rattle.std.proofs.lemmas.List.Edits.{sets}
use Rattle.std.proofs.Math.Seq.{sets-eq, length-sets}
use Rattle.laws.specs.Stores.{Wrote, wrote_then}
use Rattle.text.specs.Decimal.{tab, feed, digits_by, digits, ended}
use Rattle.census_text.specs.Census.{tabbed, header, row, refused_text, put, put_text}

-- ---- the first part of each text, as the code has it

pub header_is : header ≡ 86 ∷ 9 ∷ 69 ∷ 9 ∷ 70 ∷ 9 ∷ 100 ∷ 48 ∷ 9 ∷ 100 ∷ 51 ∷ 9 ∷ 100 ∷ 52 ∷ 9 ∷ 100 ∷ 53 ∷ 9 ∷ 100 ∷ 54 ∷ 10 ∷ []
unfolding header tabbed digits digits_by
header_is = refl

pub refused-is : (number line : ℕ) → (114 ∷ 101 ∷ 102 ∷ 117 ∷ 115 ∷ 101 ∷ 100 ∷ 9 ∷ []) ++ row (number ∷ line ∷ []) ≡ refused_text number line
unfolding tabbed
refused-is number line = refl

-- ---- a line of numbers, one by one

-- the byte after number i of n
abbrev pub stop_at : ℕ → ℕ → ℕ
stop_at n i = cond (eqb (i + 1) n) feed tab

row_from : (ns : List ℕ) (i : ℕ) → i < length ns → row (drop i ns) ≡ ended (digits (get_or ns i 0)) (stop_at (length ns) i) ++ row (drop (suc i) ns)
unfolding tabbed
row_from [] i h = absurd (omega arith)
row_from (n ∷ []) zero h = refl
row_from (n ∷ m ∷ ns) zero h =
    let ne : 0 + 1 ≡ suc (suc (length ns)) → ⊥ = λ e. omega arith in
    ap (λ (b : Bool). ended (digits n) (cond b feed tab) ++ row (m ∷ ns)) (sym (ne_eqb (0 + 1) (suc (suc (length ns))) ne))
row_from (n ∷ ns) (suc i) h =
    row_from ns i (omega arith) ∙ ap (λ (s : ℕ). ended (digits (get_or ns i 0)) s ++ row (drop (suc i) ns)) (same_stop (ℕ_discrete (i + 1) (length ns)))
  where
    same_stop : Dec (i + 1 ≡ length ns) → stop_at (length ns) i ≡ stop_at (suc (length ns)) (suc i)
    same_stop (yes e) =
        let f : suc i + 1 ≡ suc (length ns) = omega arith in
        ap (λ (b : Bool). cond b feed tab) (eq-eqb (i + 1) (length ns) e ∙ sym (eq-eqb (suc i + 1) (suc (length ns)) f))
    same_stop (no e) =
        let f : suc i + 1 ≡ suc (length ns) → ⊥ = λ x. e (omega arith) in
        ap (λ (b : Bool). cond b feed tab) (ne_eqb (i + 1) (length ns) e ∙ sym (ne_eqb (suc i + 1) (suc (length ns)) f))

row_next : (ns : List ℕ) (i : ℕ) → i < length ns → row (drop i ns) ≡ ended (digits (get_or ns i 0)) (stop_at (length ns) i) ++ row (drop (i + 1) ns)
row_next ns i h =
    let e : suc i ≡ i + 1 = omega arith in row_from ns i h ∙ ap (λ (k : ℕ). ended (digits (get_or ns i 0)) (stop_at (length ns) i) ++ row (drop k ns)) e

none_left : (ns : List ℕ) (i : ℕ) → length ns ≤ i → row (drop i ns) ≡ []
unfolding tabbed
none_left [] zero h = refl
none_left [] (suc i) h = refl
none_left (n ∷ ns) zero h = absurd (omega arith)
none_left (n ∷ ns) (suc i) h = none_left ns i (omega arith)

-- the first i numbers of ns were written at p of o, which left o'; q is the position past them
pub record Rowed (o : List ℕ) (p : ℕ) (ns : List ℕ) (i : ℕ) (o' : List ℕ) (q : ℕ) : Type 0 where
  pub most : i ≤ length ns
  pub part : List ℕ
  pub wrote : Wrote o p part o' q
  pub rest : part ++ row (drop i ns) ≡ row ns

pub rowed-start : (o : List ℕ) (p : ℕ) (ns : List ℕ) → Rowed o p ns 0 o p
rowed-start o p ns = record { most = omega arith; part = []; wrote = record { bytes = refl; past = omega arith }; rest = refl }

module _ (o : List ℕ) (p : ℕ) (ns : List ℕ) (i : ℕ) (o' : List ℕ) (q : ℕ) (r : Rowed o p ns i o' q) where
  pub rowed-long : length o' ≡ length o
  rowed-long = ap length r.wrote.bytes ∙ length-sets o p r.part

  -- the next number has room where all have
  pub rowed-room : i < length ns → p + length (row ns) ≤ length o → q + length (ended (digits (get_or ns i 0)) (stop_at (length ns) i)) ≤ length o'
  rowed-room h room =
      let w = ended (digits (get_or ns i 0)) (stop_at (length ns) i) in
      omega (
        arith,
        rowed-long,
        r.wrote.past,
        ap length r.rest,
        length-append r.part (row (drop i ns)),
        ap length (row_next ns i h),
        length-append w (row (drop (i + 1) ns)),
      )

  pub rowed-more : i < length ns → (o₂ : List ℕ) (q₂ : ℕ) → Wrote o' q (ended (digits (get_or ns i 0)) (stop_at (length ns) i)) o₂ q₂ → Rowed o p ns (i + 1) o₂ q₂
  rowed-more h o₂ q₂ w =
      record {
        most = omega arith;
        part = r.part ++ ended (digits (get_or ns i 0)) (stop_at (length ns) i);
        wrote = wrote_then r.wrote w;
        rest = append_assoc r.part (ended (digits (get_or ns i 0)) (stop_at (length ns) i)) (row (drop (i + 1) ns))
            ∙ ap (λ (l : List ℕ). r.part ++ l) (sym (row_next ns i h)) ∙ r.rest;
      }

  pub rowed-all : length ns ≤ i → Wrote o p (row ns) o' q
  rowed-all h =
      let e : r.part ≡ row ns = sym (append-nil r.part) ∙ ap (λ (l : List ℕ). r.part ++ l) (sym (none_left ns i h)) ∙ r.rest in
      record { bytes = r.wrote.bytes ∙ ap (sets o p) e; past = r.wrote.past ∙ ap (λ (l : List ℕ). p + length l) e }

-- w is the width of the first i numbers of ns, with the byte after each
pub record Measured (ns : List ℕ) (i w : ℕ) : Type 0 where
  pub below : i ≤ length ns
  pub is : w + length (row (drop i ns)) ≡ length (row ns)
  pub most : w ≤ 11 * i

pub measured-start : (ns : List ℕ) → Measured ns 0 0
measured-start ns = record { below = omega arith; is = omega arith; most = omega arith }

pub measured-more : (ns : List ℕ) (i w x : ℕ) → Measured ns i w → i < length ns → x ≡ length (digits (get_or ns i 0)) → x ≤ 10 → Measured ns (i + 1) (w + x + 1)
measured-more ns i w x m h e k =
    let d = digits (get_or ns i 0) in
    let s = stop_at (length ns) i in
    record {
      below = omega arith;
      is = omega (arith, m.is, ap length (row_next ns i h), length-append (ended d s) (row (drop (i + 1) ns)), length-append d (s ∷ []), e);
      most = omega (arith, m.most);
    }

pub measured-all : (ns : List ℕ) (i w : ℕ) → Measured ns i w → length ns ≤ i → w ≡ length (row ns)
measured-all ns i w m h = omega (arith, m.is, ap length (none_left ns i h))

-- ---- a text written, or refused

module _ (number : ℕ) (text o : List ℕ) where
  pub put-short : length o < length text → put 13 0 o ≡ put_text number text o
  unfolding put_text
  put-short h = ap (λ (b : Bool). cond b (put 13 0 o) (put number (length text) (text ++ drop (length text) o))) (sym (lt-ltb (length o) (length text) h))

  pub put-done : length text ≤ length o → (o' : List ℕ) (q : ℕ) → Wrote o 0 text o' q → put number (length text) o' ≡ put_text number text o
  unfolding put_text
  put-done h o' q w =
      let e : 0 + length text ≡ length text = omega arith in
      let room : 0 + length text ≤ length o = omega arith in
      ap (put number (length text)) (w.bytes ∙ sets-eq text o 0 room ∙ ap (λ (k : ℕ). text ++ drop k o) e)
      ∙ ap (λ (b : Bool). cond b (put 13 0 o) (put number (length text) (text ++ drop (length text) o))) (sym (le-ltb (length o) (length text) h))
