-- What reading a number obeys: a written number is read back, and only a written number is read.
-- `Stands` bytes stand at a position of a file · `number-write`, `number_read`, `signed-write`, `signed-read` the two laws, without a sign and with one ·
-- `Scanned` where a reader of digits is, with `scan-..` what each byte does to it.
-- Assumes nothing.
use Rattle.std.specs.Prelude.{◌≡◌, refl, Bool, ◌&&◌, ℕ, zero, suc, ◌+◌, ◌*◌, ◌≤◌, ◌<◌, ◌-◌, ltb, ℤ, neg_ℤ, pos, negsuc, nat_abs, get_or, drop, Option, Some, None}
use Rattle.std.proofs.Math.Path.{sym, ap}
use Rattle.std.proofs.Common.{◌∙◌, subst, add-one, length-append, drop_of_length-le, drop-cons, drop-drop}
use Rattle.std.proofs.Math.Bool.{true, false, cond}
use mathlib.Core.List.{List, [], ◌∷◌, ◌++◌, append_assoc}
use native.Mathlib.Omega.{arith}
use Rattle.std.proofs.Math.Decide.{dec_lt}
use borrow.Author.Tests.{le-leb, lt-leb, eq-eqb, ne_eqb, leb-true, eqb-true}
use Rattle.std.proofs.Math.Dec.{eqb, leb}
use Rattle.std.proofs.Math.ListN.{length}
use Rattle.std.proofs.Math.Seq.{drop-nil, drop-append_seam, append_snoc}
use Rattle.laws.specs.Each.{never, both_left, both_right}
use Rattle.text.specs.Decimal.{digits, numeral, ended, minus}
use Rattle.text.specs.Reading.{is_digit, run, value, plain, plainly, begins, number_of, number_at, as_whole, as_minus, signed_at}
use Rattle.text.specs.DecimalLaws.{Digits, none, more, digits_are, digits-some, digits_value, value-digits, value_grows, digits-plain, digit_low}

-- ---- bytes at a position

-- the bytes xs stand at p, and end at q
pub record Stands (t : List ℕ) (p : ℕ) (xs : List ℕ) (q : ℕ) : Type 0 where
  pub here : drop p t ≡ xs ++ drop q t
  pub past : q ≡ p + length xs

pub stands-rest : (t xs rest : List ℕ) (p : ℕ) → drop p t ≡ xs ++ rest → drop (p + length xs) t ≡ rest
stands-rest t xs rest p e = sym (drop-drop (length xs) p t) ∙ ap (drop (length xs)) e ∙ drop-append_seam xs rest

pub stands_at : (t xs rest : List ℕ) (p : ℕ) → drop p t ≡ xs ++ rest → Stands t p xs (p + length xs)
stands_at t xs rest p e = record { here = e ∙ ap (λ (l : List ℕ). xs ++ l) (sym (stands-rest t xs rest p e)); past = refl }

pub stands-join : {t xs ys : List ℕ} {p q r : ℕ} → Stands t p xs q → Stands t q ys r → Stands t p (xs ++ ys) r
stands-join {t} {xs} {ys} {p} {q} {r} s u =
    record {
      here = s.here ∙ ap (λ (l : List ℕ). xs ++ l) u.here ∙ sym (append_assoc xs ys (drop r t));
      past = omega (arith, s.past, u.past, length-append xs ys);
    }

pub stands-first : {t : List ℕ} (xs ys : List ℕ) {p r : ℕ} → Stands t p (xs ++ ys) r → Stands t p xs (p + length xs)
stands-first {t} xs ys {p} {r} s = stands_at t xs (ys ++ drop r t) p (s.here ∙ append_assoc xs ys (drop r t))

pub stands-then : {t : List ℕ} (xs ys : List ℕ) {p r : ℕ} → Stands t p (xs ++ ys) r → Stands t (p + length xs) ys r
stands-then {t} xs ys {p} {r} s =
    record {
      here = stands-rest t xs (ys ++ drop r t) p (s.here ∙ append_assoc xs ys (drop r t));
      past = omega (arith, s.past, length-append xs ys);
    }

begins-is : (b : ℕ) (xs : List ℕ) → begins b xs ≡ true → xs ≡ b ∷ drop 1 xs
begins-is b [] h = absurd (never h)
begins-is b (c ∷ xs) h = ap (λ (x : ℕ). x ∷ xs) (eqb-true c b h)

pub begins-within : (b : ℕ) (t : List ℕ) (p : ℕ) → begins b (drop p t) ≡ true → p < length t
begins-within b [] p h = absurd (never (sym (ap (begins b) (drop-nil p)) ∙ h))
begins-within b (c ∷ t) zero h = omega arith
begins-within b (c ∷ t) (suc p) h = omega (arith, begins-within b t p h)

-- a byte that is met stands there
pub stands-byte : (t : List ℕ) (p b : ℕ) → begins b (drop p t) ≡ true → Stands t p (b ∷ []) (p + 1)
stands-byte t p b h = record { here = begins-is b (drop p t) h ∙ ap (λ (l : List ℕ). b ∷ l) (drop-drop 1 p t); past = refl }

pub byte-stands : (t : List ℕ) (p b : ℕ) (rest : List ℕ) → drop p t ≡ b ∷ rest → begins b (drop p t) ≡ true
byte-stands t p b rest e = ap (begins b) e ∙ eq-eqb b b refl

-- ---- the digits that bytes begin with

pub run-digits : (xs : List ℕ) → Digits (run xs)
unfolding run
run-digits [] = none
run-digits (c ∷ xs) = go (is_digit c) refl (run-digits xs)
  where
    go : (b : Bool) → is_digit c ≡ b → Digits (run xs) → Digits (cond b (c ∷ run xs) [])
    go true e k = more e k
    go false e k = none

run-all : (s rest : List ℕ) (stop : ℕ) → Digits s → is_digit stop ≡ false → run (s ++ stop ∷ rest) ≡ s
unfolding run
run-all [] rest stop none h = rw h
run-all (c ∷ xs) rest stop (more e k) h = rw e (ap (λ (l : List ℕ). c ∷ l) (run-all xs rest stop k h))

run-front : (xs : List ℕ) → xs ≡ run xs ++ drop (length (run xs)) xs
unfolding run
run-front [] = refl
run-front (c ∷ xs) = go (is_digit c) (run-front xs)
  where
    go : (b : Bool) → xs ≡ run xs ++ drop (length (run xs)) xs → c ∷ xs ≡ cond b (c ∷ run xs) [] ++ drop (length (cond b (c ∷ run xs) [])) (c ∷ xs)
    go true e = ap (λ (l : List ℕ). c ∷ l) e
    go false e = refl

-- ---- a number, read and written

-- where something is read, what it is and where it ends
pub read-is : {A : Type 0} {x y : A} {r q : ℕ} → ◌≡◌ {A = Option (A × ℕ)} (Some (x, r)) (Some (y, q)) → (x ≡ y) × (r ≡ q)
read-is {A} {x} {y} {r} {q} e =
    let p : ◌≡◌ {A = A × ℕ} (x, r) (y, q) = cc in
    (ap (λ (w : A × ℕ). w.0) p, ap (λ (w : A × ℕ). w.1) p)

natural-is : (b : Bool) (n r v q : ℕ) → ◌≡◌ {A = Option (ℕ × ℕ)} (cond b (Some (n, r)) None) (Some (v, q)) → (b ≡ true) × (n ≡ v) × (r ≡ q)
natural-is true n r v q e = let w = read-is e in (refl, w.0, w.1)
natural-is false n r v q e = absurd (let z : ◌≡◌ {A = ℕ} 0 1 = cc in omega arith)

pub number-most : (t : List ℕ) (p most stop v q : ℕ) → number_at t p most stop ≡ Some (v, q) → v ≤ most
unfolding number_at
number-most t p most stop v q e =
    let s = run (drop p t) in
    let h = natural-is (leb (value 0 s) most && (begins stop (drop (p + length s) t) && plain s)) (value 0 s) (p + length s + 1) v q e in
    subst (λ (n : ℕ). n ≤ most) h.1 (leb-true (value 0 s) most (both_left (leb (value 0 s) most) (begins stop (drop (p + length s) t) && plain s) h.0))

-- only a written number is read
pub number_read : (t : List ℕ) (p most stop v q : ℕ) → number_at t p most stop ≡ Some (v, q) → Stands t p (ended (digits v) stop) q
unfolding number_at
number_read t p most stop v q e =
    let s = run (drop p t) in
    let h = natural-is (leb (value 0 s) most && (begins stop (drop (p + length s) t) && plain s)) (value 0 s) (p + length s + 1) v q e in
    let k = both_right (leb (value 0 s) most) (begins stop (drop (p + length s) t) && plain s) h.0 in
    let spelt : s ≡ digits v = sym (value-digits s (run-digits (drop p t)) (both_right (begins stop (drop (p + length s) t)) (plain s) k)) ∙ ap digits h.1 in
    let front = stands_at t s (drop (length s) (drop p t)) p (run-front (drop p t)) in
    let end = stands-byte t (p + length s) stop (both_left (begins stop (drop (p + length s) t)) (plain s) k) in
    subst (λ (l : List ℕ). Stands t p (ended l stop) q) spelt (subst (Stands t p (ended s stop)) h.2 (stands-join front end))

-- a written number is read back
pub number-write : (t : List ℕ) (p most stop v q : ℕ) → is_digit stop ≡ false → v ≤ most → Stands t p (ended (digits v) stop) q
    → number_at t p most stop ≡ Some (v, q)
unfolding number_at
number-write t p most stop v q h small s =
    let whole : drop p t ≡ digits v ++ stop ∷ drop q t = s.here ∙ append_snoc (digits v) stop (drop q t) in
    let spelt : run (drop p t) ≡ digits v = ap run whole ∙ run-all (digits v) (drop q t) stop (digits_are v) h in
    let met : begins stop (drop (p + length (digits v)) t)
    ≡ true = byte-stands t (p + length (digits v)) stop (drop q t) (stands-rest t (digits v) (stop ∷ drop q t) p whole) in
    let past : p + length (digits v) + 1 ≡ q = omega (arith, s.past, length-append (digits v) (stop ∷ [])) in
    ap (λ (l : List ℕ). number_of l t p most stop) spelt ∙ rw (digits_value v, le-leb v most small, met, digits-plain v) (ap (λ (k : ℕ). Some (v, k)) past)

-- ---- a number with its sign

-- what reading with a sign finds: a minus before a number that is not 0, or a number
minus-read : (t : List ℕ) (p most stop : ℕ) (n : Option (ℕ × ℕ)) (z : ℤ) (q : ℕ) → begins minus (drop p t) ≡ true → number_at t (p + 1) most stop ≡ n
    → as_minus n ≡ Some (z, q) → Stands t p (ended (numeral z) stop) q × (nat_abs z ≤ most)
minus-read t p most stop None z q b e h = absurd (let k : ◌≡◌ {A = ℕ} 0 1 = cc in omega arith)
minus-read t p most stop (Some (zero, r)) z q b e h = absurd (let k : ◌≡◌ {A = ℕ} 0 1 = cc in omega arith)
minus-read t p most stop (Some (suc n, r)) z q b e h =
    let s = stands-join (stands-byte t p minus b) (number_read t (p + 1) most stop (suc n) r e) in
    let w = read-is h in (
      subst (λ (x : ℤ). Stands t p (ended (numeral x) stop) q) w.0 (subst (Stands t p (ended (numeral (negsuc n)) stop)) w.1 s),
      subst (λ (x : ℤ). nat_abs x ≤ most) w.0 (number-most t (p + 1) most stop (suc n) r e),
    )

plus-read : (t : List ℕ) (p most stop : ℕ) (n : Option (ℕ × ℕ)) (z : ℤ) (q : ℕ) → number_at t p most stop ≡ n → as_whole n ≡ Some (z, q)
    → Stands t p (ended (numeral z) stop) q × (nat_abs z ≤ most)
plus-read t p most stop None z q e h = absurd (let k : ◌≡◌ {A = ℕ} 0 1 = cc in omega arith)
plus-read t p most stop (Some (n, r)) z q e h =
    let w = read-is h in (
      subst (λ (x : ℤ). Stands t p (ended (numeral x) stop) q) w.0
          (subst (Stands t p (ended (numeral (pos n)) stop)) w.1 (number_read t p most stop n r e)),
      subst (λ (x : ℤ). nat_abs x ≤ most) w.0 (number-most t p most stop n r e),
    )

-- only a written number is read
pub signed-read : (t : List ℕ) (p most stop : ℕ) (z : ℤ) (q : ℕ) → signed_at t p most stop ≡ Some (z, q)
    → Stands t p (ended (numeral z) stop) q × (nat_abs z ≤ most)
unfolding signed_at
signed-read t p most stop z q = go (begins minus (drop p t)) refl
  where
    go : (b : Bool) → begins minus (drop p t) ≡ b → cond b (as_minus (number_at t (p + 1) most stop)) (as_whole (number_at t p most stop)) ≡ Some (z, q)
        → Stands t p (ended (numeral z) stop) q × (nat_abs z ≤ most)
    go true b h = minus-read t p most stop (number_at t (p + 1) most stop) z q b refl h
    go false b h = plus-read t p most stop (number_at t p most stop) z q refl h

-- the two cases of a reader with a sign
pub signed-minus : (t : List ℕ) (p most stop : ℕ) (n : Option (ℕ × ℕ)) → begins minus (drop p t) ≡ true → number_at t (p + 1) most stop ≡ n
    → as_minus n ≡ signed_at t p most stop
unfolding signed_at
signed-minus t p most stop n b e = rw (b, e)

pub signed-plus : (t : List ℕ) (p most stop : ℕ) (n : Option (ℕ × ℕ)) → begins minus (drop p t) ≡ false → number_at t p most stop ≡ n
    → as_whole n ≡ signed_at t p most stop
unfolding signed_at
signed-plus t p most stop n b e = rw (b, e)

pub minus-none : (n q : ℕ) → n ≡ 0 → None ≡ as_minus (Some (n, q))
minus-none zero q e = refl
minus-none (suc n) q e = absurd (omega arith)

pub minus-some : (n q : ℕ) → (n ≡ 0 → ⊥) → Some (neg_ℤ (pos n), q) ≡ as_minus (Some (n, q))
minus-some zero q h = absurd (h refl)
minus-some (suc n) q h = refl

no_minus : (s rest : List ℕ) → Digits s → 1 ≤ length s → begins minus (s ++ rest) ≡ false
no_minus [] rest none h = absurd (omega arith)
no_minus (c ∷ s) rest (more e k) h = let low = digit_low c e in ne_eqb c minus (omega arith)

-- a written number is read back
pub signed-write : (t : List ℕ) (p most stop : ℕ) (z : ℤ) (q : ℕ) → is_digit stop ≡ false → nat_abs z ≤ most → Stands t p (ended (numeral z) stop) q
    → signed_at t p most stop ≡ Some (z, q)
unfolding signed_at
signed-write t p most stop (pos n) q h small s =
    let whole : drop p t ≡ digits n ++ stop ∷ drop q t = s.here ∙ append_snoc (digits n) stop (drop q t) in
    let b : begins minus (drop p t) ≡ false = ap (begins minus) whole ∙ no_minus (digits n) (stop ∷ drop q t) (digits_are n) (digits-some n) in
    rw (b, number-write t p most stop n q h small s)
signed-write t p most stop (negsuc n) q h small s =
    let first : begins minus (drop p t) ≡ true = byte-stands t p minus (ended (digits (suc n)) stop ++ drop q t) s.here in
    let rest = stands-then (minus ∷ []) (ended (digits (suc n)) stop) s in
    rw (first, number-write t (p + 1) most stop (suc n) q h small rest)

-- ---- a reader of digits, byte by byte

-- from `at` on, the reader has come to i with the number v
pub record Scanned (t : List ℕ) (at most i v : ℕ) : Type 0 where
  pub from : at ≤ i
  pub small : v ≤ most
  pub long : at + length (run (drop at t)) ≡ i + length (run (drop i t))
  pub counts : value 0 (run (drop at t)) ≡ value v (run (drop i t))
  pub first : at < i → get_or (run (drop at t)) 0 0 ≡ get_or t at 0

run_step : (t : List ℕ) (i : ℕ) → i < length t → is_digit (get_or t i 0) ≡ true → run (drop i t) ≡ get_or t i 0 ∷ run (drop (i + 1) t)
unfolding run
run_step t i h e = ap run (drop-cons t i 0 h) ∙ rw e (ap (λ (k : ℕ). get_or t i 0 ∷ run (drop k t)) (sym (add-one i)))

run-stop : (t : List ℕ) (i : ℕ) → i < length t → is_digit (get_or t i 0) ≡ false → run (drop i t) ≡ []
unfolding run
run-stop t i h e = ap run (drop-cons t i 0 h) ∙ rw e

run_past : (t : List ℕ) (i : ℕ) → length t ≤ i → run (drop i t) ≡ []
unfolding run
run_past t i h = ap run (drop_of_length-le t {i = i} h)

unended : (a c : Bool) (x : Option (ℕ × ℕ)) → None ≡ cond (a && (false && c)) x None
unended true c x = refl
unended false c x = refl

-- no digit makes no number, whatever byte stands there
first_plain : (x y at i : ℕ) → (at < i → x ≡ y) → plainly x (i - at) ≡ plainly y (i - at)
first_plain x y at i h = go (dec_lt at i)
  where
    nothing : (b : Bool) → cond b (eqb 0 1) (ltb 0 0) ≡ false
    nothing true = refl
    nothing false = refl

    go : Dec (at < i) → plainly x (i - at) ≡ plainly y (i - at)
    go (yes l) = ap (λ (c : ℕ). plainly c (i - at)) (h l)
    go (no l) =
        let e : i - at ≡ 0 = omega arith in
        ap (plainly x) e ∙ nothing (eqb x 48) ∙ sym (nothing (eqb y 48)) ∙ sym (ap (plainly y) e)

module _ (t : List ℕ) (at most i v : ℕ) (r : Scanned t at most i v) where
  pub scan-next : i < length t → is_digit (get_or t i 0) ≡ true → value 0 (run (drop at t)) ≡ value (v * 10 + (get_or t i 0 - 48)) (run (drop (i + 1) t))
  unfolding value
  scan-next h e = r.counts ∙ ap (value v) (run_step t i h e)

  -- a digit that keeps the number small
  pub scan-goes : i < length t → is_digit (get_or t i 0) ≡ true → v * 10 + (get_or t i 0 - 48) ≤ most → Scanned t at most (i + 1) (v * 10 + (get_or t i 0 - 48))
  scan-goes h e s =
      record {
        from = omega (arith, r.from);
        small = s;
        long = r.long ∙ omega (arith, ap length (run_step t i h e));
        counts = scan-next h e;
        first = λ k. go (dec_lt at i);
      }
    where
      go : Dec (at < i) → get_or (run (drop at t)) 0 0 ≡ get_or t at 0
      go (yes l) = r.first l
      go (no l) =
          let same : i ≡ at = omega (arith, r.from) in
          subst (λ (j : ℕ). get_or (run (drop j t)) 0 0 ≡ get_or t j 0) same (ap (λ (s : List ℕ). get_or s 0 0) (run_step t i h e))

  -- a digit that takes it above what is wanted: so is the whole
  pub scan-over : (stop : ℕ) → i < length t → is_digit (get_or t i 0) ≡ true → most < v * 10 + (get_or t i 0 - 48) → None ≡ number_at t at most stop
  unfolding number_at
  scan-over stop h e s =
      let over : most < value 0 (run (drop at t)) = omega (arith, scan-next h e, value_grows (v * 10 + (get_or t i 0 - 48)) (run (drop (i + 1) t))) in
      rw (lt-leb (value 0 (run (drop at t))) most over)

  -- the file's end: no byte ends the number
  pub scan-lacks : (stop : ℕ) → length t ≤ i → None ≡ number_at t at most stop
  unfolding number_at
  scan-lacks stop h =
      let s = run (drop at t) in
      let long : at + length s ≡ i = r.long ∙ ap (λ (l : List ℕ). i + length l) (run_past t i h) ∙ omega arith in
      let off : begins stop (drop (at + length s) t) ≡ false = ap (λ (k : ℕ). begins stop (drop k t)) long ∙ ap (begins stop) (drop_of_length-le t {i = i} h) in
      unended (leb (value 0 s) most) (plain s) (Some (value 0 s, at + length s + 1))
      ∙ (λ j. cond (leb (value 0 s) most && (sym off j && plain s)) (Some (value 0 s, at + length s + 1)) None)

  -- a byte that is no digit: it is to be the one that ends the number
  pub scan-ends : (stop : ℕ) → i < length t → is_digit (get_or t i 0) ≡ false
      → cond (eqb (get_or t i 0) stop && plainly (get_or t at 0) (i - at)) (Some (v, i + 1)) None ≡ number_at t at most stop
  unfolding number_at value
  scan-ends stop h e =
      let s = run (drop at t) in
      let none = run-stop t i h e in
      let long : at + length s ≡ i = r.long ∙ ap (λ (l : List ℕ). i + length l) none ∙ omega arith in
      let counts : value 0 s ≡ v = r.counts ∙ ap (value v) none in
      let fits : leb (value 0 s) most ≡ true = ap (λ (n : ℕ). leb n most) counts ∙ le-leb v most r.small in
      let next : begins stop (drop (at + length s) t) ≡ eqb (get_or t i 0) stop = ap (λ (k : ℕ). begins stop (drop k t)) long
      ∙ ap (begins stop) (drop-cons t i 0 h) in
      let size : length s ≡ i - at = omega arith in
      let form : plain s ≡ plainly (get_or t at 0) (i - at) = ap (plainly (get_or s 0 0)) size ∙ first_plain (get_or s 0 0) (get_or t at 0) at i r.first in
      sym (λ j. cond (fits j && (next j && form j)) (Some (counts j, long j + 1)) None)
