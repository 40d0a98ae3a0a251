-- What the written numbers obey: the digits of a number are those of its tens and its last, so every law goes by tens.
-- `digits-small`, `digits_more` the two cases · `by-tens` induction · `Digits` bytes that are digits, `digits_are` · `digits_value` what the digits
-- count, `value-digits` the number that digits without a leading zero write · `digits-plain` no leading zero · `width_above`, `width-below`,
-- `digits-some`, `width-tens`, `width-log` how many there are · `numeral-minus`, `numeral-plus` the sign.
-- Assumes nothing.
use Rattle.std.specs.Prelude.{◌≡◌, refl, Bool, true, false, cond, List, [], ◌∷◌, ◌++◌, ℕ, zero, suc, ◌+◌, ◌*◌, ◌%◌, ◌/◌, ◌≤◌, ◌<◌, ◌-◌, ◌^◌, max, eqb, ltb, leb, ℤ, pos, negsuc, nat_abs, length, get_or}
use Rattle.std.proofs.Common.{sym, ◌∙◌, subst, ap, append-nil, append_assoc, arith, lt-ltb, le-ltb, le-leb, eq-eqb, ne_eqb, leb-true, ltb-true, length-append}
use Rattle.std.proofs.Math.Decide.{dec_lt, ℕ_discrete}
use Rattle.std.proofs.Math.Nat.{pow-succ', one-le-pow}
use Rattle.std.specs.Int.Signed.{lt_z}
use Rattle.std.proofs.Math.ListN.{get_or-append}
use Rattle.laws.specs.Each.{never, both_left, both_right}
use Rattle.text.specs.Decimal.{minus, digit, digits_by, digits, numeral}
use Rattle.text.specs.Reading.{is_digit, value, plain}

-- more steps than n give the same digits
enough : (f g n : ℕ) → n ≤ f → n ≤ g → digits_by f n ≡ digits_by g n
unfolding digits_by
enough zero zero n h k = refl
enough zero (suc g) n h k =
    let e : n < 10 = omega arith in
    rw (lt-ltb n 10 e)
enough (suc f) zero n h k =
    let e : n < 10 = omega arith in
    rw (lt-ltb n 10 e)
enough (suc f) (suc g) n h k =
    let tens : n / 10 ≤ f = omega arith in
    let tens' : n / 10 ≤ g = omega arith in
    ap (λ (l : List ℕ). cond (ltb n 10) (digit n ∷ []) (l ++ digit (n % 10) ∷ [])) (enough f g (n / 10) tens tens')

pub digits-small : (n : ℕ) → n < 10 → digits n ≡ digit n ∷ []
unfolding digits digits_by
digits-small zero h = refl
digits-small (suc n) h = rw (lt-ltb (suc n) 10 h)

pub digits_more : (n : ℕ) → 10 ≤ n → digits n ≡ digits (n / 10) ++ digit (n % 10) ∷ []
unfolding digits digits_by
digits_more zero h = absurd (omega arith)
digits_more (suc n) h =
    let tens : suc n / 10 ≤ n = omega arith in
    let same : suc n / 10 ≤ suc n / 10 = omega arith in
    rw (le-ltb (suc n) 10 h) (ap (λ (l : List ℕ). l ++ digit (suc n % 10) ∷ []) (enough n (suc n / 10) (suc n / 10) tens same))

-- what holds of the numbers below ten, and of a number where it holds of its tens, holds of all
pub by-tens : (P : ℕ → Type 0) → ((n : ℕ) → n < 10 → P n) → ((n : ℕ) → 10 ≤ n → P (n / 10) → P n) → (n : ℕ) → P n
by-tens P small more n = go n n (omega arith)
  where
    pick : (f n : ℕ) → n ≤ suc f → ((m : ℕ) → m ≤ f → P m) → Dec (n < 10) → P n
    pick f n h r (yes l) = small n l
    pick f n h r (no l) = more n (omega arith) (r (n / 10) (omega arith))

    go : (f n : ℕ) → n ≤ f → P n
    go zero n h = small n (omega arith)
    go (suc f) n h = pick f n h (go f) (dec_lt n 10)

-- ---- bytes that are digits

pub data Digits : List ℕ → Type 0 where
  none : Digits []
  more : {c : ℕ} {xs : List ℕ} → is_digit c ≡ true → Digits xs → Digits (c ∷ xs)

pub digits-join : {xs ys : List ℕ} → Digits xs → Digits ys → Digits (xs ++ ys)
digits-join none k = k
digits-join (more e h) k = more e (digits-join h k)

digit-is : (d : ℕ) → d < 10 → is_digit (digit d) ≡ true
digit-is d h =
    let low : 48 ≤ 48 + d = omega arith in
    let high : 48 + d ≤ 57 = omega arith in
    rw (le-leb 48 (48 + d) low, le-leb (48 + d) 57 high)

pub digits_are : (n : ℕ) → Digits (digits n)
digits_are =
    by-tens (λ n. Digits (digits n))
    (λ n h. subst Digits (sym (digits-small n h)) (more (digit-is n h) none))
    (λ n h r. subst Digits (sym (digits_more n h)) (digits-join r (more (digit-is (n % 10) (omega arith)) none)))

-- a digit is a byte of 48 to 57
pub digit_low : (c : ℕ) → is_digit c ≡ true → 48 ≤ c
digit_low c e = leb-true 48 c (both_left (leb 48 c) (leb c 57) e)

pub digit-high : (c : ℕ) → is_digit c ≡ true → c ≤ 57
digit-high c e = leb-true c 57 (both_right (leb 48 c) (leb c 57) e)

-- ---- what digits count

pub value-join : (v : ℕ) (xs ys : List ℕ) → value v (xs ++ ys) ≡ value (value v xs) ys
unfolding value
value-join v [] ys = refl
value-join v (x ∷ xs) ys = value-join (v * 10 + (x - 48)) xs ys

one_more : (v d : ℕ) → value v (digit d ∷ []) ≡ v * 10 + d
unfolding value
one_more v d = omega arith

-- the digits of n count n
pub digits_value : (n : ℕ) → value 0 (digits n) ≡ n
digits_value =
    by-tens (λ n. value 0 (digits n) ≡ n)
    (λ n h. ap (value 0) (digits-small n h) ∙ one_more 0 n ∙ omega arith)
    (λ n h r. ap (value 0) (digits_more n h) ∙ value-join 0 (digits (n / 10)) (digit (n % 10) ∷ []) ∙ ap (λ (v : ℕ). value v (digit (n % 10) ∷ [])) r
    ∙ one_more (n / 10) (n % 10) ∙ omega arith)

pub value_grows : (v : ℕ) (s : List ℕ) → v ≤ value v s
unfolding value
value_grows v [] = omega arith
value_grows v (x ∷ xs) = let h = value_grows (v * 10 + (x - 48)) xs in omega arith

-- a digit written behind a number that is not 0
behind : (v c : ℕ) → 0 < v → is_digit c ≡ true → digits (v * 10 + (c - 48)) ≡ digits v ++ c ∷ []
behind v c h e =
    let low = digit_low c e in
    let high = digit-high c e in
    let big : 10 ≤ v * 10 + (c - 48) = omega arith in
    let tens : (v * 10 + (c - 48)) / 10 ≡ v = omega arith in
    let last : 48 + (v * 10 + (c - 48)) % 10 ≡ c = omega arith in
    digits_more (v * 10 + (c - 48)) big ∙ (λ i. digits (tens i) ++ last i ∷ [])

value-behind : (v : ℕ) (s : List ℕ) → 0 < v → Digits s → digits (value v s) ≡ digits v ++ s
unfolding value
value-behind v [] h none = sym (append-nil (digits v))
value-behind v (c ∷ xs) h (more e k) =
    let up : 0 < v * 10 + (c - 48) = omega arith in
    value-behind (v * 10 + (c - 48)) xs up k ∙ ap (λ (l : List ℕ). l ++ xs) (behind v c h e) ∙ append_assoc (digits v) (c ∷ []) xs

-- digits without a leading zero are those of what they count
pub value-digits : (s : List ℕ) → Digits s → plain s ≡ true → digits (value 0 s) ≡ s
unfolding value
value-digits [] none p = absurd (never p)
value-digits (c ∷ xs) (more e k) p = go (ℕ_discrete c 48) xs k p
  where
    go : Dec (c ≡ 48) → (ys : List ℕ) → Digits ys → plain (c ∷ ys) ≡ true → digits (value (0 * 10 + (c - 48)) ys) ≡ c ∷ ys
    go (yes z) [] k p =
        let v : 0 * 10 + (c - 48) ≡ 0 = omega arith in
        ap digits v ∙ digits-small 0 (omega arith) ∙ ap (λ (b : ℕ). b ∷ []) (sym z)
    go (yes z) (y ∷ ys) k p =
        absurd (never (sym (ne_eqb (suc (suc (length ys))) 1 (omega arith))
        ∙ sym (ap (λ (b : Bool). cond b (eqb (suc (suc (length ys))) 1) (ltb 0 (suc (suc (length ys))))) (eq-eqb c 48 z)) ∙ p))
    go (no z) ys k p =
        let low = digit_low c e in
        let high = digit-high c e in
        let up : 0 < 0 * 10 + (c - 48) = omega arith in
        let small : 0 * 10 + (c - 48) < 10 = omega arith in
        let back : 48 + (0 * 10 + (c - 48)) ≡ c = omega arith in
        value-behind (0 * 10 + (c - 48)) ys up k ∙ ap (λ (l : List ℕ). l ++ ys) (digits-small (0 * 10 + (c - 48)) small) ∙ ap (λ (b : ℕ). b ∷ ys) back

-- ---- how many digits, and the first

pub digits-some : (n : ℕ) → 1 ≤ length (digits n)
digits-some =
    by-tens (λ n. 1 ≤ length (digits n))
    (λ n h. omega (arith, ap length (digits-small n h)))
    (λ n h r. omega (arith, ap length (digits_more n h), length-append (digits (n / 10)) (digit (n % 10) ∷ [])))

pub more-length : (n : ℕ) → 10 ≤ n → length (digits n) ≡ length (digits (n / 10)) + 1
more-length n h = ap length (digits_more n h) ∙ length-append (digits (n / 10)) (digit (n % 10) ∷ [])

digits-first : (n : ℕ) → 0 < n → 48 < get_or (digits n) 0 0
digits-first =
    by-tens (λ n. 0 < n → 48 < get_or (digits n) 0 0)
    (λ n h p. omega (arith, ap (λ (l : List ℕ). get_or l 0 0) (digits-small n h)))
    (λ n h r p.
    let tens : 0 < n / 10 = omega arith in
    let some : 0 < length (digits (n / 10)) = digits-some (n / 10) in
    omega (arith, r tens, ap (λ (l : List ℕ). get_or l 0 0) (digits_more n h) ∙ get_or-append (digits (n / 10)) (digit (n % 10) ∷ []) 0 0 some))

-- no leading zero
pub digits-plain : (n : ℕ) → plain (digits n) ≡ true
digits-plain zero = ap plain (digits-small 0 (omega arith))
digits-plain (suc n) =
    let first = digits-first (suc n) (omega arith) in
    let off : get_or (digits (suc n)) 0 0 ≡ 48 → ⊥ = omega arith in
    rw (ne_eqb (get_or (digits (suc n)) 0 0) 48 off) (lt-ltb 0 (length (digits (suc n))) (digits-some (suc n)))

-- a number from a power of ten on has more digits than the power has zeros, and one below it has no more
pub width_above : (w n : ℕ) → 10 ^ w ≤ n → w < length (digits n)
width_above zero n h = digits-some n
width_above (suc w) n h =
    let p = pow-succ' 10 w in
    let one = one-le-pow w 10 (omega arith) in
    let tens : 10 ^ w ≤ n / 10 = omega arith in
    omega (arith, width_above w (n / 10) tens, more-length n (omega arith))

pub width-below : (w n : ℕ) → 0 < w → n < 10 ^ w → length (digits n) ≤ w
width-below zero n z h = absurd (omega arith)
width-below (suc zero) n z h = omega (arith, ap length (digits-small n h))
width-below (suc (suc w)) n z h = go (λ l. width-below (suc w) (n / 10) (omega arith) l) (dec_lt n 10)
  where
    go : (n / 10 < 10 ^ suc w → length (digits (n / 10)) ≤ suc w) → Dec (n < 10) → length (digits n) ≤ suc (suc w)
    go r (yes l) = omega (arith, ap length (digits-small n l))
    go r (no l) =
        let p = pow-succ' 10 (suc w) in
        let tens : n / 10 < 10 ^ suc w = omega arith in
        omega (arith, r tens, more-length n (omega arith))

-- the same below a million, by how many of the numbers before a power of ten it is past
abbrev pub over : ℕ → ℕ → ℕ
over most n = cond (ltb most n) 1 0

is-over : (most n : ℕ) → most < n → over most n ≡ 1
is-over most n h = rw (lt-ltb most n h)

not-over : (most n : ℕ) → n ≤ most → over most n ≡ 0
not-over most n h = rw (le-ltb most n h)

pub width-tens : (n : ℕ) → n < 1000000 → 1 + over 9 n + over 99 n + over 999 n + over 9999 n + over 99999 n ≡ length (digits n)
width-tens n top = go (dec_lt 9 n) (dec_lt 99 n) (dec_lt 999 n) (dec_lt 9999 n) (dec_lt 99999 n)
  where
    go : Dec (9 < n) → Dec (99 < n) → Dec (999 < n) → Dec (9999 < n) → Dec (99999 < n)
        → 1 + over 9 n + over 99 n + over 999 n + over 9999 n + over 99999 n ≡ length (digits n)
    go (no h) b c d e = omega (
      arith,
      not-over 9 n (omega arith),
      not-over 99 n (omega arith),
      not-over 999 n (omega arith),
      not-over 9999 n (omega arith),
      not-over 99999 n (omega arith),
      digits-some n,
      width-below 1 n (omega arith) (omega arith),
    )
    go (yes h) (no i) c d e = omega (
      arith,
      is-over 9 n h,
      not-over 99 n (omega arith),
      not-over 999 n (omega arith),
      not-over 9999 n (omega arith),
      not-over 99999 n (omega arith),
      width_above 1 n (omega arith),
      width-below 2 n (omega arith) (omega arith),
    )
    go (yes h) (yes i) (no j) d e = omega (
      arith,
      is-over 9 n h,
      is-over 99 n i,
      not-over 999 n (omega arith),
      not-over 9999 n (omega arith),
      not-over 99999 n (omega arith),
      width_above 2 n (omega arith),
      width-below 3 n (omega arith) (omega arith),
    )
    go (yes h) (yes i) (yes j) (no k) e = omega (
      arith,
      is-over 9 n h,
      is-over 99 n i,
      is-over 999 n j,
      not-over 9999 n (omega arith),
      not-over 99999 n (omega arith),
      width_above 3 n (omega arith),
      width-below 4 n (omega arith) (omega arith),
    )
    go (yes h) (yes i) (yes j) (yes k) (no l) = omega (
      arith,
      is-over 9 n h,
      is-over 99 n i,
      is-over 999 n j,
      is-over 9999 n k,
      not-over 99999 n (omega arith),
      width_above 4 n (omega arith),
      width-below 5 n (omega arith) (omega arith),
    )
    go (yes h) (yes i) (yes j) (yes k) (yes l) = omega (
      arith,
      is-over 9 n h,
      is-over 99 n i,
      is-over 999 n j,
      is-over 9999 n k,
      is-over 99999 n l,
      width_above 5 n (omega arith),
      width-below 6 n (omega arith) (omega arith),
    )

-- one more than the whole part of the logarithm, which 0 takes from 1
pub width-log : (w n : ℕ) → 10 ^ w ≤ max n 1 → max n 1 < 10 * 10 ^ w → w + 1 ≡ length (digits n)
width-log w zero h k = go w h
  where
    go : (w : ℕ) → 10 ^ w ≤ 1 → w + 1 ≡ length (digits 0)
    go zero h = sym (ap length (digits-small 0 (omega arith)))
    go (suc w) h = absurd (omega (arith, pow-succ' 10 w, one-le-pow w 10 (omega arith)))
width-log w (suc n) h k =
    let below : suc n < 10 ^ suc w = omega (arith, pow-succ' 10 w) in
    omega (arith, width_above w (suc n) (omega arith), width-below (suc w) (suc n) (omega arith) below)

-- ---- signs

-- a number's text by its size n, where a test of its sign was taken, or left
pub numeral-minus : (z : ℤ) (n : ℕ) → lt_z z (pos 0) ≡ true → n ≡ nat_abs z → numeral z ≡ minus ∷ digits n
numeral-minus (pos m) n h e = absurd (omega (arith, ltb-true m 0 h))
numeral-minus (negsuc m) n h e = ap (λ (k : ℕ). minus ∷ digits k) (sym e)

pub numeral-plus : (z : ℤ) (n : ℕ) → lt_z z (pos 0) ≡ false → n ≡ nat_abs z → numeral z ≡ digits n
numeral-plus (pos m) n h e = ap digits (sym e)
numeral-plus (negsuc m) n h e = absurd (never (sym h))
